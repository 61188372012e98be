use Rattle.std.proofs.Common.{List, ◌++◌, rules, arith}
use Rattle.std.specs.Prelude.{replicate}
use Rattle.certificate.specs.Dues.{IsFaultFrom, Due, a_cut}
use Rattle.certificate.proofs.Needed.{cut_fault, read_cut_more}
use Rattle.certificate.proofs.reading.read_cuts.Goals as goal

pub returns-in_err-read_cut-clause-refused : goal.returns-in_err-read_cut-clause-refused
returns-in_err-read_cut-clause-refused c =
    let why : (later : List Due) → IsFaultFrom c.args.version (replicate c.args.count a_cut ++ later) c.args.rest.now.text.now c.args.rest.now.line c.in_err-read_cut.field-0.0 = cut_fault c.args.rest.now c.loop.rest c.loop.cuts.items c.args.count c.in_err-read_cut.field-0.0 c.loop.invariant.0 (omega (arith, c.loop.invariant.1, c.loop-test.true)) c.in_err-read_cut.ensures.refused in
    search (rules, why)

pub loop-preserved : goal.loop-preserved
loop-preserved c = (
  read_cut_more c.args.rest.now c.loop.rest c.read_cut.new.rest c.loop.cuts.items c.push.new.self.items c.in_ok-read_cut.field-0 c.loop.invariant.0 c.in_ok-read_cut.ensures.cut c.in_ok-push.ensures.items,
  omega (arith, c.in_ok-push.ensures.len, c.loop.invariant.1, c.loop.cuts.ok, c.push.new.self.ok),
  omega (arith, c.in_ok-read_cut.ensures.room, c.loop.invariant.2),
  c.loop.invariant.3,
)

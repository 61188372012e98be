use Rattle.std.proofs.Common.{List, ◌++◌, rules, arith}
use Rattle.std.specs.Prelude.{replicate}
use Rattle.certificate.specs.Dues.{IsFaultFrom, Due, a_part}
use Rattle.certificate.proofs.Needed.{part_fault, read_part_more}
use Rattle.certificate.proofs.reading.read_parts.Goals as goal

pub returns-in_err-read_part-clause-refused : goal.returns-in_err-read_part-clause-refused
returns-in_err-read_part-clause-refused c =
    let why : (later : List Due) → IsFaultFrom c.args.version (replicate c.args.count a_part ++ later) c.args.rest.now.text.now c.args.rest.now.line c.in_err-read_part.field-0.0 = part_fault c.args.rest.now c.loop.rest c.loop.parts.items c.args.count c.in_err-read_part.field-0.0 c.loop.invariant.0 (omega (arith, c.loop.invariant.1, c.loop-test.true)) c.in_err-read_part.ensures.refused in
    search (rules, why)

pub loop-preserved : goal.loop-preserved
loop-preserved c = (
  read_part_more c.args.rest.now c.loop.rest c.read_part.new.rest c.loop.parts.items c.push.new.self.items c.in_ok-read_part.field-0 c.loop.invariant.0 c.in_ok-read_part.ensures.part c.in_ok-push.ensures.items,
  omega (arith, c.in_ok-push.ensures.len, c.loop.invariant.1, c.loop.parts.ok, c.push.new.self.ok),
  omega (arith, c.in_ok-read_part.ensures.room, c.loop.invariant.2),
  c.loop.invariant.3,
)

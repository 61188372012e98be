use Rattle.std.proofs.Common.{List, ◌++◌, rules, arith}
use Rattle.std.specs.Prelude.{replicate}
use Rattle.certificate.specs.Dues.{IsFaultFrom, Due, a_list}
use Rattle.certificate.proofs.Needed.{list_fault, read_list_more}
use Rattle.certificate.proofs.reading.read_lists.Goals as goal

pub returns-in_err-read_list-clause-refused : goal.returns-in_err-read_list-clause-refused
returns-in_err-read_list-clause-refused c =
    let why : (later : List Due) → IsFaultFrom c.args.version (replicate c.args.count a_list ++ later) c.args.rest.now.text.now c.args.rest.now.line c.in_err-read_list.field-0.0 = list_fault c.args.rest.now c.loop.rest c.loop.lists.items c.args.count c.in_err-read_list.field-0.0 c.loop.invariant.0 (omega (arith, c.loop.invariant.1, c.loop-test.true)) c.in_err-read_list.ensures.refused in
    search (rules, why)

pub loop-preserved : goal.loop-preserved
loop-preserved c = (
  read_list_more c.args.rest.now c.loop.rest c.read_list.new.rest c.loop.lists.items c.push.new.self.items c.in_ok-read_list.field-0 c.loop.invariant.0 c.in_ok-read_list.ensures.list c.in_ok-push.ensures.items,
  omega (arith, c.in_ok-push.ensures.len, c.loop.invariant.1, c.loop.lists.ok, c.push.new.self.ok),
  omega (arith, c.in_ok-read_list.ensures.room, c.loop.invariant.2),
  c.loop.invariant.3,
)

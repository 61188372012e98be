use Rattle.std.proofs.Common.{List, ◌++◌, rules, arith}
use Rattle.std.specs.Prelude.{replicate}
use Rattle.certificate.specs.Dues.{IsFaultFrom, Due, a_group}
use Rattle.certificate.proofs.Needed.{group_fault, read_group_more}
use Rattle.certificate.proofs.reading.read_groups.Goals as goal

pub returns-in_err-read_group-clause-refused : goal.returns-in_err-read_group-clause-refused
returns-in_err-read_group-clause-refused c =
    let why : (later : List Due) → IsFaultFrom c.args.version (replicate c.args.count a_group ++ later) c.args.rest.now.text.now c.args.rest.now.line c.in_err-read_group.field-0.0 = group_fault c.args.rest.now c.loop.rest c.loop.groups.items c.args.count c.in_err-read_group.field-0.0 c.loop.invariant.0 (omega (arith, c.loop.invariant.1, c.loop-test.true)) c.in_err-read_group.ensures.refused in
    search (rules, why)

pub loop-preserved : goal.loop-preserved
loop-preserved c = (
  read_group_more c.args.rest.now c.loop.rest c.read_group.new.rest c.loop.groups.items c.push.new.self.items c.in_ok-read_group.field-0 c.loop.invariant.0 c.in_ok-read_group.ensures.group c.in_ok-push.ensures.items,
  omega (arith, c.in_ok-push.ensures.len, c.loop.invariant.1, c.loop.groups.ok, c.push.new.self.ok),
  omega (arith, c.in_ok-read_group.ensures.room, c.loop.invariant.2),
  c.loop.invariant.3,
)

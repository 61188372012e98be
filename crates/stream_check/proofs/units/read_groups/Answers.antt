use Rattle.std.proofs.Common.{◌≡◌, ◌++◌, List, arith, length, rules}
use Rattle.item_groups.specs.declared.group.Group.{Group}
use Rattle.cert_lines.specs.Shapes.{GroupLine}
use Rattle.certificate.specs.Values.{Values, group_values}
use Rattle.stream_check.specs.Passes.{Awaits, IsRefusal}
use Rattle.stream_check.specs.Streams.{never_refused}
use Rattle.stream_check.proofs.Parts.{next_part, part_moved}
use Rattle.stream_check.proofs.Ways.{on_on}
use Rattle.stream_check.proofs.units.read_groups.Goals as goal

pub returns-in_err-read_group-clause-awaited : goal.returns-in_err-read_group-clause-awaited
returns-in_err-read_group-clause-awaited g c =
    let why : (groups : List Group) (ls : Values) → length groups ≡ c.args.count → Awaits (g.S.Shelf.shown c.args.shelf.now) c.args.text.name.now c.args.reader.now c.args.text.version (group_values groups ++ ls) → IsRefusal never_refused c.in_err-read_group.field-0.0 = λ groups ls size awaits.
    let so_far = c.loop.invariant.awaited groups ls size awaits in
    let next = next_part (λ (group : Group). GroupLine group) groups c.loop.groups.items so_far.0 ls so_far.1 (omega (arith, c.loop.invariant.count, c.loop-test.true, size)) so_far.2 in
    c.in_err-read_group.ensures.awaited next.0 (group_values next.1 ++ ls) next.3 in
    search (rules, why)

pub loop-preserved : goal.loop-preserved
loop-preserved g c = record {
  on = on_on c.loop.invariant.on c.in_ok-read_group.ensures.step.on;
  count = omega (arith, c.in_ok-push.ensures.len, c.loop.invariant.count, c.loop.groups.ok, c.push.new.self.ok);
  number = omega (arith, c.loop.invariant.number, c.in_ok-read_group.ensures.further.number);
  left = omega (arith, c.loop.invariant.left, c.in_ok-read_group.ensures.further.less);
  awaited = λ groups ls size awaits.
      let so_far = c.loop.invariant.awaited groups ls size awaits in
      let next = next_part (λ (group : Group). GroupLine group) groups c.loop.groups.items so_far.0 ls so_far.1 (omega (arith, c.loop.invariant.count, c.loop-test.true, size)) so_far.2 in
      let given = c.in_ok-read_group.ensures.awaited next.0 (group_values next.1 ++ ls) next.3 in
      (next.1, part_moved groups c.loop.groups.items so_far.0 next.1 c.push.new.self.items next.0 c.in_ok-read_group.field-0 so_far.1 next.2 c.in_ok-push.ensures.items given.0, given.1);
}

use Rattle.std.proofs.Common.{◌≡◌, ◌++◌, List, arith, length, rules}
use Rattle.cert_lines.specs.declared.parts.Part.{Part}
use Rattle.cert_lines.specs.Shapes.{PartLine}
use Rattle.certificate.specs.Values.{Values, part_values}
use Rattle.stream_check.specs.Passes.{Awaits, IsRefusal}
use Rattle.stream_check.specs.Streams.{never_refused}
use Rattle.stream_check.proofs.Parts.{next_part, part_moved}
use Rattle.stream_check.proofs.Ways.{on_on}
use Rattle.stream_check.proofs.units.read_parts.Goals as goal

pub returns-in_err-read_part-clause-awaited : goal.returns-in_err-read_part-clause-awaited
returns-in_err-read_part-clause-awaited g c =
    let why : (parts : List Part) (ls : Values) → length parts ≡ c.args.count → Awaits (g.S.Shelf.shown c.args.shelf.now) c.args.text.name.now c.args.reader.now c.args.text.version (part_values parts ++ ls) → IsRefusal never_refused c.in_err-read_part.field-0.0 = λ parts ls size awaits.
    let so_far = c.loop.invariant.awaited parts ls size awaits in
    let next = next_part (λ (part : Part). PartLine part) parts c.loop.parts.items so_far.0 ls so_far.1 (omega (arith, c.loop.invariant.count, c.loop-test.true, size)) so_far.2 in
    c.in_err-read_part.ensures.awaited next.0 (part_values next.1 ++ ls) next.3 in
    search (rules, why)

pub loop-preserved : goal.loop-preserved
loop-preserved g c = record {
  on = on_on c.loop.invariant.on c.in_ok-read_part.ensures.step.on;
  count = omega (arith, c.in_ok-push.ensures.len, c.loop.invariant.count, c.loop.parts.ok, c.push.new.self.ok);
  number = omega (arith, c.loop.invariant.number, c.in_ok-read_part.ensures.further.number);
  left = omega (arith, c.loop.invariant.left, c.in_ok-read_part.ensures.further.less);
  awaited = λ parts ls size awaits.
      let so_far = c.loop.invariant.awaited parts ls size awaits in
      let next = next_part (λ (part : Part). PartLine part) parts c.loop.parts.items so_far.0 ls so_far.1 (omega (arith, c.loop.invariant.count, c.loop-test.true, size)) so_far.2 in
      let given = c.in_ok-read_part.ensures.awaited next.0 (part_values next.1 ++ ls) next.3 in
      (next.1, part_moved parts c.loop.parts.items so_far.0 next.1 c.push.new.self.items next.0 c.in_ok-read_part.field-0 so_far.1 next.2 c.in_ok-push.ensures.items given.0, given.1);
}

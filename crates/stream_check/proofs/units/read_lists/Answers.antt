use Rattle.std.proofs.Common.{◌≡◌, ◌++◌, ◌∙◌, List, ap, arith, length, rules}
use Rattle.std.specs.Prelude.{map}
use Rattle.std.proofs.lemmas.List.{length-map, map_push}
use Rattle.cert_lines.specs.Shapes.{ListLine, ListShape, list_shape}
use Rattle.certificate.specs.Values.{Values, list_values}
use Rattle.stream_check.specs.Passes.{Awaits, IsRefusal}
use Rattle.stream_check.specs.Streams.{never_refused}
use Rattle.stream_check.proofs.Parts.{next_part, part_moved}
use Rattle.stream_check.proofs.Ways.{on_on}
use Rattle.stream_check.proofs.units.read_lists.Goals as goal

pub returns-in_err-read_list-clause-awaited : goal.returns-in_err-read_list-clause-awaited
returns-in_err-read_list-clause-awaited g c =
    let why : (lists : List ListShape) (ls : Values) → length lists ≡ c.args.count → Awaits (g.S.Shelf.shown c.args.shelf.now) c.args.text.name.now c.args.reader.now c.args.text.version (list_values lists ++ ls) → IsRefusal never_refused c.in_err-read_list.field-0.0 = λ lists ls size awaits.
    let so_far = c.loop.invariant.awaited lists ls size awaits in
    let next = next_part (λ (list : ListShape). ListLine list) lists (map list_shape c.loop.lists.items) so_far.0 ls so_far.1 (omega (arith, c.loop.invariant.count, c.loop-test.true, size, length-map c.loop.lists.items list_shape)) so_far.2 in
    c.in_err-read_list.ensures.awaited next.0 (list_values next.1 ++ ls) next.3 in
    search (rules, why)

pub loop-preserved : goal.loop-preserved
loop-preserved g c = record {
  on = on_on c.loop.invariant.on c.in_ok-read_list.ensures.step.on;
  count = omega (arith, c.in_ok-push.ensures.len, c.loop.invariant.count, c.loop.lists.ok, c.push.new.self.ok);
  number = omega (arith, c.loop.invariant.number, c.in_ok-read_list.ensures.further.number);
  left = omega (arith, c.loop.invariant.left, c.in_ok-read_list.ensures.further.less);
  awaited = λ lists ls size awaits.
      let so_far = c.loop.invariant.awaited lists ls size awaits in
      let next = next_part (λ (list : ListShape). ListLine list) lists (map list_shape c.loop.lists.items) so_far.0 ls so_far.1 (omega (arith, c.loop.invariant.count, c.loop-test.true, size, length-map c.loop.lists.items list_shape)) so_far.2 in
      let given = c.in_ok-read_list.ensures.awaited next.0 (list_values next.1 ++ ls) next.3 in
      (next.1, part_moved lists (map list_shape c.loop.lists.items) so_far.0 next.1 (map list_shape c.push.new.self.items) next.0 (list_shape c.in_ok-read_list.field-0) so_far.1 next.2 (ap (map list_shape) c.in_ok-push.ensures.items ∙ map_push list_shape c.loop.lists.items c.in_ok-read_list.field-0) given.0, given.1);
}

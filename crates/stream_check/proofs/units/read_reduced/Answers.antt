use Rattle.std.proofs.Common.{◌++◌, ◌∙◌, List, ap, arith, rules}
use Rattle.std.specs.Prelude.{map}
use Rattle.std.proofs.lemmas.List.{length-map}
use Rattle.item_groups.specs.declared.group.Group.{Group}
use Rattle.cert_lines.specs.declared.parts.Part.{Part}
use Rattle.cert_lines.specs.Shapes.{ListShape, ReducedLeaf, list_shape}
use Rattle.certificate.specs.Values.{Values, group_values, list_values}
use Rattle.stream_check.specs.Nodes.{HasCounts, reduced_values}
use Rattle.stream_check.specs.Passes.{Awaits, IsRefusal}
use Rattle.stream_check.specs.Streams.{never_refused}
use Rattle.stream_check.proofs.Parts.{reduced_count, reduced_lines}
use Rattle.stream_check.proofs.Ways.{awaits_same}
use Rattle.stream_check.proofs.units.read_reduced.Goals as goal

pub returns-in_err-parts-clause-awaited : goal.returns-in_err-parts-clause-awaited
returns-in_err-parts-clause-awaited g c =
    let why : (parts : List Part) (lists : List ListShape) (groups : List Group) (ls : Values) → HasCounts c.args.counts parts lists groups → Awaits (g.S.Shelf.shown c.args.shelf.now) c.args.text.name.now c.args.reader.now c.args.text.version (reduced_values parts lists groups ++ ls) → IsRefusal never_refused c.in_err-parts.field-0.0 = λ parts lists groups ls counts awaits.
    c.in_err-parts.ensures.awaited parts (list_values lists ++ (group_values groups ++ ls)) counts.parts_are (awaits_same (reduced_lines parts lists groups ls) awaits) in
    search (rules, why)

pub returns-in_err-lists-clause-awaited : goal.returns-in_err-lists-clause-awaited
returns-in_err-lists-clause-awaited g c =
    let why : (parts : List Part) (lists : List ListShape) (groups : List Group) (ls : Values) → HasCounts c.args.counts parts lists groups → Awaits (g.S.Shelf.shown c.args.shelf.now) c.args.text.name.now c.args.reader.now c.args.text.version (reduced_values parts lists groups ++ ls) → IsRefusal never_refused c.in_err-lists.field-0.0 = λ parts lists groups ls counts awaits.
    let one = c.in_ok-parts.ensures.awaited parts (list_values lists ++ (group_values groups ++ ls)) counts.parts_are (awaits_same (reduced_lines parts lists groups ls) awaits) in
    c.in_err-lists.ensures.awaited lists (group_values groups ++ ls) counts.lists_are one.1 in
    search (rules, why)

pub returns-in_err-groups-clause-awaited : goal.returns-in_err-groups-clause-awaited
returns-in_err-groups-clause-awaited g c =
    let why : (parts : List Part) (lists : List ListShape) (groups : List Group) (ls : Values) → HasCounts c.args.counts parts lists groups → Awaits (g.S.Shelf.shown c.args.shelf.now) c.args.text.name.now c.args.reader.now c.args.text.version (reduced_values parts lists groups ++ ls) → IsRefusal never_refused c.in_err-groups.field-0.0 = λ parts lists groups ls counts awaits.
    let one = c.in_ok-parts.ensures.awaited parts (list_values lists ++ (group_values groups ++ ls)) counts.parts_are (awaits_same (reduced_lines parts lists groups ls) awaits) in
    let two = c.in_ok-lists.ensures.awaited lists (group_values groups ++ ls) counts.lists_are one.1 in
    c.in_err-groups.ensures.awaited groups ls counts.groups_are two.1 in
    search (rules, why)

pub returns-clause-number : goal.returns-clause-number
returns-clause-number g c =
    let parts = c.in_ok-parts.parts.items in
    let lists = c.in_ok-lists.lists.items in
    let groups = c.in_ok-groups.groups.items in
    omega (
      arith,
      reduced_count parts (map list_shape lists) groups,
      length-map lists list_shape,
      c.in_ok-parts.ensures.count,
      c.in_ok-lists.ensures.count,
      c.in_ok-groups.ensures.count,
      c.in_ok-parts.ensures.number,
      c.in_ok-lists.ensures.number,
      c.in_ok-groups.ensures.number,
    )

pub returns-clause-awaited : goal.returns-clause-awaited
returns-clause-awaited g c = λ parts lists groups ls counts awaits.
    let one = c.in_ok-parts.ensures.awaited parts (list_values lists ++ (group_values groups ++ ls)) counts.parts_are (awaits_same (reduced_lines parts lists groups ls) awaits) in
    let two = c.in_ok-lists.ensures.awaited lists (group_values groups ++ ls) counts.lists_are one.1 in
    let three = c.in_ok-groups.ensures.awaited groups ls counts.groups_are two.1 in
    let den = c.args.den in
    let read = map list_shape c.in_ok-lists.lists.items in (
      ap (λ ps. ReducedLeaf den ps read c.in_ok-groups.groups.items) one.0
          ∙ ap (λ xs. ReducedLeaf den parts xs c.in_ok-groups.groups.items) two.0
          ∙ ap (λ gs. ReducedLeaf den parts lists gs) three.0,
      three.1,
    )

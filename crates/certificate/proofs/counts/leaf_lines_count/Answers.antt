use Rattle.std.proofs.Common.{◌++◌, ap, arith, length}
use Rattle.std.proofs.lemmas.List.{length-append, length-map}
use Rattle.cert_lines.specs.Shapes.{GroupLine, ListLine, PartLine, leaf_groups, leaf_lists, leaf_parts, leaf_shape, list_shape}
use Rattle.certificate.specs.Values.{group_values, list_values, part_values}
use Rattle.certificate.proofs.counts.leaf_lines_count.Goals as goal

pub returns : goal.returns
returns c =
    let s = leaf_shape c.args.leaf.now in
    let parts = part_values (leaf_parts s) in
    let lists = list_values (leaf_lists s) in
    let groups = group_values (leaf_groups s) in
    omega (arith, ap length c.parts.ensures, ap length c.lists.ensures, ap length c.groups.ensures, length-map c.lists.result.now list_shape, length-map (leaf_parts s) (λ part. PartLine part), length-map (leaf_lists s) (λ a. ListLine a), length-map (leaf_groups s) (λ g. GroupLine g), length-append parts (lists ++ groups), length-append lists groups)

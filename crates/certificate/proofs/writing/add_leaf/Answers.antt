use Rattle.std.proofs.Common.{string_bytes}
use Rattle.cert_lines.specs.Shapes.{leaf_first, leaf_groups, leaf_lists, leaf_parts, leaf_shape}
use Rattle.certificate.specs.Values.{group_values, list_values, part_values}
use Rattle.certificate.proofs.Joins.{leaf_joined}
use Rattle.certificate.proofs.writing.add_leaf.Goals as goal

pub returns : goal.returns
returns c =
    let s = leaf_shape c.args.leaf.now in
    rw (c.in_ok-add_groups.ensures, c.in_ok-add_lists.ensures, c.in_ok-add_parts.ensures, c.in_ok-add_leaf_line.ensures, c.parts.ensures, c.lists.ensures, c.groups.ensures)
    (leaf_joined (string_bytes c.args.text.now) (leaf_first s) (part_values (leaf_parts s)) (list_values (leaf_lists s)) (group_values (leaf_groups s)))

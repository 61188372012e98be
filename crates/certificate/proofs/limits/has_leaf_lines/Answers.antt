use Rattle.std.proofs.Common.{refl, sym, subst}
use Rattle.std.specs.List.{All}
use Rattle.cert_lines.specs.Shapes.{GroupLine, PartLine, leaf_groups, leaf_lists, leaf_parts, leaf_shape}
use Rattle.cert_lines.specs.Line.{HasLine}
use Rattle.certificate.specs.Values.{AreLines, list_values, part_values}
use Rattle.certificate.proofs.Shorts.{groups_join, groups_split, leaf_join, leaf_split, lists_join, lists_split, parts_join, parts_split}
use Rattle.certificate.proofs.limits.has_leaf_lines.Goals as goal

pub returns : goal.returns
returns c =
    let v = c.args.version in
    let s = leaf_shape c.args.leaf.now in
    let parts : AreLines v (part_values (leaf_parts s)) = parts_join {version = v} (leaf_parts s) (subst (All (λ part. HasLine v (PartLine part))) c.parts.ensures (c.if-not-have_part_lines.ensures.0 refl)) in
    let lists : AreLines v (list_values (leaf_lists s)) = subst (λ xs. AreLines v (list_values xs)) c.lists.ensures (lists_join {version = v} c.lists.result.now (c.if-not-have_list_lines.ensures.0 refl)) in (
      λ all. leaf_join {version = v} s (c.if-not-is_leaf_line.ensures.0 refl) parts lists (groups_join {version = v} (leaf_groups s) (subst (All (λ g. HasLine v (GroupLine g))) c.groups.ensures (c.have_group_lines.ensures.0 all))),
      λ are. c.have_group_lines.ensures.1 (subst (All (λ g. HasLine v (GroupLine g))) (sym c.groups.ensures) (groups_split {version = v} (leaf_groups s) (leaf_split {version = v} s are).3)),
    )

pub returns-then-not-have_part_lines : goal.returns-then-not-have_part_lines
returns-then-not-have_part_lines c =
    let v = c.args.version in
    let s = leaf_shape c.args.leaf.now in
    (λ no. cc no, λ are. c.if-not-have_part_lines.ensures.1 (subst (All (λ part. HasLine v (PartLine part))) (sym c.parts.ensures) (parts_split {version = v} (leaf_parts s) (leaf_split {version = v} s are).1)))

pub returns-then-not-have_list_lines : goal.returns-then-not-have_list_lines
returns-then-not-have_list_lines c =
    let v = c.args.version in
    let s = leaf_shape c.args.leaf.now in
    (λ no. cc no, λ are. c.if-not-have_list_lines.ensures.1 (lists_split {version = v} c.lists.result.now (subst (λ xs. AreLines v (list_values xs)) (sym c.lists.ensures) (leaf_split {version = v} s are).2)))

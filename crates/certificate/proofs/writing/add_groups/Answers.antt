use Rattle.std.proofs.Common.{◌++◌, ◌∙◌, ap, string_bytes}
use Rattle.std.proofs.lemmas.List.{take_all}
use Rattle.std.specs.List.{flat_map}
use Rattle.cert_lines.proofs.Joins.{grows}
use Rattle.certificate.proofs.Joins.{group_text, groups_text}
use Rattle.certificate.proofs.writing.add_groups.Goals as goal

pub loop-group-preserved : goal.loop-group-preserved
loop-group-preserved c =
    grows group_text c.args.groups.now c.loop-group.group-index c.group-item.result (string_bytes c.args.text.now) (string_bytes c.loop-group.text) (string_bytes c.add_group_line.new.text) c.loop-group-test.true c.loop-group.invariant
    (c.in_ok-add_group_line.ensures ∙ ap (λ x. string_bytes c.loop-group.text ++ group_text x) c.group-item.is)

pub returns : goal.returns
returns c = c.loop-group.invariant ∙ ap (λ xs. string_bytes c.args.text.now ++ flat_map group_text xs) (take_all c.loop-group.group-index c.args.groups.now c.loop-group-test.false) ∙ ap (λ t. string_bytes c.args.text.now ++ t) (groups_text c.args.groups.now)

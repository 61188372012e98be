use Rattle.std.proofs.Common.{◌++◌, ◌∙◌, ap, string_bytes}
use Rattle.std.proofs.lemmas.List.{take_all}
use Rattle.std.specs.List.{flat_map}
use Rattle.cert_lines.proofs.Joins.{grows}
use Rattle.certificate.proofs.Joins.{list_text, lists_text}
use Rattle.certificate.proofs.writing.add_lists.Goals as goal

pub loop-list-preserved : goal.loop-list-preserved
loop-list-preserved c =
    grows list_text c.args.lists.now c.loop-list.list-index c.list-item.result (string_bytes c.args.text.now) (string_bytes c.loop-list.text) (string_bytes c.add_list_line.new.text) c.loop-list-test.true c.loop-list.invariant
    (c.in_ok-add_list_line.ensures ∙ ap (λ x. string_bytes c.loop-list.text ++ list_text x) c.list-item.is)

pub returns : goal.returns
returns c = c.loop-list.invariant ∙ ap (λ xs. string_bytes c.args.text.now ++ flat_map list_text xs) (take_all c.loop-list.list-index c.args.lists.now c.loop-list-test.false) ∙ ap (λ t. string_bytes c.args.text.now ++ t) (lists_text c.args.lists.now)

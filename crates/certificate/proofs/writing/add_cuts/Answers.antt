use Rattle.std.proofs.Common.{◌++◌, ◌∙◌, ap, string_bytes}
use Rattle.std.proofs.lemmas.List.{take_all}
use Rattle.std.specs.List.{flat_map}
use Rattle.cert_lines.proofs.Joins.{grows}
use Rattle.certificate.proofs.Joins.{cut_text, cuts_text}
use Rattle.certificate.proofs.writing.add_cuts.Goals as goal

pub loop-cut-preserved : goal.loop-cut-preserved
loop-cut-preserved c =
    grows cut_text c.args.cuts.now c.loop-cut.cut-index c.cut-item.result (string_bytes c.args.text.now) (string_bytes c.loop-cut.text) (string_bytes c.add_cut.new.text) c.loop-cut-test.true c.loop-cut.invariant
    (c.in_ok-add_cut.ensures ∙ ap (λ x. string_bytes c.loop-cut.text ++ cut_text x) c.cut-item.is)

pub returns : goal.returns
returns c = c.loop-cut.invariant ∙ ap (λ cs. string_bytes c.args.text.now ++ flat_map cut_text cs) (take_all c.loop-cut.cut-index c.args.cuts.now c.loop-cut-test.false) ∙ ap (λ t. string_bytes c.args.text.now ++ t) (cuts_text c.args.cuts.now)

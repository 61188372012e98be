use Rattle.std.proofs.Common.{◌++◌, ◌∙◌, ap, string_bytes}
use Rattle.std.proofs.lemmas.List.{take_all}
use Rattle.std.specs.List.{flat_map}
use Rattle.cert_lines.proofs.Joins.{grows}
use Rattle.certificate.proofs.Joins.{no_part, part_text, parts_text}
use Rattle.certificate.proofs.writing.add_parts.Goals as goal

pub loop-part-preserved : goal.loop-part-preserved
loop-part-preserved c = grows part_text c.args.parts.now c.loop-part.part-index no_part (string_bytes c.args.text.now) (string_bytes c.loop-part.text) (string_bytes c.add_part.new.text) c.loop-part-test.true c.loop-part.invariant c.in_ok-add_part.ensures

pub returns : goal.returns
returns c = c.loop-part.invariant ∙ ap (λ ps. string_bytes c.args.text.now ++ flat_map part_text ps) (take_all c.loop-part.part-index c.args.parts.now c.loop-part-test.false) ∙ ap (λ t. string_bytes c.args.text.now ++ t) (parts_text c.args.parts.now)

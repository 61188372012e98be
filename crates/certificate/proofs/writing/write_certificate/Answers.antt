use Rattle.std.proofs.Common.{◌≡◌, ◌∙◌, ap, arith, length, string_bytes}
use Rattle.std.specs.Prelude.{map}
use Rattle.std.proofs.lemmas.List.{length-map}
use Rattle.cert_lines.specs.declared.head.HeadLine.TheVariants.{Mark, Claim, Cuts}
use Rattle.cert_lines.specs.Shapes.{cut_shape}
use Rattle.certificate.specs.Shapes.{shape_of}
use Rattle.certificate.specs.Text.{certificate_text, head_text}
use Rattle.certificate.proofs.Joins.{certificate_joined}
use Rattle.certificate.proofs.writing.write_certificate.Goals as goal

pub returns-clause-text : goal.returns-clause-text
returns-clause-text c =
    let a = c.args.certificate.now in
    let count : c.len.result ≡ length (map cut_shape a.cuts.items) = omega (arith, c.len.ensures, a.cuts.ok.0, length-map a.cuts.items cut_shape) in
    let whole : string_bytes c.write.new.self ≡ certificate_text (shape_of a) =
    rw (c.in_ok-write.ensures.bytes, c.in_ok-add_tree.ensures, c.in_ok-add_cuts.ensures, c.in_ok-add_count.ensures, c.in_ok-add_claim.ensures, c.in_ok-add_mark.ensures, c.in_ok-text.ensures.ok, c.deref.ensures.value, count)
    (certificate_joined (shape_of a) (head_text (Mark a.version)) (head_text (Claim a.claim)) (head_text (Cuts (length (map cut_shape a.cuts.items))))) in
    ap (λ v. v.items) c.into_bytes.ensures.value ∙ whole

pub returns-clause-means : goal.returns-clause-means
returns-clause-means c = λ writable. record { text = returns-clause-text c; writable = writable }

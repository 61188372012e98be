use Rattle.std.proofs.Common.{◌≡◌, ◌+◌, ◌∙◌, Bor, List, ℕ, [], map, length, slice_index_or, true, false, refl, sym, ap, arith, below_more}
use Rattle.std.specs.Str.{bytes_eq}
use Rattle.std.proofs.lemmas.Bool.{false≢true, not-false, not-true}
use Rattle.std.proofs.lemmas.List.{get_or-map, length-map}
use Rattle.std.proofs.lemmas.Slice.Eq.{bytes_eq-Decides}
use Rattle.csv.specs.Records.{fields_of}
use Rattle.csv_records.specs.Records.{field}
use Rattle.csv_records.proofs.SameFields.{field_is, fields_same}
use Rattle.csv_records.proofs.fields.are_fields.Goals as goal

pub returns-then-ne : goal.returns-then-ne
returns-then-ne c =
    let texts = c.args.texts.now in
    let n = c.loop-place.place in
    let t = (slice_index_or texts n (record { ref_ptr = (0, 0); now = [] })).now in
    let here : bytes_eq c.field.result.now t ≡ false = not-true _ (sym c.ne.ensures ∙ c.if-ne.true) in
    (λ no. absurd (false≢true no), λ same. absurd (false≢true (sym here ∙ (bytes_eq-Decides c.field.result.now t).1 (c.field.ensures ∙ ap (λ r. field r (n + 1)) same ∙ field_is (map (λ (text : Bor (List ℕ)). text.now) texts) n ∙ get_or-map (λ (text : Bor (List ℕ)). text.now) texts n _ [] c.loop-place-test.true))))

pub loop-place-preserved : goal.loop-place-preserved
loop-place-preserved c =
    let texts = c.args.texts.now in
    let n = c.loop-place.place in
    let t = (slice_index_or texts n (record { ref_ptr = (0, 0); now = [] })).now in
    let here : bytes_eq c.field.result.now t ≡ true = not-false _ (sym c.ne.ensures ∙ c.if-ne.false) in
    below_more (λ k. field (fields_of c.args.row.now) (k + 1) ≡ slice_index_or (map (λ (text : Bor (List ℕ)). text.now) texts) k []) n c.loop-place.invariant
    (sym c.field.ensures ∙ (bytes_eq-Decides c.field.result.now t).0 here ∙ sym (get_or-map (λ (text : Bor (List ℕ)). text.now) texts n _ [] c.loop-place-test.true))

pub returns : goal.returns
returns c =
    let r = fields_of c.args.row.now in
    let size : length r ≡ length (map (λ (text : Bor (List ℕ)). text.now) c.args.texts.now) = omega (arith, c.len.ensures, c.if-len-texts.false, length-map c.args.texts.now (λ (text : Bor (List ℕ)). text.now)) in
    (λ yes. fields_same r _ size (λ k less. c.loop-place.invariant k (omega (arith, less, size, c.loop-place-test.false, length-map c.args.texts.now (λ (text : Bor (List ℕ)). text.now)))), λ same. refl)

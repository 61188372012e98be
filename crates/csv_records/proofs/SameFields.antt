-- The fields of a record beside texts.
use Rattle.std.proofs.Common.{◌≡◌, ◌∙◌, ◌<◌, ◌+◌, ◌-◌, ℕ, zero, suc, true, List, [], ◌∷◌, length, slice_index_or, refl, sym, ap, arith}
use Rattle.std.specs.Prelude.{unwrap_or}
use Rattle.std.specs.Str.{bytes_eq}
use Rattle.std.specs.Prelude.{Decides}
use Rattle.std.proofs.lemmas.Bool.{and_parts, false≢true}
use Rattle.std.proofs.lemmas.List.{ext_get_or}
use Rattle.std.proofs.lemmas.Slice.Eq.{bytes_eq-Decides}
use Rattle.csv.specs.Records.{field_at}
use Rattle.csv_records.specs.Records.{Record, are_fields, field}

-- a field by its number is an element by its place
pub field_is : (r : Record) (k : ℕ) → field r (k + 1) ≡ slice_index_or r k []
unfolding field_at
field_is [] k = refl
field_is (f ∷ r) zero = refl
field_is (f ∷ r) (suc k) = let e : suc k + 1 - 1 ≡ suc k = omega arith in let d : k + 1 - 1 ≡ k = omega arith in rw e (ap (λ n. unwrap_or (field_at r n) []) (sym d) ∙ field_is r k)

pub fields_same : (r texts : Record) → length r ≡ length texts → ((k : ℕ) → k < length r → field r (k + 1) ≡ slice_index_or texts k []) → r ≡ texts
fields_same r texts size each = ext_get_or [] r texts size (λ k less. sym (field_is r k) ∙ each k less)

bytes_same : (text : List ℕ) → bytes_eq text text ≡ true
bytes_same text = (bytes_eq-Decides text text).1 refl

same_fields : (r : Record) → are_fields r r ≡ true
same_fields [] = refl
same_fields (f ∷ r) = rw (bytes_same f, same_fields r) refl

fields_are : (r texts : Record) → are_fields r texts ≡ true → r ≡ texts
fields_are [] [] is = refl
fields_are [] (text ∷ texts) is = absurd (false≢true is)
fields_are (f ∷ r) [] is = absurd (false≢true is)
fields_are (f ∷ r) (text ∷ texts) is =
    let (here, rest) = and_parts (bytes_eq f text) (are_fields r texts) is in
    rw ((bytes_eq-Decides f text).0 here, fields_are r texts rest) refl

-- the test of fields decides whether a record is these texts
pub are_fields-Decides : (r texts : Record) → Decides (are_fields r texts) (r ≡ texts)
are_fields-Decides r texts = (fields_are r texts, λ e. ap (are_fields r) (sym e) ∙ same_fields r)

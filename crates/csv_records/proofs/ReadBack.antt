-- What a writer writes, and that it is read back.
use Rattle.std.proofs.Common.{◌≡◌, ◌≢◌, ◌∙◌, ◌++◌, ℕ, List, [], ◌∷◌, map, refl, sym, ap, subst, append_assoc, Vec, append-nil}
use Rattle.std.specs.List.{All}
use Rattle.std.proofs.lemmas.List.Concat.{flat_map-append}
use Rattle.std.proofs.lemmas.List.Elements.{All-head, All-tail}
use Rattle.csv.specs.Reading.{default_config, records}
use Rattle.csv.specs.Writing.{default_writer, escaped, fields_text, is_blank, read_back, row_text}
use Rattle.csv.specs.declared.writer.Writer.{Writer}
use Rattle.csv.proofs.RoundTrip.{rows_text}
use Rattle.csv_records.specs.Records.{Record}
use Rattle.csv_records.specs.Written.{HasAdded, HasWritten, records_text, settings}
use Rattle.csv_records.specs.Laws.{WrittenRecordsAreRead}
use Rattle.csv_records.proofs.Reached.{records-written}

-- ---- the text of a record doesn't depend on how long other records are
escaped_same : (text : List ℕ) → escaped settings text ≡ escaped default_writer text
unfolding escaped
escaped_same [] = refl
escaped_same (b ∷ text) = rw (escaped_same text) refl

fields_same : (r : Record) → fields_text settings r ≡ fields_text default_writer r
unfolding fields_text
fields_same [] = refl
fields_same (f ∷ r) = rw (escaped_same f, fields_same r) refl

row_same : (r : Record) → row_text settings r ≡ row_text default_writer r
unfolding is_blank
row_same [] = refl
row_same (f ∷ []) = rw (escaped_same f, fields_same []) refl
row_same (f ∷ next ∷ rest) = rw (escaped_same f, fields_same (next ∷ rest)) refl

-- ---- records after records
pub text_next : (rs : List Record) (r : Record) → records_text (rs ++ (r ∷ [])) ≡ records_text rs ++ row_text settings r
text_next rs r = flat_map-append (row_text default_writer) rs (r ∷ []) ∙ ap (λ t. records_text rs ++ t) (append-nil (row_text default_writer r) ∙ sym (row_same r))

pub added_none : {Z : Type 0} (w : Writer (Vec ℕ Z)) → HasAdded w w []
added_none w rs has = subst (HasWritten w) (sym (append-nil rs)) has

pub added_more : {Z : Type 0} (a b c : Writer (Vec ℕ Z)) (xs ys : List Record) → HasAdded a b xs → HasAdded b c ys → HasAdded a c (xs ++ ys)
added_more a b c xs ys first then rs has = subst (HasWritten c) (append_assoc rs xs ys) (then (rs ++ xs) (first rs has))

-- ---- what was written is read
rows_are : (rs : List Record) → rows_text rs ≡ records_text rs
unfolding rows_text
rows_are [] = refl
rows_are (r ∷ rs) = ap (λ t. row_text default_writer r ++ t) (rows_are rs)

back : (r : Record) → r ≢ [] → read_back r ≡ r
back [] some = absurd (some refl)
back (f ∷ r) some = refl

backs : (rs : List Record) → All (λ r. r ≢ []) rs → map read_back rs ≡ rs
backs [] some = refl
backs (r ∷ rs) some = rw (back r (All-head (λ r. r ≢ []) r rs some), backs rs (All-tail (λ r. r ≢ []) r rs some)) refl

pub written_read : WrittenRecordsAreRead
written_read rs some no_mark = ap (records default_config) (no_mark ∙ sym (rows_are rs)) ∙ records-written rs ∙ backs rs some

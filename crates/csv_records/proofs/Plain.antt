-- Records whose fields need no quotes.
use Rattle.std.proofs.Common.{◌≡◌, ◌∙◌, ◌+◌, ◌%◌, ◌^◌, ◌<◌, ◌≤◌, ◌==◌, ℕ, suc, Bool, true, false, List, [], ◌∷◌, ◌++◌, decimal, length, refl, sym, ap, arith, mod-lt, append_assoc}
use Rattle.std.specs.Prelude.{◌||◌}
use Rattle.std.specs.List.{list_any}
use Rattle.std.proofs.lemmas.Bool.{false≢true}
use Rattle.std.proofs.lemmas.Bool.Decides.{nat_tests}
use Rattle.std.proofs.lemmas.List.Elements.{All-head, All-tail}
use Rattle.std.proofs.lemmas.List.Folds.{list_any-append}
use Rattle.std.proofs.lemmas.Fmt.{decimal_by_steps_wide}
use Rattle.csv.specs.Quoting.{needs_byte}
use Rattle.csv.specs.Writing.{default_writer, fields_text, is_blank, row_text}
use Rattle.csv_records.specs.Records.{Record}
use Rattle.csv_records.specs.Written.{IsPlain, IsPlainRecord, has_mark, is_mark, line_of}
use Rattle.csv_records.specs.Laws.{PlainRecordsAreLines}

-- ---- numbers are plain
plain_digit : (d : ℕ) → d < 10 → is_mark (48 + d) ≡ false
plain_digit d h = grind (arith, nat_tests)

-- two plain texts one after the other
pub plain_both : (xs ys : List ℕ) → IsPlain xs → IsPlain ys → IsPlain (xs ++ ys)
plain_both xs ys a b = list_any-append is_mark xs ys ∙ rw (a, b) refl

one_digit : (n : ℕ) → n < 10 → IsPlain ((48 + n) ∷ [])
one_digit n h = rw (plain_digit n h) refl

more_digits : (n : ℕ) (ds : List ℕ) → 10 ≤ n → IsPlain ds → IsPlain (ds ++ ((48 + n % 10) ∷ []))
more_digits n ds h e = plain_both ds ((48 + n % 10) ∷ []) e (rw (plain_digit (n % 10) (mod-lt n (omega arith))) refl)

pub plain_number : (n : ℕ) → n < 10 ^ 64 → IsPlain (decimal n)
plain_number n h = decimal_by_steps_wide (λ n ds. IsPlain ds) one_digit more_digits n h

-- ---- plain fields have no quotes
mark_is : (b : ℕ) → needs_byte default_writer b ≡ is_mark b
mark_is b = grind (arith, nat_tests)

marks_are : (text : List ℕ) → list_any (needs_byte default_writer) text ≡ list_any is_mark text
marks_are [] = refl
marks_are (b ∷ text) = rw (mark_is b, marks_are text) refl

plain_field : (text : List ℕ) → IsPlain text → list_any (needs_byte default_writer) text ≡ false
plain_field text plain = marks_are text ∙ plain

both_false : (a b : Bool) → (a || b) ≡ false → (a ≡ false) × (b ≡ false)
both_false true b e = absurd (false≢true (sym e))
both_false false b e = (refl, e)

-- what follows the first field
rest_is : (f : List ℕ) (rest : Record) → list_any has_mark rest ≡ false → (f ++ fields_text default_writer rest) ++ (10 ∷ []) ≡ line_of (f ∷ rest)
unfolding fields_text
rest_is f [] plain = simp append_assoc refl
rest_is f (next ∷ rest) plain =
    let (here, there) = both_false (has_mark next) (list_any has_mark rest) plain in
    rw (plain_field next here) (append_assoc f _ (10 ∷ []) ∙ ap (λ t. f ++ (44 ∷ t)) (rest_is next rest there))

some_byte : (n : ℕ) → (suc n == 0) ≡ false
some_byte n = grind (arith, nat_tests)

pub row_is_line : (r : Record) → IsPlainRecord r → row_text default_writer r ≡ line_of r
unfolding is_blank fields_text
row_is_line [] plain = absurd (plain.some refl)
row_is_line ([] ∷ []) plain = absurd (plain.shown refl)
row_is_line ((b ∷ f) ∷ []) plain =
    let (here, there) = both_false (has_mark (b ∷ f)) false plain.plain in
    rw (plain_field (b ∷ f) here, some_byte (length f)) (rest_is (b ∷ f) [] there)
row_is_line (f ∷ next ∷ rest) plain =
    let (here, there) = both_false (has_mark f) (list_any has_mark (next ∷ rest)) plain.plain in
    rw (plain_field f here) (rest_is f (next ∷ rest) there)

pub rows_are_lines : PlainRecordsAreLines
rows_are_lines [] plain = refl
rows_are_lines (r ∷ rs) plain = rw (row_is_line r (All-head IsPlainRecord r rs plain), rows_are_lines rs (All-tail IsPlainRecord r rs plain)) refl

-- Numbers as they are written.
use Rattle.std.proofs.Common.{◌≡◌, ◌∙◌, ◌^◌, ◌<◌, ◌≤◌, ◌≢◌, ◌==◌, ℕ, false, List, decimal, length, sym, ap, arith}
use Rattle.std.specs.Str.{bytes_eq}
use Rattle.std.specs.Str.Parse.{digits_value}
use Rattle.std.proofs.lemmas.Bool.{false≢true}
use Rattle.std.proofs.lemmas.Bool.Decides.{Decides-eqb, Decides-like, same_from_decides}
use Rattle.std.proofs.lemmas.Slice.Eq.{bytes_eq-Decides}
use Rattle.std.proofs.lemmas.Fmt.{length-decimal-le_wide}
use Rattle.whole_numbers.proofs.Numerals.{decimal_is_whole}
use Rattle.csv_records.specs.Records.{IsNumber}

pub number_read : (n : ℕ) → n < 2 ^ 64 → IsNumber (decimal n)
number_read n h =
    let (whole, value) = decimal_is_whole n (omega (arith, h)) in
    record { whole = whole; fits = omega (arith, value, h) }

pub number_value : (n : ℕ) → n < 2 ^ 64 → digits_value 10 (decimal n) ≡ n
number_value n h = (decimal_is_whole n (omega (arith, h))).1

pub number_short : (n : ℕ) → n < 2 ^ 64 → length (decimal n) ≤ 20
number_short n small = length-decimal-le_wide 20 n (omega arith) (omega (arith, small)) (omega (arith, small))

-- ---- whether a text is what is written of a number
pub is_written : (text : List ℕ) (n p : ℕ) → n < 2 ^ 64 → p < 2 ^ 64 → text ≡ decimal n → (n == p) ≡ bytes_eq text (decimal p)
is_written text n p n_fits p_fits is = same_from_decides (n == p) (bytes_eq text (decimal p))
    (Decides-like (n == p) (λ e. is ∙ ap decimal e) (λ same. sym (number_value n n_fits) ∙ ap (digits_value 10) (sym is ∙ same) ∙ number_value p p_fits) (Decides-eqb n p))
    (bytes_eq-Decides text (decimal p))

pub isnt_written : (text : List ℕ) (p : ℕ) → text ≢ decimal p → false ≡ bytes_eq text (decimal p)
isnt_written text p apart = same_from_decides false (bytes_eq text (decimal p)) (λ e. absurd (false≢true e), λ same. absurd (apart same)) (bytes_eq-Decides text (decimal p))

-- The texts of whole numbers are what is written of their values.
use Rattle.std.proofs.Common.{◌≡◌, ◌≢◌, ◌≤◌, ◌<◌, ◌+◌, ◌-◌, ◌*◌, ◌/◌, ◌%◌, ◌^◌, ◌∙◌, ⊎_elim, ℕ, zero, suc, refl, sym, ap, subst, arith, List, [], ◌∷◌, ◌++◌, decimal, length, slice_index_or, take}
use Rattle.std.specs.Char.{digit_value}
use Rattle.std.specs.Str.Parse.{AllDigits, IsNumeral, digits_value}
use Rattle.std.proofs.lemmas.Bool.{cases_lt}
use Rattle.std.proofs.lemmas.Fmt.{decimal_by_steps_wide, decimal_digit, decimal_is_IsNumeral_wide, decimal_step_wide}
use Rattle.std.proofs.lemmas.Int.Digits.{digits_value_more}
use Rattle.std.proofs.lemmas.List.{take_all, take_more}
use Rattle.std.proofs.lemmas.Str.{digit_value_digit}
use Rattle.std.proofs.lemmas.Str.Parse.{digit_at, digits_value-take-le}
use Rattle.whole_numbers.specs.Digits.{IsWholeText, StartsWithZero}
use Rattle.whole_numbers.specs.declared.digits.NumberFault.{NumberFault}
use Rattle.whole_numbers.specs.declared.digits.NumberFault.TheVariants.{TooLarge}
use Rattle.std.specs.Prelude.{Result, Ok, Err, IfOk, IfErr, OnErr}

-- a digit by its place
pub digit_read : (t : List ℕ) (k : ℕ) → AllDigits 10 t → k < length t → (digit_value (slice_index_or t k 0) + 48 ≡ slice_index_or t k 0) × (digit_value (slice_index_or t k 0) < 10)
digit_read t k all less =
    let at = digit_at t k all less in
    let value = digit_value_digit (slice_index_or t k 0) at in
    (value, omega (arith, value, at.1))

-- the first digits are what is written of their value, which isn't 0 where there are more of them
record IsWritten (t : List ℕ) (k : ℕ) : Type 0 where
  text : decimal (digits_value 10 (take k t)) ≡ take k t
  some : 1 < length t → 1 ≤ digits_value 10 (take k t)

first : (t : List ℕ) → IsWholeText t → 0 < length t → IsWritten t (0 + 1)
first t whole less =
    let (digit, small) = digit_read t 0 whole.digits.1 less in
    let c = slice_index_or t 0 0 in
    let value : digits_value 10 (take (0 + 1) t) ≡ digit_value c = digits_value_more 10 t 0 less ∙ plain (digit_value c) in
    let same : 48 + digit_value c ≡ c = omega (arith, digit) in
    record {
      text = ap decimal value ∙ decimal_digit (digit_value c) small ∙ ap (λ x. x ∷ []) same ∙ sym (take_more t 0 0 less);
      some = λ long. omega (arith, value, ⊎_elim (λ none. absurd (whole.plain (long, omega (arith, none, digit)))) (λ no. no) (cases_lt (digit_value c) 1));
    }
  where
    plain : (x : ℕ) → 0 * 10 + x ≡ x
    plain x = omega arith

next : (t : List ℕ) → IsWholeText t → digits_value 10 t < 10 ^ 64 → (k : ℕ) → 1 ≤ k → k < length t → IsWritten t k → IsWritten t (k + 1)
next t whole small k low less w =
    let (digit, digit_small) = digit_read t k whole.digits.1 less in
    let c = slice_index_or t k 0 in
    let n = digits_value 10 (take k t) in
    let value : digits_value 10 (take (k + 1) t) ≡ n * 10 + digit_value c = digits_value_more 10 t k less in
    let some : 1 ≤ n = w.some (omega (arith, low, less)) in
    let below : digits_value 10 (take (k + 1) t) < 10 ^ 64 = omega (arith, digits_value-take-le 10 t (k + 1) (omega arith), small) in
    let tenth : (n * 10 + digit_value c) / 10 ≡ n = omega (arith, digit_small) in
    let last : (n * 10 + digit_value c) % 10 ≡ digit_value c = omega (arith, digit_small) in
    let same : 48 + digit_value c ≡ c = omega (arith, digit) in
    record {
      text = ap decimal value ∙ decimal_step_wide (n * 10 + digit_value c) (omega (arith, some)) (omega (arith, value, below))
          ∙ ap (λ x. decimal x ++ (48 + (n * 10 + digit_value c) % 10) ∷ []) tenth ∙ ap (λ x. decimal n ++ (48 + x) ∷ []) last
          ∙ ap (λ x. decimal n ++ x ∷ []) same ∙ ap (λ ds. ds ++ c ∷ []) w.text ∙ sym (take_more t k 0 less);
      some = λ long. omega (arith, value, some);
    }

front : (t : List ℕ) → IsWholeText t → digits_value 10 t < 10 ^ 64 → (k : ℕ) → k < length t → IsWritten t (k + 1)
front t whole small zero less = first t whole less
front t whole small (suc k) less =
    let e : k + 1 ≡ suc k = omega arith in
    subst (λ j. IsWritten t (j + 1)) e (next t whole small (k + 1) (omega arith) (omega (arith, less)) (front t whole small k (omega (arith, less))))

-- a whole number's text is what is written of its value
pub whole_is_decimal : (t : List ℕ) → IsWholeText t → digits_value 10 t < 10 ^ 64 → t ≡ decimal (digits_value 10 t)
whole_is_decimal t whole small =
    let some = whole.digits.0 in
    let last : length t - 1 + 1 ≡ length t = omega (arith, some) in
    let w = front t whole small (length t - 1) (omega (arith, some)) in
    let all : take (length t - 1 + 1) t ≡ t = take_all (length t - 1 + 1) t (omega (arith, some)) in
    sym all ∙ sym w.text ∙ ap (λ ds. decimal (digits_value 10 ds)) all

-- ---- and what is written of a number has no 0 before others
abbrev Begins : ℕ → List ℕ → Type 0
Begins n ds = (0 < length ds) × (1 ≤ n → slice_index_or ds 0 0 ≢ 48) × (n ≡ 0 → length ds ≡ 1)

begins_one : (n : ℕ) → n < 10 → Begins n ((48 + n) ∷ [])
begins_one n h = (omega arith, λ some e. omega (arith, e, some), λ none. omega arith)

begins_more : (n : ℕ) (ds : List ℕ) → 10 ≤ n → Begins (n / 10) ds → Begins n (ds ++ (48 + n % 10) ∷ [])
begins_more n [] h (some, begin, last) = absurd (omega (arith, some))
begins_more n (d ∷ ds) h (some, begin, last) = (omega arith, λ _. begin (omega (arith, h)), λ none. absurd (omega (arith, none, h)))

no_zero : (n : ℕ) → n < 10 ^ 64 → StartsWithZero (decimal n) → ⊥
no_zero n h (long, zero_first) =
    let b = decimal_by_steps_wide Begins begins_one begins_more n h in
    ⊎_elim (λ some. b.1 some zero_first) (λ none. omega (arith, long, b.2 (omega (arith, none)))) (cases_lt 0 n)

pub decimal_is_whole : (n : ℕ) → n < 10 ^ 64 → IsWholeText (decimal n) × (digits_value 10 (decimal n) ≡ n)
decimal_is_whole n h =
    let (digits, value) = decimal_is_IsNumeral_wide n h in
    (record { digits = digits; plain = no_zero n h }, value)

-- what is read is what is written of its value, and what is too large is written of no smaller number
pub written_of : (r : Result ℕ NumberFault) (t : List ℕ) (most : ℕ) → most < 10 ^ 64 → IsWholeText t → IfOk r (λ n. n ≡ digits_value 10 t) → IfOk r (λ n. n ≤ most) → IfOk r (λ n. t ≡ decimal n)
written_of (Ok n) t most wide whole value low = whole_is_decimal t whole (omega (arith, value, low, wide)) ∙ ap decimal (sym value)
written_of (Err fault) t most wide whole value low = tt

pub unwritten_of : (r : Result ℕ NumberFault) (t : List ℕ) (most : ℕ) → most < 10 ^ 64 → IfErr r (λ fault. (fault ≡ TooLarge) × (most < digits_value 10 t)) → OnErr r ((n : ℕ) → n ≤ most → t ≢ decimal n)
unwritten_of (Ok n) t most wide large = tt
unwritten_of (Err fault) t most wide large = λ n small is. omega (arith, large.1, ap (digits_value 10) is, (decimal_is_whole n (omega (arith, small, wide))).1, small)

-- The text of a number begins with a digit.
use Rattle.std.proofs.Common.{◌≡◌, ◌<◌, ◌^◌, ◌==◌, ℕ, zero, suc, Bool, true, false, not, List, [], ◌∷◌, decimal, refl, sym, subst, arith, slice_index_or}
use Rattle.std.specs.Str.{bytes_eq}
use Rattle.std.specs.Int.{is_in_range}
use Rattle.std.specs.Str.Parse.{digits_value}
use Rattle.std.proofs.lemmas.Bool.{eqb-true}
use Rattle.std.proofs.lemmas.Fmt.{decimal_digit, first_decimal}
use Rattle.std.proofs.lemmas.Slice.Eq.{bytes_eq-Decides}
use Rattle.command_line.specs.Words.{is_file_name, is_number, is_seed, largest_seed}
use Rattle.command_line.proofs.Allowed.{first_true, number_in_range, seed_has_bits}

begins : (t : List ℕ) → 48 < slice_index_or t 0 0 → is_file_name t ≡ true
begins [] h = absurd (omega (arith, h))
begins (x ∷ xs) h = by (x == 45) refl
  where
    by : (t : Bool) → (x == 45) ≡ t → not t ≡ true
    by true e = let same : x ≡ 45 = eqb-true x 45 e in absurd (omega (arith, h, same))
    by false e = refl

decimal_begins : (d : ℕ) → d < 2 ^ 64 → is_file_name (decimal d) ≡ true
decimal_begins zero h = subst (λ t. is_file_name t ≡ true) (sym (decimal_digit 0 (omega arith))) refl
decimal_begins (suc k) h = begins (decimal (suc k)) (first_decimal (suc k) (omega arith) h)

pub number_begins : (least most : ℕ) (n : List ℕ) → most < 2 ^ 64 → is_number least most n ≡ true → is_file_name n ≡ true
number_begins least most n small is =
    let range = number_in_range least most n is in
    let same : n ≡ decimal (digits_value 10 n) = (bytes_eq-Decides n (decimal (digits_value 10 n))).0 (first_true (bytes_eq n (decimal (digits_value 10 n))) (is_in_range least most (digits_value 10 n)) is) in
    subst (λ t. is_file_name t ≡ true) (sym same) (decimal_begins (digits_value 10 n) (omega (arith, small, range.1)))

pub seed_begins : (n : List ℕ) → is_seed n ≡ true → is_file_name n ≡ true
seed_begins n is = number_begins 0 largest_seed n (seed_has_bits largest_seed (omega arith)) is

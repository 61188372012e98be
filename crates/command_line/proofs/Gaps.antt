-- A percentage without a point is a whole number.
use Rattle.std.proofs.Common.{◌≡◌, ◌*◌, ℕ, true, List, refl, ap, arith}
use Rattle.std.specs.Str.Parse.{digits_value}
use Rattle.clap.proofs.CutLemmas.{Lacks, after_first-Lacks, before_first-Lacks, list_any-Lacks}
use Rattle.command_line.specs.Words.{decimals_value, hundredths, is_number, is_percentage}

module _ (text : List ℕ) (lacks : Lacks 46 text) where
  pub whole_is : is_number 0 100 text ≡ true → is_percentage text ≡ true
  whole_is is = rw (before_first-Lacks 46 text lacks, list_any-Lacks 46 text lacks, is) refl

  pub whole_value : (n : ℕ) → n ≡ digits_value 10 text → 100 * n ≡ hundredths text
  whole_value n is =
      let before = ap (digits_value 10) (before_first-Lacks 46 text lacks) in
      let after = ap decimals_value (after_first-Lacks 46 text lacks) in
      omega (arith, is, before, after)

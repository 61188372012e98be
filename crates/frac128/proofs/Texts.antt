-- What is written of a fraction of two numbers.
use Rattle.std.proofs.Common.{◌≡◌, ◌≢◌, ℤ, pos, negsuc, zero, suc, refl, ◌∙◌, sym, ap, ◌++◌, codes}
use Rattle.std.proofs.lemmas.List.{append-nil}
use Rattle.std.specs.Fmt.{signed_decimal}
use Rattle.algebra.specs.Fractions.{IsLowest}
use Rattle.rational.specs.Rational.{ℚ, make}
use Rattle.rational.proofs.Rationals.{parts_of}
use Rattle.frac128.specs.Text.{fraction_text, over_text}

over_other : (d : ℤ) → d ≢ pos 1 → over_text d ≡ codes "/" ++ signed_decimal d
over_other (pos zero) h = refl
over_other (pos (suc zero)) h = absurd (h refl)
over_other (pos (suc (suc d))) h = refl
over_other (negsuc d) h = refl

-- numerator and denominator of the value are those of the record
same_parts : (x : ℚ) (a b : ℤ) → make a b ≡ x → IsLowest a b → fraction_text x ≡ signed_decimal a ++ over_text b
same_parts x a b e low = ap (λ n. signed_decimal n ++ over_text x.den) (parts_of x a b e low).0 ∙ ap (λ d. signed_decimal a ++ over_text d) (parts_of x a b e low).1

pub text_whole : (x : ℚ) (a b n : ℤ) → make a b ≡ x → IsLowest a b → b ≡ pos 1 → n ≡ a → fraction_text x ≡ signed_decimal n
text_whole x a b n e low h same = same_parts x a b e low ∙ ap (λ d. signed_decimal a ++ over_text d) h ∙ append-nil (signed_decimal a) ∙ ap signed_decimal (sym same)

pub text_over : (x : ℚ) (a b n d : ℤ) → make a b ≡ x → IsLowest a b → b ≢ pos 1 → n ≡ a → d ≡ b → fraction_text x ≡ signed_decimal n ++ (codes "/" ++ signed_decimal d)
text_over x a b n d e low h same_n same_d =
    same_parts x a b e low ∙ ap (λ t. signed_decimal a ++ t) (over_other b h) ∙ ap (λ z. signed_decimal z ++ (codes "/" ++ signed_decimal b)) (sym same_n) ∙ ap (λ z. signed_decimal n ++ (codes "/" ++ signed_decimal z)) (sym same_d)

-- A leaf that says something is refused for its sums alone.
use Rattle.std.proofs.Common.{◌≡◌, ◌∙◌, inr, ℕ, sym, subst, arith, List}
use Rattle.std.specs.Prelude.{ℤ, ◌≤ℤ◌}
use Rattle.std.proofs.lemmas.Int.{ints}
use Rattle.rational.specs.Rational.{ℚ}
use Rattle.lot_sizing.specs.Problem.{Problem}
use Rattle.lin_rows.specs.declared.bound.Bound.{Bound}
use Rattle.lin_rows.specs.declared.column.Column.{Column}
use Rattle.lin_rows.specs.Columns.{IsColumn}
use Rattle.cert_lines.specs.declared.parts.Part.{Part}
use Rattle.cert_lines.specs.Shapes.{FarkasLeaf, LinearLeaf}
use Rattle.cert_meaning.specs.Named.{Named}
use Rattle.cert_meaning.specs.Parts.{AreParts, AreSmall, sum_of_column}
use Rattle.cert_meaning.specs.Says.{IsFarkas, IsLinear, IsRoundedUp}
use Rattle.cert_checker.specs.declared.fault.Why.{Why}
use Rattle.cert_checker.specs.declared.fault.Why.TheVariants as why
use Rattle.cert_checker.specs.Leaves.{IsFarkasFault, IsFirstWrong, IsSumFault, farkas_most, linear_most, no_part}
use Rattle.lp_relaxation.specs.declared.leaf.WholeLeaf.{WholeLeaf}
use Rattle.lp_relaxation.specs.declared.program.Side.{Side}
use Rattle.lp_relaxation.specs.Leaves.{IsWholeLeaf, farkas, linear}
use Rattle.lp_relaxation.specs.Sides.{parts_of}
use Rattle.lp_bounds.specs.Steps.{HasNoLeaf, IsRefused}

-- a number is rounded up to one number
pub one_amount : (den a : ℤ) (n k : ℕ) → IsRoundedUp den a n → IsRoundedUp den a k → n ≡ k
one_amount den a n k is also = omega (arith, is.least k also.above, also.least n is.above)

-- of parts that exist and are signed none is wrong
pub none_missing : (n : Named) (parts : List Part) (line at : ℕ) → AreParts n parts → IsFirstWrong n parts line at why.Range → ⊥
none_missing n parts line at are wrong = wrong.wrong (are wrong.place no_part wrong.exists).named

pub none_negative : (n : Named) (parts : List Part) (line at : ℕ) → AreParts n parts → IsFirstWrong n parts line at why.Sign → ⊥
none_negative n parts line at are wrong =
    let (named, unequal, less) = wrong.wrong in
    let signed = (are wrong.place no_part wrong.exists).signed unequal in
    omega (arith, ints, signed, less)

-- and where no column is taken more often than it may be, only the amounts are left
pub sum_is_large : (n : Named) (most : Column → ℤ) (parts : List Part) (line at : ℕ) (w : Why) → AreParts n parts → ((c : Column) → IsColumn n.problem c → sum_of_column n parts c ≤ℤ most c) → IsSumFault n most parts line at w → AreSmall n parts → ⊥
sum_is_large n most parts line at why.Range are columns fault small = none_missing n parts line at are fault
sum_is_large n most parts line at why.Sign are columns fault small = none_negative n parts line at are fault
sum_is_large n most parts line at why.TooLarge are columns fault small = fault.2 small
sum_is_large n most parts line at (why.Column c) are columns fault small =
    let first = fault.3 in
    let most_is = columns c first.column in
    let large = first.large in
    omega (arith, ints, most_is, large)
sum_is_large n most parts line at _ are columns fault small = absurd fault

pub linear_is_large : (n : Named) (den : ℤ) (parts : List Part) (c line at : ℕ) (w : Why) → IsLinear n den parts c → IsSumFault n (linear_most n den) parts line at w → AreSmall n parts → ⊥
linear_is_large n den parts c line at w is = sum_is_large n (linear_most n den) parts line at w is.parts_exist is.columns

pub farkas_is_large : (n : Named) (parts : List Part) (line at : ℕ) (w : Why) → IsFarkas n parts → IsFarkasFault n parts line at w → AreSmall n parts → ⊥
farkas_is_large n parts line at (why.Short says) is fault small =
    let short = fault.2.right in
    let long = is.right in
    omega (arith, ints, short, long)
farkas_is_large n parts line at why.Range is fault small = sum_is_large n farkas_most parts line at why.Range is.parts_exist is.columns fault small
farkas_is_large n parts line at why.Sign is fault small = sum_is_large n farkas_most parts line at why.Sign is.parts_exist is.columns fault small
farkas_is_large n parts line at why.TooLarge is fault small = sum_is_large n farkas_most parts line at why.TooLarge is.parts_exist is.columns fault small
farkas_is_large n parts line at (why.Column c) is fault small = sum_is_large n farkas_most parts line at (why.Column c) is.parts_exist is.columns fault small
farkas_is_large n parts line at _ is fault small = absurd fault

-- ---- the leaf of whole multipliers is refused
module _ (m : Problem) (path : List Bound) (sides : List Side) (ys : List ℚ) (whole : WholeLeaf) (is : IsWholeLeaf sides ys whole) where
  pub linear_has_none : (den : ℤ) → den ≡ whole.den → IsRefused m path (LinearLeaf den whole.parts.items) → HasNoLeaf m path sides ys linear
  linear_has_none den same refused =
      inr (is.den, is.numerators, is.are.leaf, subst (λ d. IsRefused m path (LinearLeaf d (parts_of sides is.numerators))) (same ∙ sym is.den_is) (subst (λ ps. IsRefused m path (LinearLeaf den ps)) is.parts_are refused))

  pub farkas_has_none : IsRefused m path (FarkasLeaf whole.parts.items) → HasNoLeaf m path sides ys farkas
  farkas_has_none refused = inr (is.den, is.numerators, is.are.leaf, subst (λ ps. IsRefused m path (FarkasLeaf ps)) is.parts_are refused)

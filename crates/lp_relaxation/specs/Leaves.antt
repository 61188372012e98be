-- Leaves of a certificate from multipliers of a program's sides.
use Rattle.std.specs.Prelude.{◌≡◌, ℕ, ◌<◌, ℤ, pos, List, length}
use Rattle.rational.specs.Rational.{ℚ}
use Rattle.frac128.specs.Limits.{IsSmall}
use Rattle.cert_lines.specs.declared.parts.Part.{Part}
use Rattle.cert_lines.specs.Shapes.{LeafShape, LinearLeaf, FarkasLeaf}
use Rattle.tableau.specs.Leaves.{AreOfLeaf}
use Rattle.tableau.specs.Outcomes.{number_at}
use Rattle.lp_relaxation.specs.declared.leaf.WholeLeaf.{WholeLeaf}
use Rattle.lp_relaxation.specs.declared.program.Side.{Side}
use Rattle.lp_relaxation.specs.Sides.{parts_of}

-- how a leaf is made of a denominator and parts
abbrev pub Making : Type 0
Making = ℕ → List Part → LeafShape

abbrev pub linear : Making
linear den parts = LinearLeaf (pos den) parts

abbrev pub farkas : Making
farkas den parts = FarkasLeaf parts

-- multipliers over their least common denominator, all of them small
pub record AreWhole (ys : List ℚ) (den : ℕ) (z : ℕ → ℤ) : Type 0 where
  pub leaf : AreOfLeaf (length ys) (number_at ys) den z
  pub den_small : IsSmall (pos den)
  pub small : (k : ℕ) → k < length ys → IsSmall (z k)

-- these, and the parts that they make of sides
pub record IsWholeLeaf (sides : List Side) (ys : List ℚ) (whole : WholeLeaf) : Type 0 where
  pub den : ℕ
  pub numerators : ℕ → ℤ
  pub are : AreWhole ys den numerators
  pub den_is : pos den ≡ whole.den
  pub parts_are : whole.parts.items ≡ parts_of sides numerators

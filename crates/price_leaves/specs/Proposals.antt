-- What a priced leaf is made of: block cuts and parts that have lines in certificates. Its number is no matter here; who takes the cuts and the leaf tests them.
use Rattle.std.specs.Prelude.{ℕ, ◌≤◌, ◌<◌, ◌^◌, ⊤, List, [], ◌∷◌, length, map}
use Rattle.std.specs.List.{All}
use Rattle.lot_sizing.specs.Problem.{Problem, item_count}
use Rattle.cert_lines.specs.Line.{HasForm, HasLine}
use Rattle.cert_lines.specs.Shapes.{BlockCut, CutShape, LsCut, PartLine, PriceCut, RoundCut, cut_first, cut_shape}
use Rattle.cert_lines.specs.declared.limits.TheConstants.{FIRST_CERT_VERSION, MAX_PARTS}
use Rattle.price_leaves.specs.declared.leaf.Priced.{Priced}

-- block cuts of items after one and up to another, in rising order
abbrev pub AreRising : ℕ → ℕ → List CutShape → Type 0
AreRising most last [] = ⊤
AreRising most last (BlockCut item lists ∷ rest) = (last < item) × (item ≤ most) × AreRising most item rest
AreRising most last (LsCut item period chosen ∷ rest) = ⊥
AreRising most last (PriceCut item lists ∷ rest) = ⊥
AreRising most last (RoundCut divisor parts ∷ rest) = ⊥

-- block cuts of items of the problem in rising order; each cut and each part has a line in texts of the first version, so no part names a least or a late row; the parts are few enough, and the denominator is one of 64 bits
pub record IsProposal (m : Problem) (leaf : Priced) : Type 0 where
  pub blocks : AreRising (item_count m) 0 (map cut_shape leaf.cuts.items)
  pub cuts : All (λ cut. HasForm (cut_first (cut_shape cut))) leaf.cuts.items
  pub parts : All (λ part. HasLine FIRST_CERT_VERSION (PartLine part)) leaf.parts.items
  pub few : length leaf.parts.items ≤ MAX_PARTS
  pub den_low : 1 ≤ leaf.den
  pub den_high : leaf.den < 2 ^ 64

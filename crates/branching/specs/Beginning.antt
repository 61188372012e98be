-- The cuts and the leaf with which a search begins.
use Rattle.std.specs.Prelude.{◌≤◌, ◌<◌, ◌^◌, ℕ, List, length, map}
use Rattle.lot_sizing.specs.Best.{IsFloor}
use Rattle.lot_sizing.specs.Problem.{Problem}
use Rattle.lot_sizing.specs.declared.limits.TheConstants.{MAX_ITEMS}
use Rattle.lin_rows.specs.Combining.{AreOfProblem}
use Rattle.lin_rows.specs.Rows.{LinRow}
use Rattle.cert_lines.specs.Shapes.{CutShape, LeafShape, cut_shape}
use Rattle.certificate.specs.Values.{AreLines, leaf_values}
use Rattle.item_bound.specs.declared.found.Apart.{Apart}
use Rattle.item_bound.specs.Apart.{IsApart}
use Rattle.item_bound.specs.Cuts.{AreCutsAnywhere, SayAnywhere}
use Rattle.lp_root.specs.Root.{HasFigures, HaveCutLines, HaveRootRows, IsVersionFor, SaysAmount}
use Rattle.branching.specs.declared.beginning.Opening.{Opening}
use Rattle.branching.specs.Begun.{AreKnownCuts, IsBegun}

-- the cuts of the items apart, and what they say
pub record AreApart (m : Problem) (a : Apart) : Type 0 where
  pub amount : IsApart m a.amount
  pub floor : IsFloor m a.amount
  pub small : a.amount < 2 ^ 127
  pub cuts : AreCutsAnywhere m (map cut_shape a.cuts.items) a.rows.items
  pub columns_exist : AreOfProblem m a.rows.items
  pub says : SayAnywhere m a.rows.items a.amount
  pub few : length a.cuts.items ≤ MAX_ITEMS

-- the cuts of a root that closes to an amount, and its leaf
pub record IsClosedBy (m : Problem) (cuts : List CutShape) (leaf : LeafShape) (amount : ℕ) : Type 0 where
  pub figures : HasFigures m
  pub floor : IsFloor m amount
  pub rows : List LinRow
  pub have : HaveRootRows m cuts rows
  pub says : SaysAmount m rows amount leaf
  pub cut_lines : HaveCutLines cuts
  pub leaf_lines : (version : ℕ) → IsVersionFor m version → AreLines version (leaf_values leaf)

-- the cuts can stand in a certificate, and the leaf says the amount over their rows
pub record BeginsWith (m : Problem) (version : ℕ) (b : Opening) : Type 0 where
  pub cuts : AreKnownCuts m version (map cut_shape b.cuts.items) b.rows.items
  pub begun : IsBegun m version b.least b.first b.rows.items

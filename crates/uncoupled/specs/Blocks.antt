-- The certificate of a plan that is made item by item, and when it is accepted.
use Rattle.std.specs.Prelude.{◌≡◌, ℕ, zero, suc, ◌≤◌, ◌<◌, ◌^◌, is_some, Some, List, [], ◌∷◌, length, pos}
use Rattle.lot_sizing.specs.Problem.{IsUncoupled, IsWithinLimits, Problem, item_at, item_count}
use Rattle.lot_sizing.specs.Bill.{AreWeights, bill_of, one_if_same}
use Rattle.lot_sizing.specs.Echelon.{IsLeadFree, asked_in_echelon, in_echelon}
use Rattle.lot_sizing.specs.Net.{Asked, asked_of}
use Rattle.lot_sizing.specs.Totals.{AreLargestTotals}
use Rattle.plan_rules.specs.declared.plan.Plan.{Plan}
use Rattle.lin_rows.specs.declared.base.RowName.TheVariants.{Cut}
use Rattle.lin_rows.specs.declared.prices.Potentials.{Potentials}
use Rattle.lin_rows.specs.Rows.{LinRow}
use Rattle.backlog_dp.specs.BlockRow.{block_row_of}
use Rattle.cert_lines.specs.declared.limits.TheConstants.{FIRST_CERT_VERSION}
use Rattle.cert_lines.specs.declared.parts.Claim.TheVariants.{Optimal}
use Rattle.cert_lines.specs.declared.parts.Part.{Part}
use Rattle.cert_lines.specs.Shapes.{BlockCut, CutShape, LeafShape, LinearLeaf, block_lists}
use Rattle.certificate.specs.Shapes.{End, Shape}
use Rattle.cert_meaning.specs.CutRows.{echelon_at}
use Rattle.cert_checker.specs.Checks.{ComesWith, IsCertified}
use Rattle.uncoupled.specs.Items.{ProveFrom, floors_from}

-- ---- echelons without coupling
-- the same is asked for in as many periods
pub record IsSameAsked (a b : Asked) : Type 0 where
  pub periods : a.periods ≡ b.periods
  pub demand : (t : ℕ) → a.demand t ≡ b.demand t
  pub opening : a.opening ≡ b.opening
  pub end_min : a.end_min ≡ b.end_min

-- the echelon of an item is the item: it counts once, and no other item does; so what items have, weighed, is what the item has. What is asked for is what the item is asked for, with no lead time, and a backlog is allowed where the item's is
pub record IsItsEchelon (m : Problem) (weight : ℕ → ℕ → ℕ) (i : ℕ) : Type 0 where
  pub weights : (j : ℕ) → 1 ≤ j → j ≤ item_count m → weight i j ≡ one_if_same i j
  pub has : (f : ℕ → ℕ) → in_echelon m weight i f ≡ f i
  pub asked : IsSameAsked (asked_in_echelon m weight i) (asked_of m i)
  pub lead_free : IsLeadFree m weight i
  pub owing : (echelon_at m weight i).owing ≡ is_some (item_at m i).backlog_cost

-- without coupling the echelon of each item is the item
abbrev pub EchelonsAreItems : Type 0
EchelonsAreItems =
    (m : Problem) (weight : ℕ → ℕ → ℕ) (i : ℕ) → IsUncoupled m → AreWeights (bill_of m) weight → 1 ≤ i → i ≤ item_count m
    → IsItsEchelon m weight i

-- ---- certificates
-- a block cut of each item from this one on
abbrev pub block_cuts : ℕ → List Potentials → List CutShape
block_cuts i [] = []
block_cuts i (p ∷ rest) = BlockCut i (block_lists p) ∷ block_cuts (suc i) rest

-- their rows
abbrev pub block_rows : Problem → (ℕ → ℕ → ℕ) → ℕ → List Potentials → List LinRow
block_rows m weight i [] = []
block_rows m weight i (p ∷ rest) = block_row_of (echelon_at m weight i) p ∷ block_rows m weight (suc i) rest

-- so many cuts from this one on, each taken once
abbrev pub each_once : ℕ → ℕ → List Part
each_once k zero = []
each_once k (suc n) = record { row = Cut k; times = pos 1 } ∷ each_once (suc k) n

-- the leaf by linear duality which takes each of so many cuts once
abbrev pub leaf_of : ℕ → LeafShape
leaf_of n = LinearLeaf (pos 1) (each_once 1 n)

-- the certificate that a plan of this cost is best: a block cut of each item, and one leaf, which takes each of them once
abbrev pub blocks_shape : ℕ → List Potentials → Shape
blocks_shape amount list = record { version = FIRST_CERT_VERSION; claim = Optimal amount; cuts = block_cuts 1 list; tree = End (leaf_of (length list)) }

-- it is accepted with a feasible plan of this cost, where the lists prove each item and their floors add to this cost
abbrev pub BlockLeavesAreCertified : Type 0
BlockLeavesAreCertified =
    (m : Problem) (total : ℕ → ℕ) (weight : ℕ → ℕ → ℕ) (list : List Potentials) (amount : ℕ) (plan : Plan)
    → IsUncoupled m → IsWithinLimits m → AreLargestTotals m total → AreWeights (bill_of m) weight
    → length list ≡ item_count m → ProveFrom m 1 list → amount ≡ floors_from m 1 list → amount < 2 ^ 127
    → ComesWith m (Optimal amount) (Some plan)
    → IsCertified m total weight (blocks_shape amount list) (Some plan)

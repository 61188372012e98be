-- Block rows hold, and the potentials of the recursion make one.
use Rattle.std.specs.Prelude.{◌≡◌, List, ℕ}
use Rattle.lot_sizing.specs.Single.{ArePotentials}
use Rattle.lin_rows.specs.declared.prices.Potentials.{Potentials}
use Rattle.lin_rows.specs.Rows.{HoldsIn}
use Rattle.echelon.specs.declared.net.EchelonItem.{EchelonItem}
use Rattle.echelon.specs.declared.single.Blocks.{Blocks}
use Rattle.wagner_whitin.specs.Solution.{IsSolution}
use Rattle.echelon_rows.specs.Rows.{Echelon, echelon_in, priced}
use Rattle.echelon_rows.specs.Plans.{AtPlansOf}
use Rattle.backlog_dp.specs.BlockRow.{ArePricesSmall, HavePrices, IsAllowed, block_row, priced_by}

-- at each plan of an echelon the block row holds, whatever the prices are, of potentials that rise over no block by more than it costs
abbrev pub BlockRowsHold : Type 0
BlockRowsHold = (e : EchelonItem) → AtPlansOf e (λ p. (setup unit hold back steps : List ℕ) → ArePotentials (priced (echelon_in e) setup unit hold back) steps → HoldsIn p (block_row (echelon_in e) setup unit hold back steps))

-- what a recursion finds for an echelon's item by itself has potentials that make a row with its prices
abbrev pub SolutionsAreAllowed : Type 0
SolutionsAreAllowed = (e : Echelon) (p : Potentials) (found : Blocks) → HavePrices e.asked.periods p → ArePricesSmall p → IsSolution (priced_by e p) found → p.steps.items ≡ found.potentials.items → IsAllowed e p

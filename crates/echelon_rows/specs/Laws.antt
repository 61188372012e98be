-- Laws about the rows of echelons.
use Rattle.std.specs.Prelude.{ℕ, ◌+◌, ◌*◌, ◌≤◌, List, length, pos}
use Rattle.lot_sizing.specs.Sums.{sum_to}
use Rattle.lot_sizing.specs.Problem.{AllAtMost, entry}
use Rattle.lot_sizing.specs.Net.{left_after, net_in}
use Rattle.echelon.specs.declared.net.EchelonItem.{EchelonItem}
use Rattle.echelon.specs.Views.{HasEach, IsEchelonWithinBounds, asked_of_echelon}
use Rattle.echelon.specs.declared.net.TheConstants.{MAX_ASKED}
use Rattle.lin_rows.specs.declared.column.Column.TheVariants.{Y}
use Rattle.lin_rows.specs.Columns.{value_in}
use Rattle.lin_rows.specs.Base.{some_terms}
use Rattle.lin_rows.specs.Rows.{AreTerms, HoldsAt, Values, whole_point}
use Rattle.valid_inequalities.specs.Trajectory.{IsNetOf, IsTrajectory}
use Rattle.valid_inequalities.specs.Inequalities.{kept_cost}
use Rattle.echelon_rows.specs.Rows.{Echelon, cost_terms, echelon_in, priced, row_with, trajectory_at}
use Rattle.echelon_rows.specs.Plans.{AreColumnsOf, AtPlansOf}

-- at its plans an echelon goes a way that balances
abbrev pub EchelonsGo : Type 0
EchelonsGo = (e : EchelonItem) → AtPlansOf e (λ p. IsTrajectory (asked_of_echelon e) e.backlogged (trajectory_at (echelon_in e) (value_in p)))

-- the item by itself, with the prices of a row, has the echelon's net demands
abbrev pub PricedIsNet : Type 0
PricedIsNet = (e : Echelon) (setup unit hold back : List ℕ) → IsNetOf e.asked e.owing (priced e setup unit hold back)

-- where the echelon goes a way, a row of costs holds whose right side is at most what the way costs; setups count so many times
abbrev pub CostRowsHold : Type 0
CostRowsHold =
    (e : Echelon) (v : Values) → IsTrajectory e.asked e.owing (trajectory_at e v) → (times : ℕ → ℕ) (setup unit hold back : List ℕ) (right : ℕ)
    → right ≤ sum_to e.asked.periods (λ t. times t * v (Y e.item t) + kept_cost (priced e setup unit hold back) (trajectory_at e v) t)
    → HoldsAt (whole_point v) (row_with (cost_terms e times (entry unit) (entry hold) (entry back)) (pos right))

-- the columns of costs rise, and each problem with the echelon has them
abbrev pub CostTermsAreTerms : Type 0
CostTermsAreTerms =
    (e : EchelonItem) → IsEchelonWithinBounds e → (setup unit hold back : ℕ → ℕ)
    → AreTerms 0 (some_terms (cost_terms (echelon_in e) setup unit hold back))
    × AreColumnsOf e (some_terms (cost_terms (echelon_in e) setup unit hold back))

-- a list of an echelon's net demands adds to at most what may be asked for
abbrev pub NetIsSmall : Type 0
NetIsSmall = (e : EchelonItem) → IsEchelonWithinBounds e → (net : List ℕ) → HasEach (length e.demand.items) (net_in (asked_of_echelon e)) net → sum_to (length net) (entry net) ≤ MAX_ASKED

-- and no more is left in any period
abbrev pub LeftIsSmall : Type 0
LeftIsSmall = (e : EchelonItem) → IsEchelonWithinBounds e → (left : List ℕ) → HasEach (length e.demand.items) (left_after (asked_of_echelon e)) left → AllAtMost MAX_ASKED left

-- The lists of the items so far, and what the plan of best rows costs.
use Rattle.std.proofs.Common.{◌≡◌, ◌≤◌, ◌+◌, ℕ, suc, refl, ap, subst, arith, List, [], ◌∷◌, ◌++◌, length}
use Rattle.lot_sizing.specs.Sums.{sum_to}
use Rattle.lot_sizing.specs.Problem.{EachItem, IsUncoupled, IsWithinLimits, Problem, item_count}
use Rattle.lot_sizing.specs.Plan.{IsFeasible, Plan, cost}
use Rattle.lot_sizing.specs.Best.{IsBest}
use Rattle.lot_sizing.specs.Least.{HasChoice, least_plan}
use Rattle.lot_sizing.specs.Net.{HasRoom, IsBestChoice, choice, item_cost}
use Rattle.lot_sizing.specs.Laws.{CostsApart, ItemsAreBestApart, RoomIsEnough}
use Rattle.lin_rows.specs.declared.prices.Potentials.{Potentials}
use Rattle.plan_rules.specs.Cells.{Cells, table_of}
use Rattle.plan_rules.specs.Rows.{HasNoPlan, IsLeastWith}
use Rattle.echelon.specs.Views.{single_in}
use Rattle.uncoupled.specs.Floors.{ProveBestFrom, ProvesBest}
use Rattle.uncoupled.specs.Items.{ProveFrom, floors_from, item_floor}
use Rattle.uncoupled.specs.Rows.{AreBestBefore}

-- the lists of one more item
pub prove_more : (m : Problem) (i : ℕ) (lists : List Potentials) (p : Potentials) → ProveBestFrom m i lists → ProvesBest m (i + length lists) p → ProveBestFrom m i (lists ++ p ∷ [])
prove_more m i [] p so_far more =
    let e : i + 0 ≡ i = omega arith in
    (subst (λ k. ProvesBest m k p) e more, tt)
prove_more m i (q ∷ rest) p so_far more =
    let e : i + length (q ∷ rest) ≡ suc i + length rest = omega arith in
    (so_far.0, prove_more m (suc i) rest p so_far.1 (subst (λ k. ProvesBest m k p) e more))

pub all_prove : (m : Problem) (i : ℕ) (lists : List Potentials) → ProveBestFrom m i lists → ProveFrom m i lists
all_prove m i [] all = tt
all_prove m i (p ∷ rest) all = (all.0.proves, all_prove m (suc i) rest all.1)

-- numbers that are the floors of the items add as these do
floors_add : (m : Problem) (k : ℕ) (lists : List Potentials) (f : ℕ → ℕ) → ProveBestFrom m (suc k) lists → ((i : ℕ) (p : Potentials) → 1 ≤ i → i ≤ k + length lists → ProvesBest m i p → f i ≡ item_floor m i p) → sum_to (k + length lists) f ≡ sum_to k f + floors_from m (suc k) lists
floors_add m k [] f all each =
    let e : k + 0 ≡ k = omega arith in
    omega (arith, ap (λ n. sum_to n f) e)
floors_add m k (p ∷ rest) f all each =
    let e : k + length (p ∷ rest) ≡ suc k + length rest = omega arith in
    let here : f (suc k) ≡ item_floor m (suc k) p = each (suc k) p (omega arith) (omega (arith, e)) all.0 in
    let later = floors_add m (suc k) rest f all.1 (λ i q low high best. each i q low (omega (arith, e, high)) best) in
    omega (arith, ap (λ n. sum_to n f) e, here, later)

-- best rows of all items of an uncoupled problem within the limits, and room for each
pub record AreAllBest (m : Problem) (make setup : Cells) : Type 0 where
  pub free : IsUncoupled m
  pub within : IsWithinLimits m
  pub rooms : EachItem m (HasRoom m)
  pub rows : AreBestBefore m make setup (item_count m + 1)

each_best : (m : Problem) (make setup : Cells) → AreAllBest m make setup → EachItem m (λ i. IsBestChoice m i (single_in m i) (choice (table_of make) (table_of setup) i))
each_best m make setup all i low high = all.rows.best i low (omega (arith, high))

-- they make a feasible plan
least_feasible : RoomIsEnough → (m : Problem) (make setup : Cells) → AreAllBest m make setup → IsFeasible m (least_plan m (table_of make) (table_of setup))
least_feasible law m make setup all =
    law m (table_of make) (table_of setup) (single_in m) all.free all.within.some_period (λ i low high. (all.within.each_item i low high).ends) (λ i low high. (each_best m make setup all i low high).serves) all.rooms

has_choice : (m : Problem) (make setup : Cells) → HasChoice m (table_of make) (table_of setup) (least_plan m (table_of make) (table_of setup))
has_choice m make setup = record { make = λ i t low high t_low t_high. refl; setup = λ i t low high t_low t_high. refl }

pub rows_have_plan : RoomIsEnough → (m : Problem) (make setup : Cells) → AreAllBest m make setup → HasNoPlan m (table_of make) (table_of setup) → ⊥
rows_have_plan law m make setup all none = none (least_plan m (table_of make) (table_of setup)) (least_feasible law m make setup all) (has_choice m make setup)

-- the cheapest plan of theirs is best
pub rows_best : RoomIsEnough → ItemsAreBestApart → (m : Problem) (make setup : Cells) (p : Plan) → AreAllBest m make setup → IsFeasible m p → IsLeastWith m (table_of make) (table_of setup) p → IsBest m p
rows_best enough apart m make setup p all f least = record {
  feasible = f;
  least = λ q g. omega (
    arith,
    least.spent (least_plan m (table_of make) (table_of setup)) (least_feasible enough m make setup all) (has_choice m make setup),
    apart m (table_of make) (table_of setup) (single_in m) all.free all.within.some_period (each_best m make setup all) q g,
  );
}

-- an item costs its floor: its row is a cheapest net plan, and so costs the last potential
item_is : CostsApart → (m : Problem) (make setup : Cells) → AreAllBest m make setup → (i : ℕ) (p : Potentials) → 1 ≤ i → i ≤ item_count m → ProvesBest m i p → item_cost m (least_plan m (table_of make) (table_of setup)) i ≡ item_floor m i p
item_is law m make setup all i p low high proves =
    let best = each_best m make setup all i low high in
    let some = proves.least.some in
    omega (
      arith,
      law m (table_of make) (table_of setup) (single_in m) all.free all.within.some_period (λ j j_low j_high. (each_best m make setup all j j_low j_high).serves) i low high,
      best.least some.0 some.1,
      some.2,
      proves.least.least (choice (table_of make) (table_of setup) i) best.serves.plan,
    )

-- so their cheapest plan costs what the floors add to
pub costs_floors : RoomIsEnough → ItemsAreBestApart → CostsApart → (m : Problem) (make setup : Cells) (lists : List Potentials) (p : Plan) → AreAllBest m make setup → length lists ≡ item_count m → ProveBestFrom m 1 lists → IsFeasible m p → IsLeastWith m (table_of make) (table_of setup) p → cost m p ≡ floors_from m 1 lists
costs_floors enough apart law m make setup lists p all size prove f least =
    let q = least_plan m (table_of make) (table_of setup) in
    let most = least.spent q (least_feasible enough m make setup all) (has_choice m make setup) in
    let floor = apart m (table_of make) (table_of setup) (single_in m) all.free all.within.some_period (each_best m make setup all) p f in
    let sum = floors_add m 0 lists (item_cost m q) prove (λ i l low high best. item_is law m make setup all i l low (omega (arith, high, size)) best) in
    let e : 0 + length lists ≡ item_count m = omega (arith, size) in
    let whole : sum_to (0 + length lists) (item_cost m q) ≡ cost m q = ap (λ n. sum_to n (item_cost m q)) e in
    omega (arith, most, floor, sum, whole)

-- The worked certificates are accepted, by what acceptance means.
use Rattle.std.proofs.Common.{◌≡◌, ◌≤◌, ◌<◌, ◌+◌, ◌-◌, ◌*◌, ◌^◌, ◌⊎◌, ⊎_elim, inl, inr, ℕ, refl, sym, ap, subst, arith, List, [], ◌∷◌}
use Rattle.std.specs.Prelude.{IsSome, Some, ℤ, pos, ◌≤ℤ◌, ◌*ℤ◌, unsigned_abs}
use Rattle.std.proofs.lemmas.List.Elements.{All-from_recursion, All-nil}
use Rattle.std.proofs.lemmas.Bool.{cases_lt}
use Rattle.algebra.proofs.Integers.{mul_zero}
use Rattle.algebra.proofs.Order.{linear}
use Rattle.lot_sizing.specs.Sums.{sum_to}
use Rattle.lot_sizing.specs.Problem.{AreUses, IsItem, IsResource, IsSeries, IsWithinLimits, Problem, demand, item_at, item_count, per_unit, resource_at}
use Rattle.lot_sizing.specs.declared.limits.TheConstants.{MAX_AMOUNT, MAX_QUANTITY}
use Rattle.lot_sizing.specs.Plan.{IsBalanced, IsEndStock, IsFeasible, IsLot, IsWithinCapacity}
use Rattle.lot_sizing.specs.Best.{IsBest}
use Rattle.lot_sizing.specs.Bill.{AreWeights, bill_of, one_if_same}
use Rattle.lot_sizing.specs.Totals.{AreLargestTotals, IsRanking}
use Rattle.lin_rows.specs.declared.base.RowName.{RowName}
use Rattle.lin_rows.specs.declared.base.RowName.TheVariants.{Balance, Link, Capacity, Path}
use Rattle.lin_rows.specs.declared.column.Column.{Column}
use Rattle.lin_rows.specs.declared.column.Column.TheVariants.{X, Y, S, R}
use Rattle.lin_rows.specs.Columns.{IsColumn, column_cost}
use Rattle.lin_rows.specs.declared.bound.Bound.{Bound}
use Rattle.lin_rows.specs.Combining.{AreOfProblem}
use Rattle.lin_rows.specs.Rows.{LinRow}
use Rattle.round_cuts.specs.Rounding.{column_amount}
use Rattle.cert_lines.specs.declared.parts.Part.{Part}
use Rattle.cert_trees.specs.Ranges.{IsChoice, whole_ranges}
use Rattle.cert_trees.specs.Paths.{AreChoices, at_least, at_most}
use Rattle.cert_meaning.specs.declared.says.LeafSays.TheVariants.{NoPlan, AtLeast}
use Rattle.cert_meaning.specs.Named.{IsNamed, Named, names}
use Rattle.cert_meaning.specs.Parts.{AreParts, AreSmall, IsPart, rows_of, sum_of_column, times_of}
use Rattle.cert_meaning.specs.Says.{IsFarkas, IsLinear}
use Rattle.cert_meaning.specs.Accepts.{Fits, GoesWith, IsAccepted, IsTrueOf}
use Rattle.cert_meaning.proofs.Rows.{taken_or_none}
use Rattle.cert_meaning.proofs.Leaves.{parts_columns}
use Rattle.cert_meaning.specs.Worked.{IsAcceptedHere, IsKnownModel, by_branches, first, model, part, plan, rank, second, third, total, weight}
use Rattle.cert_lines.specs.declared.parts.Claim.TheVariants.{Optimal}

abbrev at_first : Named
at_first = names model total [] (at_most (Y 1 1) 0 ∷ [])

abbrev at_second : Named
at_second = names model total [] (at_least (Y 1 1) 1 ∷ (at_most (Y 1 2) 0 ∷ []))

abbrev at_third : Named
at_third = names model total [] (at_least (Y 1 1) 1 ∷ (at_least (Y 1 2) 1 ∷ []))

-- ---- all items, periods and columns of the model
pub one : (P : ℕ → Type 0) → P 1 → (i : ℕ) → 1 ≤ i → i ≤ 1 → P i
one P a i low high = let e : 1 ≡ i = omega (arith, low, high) in subst P e a

pub two : (P : ℕ → Type 0) → P 1 → P 2 → (t : ℕ) → 1 ≤ t → t ≤ 2 → P t
two P a b t low high = ⊎_elim (λ less. let e : 1 ≡ t = omega (arith, low, less) in subst P e a) (λ more. let e : 2 ≡ t = omega (arith, high, more) in subst P e b) (cases_lt t 2)

pub cells : (P : ℕ → ℕ → Type 0) → P 1 1 → P 1 2 → (i t : ℕ) → 1 ≤ i → i ≤ 1 → 1 ≤ t → t ≤ 2 → P i t
cells P a b i t low high t_low t_high = one (λ j. P j t) (two (P 1) a b t t_low t_high) i low high

pub no_back : (i : ℕ) → 1 ≤ i → i ≤ 1 → IsSome (item_at model i).backlog_cost → ⊥
no_back i low high = one (λ j. IsSome (item_at model j).backlog_cost → ⊥) (λ some. cc some) i low high

pub columns : (P : Column → Type 0) → P (X 1 1) → P (X 1 2) → P (Y 1 1) → P (Y 1 2) → P (S 1 1) → P (S 1 2) → (c : Column) → IsColumn model c → P c
columns P a b k l p q (X i t) is = cells (λ i t. P (X i t)) a b i t is.0 is.1 is.2 is.3
columns P a b k l p q (Y i t) is = cells (λ i t. P (Y i t)) k l i t is.0 is.1 is.2 is.3
columns P a b k l p q (S i t) is = cells (λ i t. P (S i t)) p q i t is.0 is.1 is.2 is.3
columns P a b k l p q (R i t) is = absurd (no_back i (is.0).0 (is.0).1 is.2)

-- a part that may be taken
pub taken : (n : Named) (row : RowName) (k : ℕ) → IsNamed n row → IsPart n (part row (pos k))
taken n row k named = record { named = named; signed = λ _. omega (arith, linear) }

-- ---- small sums
-- a column that no row takes
amount_or_none : (m : Problem) (rows : List LinRow) (times : List ℤ) (c : Column) → AreOfProblem m rows → IsColumn m c ⊎ (column_amount rows times c ≡ 0)
amount_or_none m [] times c of = inr refl
amount_or_none m (r ∷ rows) [] c of = inr refl
amount_or_none m (r ∷ rows) (z ∷ times) c of =
    ⊎_elim
    (λ is. inl is)
    (λ none. ⊎_elim
    (λ is. inl is)
    (λ rest. inr (omega (arith, ap (λ y. unsigned_abs (z *ℤ y)) none, ap unsigned_abs (mul_zero z), rest)))
    (amount_or_none m rows times c of.1))
    (taken_or_none m r.terms c of.0)

abbrev IsSmallAt : Named → List Part → Column → Type 0
IsSmallAt n parts c = column_amount (rows_of n parts) (times_of parts) c < 2 ^ 127

pub small_columns : (cuts : List LinRow) (path : List Bound) (parts : List Part) → AreOfProblem model cuts → AreChoices model path → AreParts (names model total cuts path) parts → ((c : Column) → IsColumn model c → IsSmallAt (names model total cuts path) parts c) → (c : Column) → IsSmallAt (names model total cuts path) parts c
small_columns cuts path parts of choices are own c =
    let n = names model total cuts path in
    ⊎_elim
    (λ is. own c is)
    (λ none. omega (arith, none))
    (amount_or_none model (rows_of n parts) (times_of parts) c (parts_columns n parts (record { some = omega arith; cuts = of; path = choices }) are))

-- ---- by branches
first_parts : AreParts at_first first
first_parts = All-from_recursion (IsPart at_first) first ((taken at_first (Link 1 1) 1 (omega arith, omega arith, omega arith, omega arith)), ((taken at_first (Path 1) 10 (omega arith, omega arith)), ((taken at_first (Balance 1 1) 1 (omega arith, omega arith, omega arith, omega arith)), tt)))

second_parts : AreParts at_second second
second_parts = All-from_recursion (IsPart at_second) second ((taken at_second (Link 1 2) 1 (omega arith, omega arith, omega arith, omega arith)), ((taken at_second (Path 2) 10 (omega arith, omega arith)), ((taken at_second (Balance 1 2) 1 (omega arith, omega arith, omega arith, omega arith)), ((taken at_second (Capacity 1 1) 1 (omega arith, omega arith, omega arith, omega arith)), ((taken at_second (Balance 1 1) 1 (omega arith, omega arith, omega arith, omega arith)), tt)))))

third_parts : AreParts at_third third
third_parts = All-from_recursion (IsPart at_third) third ((taken at_third (Balance 1 2) 1 (omega arith, omega arith, omega arith, omega arith)), ((taken at_third (Capacity 1 2) 1 (omega arith, omega arith, omega arith, omega arith)), ((taken at_third (Path 1) 10 (omega arith, omega arith)), ((taken at_third (Path 2) 11 (omega arith, omega arith)), tt))))

first_says : IsFarkas at_first first
first_says = record {
  parts_exist = first_parts;
  columns = columns (λ c. sum_of_column at_first first c ≤ℤ pos 0) (omega (arith, linear)) (omega (arith, linear)) (omega (arith, linear)) (omega (arith, linear)) (omega (arith, linear)) (omega (arith, linear));
  right = omega (arith, linear);
}

second_says : IsFarkas at_second second
second_says = record {
  parts_exist = second_parts;
  columns = columns (λ c. sum_of_column at_second second c ≤ℤ pos 0) (omega (arith, linear)) (omega (arith, linear)) (omega (arith, linear)) (omega (arith, linear)) (omega (arith, linear)) (omega (arith, linear));
  right = omega (arith, linear);
}

third_says : IsLinear at_third (pos 1) third 23
third_says = record {
  positive = omega (arith, linear);
  parts_exist = third_parts;
  columns = columns (λ c. sum_of_column at_third third c ≤ℤ (pos 1 *ℤ pos (column_cost model c))) (omega (arith, linear)) (omega (arith, linear)) (omega (arith, linear)) (omega (arith, linear)) (omega (arith, linear)) (omega (arith, linear));
  right = record { above = omega (arith, linear); least = λ k most. omega (arith, linear, most) };
}

feasible : IsFeasible model plan
feasible = record {
  balance = cells (IsBalanced model plan) refl refl;
  setup = λ i t low high t_low t_high. omega arith;
  made = λ i t low high t_low t_high more. refl;
  capacity = cells (IsWithinCapacity model plan) (omega arith) (omega arith);
  end_stock = one (IsEndStock model plan) (omega arith, omega arith);
  backlog = λ i t low high t_low t_high. (λ _. refl, λ _. refl);
  lots = cells (IsLot model plan) (omega arith, tt) (omega arith, tt);
  horizon = cells (λ i t. model.periods < t + (item_at model i).lead → plan.make i t ≡ 0) (λ late. absurd (omega (arith, late))) (λ late. absurd (omega (arith, late)));
}

pub goes : GoesWith model (whole_ranges total) (Optimal 23) (Some plan)
goes = (plan, refl, feasible, cells _ ((omega arith, omega arith), (omega arith, omega arith)) ((omega arith, omega arith), (omega arith, omega arith)), refl)

own_choice : IsChoice model (Y 1 1)
own_choice = (omega arith, omega arith, omega arith, omega arith)

other_choice : IsChoice model (Y 1 2)
other_choice = (omega arith, omega arith, omega arith, omega arith)

choices_at : (n : ℕ) (b : Bound) → b.column ≡ Y 1 2 → AreChoices model (at_least (Y 1 1) n ∷ (b ∷ []))
choices_at n b is = All-from_recursion (λ d. IsChoice model d.column) (at_least (Y 1 1) n ∷ (b ∷ [])) (own_choice, (subst (IsChoice model) (sym is) other_choice, tt))

first_small : AreSmall at_first first
first_small = record {
  columns = small_columns [] (at_most (Y 1 1) 0 ∷ []) first tt (All-from_recursion (λ d. IsChoice model d.column) (at_most (Y 1 1) 0 ∷ []) (own_choice, tt)) first_parts
      (columns (IsSmallAt at_first first) (omega arith) (omega arith) (omega arith) (omega arith) (omega arith) (omega arith));
  right = omega arith;
}

second_small : AreSmall at_second second
second_small = record {
  columns = small_columns [] at_second.path second tt (choices_at 1 (at_most (Y 1 2) 0) refl) second_parts
      (columns (IsSmallAt at_second second) (omega arith) (omega arith) (omega arith) (omega arith) (omega arith) (omega arith));
  right = omega arith;
}

third_small : AreSmall at_third third
third_small = record {
  columns = small_columns [] at_third.path third tt (choices_at 1 (at_least (Y 1 2) 1) refl) third_parts
      (columns (IsSmallAt at_third third) (omega arith) (omega arith) (omega arith) (omega arith) (omega arith) (omega arith));
  right = omega arith;
}

pub branches_accepted : IsAccepted model total weight (whole_ranges total) by_branches (Some plan)
branches_accepted = record {
  rows = [];
  cuts = tt;
  tree = (
    record { column = (omega arith, omega arith, omega arith, omega arith); low = omega arith; high = omega arith },
    tt,
    (record { column = (omega arith, omega arith, omega arith, omega arith); low = omega arith; high = omega arith }, tt, tt),
  );
  leaves = ((NoPlan, first_says, tt), ((NoPlan, second_says, tt), (AtLeast 23, third_says, omega arith)));
  plan = goes;
}

branches_fit : Fits model total [] by_branches
branches_fit = record { cuts = tt; leaves = (first_small, (second_small, third_small)) }

pub branches_here : IsAcceptedHere by_branches
unfolding branches_accepted
branches_here = (branches_accepted, branches_fit)

-- ---- the model
series : (a b most : ℕ) → a ≤ most → b ≤ most → IsSeries 2 most (a ∷ (b ∷ []))
series a b most low high = record { size = refl; small = All-from_recursion (λ x. x ≤ most) (a ∷ (b ∷ [])) (low, (high, tt)) }

uses_are : AreUses 1 (item_at model 1).uses
uses_are = record {
  count = omega arith;
  resources_exist = All-from_recursion (λ usage. (1 ≤ usage.resource) × (usage.resource ≤ 1)) (item_at model 1).uses ((omega arith, omega arith), tt);
  times = All-from_recursion (λ usage. (usage.unit ≤ MAX_AMOUNT) × (usage.setup ≤ MAX_AMOUNT)) (item_at model 1).uses ((omega arith, omega arith), tt);
}

item_is : IsItem 1 1 2 (item_at model 1)
item_is = record {
  name = refl;
  lists = record {
    demand = series 2 8 MAX_AMOUNT (omega arith) (omega arith);
    unit_cost = series 0 0 MAX_AMOUNT (omega arith) (omega arith);
    setup_cost = series 10 10 MAX_AMOUNT (omega arith) (omega arith);
    hold_cost = series 1 1 MAX_AMOUNT (omega arith) (omega arith);
    backlog_cost = tt;
  };
  opening = omega arith;
  end_min = omega arith;
  end_max = omega arith;
  ends = omega arith;
  lead = omega arith;
  min_lot = omega arith;
  max_lot = tt;
  needs = record { count = omega arith; items_exist = All-nil (λ need. (1 ≤ need.item) × (need.item ≤ 1)); quantities = All-nil (λ need. (1 ≤ need.quantity) × (need.quantity ≤ MAX_QUANTITY)) };
  uses = uses_are;
}

limits : IsWithinLimits model
limits = record {
  some_period = omega arith;
  periods = omega arith;
  resources = omega arith;
  some_item = omega arith;
  items = omega arith;
  each_resource = one (λ k. IsResource 2 (resource_at model k)) (record { name = refl; capacity = series 6 6 MAX_AMOUNT (omega arith) (omega arith) });
  each_item = one (λ i. IsItem 1 1 2 (item_at model i)) item_is;
}

ranks : IsRanking model rank
ranks i j low high j_low j_high goes = absurd (one (λ k. 0 < per_unit model i k → ⊥) (λ more. omega (arith, more)) j j_low j_high goes)

totals : AreLargestTotals model total
totals = one (λ i. total i ≡ (sum_to model.periods (demand model i) + (item_at model i).end_max + sum_to (item_count model) (λ j. per_unit model i j * total j)) - (item_at model i).opening) refl

weights : AreWeights (bill_of model) weight
weights i k low high k_low k_high =
    let P = λ (a b : ℕ). weight a b ≡ one_if_same a b + sum_to (item_count model) (λ j. per_unit model a j * weight j b) in
    one (λ a. P a k) (one (P 1) refl k k_low k_high) i low high

pub known_model : IsKnownModel
known_model = record { limits = limits; ranks = ranks; totals = totals; weights = weights }

-- the plan that the claim is true of is the one that was given
pub best_by : IsTrueOf model (Optimal 23) (Some plan) → IsBest model plan
best_by (p, same, best, costs) = let e : p ≡ plan = cc in subst (IsBest model) e best

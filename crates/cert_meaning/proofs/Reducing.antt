-- The worked certificate by reduced costs is accepted, by what acceptance means.
use Rattle.std.proofs.Common.{◌≡◌, ◌≤◌, ◌<◌, ◌+◌, ◌*◌, ◌^◌, inl, ℕ, zero, suc, refl, subst, arith, List, [], ◌∷◌}
use Rattle.std.specs.Prelude.{min, map, Some, ℤ, pos, negsuc}
use Rattle.std.proofs.lemmas.List.Elements.{All-from_recursion, All-nil}
use Rattle.algebra.proofs.Order.{linear}
use Rattle.lot_sizing.specs.Sums.{sum_to}
use Rattle.lot_sizing.specs.Problem.{capacity, item_at, item_count, per_unit, setup_time, unit_time}
use Rattle.lot_sizing.specs.Bill.{one_if_same}
use Rattle.lot_sizing.specs.Plan.{Table}
use Rattle.lot_sizing.specs.Single.{NetPlan}
use Rattle.lin_rows.specs.declared.base.RowName.TheVariants.{Balance}
use Rattle.lin_rows.specs.declared.column.Column.{Column}
use Rattle.lin_rows.specs.declared.column.Column.TheVariants.{X, Y, S, R}
use Rattle.must_start.specs.MustStart.{AreMustStart, greatest_to, must_arrive, must_arrive_in_time}
use Rattle.must_start.specs.Lots.{IsLargestLot, IsPossibleLot}
use Rattle.late_starts.specs.OnTime.{AreOnTime, arrival}
use Rattle.late_starts.specs.Charges.{AreCharges, arriving_load, charge_of}
use Rattle.quantity_dp.specs.Lots.{IsChoice, IsLeastPrice, price}
use Rattle.quantity_dp.specs.declared.limits.TheConstants.{MAX_ENTRIES, MAX_PRICE}
use Rattle.item_groups.specs.declared.group.Group.TheVariants.{Quantities}
use Rattle.reduced_groups.specs.Groups.{AreKnown, GroupShape, Known, QuantityGroup, lots_in}
use Rattle.reduced_groups.specs.Apart.{AreApart, IsGroupOf, IsItem, share_in, times_in}
use Rattle.reduced_groups.specs.Floors.{IsWithinWork, shape_of}
use Rattle.reduced_groups.specs.Rows.{AreReduced, reduced_cost}
use Rattle.reduced_leaf.specs.Leaf.{AreGroupsFor, IsSmallSum}
use Rattle.reduced_leaf.specs.Laws.{SumsAreOne}
use Rattle.round_cuts.specs.Rounding.{column_amount}
use Rattle.cert_lines.specs.declared.parts.Part.{Part}
use Rattle.cert_trees.specs.Ranges.{IsChoice as IsChoiceColumn, whole_ranges}
use Rattle.cert_meaning.specs.declared.says.LeafSays.TheVariants.{AtLeast}
use Rattle.cert_meaning.specs.Named.{Named, names}
use Rattle.cert_meaning.specs.Parts.{AreParts, AreSmall, IsPart, rows_of, times_of}
use Rattle.cert_meaning.specs.Lists.{AreListed, HasEach, all_parts}
use Rattle.cert_meaning.specs.Says.{IsRanked, IsReducedBound, IsSumOf}
use Rattle.cert_meaning.specs.Accepts.{Fits, IsAccepted}
use Rattle.cert_meaning.specs.Worked.{IsAcceptedHere, balances, by_reduced_costs, model, plan, rank, total, weight}
use Rattle.cert_meaning.proofs.Examples.{cells, columns, goes, known_model, no_back, one, small_columns, two}

abbrev at_root : Named
at_root = names model total [] []

abbrev parts : List Part
parts = all_parts [] (balances ∷ [])

abbrev shapes : List GroupShape
shapes = map shape_of (Quantities 1 ∷ [])

-- ---- what is known of the model
abbrev start : Table
start i zero = 0
start i (suc zero) = 2
start i (suc (suc t)) = 10

abbrev known : Known
known = record { start = start; on_time = start; lot = λ i t. 5 }

start_is : AreMustStart model start
start_is = record {
  none = λ i low high. refl;
  each = cells (λ i t. start i t ≡ greatest_to (min (t + (item_at model i).lead) model.periods) (must_arrive_in_time model start i)) refl refl;
}

on_time_is : AreOnTime model start
on_time_is = record {
  none = λ i low high. refl;
  each = cells (λ i t. start i t ≡ must_arrive model start i (arrival model i t)) refl refl;
}

possible : (t : ℕ) → capacity model 1 t ≡ 6 → IsPossibleLot model total 1 t 5
possible t is = record {
  in_all = omega arith;
  most = tt;
  time = λ k low high. one (λ j. unit_time model 1 j * 5 + setup_time model 1 j ≤ capacity model j t) (omega (arith, is)) k low high;
}

largest : (t : ℕ) → capacity model 1 t ≡ 6 → IsLargestLot model total 1 t 5
largest t is = record {
  possible = inl (possible t is);
  largest = λ x can. omega (arith, is, can.time 1 (omega arith) (omega arith));
}

known_is : AreKnown model total known
known_is = record {
  start = start_is;
  on_time = on_time_is;
  lot = cells (λ i t. IsLargestLot model total i t 5) (largest 1 refl) (largest 2 refl);
}

ranked : IsRanked model total
ranked = record { rank = rank; ranks = known_model.ranks; totals = known_model.totals }

-- ---- the balances
balance : (t : ℕ) (z : ℤ) → 1 ≤ t → t ≤ 2 → IsPart at_root (record { row = Balance 1 t; times = z })
balance t z low high = record { named = (omega arith, omega arith, low, high); signed = λ no_equation. absurd (cc no_equation) }

parts_are : AreParts at_root parts
parts_are = All-from_recursion (IsPart at_root) parts (balance 1 (negsuc 1) (omega arith) (omega arith), (balance 2 (negsuc 0) (omega arith) (omega arith), tt))

listed : AreListed at_root [] (balances ∷ [])
listed = record { parts_exist = parts_are; each = All-from_recursion (HasEach at_root) (balances ∷ []) (refl, tt) }

-- ---- reduced costs
abbrev cost_of : Column → ℕ
cost_of (X i zero) = 0
cost_of (X i (suc zero)) = 2
cost_of (X i (suc (suc t))) = 1
cost_of (Y i t) = 10
cost_of (S i t) = 0
cost_of (R i t) = 0

reduced : AreReduced model (rows_of at_root parts) (times_of parts) 1 cost_of
reduced = columns (λ c. reduced_cost model (rows_of at_root parts) (times_of parts) 1 c ≡ pos (cost_of c)) refl refl refl refl refl refl

-- ---- the group
here : IsGroupOf model (QuantityGroup 1)
here = record { items = All-from_recursion (IsItem model) (1 ∷ []) ((omega arith, omega arith), tt); linked = tt; shared = tt }

once : (i : ℕ) → times_in shapes i ≤ 1
once i = at_most i
  where
    at_most : (j : ℕ) → (one_if_same 1 j + 0) + 0 ≤ 1
    at_most j = grind arith

abbrev nothing : Table
nothing i t = 0

no_charge : AreCharges model start (share_in shapes) nothing
no_charge = record {
  load = nothing;
  loads = record { each = cells (λ j v. nothing j v ≡ share_in shapes j v + sum_to (item_count model) (λ i. per_unit model i j * arriving_load model start nothing i v)) refl refl };
  each = cells (λ i v. nothing i v ≡ charge_of model start nothing i v) refl refl;
}

lie_apart : AreApart model known cost_of shapes
lie_apart = record {
  lie = record { groups = All-from_recursion (IsGroupOf model) shapes (here, tt); once = once };
  charged = record { charge = nothing; charges = no_charge; within = λ j t is. absurd (no_back j (is.0).0 (is.0).1 is.2) };
}

within : IsWithinWork model start start cost_of (QuantityGroup 1)
within = (
  two (λ t. (cost_of (Y 1 t) ≤ MAX_PRICE) × (cost_of (X 1 t) ≤ MAX_PRICE)) (omega arith, omega arith) (omega arith, omega arith),
  two (λ t. model.periods * (start 1 t + 1) ≤ MAX_ENTRIES) (omega arith) (omega arith),
)

groups : AreGroupsFor model total (rows_of at_root parts) (times_of parts) 1 shapes
groups = record {
  known = known;
  is_known = known_is;
  price = cost_of;
  reduced = reduced;
  apart = lie_apart;
  within = All-from_recursion (IsWithinWork model start start cost_of) shapes (within, tt);
}

-- ---- its number
-- five units in each period
abbrev five : NetPlan
five = record { make = λ t. 5; setup = λ t. 1 }

five_is : IsChoice (lots_in model known cost_of 1) five
five_is = record {
  setup = λ t low high. omega arith;
  lots = λ t low high. omega arith;
  started = two (λ t. start 1 t ≤ sum_to t five.make) (omega arith) (omega arith);
}

least : (q : NetPlan) → IsChoice (lots_in model known cost_of 1) q → 35 ≤ price (lots_in model known cost_of 1) q
least q choice =
    let first : q.make 1 ≤ 5 * q.setup 1 = choice.lots 1 (omega arith) (omega arith) in
    let second : q.make 2 ≤ 5 * q.setup 2 = choice.lots 2 (omega arith) (omega arith) in
    let all : 10 ≤ q.make 1 + q.make 2 = omega (arith, choice.started 2 (omega arith) (omega arith)) in
    omega (arith, first, second, all, choice.setup 1 (omega arith) (omega arith), choice.setup 2 (omega arith) (omega arith))

number_is : IsLeastPrice (lots_in model known cost_of 1) 35
number_is = record { some = (five, five_is, refl); least = least }

adds : IsSumOf at_root 1 parts (Quantities 1 ∷ []) (pos 23)
unfolding groups
adds = record { groups = groups; amounts = 35 ∷ []; numbers = (number_is, tt); sum_is = refl }

says : IsReducedBound at_root 1 [] (balances ∷ []) (Quantities 1 ∷ []) 23
says = record {
  ranked = ranked;
  listed = listed;
  positive = omega arith;
  sum = pos 23;
  adds = adds;
  right = record { above = omega (arith, linear); least = λ k most. omega (arith, linear, most) };
}

reduced_accepted : IsAccepted model total weight (whole_ranges total) by_reduced_costs (Some plan)
reduced_accepted = record {
  rows = [];
  cuts = tt;
  tree = tt;
  leaves = (AtLeast 23, says, omega arith);
  plan = goes;
}

-- ---- small sums
small : AreSmall at_root parts
small = record {
  columns = small_columns [] [] parts tt (All-nil (λ d. IsChoiceColumn model d.column)) parts_are
      (columns (λ c. column_amount (rows_of at_root parts) (times_of parts) c < 2 ^ 127) (omega arith) (omega arith) (omega arith) (omega arith) (omega arith) (omega arith));
  right = omega arith;
}

-- the sum is 23, and no other
small_sum : SumsAreOne → (sum : ℤ) → IsSumOf at_root 1 parts (Quantities 1 ∷ []) sum → IsSmallSum (rows_of at_root parts) (times_of parts) sum
small_sum same sum is =
    let e = same model rank total total (rows_of at_root parts) (times_of parts) 1 shapes known_model.ranks known_model.totals known_model.totals (pos 23) sum adds is in
    subst (IsSmallSum (rows_of at_root parts) (times_of parts)) e (record { added = omega (arith, linear); small = omega arith })

reduced_fit : SumsAreOne → Fits model total [] by_reduced_costs
reduced_fit same = record { cuts = tt; leaves = (small, small_sum same) }

pub reduced_here : SumsAreOne → IsAcceptedHere by_reduced_costs
unfolding reduced_accepted
reduced_here same = (reduced_accepted, reduced_fit same)

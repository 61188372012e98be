-- How many rows and columns the program has, and how many parts its leaf.
use Rattle.std.proofs.Common.{◌≡◌, ◌≤◌, ◌+◌, ◌-◌, ◌*◌, ◌∙◌, ℕ, zero, suc, sym, ap, arith, true, false, List, [], ◌∷◌, ◌++◌, length, length-append}
use Rattle.std.specs.Prelude.{ℤ, pos, negsuc}
use Rattle.std.proofs.lemmas.List.{length-map}
use Rattle.std.proofs.Math.Nat.{mul-le-mul_left, mul-le-mul_right}
use Rattle.lot_sizing.specs.Sums.{sum_to}
use Rattle.lot_sizing.specs.Problem.{IsWithinLimits, Problem, item_count, resource_count}
use Rattle.lin_rows.specs.declared.base.RowName.TheVariants.{Balance, Link, Capacity, Top, Least, Late, Path}
use Rattle.lin_rows.specs.declared.bound.Bound.{Bound}
use Rattle.lin_rows.specs.Columns.{column_count, owes, owing_count}
use Rattle.cert_lines.specs.declared.limits.TheConstants.{MAX_BRANCHES}
use Rattle.tableau.specs.Program.{Program, column_count as width_of, row_count}
use Rattle.cert_meaning.specs.Named.{row_named}
use Rattle.lp_relaxation.specs.declared.limits.TheConstants.{MAX_ROUND_SIZE}
use Rattle.lp_relaxation.specs.declared.program.Side.{Side}
use Rattle.lp_relaxation.specs.Names.{base_names, cell_names, end_name, is_made, names_to}
use Rattle.lp_relaxation.specs.Sides.{all_sides, part_of, parts_of, side_inequality}
use Rattle.lp_relaxation.proofs.Listing.{filter_few, to_count, cell_count, owes_few, owing_few, sides_few}
use Rattle.lp_bounds.specs.Path.{on_path, path_names}
use Rattle.lp_bounds.specs.Steps.{IsMadeOf}

times_few : (a b c d : ℕ) → a ≤ c → b ≤ d → a * b ≤ c * d
times_few a b c d first second = omega (arith, mul-le-mul_right b first, mul-le-mul_left c second)

module _ (m : Problem) (within : IsWithinLimits m) where
  cells_few : item_count m * m.periods ≤ 40 * 120
  cells_few = times_few (item_count m) m.periods 40 120 (omega (arith, within.items)) (omega (arith, within.periods))

  capacities_few : resource_count m * m.periods ≤ 20 * 120
  capacities_few = times_few (resource_count m) m.periods 20 120 (omega (arith, within.resources)) (omega (arith, within.periods))

  owings_few : owing_count m (item_count m) ≤ 40 * 120
  owings_few =
      let some = owing_few (item_count m) (owes m) (λ i. owes_few _) in
      times_few (sum_to (item_count m) (owes m)) (m.periods - 1) 40 120 (omega (arith, some, within.items)) (omega (arith, within.periods))

  columns_few : column_count m ≤ 4 * (40 * 120)
  columns_few = omega (arith, cells_few, owings_few)

  base_few : length (base_names m) ≤ 30000
  base_few =
      let n = item_count m in
      let T = m.periods in
      let balances = cell_names n T (λ i t. Balance i t) in
      let lates = cell_names n T (λ i t. Late i t) in
      let leasts = cell_names n T (λ i t. Least i t) ++ lates in
      let tops = cell_names n T (λ i t. Top i t) ++ leasts in
      let largest = names_to n (end_name true) ++ tops in
      let least = names_to n (end_name false) ++ largest in
      let capacities = cell_names (resource_count m) T (λ k t. Capacity k t) ++ least in
      let links = cell_names n T (λ i t. Link i t) ++ capacities in
      omega (
        arith,
        filter_few (is_made m) (balances ++ links),
        length-append balances links,
        length-append (cell_names n T (λ i t. Link i t)) capacities,
        length-append (cell_names (resource_count m) T (λ k t. Capacity k t)) least,
        length-append (names_to n (end_name false)) largest,
        length-append (names_to n (end_name true)) tops,
        length-append (cell_names n T (λ i t. Top i t)) leasts,
        length-append (cell_names n T (λ i t. Least i t)) lates,
        cell_count n T (λ i t. Balance i t),
        cell_count n T (λ i t. Link i t),
        cell_count (resource_count m) T (λ k t. Capacity k t),
        to_count n (end_name false),
        to_count n (end_name true),
        cell_count n T (λ i t. Top i t),
        cell_count n T (λ i t. Least i t),
        cell_count n T (λ i t. Late i t),
        cells_few,
        capacities_few,
        within.items,
      )

module _ (m : Problem) (total : ℕ → ℕ) (path : List Bound) (n : ℕ) (p : Program) (list : List Side) (is : IsMadeOf m total path n p list) where
  -- one for each row
  pub one_side_each : length list ≡ row_count p
  one_side_each =
      let row = row_named (on_path m total path) in
      ap length is.sides_are ∙ sym (ap length is.program.rows_are ∙ length-map (all_sides row (path_names m n)) (side_inequality m row))

  pub few_sides : IsWithinLimits m → length list ≤ 60000 + 2 * n
  few_sides within =
      let row = row_named (on_path m total path) in
      omega (arith, ap length is.sides_are, sides_few row (path_names m n), length-append (base_names m) (names_to n (λ k. Path k)), base_few m within, to_count n (λ k. Path k))

  pub few_all : IsWithinLimits m → n ≤ MAX_BRANCHES → width_of p + row_count p ≤ MAX_ROUND_SIZE
  few_all within few = omega (arith, is.program.costs_are.size, columns_few m within, one_side_each, few_sides within, few)

-- ---- parts
pub part_few : (s : Side) (z : ℤ) → length (part_of s z) ≤ 1
part_few s (pos zero) = omega arith
part_few s (pos (suc n)) = omega arith
part_few s (negsuc n) = omega arith

pub parts_few : (sides : List Side) (z : ℕ → ℤ) → length (parts_of sides z) ≤ length sides
parts_few [] z = omega arith
parts_few (s ∷ sides) z = omega (arith, length-append (part_of s (z zero)) (parts_of sides (λ k. z (suc k))), part_few s (z zero), parts_few sides (λ k. z (suc k)))

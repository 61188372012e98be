-- How many cuts the rounds of the root find, how many rows and columns their programs have, and how many parts a leaf of them has.
use Rattle.std.proofs.Common.{◌≡◌, ◌≤◌, ◌+◌, ◌-◌, ◌*◌, ◌∙◌, ⊎_elim, ℕ, zero, suc, refl, ap, arith, Bool, true, false, List, [], ◌∷◌, ◌++◌, length, length-append}
use Rattle.std.proofs.lemmas.Bool.{cases_lt}
use Rattle.std.proofs.lemmas.List.Elements.{filter-append}
use Rattle.std.proofs.lemmas.List.Sums.{count_by-le-length, length-filter}
use Rattle.std.proofs.Math.Nat.{mul-le-mul, mul-le-mul_left, mul-le-mul_right}
use Rattle.lot_sizing.specs.Problem.{IsWithinLimits, Problem, item_count, resource_count}
use Rattle.lin_rows.specs.declared.base.RowName.{RowName}
use Rattle.lin_rows.specs.declared.base.RowName.TheVariants.{Balance, Link, Capacity, Top, Least, Late, Cut as CutRow}
use Rattle.lin_rows.specs.Columns.{column_count}
use Rattle.lin_rows.specs.Rows.{LinRow}
use Rattle.echelon.specs.declared.net.EchelonItem.{EchelonItem}
use Rattle.ls_cuts.specs.Points.{Fractions}
use Rattle.cert_lines.specs.declared.limits.TheConstants.{MAX_CUTS, MAX_PARTS}
use Rattle.cert_lines.specs.Shapes.{CutShape}
use Rattle.tableau.specs.declared.outcome.Outcome.{Outcome}
use Rattle.tableau.specs.declared.outcome.Outcome.TheVariants as outcome
use Rattle.cert_meaning.specs.Named.{row_named}
use Rattle.lp_relaxation.specs.Names.{base_names, cell_names, cut_names, end_name, is_made, made_names, names_to, round_names}
use Rattle.lp_relaxation.specs.Rounds.{at_root, round_sides}
use Rattle.lp_relaxation.specs.Sides.{all_sides, sides_of}
use Rattle.lp_relaxation.specs.declared.limits.TheConstants.{MAX_CELLS}
use Rattle.lp_relaxation.proofs.Listing.{to_count as names_long, cell_count as cells_long, sides_few}
use Rattle.lp_root.specs.declared.at_root.TheConstants.{MAX_ROUNDS}
use Rattle.lp_root.specs.Root.{first_cells}
use Rattle.lp_root.specs.Rounds.{AreCutsAfter, AreCutsAt, AreCutsFound, AreCutsOf, AreJoined, AtLeastPoint, PassesFirst}

-- ---- cuts
joined_long : (P : ℕ → List CutShape → Type 0) (k : ℕ) → ((i : ℕ) (cuts : List CutShape) → P i cuts → length cuts ≤ k) → (n : ℕ) (cuts : List CutShape) → AreJoined n P cuts → length cuts ≤ n * k
joined_long P k long zero cuts is = omega (arith, ap length is)
joined_long P k long (suc n) cuts (before, last, front, here, is) =
    omega (arith, ap length is, length-append before last, joined_long P k long n before front, long (suc n) last here)

at_long : (e : EchelonItem) (read : Fractions) (l : ℕ) (cuts : List CutShape) → AreCutsAt e read l cuts → length cuts ≤ 1
at_long e read l [] is = omega arith
at_long e read l (c ∷ []) is = omega arith
at_long e read l (c ∷ (d ∷ rest)) is = absurd is

module _ (m : Problem) (weight : ℕ → ℕ → ℕ) (read : Fractions) where
  of_long : (i : ℕ) (cuts : List CutShape) → AreCutsOf m weight read i cuts → length cuts ≤ m.periods
  of_long i cuts is =
      ⊎_elim
      (λ none. omega (arith, ap length none.1))
      (λ some. omega (arith, joined_long (AreCutsAt some.0 read) 1 (at_long some.0 read) m.periods cuts some.2))
      is

  pub found_long : (cuts : List CutShape) → AreCutsFound m weight read cuts → length cuts ≤ item_count m * m.periods
  found_long cuts is = joined_long (AreCutsOf m weight read) m.periods of_long (item_count m) cuts is

  pub passes_long : (i l : ℕ) (cuts : List CutShape) → PassesFirst m weight read i l cuts → length cuts ≤ item_count m * m.periods
  passes_long i l cuts (before, here, items, at, is) =
      let first = joined_long (AreCutsOf m weight read) m.periods of_long (i - 1) before items in
      let second = joined_long (AreCutsAt at.echelon read) 1 (at_long at.echelon read) (l - 1) here at.before in
      let low : 1 ≤ i = at.is_echelon.exists.low in
      let high : i ≤ item_count m = at.is_echelon.exists.high in
      let all : suc (i - 1) * m.periods ≤ item_count m * m.periods = mul-le-mul_right m.periods (omega (arith, low, high)) in
      omega (arith, ap length is, length-append before here, first, second, at.high, all)

pub some_read : (m : Problem) (end : Outcome) (P : Fractions → Type 0) → AtLeastPoint m end P → (read : Fractions) × P read
some_read m (outcome.Least point multipliers value) P (read, reads, is) = (read, is)
some_read m (outcome.Empty multipliers) P is = absurd is
some_read m (outcome.Stopped made) P is = absurd is
some_read m (outcome.Passed pivot row column) P is = absurd is

pub after_long : (m : Problem) (total : ℕ → ℕ) (weight : ℕ → ℕ → ℕ) (n : ℕ) (cuts : List CutShape) → AreCutsAfter m total weight n cuts → length cuts ≤ n * (item_count m * m.periods)
after_long m total weight zero cuts is = omega (arith, ap length is)
after_long m total weight (suc n) cuts (before, found, first, more, is) =
    let (read, are) = some_read m more.end (λ read. AreCutsFound m weight read found) more.found_are in
    omega (arith, ap length is, length-append before found, after_long m total weight n before first, found_long m weight read found are)

-- ---- rows and columns of the first program
sides_some : (name : RowName) (equal : Bool) → 1 ≤ length (sides_of name equal)
sides_some name true = omega arith
sides_some name false = omega arith

sides_many : (row : RowName → LinRow) (names : List RowName) → length names ≤ length (all_sides row names)
sides_many row [] = omega arith
sides_many row (name ∷ names) =
    omega (arith, length-append (sides_of name (row name).equal) (all_sides row names), sides_some name (row name).equal, sides_many row names)

module _ (m : Problem) where
  made_long : (a b : List RowName) → length (made_names m (a ++ b)) ≡ length (made_names m a) + length (made_names m b)
  made_long a b = ap length (filter-append (is_made m) a b) ∙ length-append (made_names m a) (made_names m b)

  made_all : (n : ℕ) (f : ℕ → RowName) → ((t : ℕ) → is_made m (f t) ≡ true) → length (made_names m (names_to n f)) ≡ n
  made_all zero f made = refl
  made_all (suc n) f made = omega (arith, made_long (names_to n f) (f (suc n) ∷ []), made_all n f made, made_one)
    where
      made_one : length (made_names m (f (suc n) ∷ [])) ≡ 1
      made_one = rw (made (suc n)) refl

  made_cells : (n periods : ℕ) (f : ℕ → ℕ → RowName) → ((i t : ℕ) → is_made m (f i t) ≡ true) → length (made_names m (cell_names n periods f)) ≡ n * periods
  made_cells zero periods f made = omega arith
  made_cells (suc n) periods f made =
      omega (arith, made_long (cell_names n periods f) (names_to periods (f (suc n))), made_cells n periods f made, made_all periods (f (suc n)) (made (suc n)))

  names_many : 3 * (item_count m * m.periods) ≤ length (base_names m)
  names_many =
      let n = item_count m in
      let balances = cell_names n m.periods (λ i t. Balance i t) in
      let links = cell_names n m.periods (λ i t. Link i t) in
      let capacities = cell_names (resource_count m) m.periods (λ i t. Capacity i t) in
      let least = names_to n (end_name false) in
      let largest = names_to n (end_name true) in
      let tops = cell_names n m.periods (λ i t. Top i t) in
      let last = cell_names n m.periods (λ i t. Least i t) ++ cell_names n m.periods (λ i t. Late i t) in
      omega (
        arith,
        made_long balances (links ++ (capacities ++ (least ++ (largest ++ (tops ++ last))))),
        made_long links (capacities ++ (least ++ (largest ++ (tops ++ last)))),
        made_long capacities (least ++ (largest ++ (tops ++ last))),
        made_long least (largest ++ (tops ++ last)),
        made_long largest (tops ++ last),
        made_long tops last,
        made_cells n m.periods (λ i t. Balance i t) (λ i t. refl),
        made_cells n m.periods (λ i t. Link i t) (λ i t. refl),
        made_cells n m.periods (λ i t. Top i t) (λ i t. refl),
      )

  rows_many : (total : ℕ → ℕ) → 3 * (item_count m * m.periods) ≤ length (round_sides m total [])
  rows_many total =
      let row = row_named (at_root m total []) in
      omega (arith, names_many, length-append (base_names m) (cut_names 0), sides_many row (round_names m 0))

  -- so the rounds of a program that isn't too large find no more cuts than a certificate has
  pub few_cuts : (total : ℕ → ℕ) (n : ℕ) → first_cells m total ≤ MAX_CELLS → n ≤ MAX_ROUNDS * (item_count m * m.periods) → n ≤ MAX_CUTS
  few_cuts total n small few =
      ⊎_elim
      (λ less. omega (arith, few, less))
      (λ more. absurd (too_many more))
      (cases_lt (item_count m * m.periods) 600)
    where
      rows : ℕ
      rows = length (round_sides m total []) + 1

      too_many : 600 ≤ item_count m * m.periods → ⊥
      too_many more =
          let high : 1800 ≤ rows = omega (arith, rows_many total, more) in
          let wide : 1800 ≤ column_count m + 1 = omega (arith, more) in
          let one : 1800 * 1800 ≤ rows * 1800 = mul-le-mul_right 1800 high in
          let two : rows * 1800 ≤ rows * (column_count m + 1) = mul-le-mul_left rows wide in
          omega (arith, one, two, small)

module _ (m : Problem) (limits : IsWithinLimits m) where
  names_few : length (base_names m) ≤ 26480
  names_few =
      let n = item_count m in
      let balances = cell_names n m.periods (λ i t. Balance i t) in
      let links = cell_names n m.periods (λ i t. Link i t) in
      let capacities = cell_names (resource_count m) m.periods (λ i t. Capacity i t) in
      let least = names_to n (end_name false) in
      let largest = names_to n (end_name true) in
      let tops = cell_names n m.periods (λ i t. Top i t) in
      let lots = cell_names n m.periods (λ i t. Least i t) in
      let late = cell_names n m.periods (λ i t. Late i t) in
      let after_links = capacities ++ (least ++ (largest ++ (tops ++ (lots ++ late)))) in
      let all = balances ++ (links ++ after_links) in
      let items : n * m.periods ≤ 40 * 120 = mul-le-mul limits.items limits.periods in
      let resources : resource_count m * m.periods ≤ 20 * 120 = mul-le-mul limits.resources limits.periods in
      omega (
        arith,
        length-filter (is_made m) all,
        count_by-le-length (is_made m) all,
        length-append balances (links ++ after_links),
        length-append links after_links,
        length-append capacities (least ++ (largest ++ (tops ++ (lots ++ late)))),
        length-append least (largest ++ (tops ++ (lots ++ late))),
        length-append largest (tops ++ (lots ++ late)),
        length-append tops (lots ++ late),
        length-append lots late,
        cells_long n m.periods (λ i t. Balance i t),
        cells_long n m.periods (λ i t. Link i t),
        cells_long (resource_count m) m.periods (λ i t. Capacity i t),
        names_long n (end_name false),
        names_long n (end_name true),
        cells_long n m.periods (λ i t. Top i t),
        cells_long n m.periods (λ i t. Least i t),
        cells_long n m.periods (λ i t. Late i t),
        limits.items,
        items,
        resources,
      )

  pub few_sides : (total : ℕ → ℕ) (rows : List LinRow) → length rows ≤ MAX_CUTS → length (round_sides m total rows) ≤ MAX_PARTS
  few_sides total rows few =
      let row = row_named (at_root m total rows) in
      omega (
        arith,
        sides_few row (round_names m (length rows)),
        length-append (base_names m) (cut_names (length rows)),
        names_few,
        names_long (length rows) (λ k. CutRow k),
        few,
      )

-- Names put after others, and how many there are.
use Rattle.std.proofs.Common.{◌≡◌, ◌≤◌, ◌+◌, ◌-◌, ◌*◌, ◌∙◌, ⊎_elim, ℕ, zero, suc, refl, sym, ap, subst, arith, Bool, true, false, List, [], ◌∷◌, ◌++◌, length, append_assoc, append-nil, length-append}
use Rattle.std.specs.Prelude.{if◌then◌else◌}
use Rattle.std.specs.List.{filter}
use Rattle.std.proofs.lemmas.Bool.{cases_Bool}
use Rattle.std.proofs.lemmas.List.Elements.{filter-append}
use Rattle.std.proofs.Math.Nat.{mul-le-mul_left, mul-le-mul_right}
use Rattle.lot_sizing.specs.Sums.{sum_to}
use Rattle.lot_sizing.specs.Problem.{IsWithinLimits, Problem, item_count, resource_count}
use Rattle.lin_rows.specs.declared.base.RowName.{RowName}
use Rattle.lin_rows.specs.declared.base.RowName.TheVariants.{Cut}
use Rattle.lin_rows.specs.Columns.{column_count, owes, owing_count}
use Rattle.lin_rows.specs.Rows.{LinRow}
use Rattle.cert_meaning.specs.Named.{row_named}
use Rattle.lp_relaxation.specs.declared.limits.TheConstants.{MAX_ROUND_CUTS, MAX_ROUND_SIZE}
use Rattle.lp_relaxation.specs.declared.names.Kind.TheVariants as kind
use Rattle.lp_relaxation.specs.Laws.{RoundsAreFew}
use Rattle.lp_relaxation.specs.Names.{PutNames, base_names, cell_names, cut_names, end_name, is_made, kind_names, made_names, name_in, names_to, round_names}
use Rattle.lp_relaxation.specs.Rounds.{at_root, round_sides}
use Rattle.lp_relaxation.specs.Sides.{all_sides, side_inequality, sides_of}
use Rattle.lp_relaxation.proofs.Growing.{map_length}

-- ---- names that are put after others
module _ (m : Problem) where
  pub put_none : (old : List RowName) → PutNames m old [] old
  put_none old = sym (append-nil old)

  pub put_then : (old more mid others new : List RowName) → PutNames m old more mid → PutNames m mid others new → PutNames m old (more ++ others) new
  put_then old more mid others new first second =
      second ∙ ap (λ ns. ns ++ made_names m others) first ∙ append_assoc old (made_names m more) (made_names m others)
      ∙ ap (λ ns. old ++ ns) (sym (filter-append (is_made m) more others))

  -- one more of a list from 1 on
  pub put_next : (all : ℕ → List RowName) (f : ℕ → List RowName) → ((n : ℕ) → all (suc n) ≡ all n ++ f (suc n)) → (n : ℕ) (old mid new : List RowName) → 1 ≤ n → PutNames m old (all (n - 1)) mid → PutNames m mid (f n) new → PutNames m old (all (n + 1 - 1)) new
  put_next all f grows n old mid new low first second =
      let e : suc (n - 1) ≡ n + 1 - 1 = omega (arith, low) in
      let same : suc (n - 1) ≡ n = omega (arith, low) in
      subst (λ k. PutNames m old (all k) new) e
      (subst (λ ns. PutNames m old ns new) (sym (grows (n - 1)))
      (put_then old (all (n - 1)) mid (f (suc (n - 1))) new first (subst (λ k. PutNames m mid (f k) new) (sym same) second)))

  pub put_names : (f : ℕ → RowName) (n : ℕ) (old mid new : List RowName) → 1 ≤ n → PutNames m old (names_to (n - 1) f) mid → PutNames m mid (f n ∷ []) new → PutNames m old (names_to (n + 1 - 1) f) new
  put_names f = put_next (λ k. names_to k f) (λ k. f k ∷ []) (λ k. refl)

  pub put_cells : (T : ℕ) (f : ℕ → ℕ → RowName) (n : ℕ) (old mid new : List RowName) → 1 ≤ n → PutNames m old (cell_names (n - 1) T f) mid → PutNames m mid (names_to T (f n)) new → PutNames m old (cell_names (n + 1 - 1) T f) new
  put_cells T f = put_next (λ k. cell_names k T f) (λ k. names_to T (f k)) (λ k. refl)

  -- the name of a last stock always has a row
  pub end_put : (b : Bool) (i : ℕ) (old : List RowName) → PutNames m old (end_name b i ∷ []) (old ++ (end_name b i ∷ []))
  end_put true i old = refl
  end_put false i old = refl

  abbrev lates : List RowName
  lates = kind_names m kind.Late

  abbrev from_leasts : List RowName
  from_leasts = kind_names m kind.Least ++ lates

  abbrev from_tops : List RowName
  from_tops = kind_names m kind.Top ++ from_leasts

  abbrev from_maxes : List RowName
  from_maxes = names_to (item_count m) (end_name true) ++ from_tops

  abbrev from_mins : List RowName
  from_mins = names_to (item_count m) (end_name false) ++ from_maxes

  abbrev from_capacities : List RowName
  from_capacities = kind_names m kind.Capacity ++ from_mins

  abbrev from_links : List RowName
  from_links = kind_names m kind.Link ++ from_capacities

  abbrev all : List RowName
  all = kind_names m kind.Balance ++ from_links

  -- all kinds in their order
  pub base_put : (a b c d e f g h : List RowName)
      → PutNames m [] (kind_names m kind.Balance) a → PutNames m a (kind_names m kind.Link) b → PutNames m b (kind_names m kind.Capacity) c
      → PutNames m c (names_to (item_count m) (end_name false)) d → PutNames m d (names_to (item_count m) (end_name true)) e
      → PutNames m e (kind_names m kind.Top) f → PutNames m f (kind_names m kind.Least) g → PutNames m g (kind_names m kind.Late) h
      → h ≡ base_names m
  base_put a b c d e f g h balances links capacities mins maxes tops leasts last =
      let f_is = put_then f (kind_names m kind.Least) g lates h leasts last in
      let e_is = put_then e (kind_names m kind.Top) f from_leasts h tops f_is in
      let d_is = put_then d (names_to (item_count m) (end_name true)) e from_tops h maxes e_is in
      let c_is = put_then c (names_to (item_count m) (end_name false)) d from_maxes h mins d_is in
      let b_is = put_then b (kind_names m kind.Capacity) c from_mins h capacities c_is in
      let a_is = put_then a (kind_names m kind.Link) b from_capacities h links b_is in
      put_then [] (kind_names m kind.Balance) a from_links h balances a_is

-- ---- how many there are
pub filter_few : (p : RowName → Bool) (names : List RowName) → length (filter p names) ≤ length names
filter_few p [] = omega arith
filter_few p (name ∷ names) =
    let rest = filter_few p names in
    ⊎_elim (λ yes. rw yes (omega (arith, rest))) (λ no. rw no (omega (arith, rest))) (cases_Bool (p name))

pub to_count : (n : ℕ) (f : ℕ → RowName) → length (names_to n f) ≡ n
to_count zero f = refl
to_count (suc n) f = omega (arith, length-append (names_to n f) (f (suc n) ∷ []), to_count n f)

pub cell_count : (n T : ℕ) (f : ℕ → ℕ → RowName) → length (cell_names n T f) ≡ n * T
cell_count zero T f = omega arith
cell_count (suc n) T f = omega (arith, length-append (cell_names n T f) (names_to T (f (suc n))), cell_count n T f, to_count T (f (suc n)))

pub side_few : (name : RowName) (e : Bool) → length (sides_of name e) ≤ 2
side_few name true = omega arith
side_few name false = omega arith

pub sides_few : (row : RowName → LinRow) (names : List RowName) → length (all_sides row names) ≤ 2 * length names
sides_few row [] = omega arith
sides_few row (name ∷ names) = omega (arith, length-append (sides_of name (row name).equal) (all_sides row names), side_few name (row name).equal, sides_few row names)

pub owes_few : (b : Bool) → (if b then 1 else 0) ≤ 1
owes_few true = omega arith
owes_few false = omega arith

pub owing_few : (n : ℕ) (f : ℕ → ℕ) → ((i : ℕ) → f i ≤ 1) → sum_to n f ≤ n
owing_few zero f each = omega arith
owing_few (suc n) f each = omega (arith, owing_few n f each, each (suc n))

times_few : (a b c d : ℕ) → a ≤ c → b ≤ d → a * b ≤ c * d
times_few a b c d first second = omega (arith, mul-le-mul_right b first, mul-le-mul_left c second)

module _ (m : Problem) (within : IsWithinLimits m) where
  cells_few : item_count m * m.periods ≤ 40 * 120
  cells_few = times_few (item_count m) m.periods 40 120 (omega (arith, within.items)) (omega (arith, within.periods))

  owings_few : owing_count m (item_count m) ≤ 40 * 120
  owings_few =
      let some = owing_few (item_count m) (owes m) (λ i. owes_few _) in
      times_few (sum_to (item_count m) (owes m)) (m.periods - 1) 40 120 (omega (arith, some, within.items)) (omega (arith, within.periods))

  pub columns_few : column_count m ≤ 4 * (40 * 120)
  columns_few = omega (arith, cells_few, owings_few)

  tops_few : length (from_tops m) ≤ 3 * (40 * 120)
  tops_few =
      let n = item_count m in
      let T = m.periods in
      omega (arith, length-append (kind_names m kind.Top) (from_leasts m), length-append (kind_names m kind.Least) (lates m), cell_count n T (name_in kind.Top), cell_count n T (name_in kind.Least), cell_count n T (name_in kind.Late), cells_few)

  mins_few : length (from_mins m) ≤ 80 + 3 * (40 * 120)
  mins_few =
      let n = item_count m in
      omega (arith, length-append (names_to n (end_name false)) (from_maxes m), length-append (names_to n (end_name true)) (from_tops m), to_count n (end_name false), to_count n (end_name true), tops_few, within.items)

  capacities_few : resource_count m * m.periods ≤ 20 * 120
  capacities_few = times_few (resource_count m) m.periods 20 120 (omega (arith, within.resources)) (omega (arith, within.periods))

  all_few : length (all m) ≤ 30000
  all_few =
      let n = item_count m in
      let T = m.periods in
      omega (
        arith,
        length-append (kind_names m kind.Balance) (from_links m),
        length-append (kind_names m kind.Link) (from_capacities m),
        length-append (kind_names m kind.Capacity) (from_mins m),
        cell_count n T (name_in kind.Balance),
        cell_count n T (name_in kind.Link),
        cell_count (resource_count m) T (name_in kind.Capacity),
        cells_few,
        capacities_few,
        mins_few,
      )

  base_few : length (base_names m) ≤ 30000
  base_few = omega (arith, filter_few (is_made m) (all m), all_few)

  round_few : (total : ℕ → ℕ) (rows : List LinRow) → length rows ≤ MAX_ROUND_CUTS → column_count m + length (round_sides m total rows) ≤ MAX_ROUND_SIZE
  round_few total rows few =
      let k = length rows in
      omega (arith, columns_few, sides_few (row_named (at_root m total rows)) (round_names m k), length-append (base_names m) (cut_names k), to_count k (λ j. Cut j), base_few, few)

pub rounds_are_few : RoundsAreFew
rounds_are_few m total rows p list within few is =
    let sides = round_sides m total rows in
    let long = ap length is.program.rows_are ∙ map_length (side_inequality m (row_named (at_root m total rows))) sides in
    record {
      sides = ap length is.sides_are ∙ sym long;
      few = omega (arith, is.program.costs_are.size, long, round_few m within total rows few);
    }

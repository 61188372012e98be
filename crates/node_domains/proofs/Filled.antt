-- Lists of ranges and grids as loops make them.
use Rattle.std.proofs.Common.{◌≡◌, ◌≤◌, ◌<◌, ◌+◌, ◌-◌, ◌*◌, ◌∙◌, ⊎_elim, ℕ, zero, suc, refl, sym, ap, subst, arith, List, [], ◌∷◌, ◌++◌, length, replicate, append_assoc, add-one}
use Rattle.std.proofs.lemmas.Bool.{cases_lt}
use Rattle.std.proofs.lemmas.List.{length-append}
use Rattle.std.proofs.lemmas.Nat.{mul-add-lt}
use Rattle.lot_sizing.specs.Problem.{Problem, item_count}
use Rattle.lot_sizing.specs.Plan.{Table}
use Rattle.lin_rows.specs.declared.column.Column.{Column}
use Rattle.lin_rows.specs.declared.column.Column.TheVariants.{X, Y, S, R}
use Rattle.lin_rows.specs.Columns.{cell_count}
use Rattle.plan_rules.specs.Cells.{Cells, Fits, table_of}
use Rattle.plan_rules.specs.Rows.{OtherRowsSame}
use Rattle.cert_trees.specs.Ranges.{IsChoice}
use Rattle.cert_trees.specs.Spans.{Span}
use Rattle.tree_search.specs.declared.node.Range.{Range}
use Rattle.tree_search.specs.Ranges.{AreOrdered, height, range_at, width}
use Rattle.tree_search.specs.Whole.{WholeIsMeasured, item_ranges, up_to}
use Rattle.tree_search.proofs.Halves.{digits-le}
use Rattle.node_domains.specs.declared.within.Ranges.{Ranges as Given}
use Rattle.node_domains.specs.Listed.{AreListed, grid_list, row_list}
use Rattle.node_domains.specs.Nodes.{IsNodeOf, cell_place, choice_place, span_in}
use Rattle.node_domains.specs.Numbering.{cell_below, place_x, place_y}
use Rattle.node_domains.specs.Within.{AreGiven, given_ranges}

-- ---- lists of ranges
replicate_push : (n : ℕ) (r : Range) → replicate n r ++ (r ∷ []) ≡ replicate (suc n) r
replicate_push zero r = refl
replicate_push (suc n) r = ap (λ (rs : List Range). r ∷ rs) (replicate_push n r)

-- the range of an item and a period
abbrev pub cell_range : Table → Table → ℕ → ℕ → Range
cell_range low high i t = record { low = low i t; high = high i t }

row_on : (low high : Table) (i t : ℕ) → row_list low high i t ++ (cell_range low high i (t + 1) ∷ []) ≡ row_list low high i (t + 1)
row_on low high i t = ap (λ k. row_list low high i t ++ (cell_range low high i k ∷ [])) (add-one t) ∙ ap (λ k. row_list low high i k) (sym (add-one t))

pub row_more : (old now new : List Range) (low high : Table) (i t least most : ℕ) → least ≡ low i (t + 1) → most ≡ high i (t + 1) → now ≡ old ++ row_list low high i t → new ≡ now ++ ((let r : Range = record { low = least; high = most } in r) ∷ []) → new ≡ old ++ row_list low high i (t + 1)
row_more old now new low high i t least most first last is next =
    next
    ∙ ap (λ n. now ++ ((let r : Range = record { low = n; high = most } in r) ∷ [])) first
    ∙ ap (λ n. now ++ ((let r : Range = record { low = low i (t + 1); high = n } in r) ∷ [])) last
    ∙ ap (λ (rs : List Range). rs ++ (cell_range low high i (t + 1) ∷ [])) is
    ∙ append_assoc old (row_list low high i t) (cell_range low high i (t + 1) ∷ [])
    ∙ ap (λ (rs : List Range). old ++ rs) (row_on low high i t)

grid_on : (low high : Table) (i T : ℕ) → 1 ≤ i → grid_list low high (i - 1) T ++ row_list low high i T ≡ grid_list low high i T
grid_on low high zero T some = absurd (omega (arith, some))
grid_on low high (suc i) T some = let one : suc i - 1 ≡ i = omega arith in ap (λ j. grid_list low high j T ++ row_list low high (suc i) T) one

pub grid_more : (old now new : List Range) (low high : Table) (i T : ℕ) → 1 ≤ i → now ≡ old ++ grid_list low high (i - 1) T → new ≡ now ++ row_list low high i T → new ≡ old ++ grid_list low high (i + 1 - 1) T
grid_more old now new low high i T some is next =
    next
    ∙ ap (λ (rs : List Range). rs ++ row_list low high i T) is
    ∙ append_assoc old (grid_list low high (i - 1) T) (row_list low high i T)
    ∙ ap (λ (rs : List Range). old ++ rs) (grid_on low high i T some)
    ∙ ap (λ j. old ++ grid_list low high j T) (let one : i ≡ i + 1 - 1 = omega arith in one)

-- ---- what stands in the whole list
at_front : (xs ys : List Range) (k : ℕ) → k < length xs → range_at (xs ++ ys) k ≡ range_at xs k
at_front [] ys k less = absurd (omega (arith, less))
at_front (x ∷ xs) ys zero less = refl
at_front (x ∷ xs) ys (suc k) less = at_front xs ys k (omega (arith, less))

at_end : (xs ys : List Range) (k j : ℕ) → k ≡ length xs + j → range_at (xs ++ ys) k ≡ range_at ys j
at_end [] ys k j is = ap (range_at ys) (omega (arith, is))
at_end (x ∷ xs) ys zero j is = absurd (omega (arith, is))
at_end (x ∷ xs) ys (suc k) j is = at_end xs ys k j (omega (arith, is))

row_length : (low high : Table) (i T : ℕ) → length (row_list low high i T) ≡ T
row_length low high i zero = refl
row_length low high i (suc T) = omega (arith, length-append (row_list low high i T) (cell_range low high i (suc T) ∷ []), row_length low high i T)

grid_length : (low high : Table) (n T : ℕ) → length (grid_list low high n T) ≡ n * T
grid_length low high zero T = omega arith
grid_length low high (suc n) T = omega (arith, length-append (grid_list low high n T) (row_list low high (suc n) T), grid_length low high n T, row_length low high (suc n) T)

in_row : (low high : Table) (i T t : ℕ) → 1 ≤ t → t ≤ T → range_at (row_list low high i T) (t - 1) ≡ cell_range low high i t
in_row low high i zero t t_low t_high = absurd (omega (arith, t_low, t_high))
in_row low high i (suc T) t t_low t_high =
    ⊎_elim
    (λ less.
    at_front (row_list low high i T) (cell_range low high i (suc T) ∷ []) (t - 1) (omega (arith, t_low, less, row_length low high i T))
    ∙ in_row low high i T t t_low (omega (arith, less)))
    (λ rest.
    let last : t ≡ suc T = omega (arith, rest, t_high) in
    at_end (row_list low high i T) (cell_range low high i (suc T) ∷ []) (t - 1) 0 (omega (arith, last, row_length low high i T))
    ∙ ap (λ k. cell_range low high i k) (sym last))
    (cases_lt t (suc T))

in_grid : (low high : Table) (n T i t : ℕ) → 1 ≤ i → i ≤ n → 1 ≤ t → t ≤ T → range_at (grid_list low high n T) ((i - 1) * T + (t - 1)) ≡ cell_range low high i t
in_grid low high zero T i t i_low i_high t_low t_high = absurd (omega (arith, i_low, i_high))
in_grid low high (suc n) T i t i_low i_high t_low t_high =
    let k = (i - 1) * T + (t - 1) in
    ⊎_elim
    (λ less.
    at_front (grid_list low high n T) (row_list low high (suc n) T) k
    (omega (arith, grid_length low high n T, mul-add-lt (i - 1) T (t - 1) n (omega (arith, i_low, less)) (omega (arith, t_low, t_high))))
    ∙ in_grid low high n T i t i_low (omega (arith, less)) t_low t_high)
    (λ rest.
    let last : i ≡ suc n = omega (arith, rest, i_high) in
    at_end (grid_list low high n T) (row_list low high (suc n) T) k (t - 1) (ap (λ j. j * T + (t - 1)) (let one : i - 1 ≡ n = omega (arith, last) in one) ∙ ap (λ j. j + (t - 1)) (sym (grid_length low high n T)))
    ∙ in_row low high (suc n) T t t_low t_high
    ∙ ap (λ j. cell_range low high j t) (sym last))
    (cases_lt i (suc n))

-- none is upside down
ordered_append : (xs ys : List Range) → AreOrdered xs → AreOrdered ys → AreOrdered (xs ++ ys)
ordered_append [] ys a b = b
ordered_append (x ∷ xs) ys a b = (a.0, ordered_append xs ys a.1 b)

ordered_row : (low high : Table) (i T : ℕ) → ((t : ℕ) → 1 ≤ t → t ≤ T → low i t ≤ high i t) → AreOrdered (row_list low high i T)
ordered_row low high i zero are = tt
ordered_row low high i (suc T) are =
    ordered_append (row_list low high i T) (cell_range low high i (suc T) ∷ []) (ordered_row low high i T (λ t t_low t_high. are t t_low (omega (arith, t_high)))) (are (suc T) (omega arith) (omega arith), tt)

ordered_grid : (low high : Table) (n T : ℕ) → ((i t : ℕ) → 1 ≤ i → i ≤ n → 1 ≤ t → t ≤ T → low i t ≤ high i t) → AreOrdered (grid_list low high n T)
ordered_grid low high zero T are = tt
ordered_grid low high (suc n) T are =
    ordered_append (grid_list low high n T) (row_list low high (suc n) T)
    (ordered_grid low high n T (λ i t i_low i_high. are i t i_low (omega (arith, i_high))))
    (ordered_row low high (suc n) T (λ t t_low t_high. are (suc n) t (omega arith) (omega arith) t_low t_high))

-- the height of ranges within others
height_append : (xs ys : List Range) → height (xs ++ ys) ≡ height xs + height ys
height_append [] ys = omega arith
height_append (x ∷ xs) ys = omega (arith, height_append xs ys)

height_row : (low high : Table) (i T most : ℕ) → ((t : ℕ) → 1 ≤ t → t ≤ T → high i t ≤ most) → height (row_list low high i T) ≤ height (replicate T (up_to most))
height_row low high i zero most are = omega arith
height_row low high i (suc T) most are =
    let c = cell_range low high i (suc T) in
    omega (
      arith,
      height_append (row_list low high i T) (c ∷ []),
      height_row low high i T most (λ t t_low t_high. are t t_low (omega (arith, t_high))),
      digits-le (width c) (width (up_to most)) (omega (arith, are (suc T) (omega arith) (omega arith))),
    )

height_grid : (low high : Table) (n T : ℕ) (f : ℕ → ℕ) → ((i t : ℕ) → 1 ≤ i → i ≤ n → 1 ≤ t → t ≤ T → high i t ≤ f i) → height (grid_list low high n T) ≤ height (item_ranges n T f)
height_grid low high zero T f are = omega arith
height_grid low high (suc n) T f are =
    omega (
      arith,
      height_append (grid_list low high n T) (row_list low high (suc n) T),
      height_append (item_ranges n T f) (replicate T (up_to (f (suc n)))),
      height_grid low high n T f (λ i t i_low i_high. are i t i_low (omega (arith, i_high))),
      height_row low high (suc n) T (f (suc n)) (λ t t_low t_high. are (suc n) t (omega arith) (omega arith) t_low t_high),
    )

-- the same ranges
same_row : (low high : Table) (i T most : ℕ) → ((t : ℕ) → 1 ≤ t → t ≤ T → cell_range low high i t ≡ up_to most) → row_list low high i T ≡ replicate T (up_to most)
same_row low high i zero most are = refl
same_row low high i (suc T) most are =
    ap (λ (rs : List Range). rs ++ (cell_range low high i (suc T) ∷ [])) (same_row low high i T most (λ t t_low t_high. are t t_low (omega (arith, t_high))))
    ∙ ap (λ (r : Range). replicate T (up_to most) ++ (r ∷ [])) (are (suc T) (omega arith) (omega arith))
    ∙ replicate_push T (up_to most)

same_grid : (low high : Table) (n T : ℕ) (f : ℕ → ℕ) → ((i t : ℕ) → 1 ≤ i → i ≤ n → 1 ≤ t → t ≤ T → cell_range low high i t ≡ up_to (f i)) → grid_list low high n T ≡ item_ranges n T f
same_grid low high zero T f are = refl
same_grid low high (suc n) T f are =
    ap (λ (rs : List Range). rs ++ row_list low high (suc n) T) (same_grid low high n T f (λ i t i_low i_high. are i t i_low (omega (arith, i_high))))
    ∙ ap (λ (rs : List Range). item_ranges n T f ++ rs) (same_row low high (suc n) T (f (suc n)) (λ t t_low t_high. are (suc n) t (omega arith) (omega arith) t_low t_high))

-- ---- the ranges that were given
abbrev pub makes_list : Problem → Given → List Range
makes_list m r = grid_list (table_of r.low) (table_of r.high) (item_count m) m.periods

abbrev pub setups_list : Problem → Given → List Range
setups_list m r = grid_list (table_of r.setup_low) (table_of r.setup_high) (item_count m) m.periods

pub given_list : (none first all : List Range) (m : Problem) (r : Given) → none ≡ [] → first ≡ none ++ makes_list m r → all ≡ first ++ setups_list m r → all ≡ makes_list m r ++ setups_list m r
given_list none first all m r is one two =
    two ∙ ap (λ (rs : List Range). rs ++ setups_list m r) (one ∙ ap (λ (rs : List Range). rs ++ makes_list m r) is)

range_of : (a b : Range) → span_in a ≡ span_in b → a ≡ b
range_of a b same = ap (λ (s : Span). let r : Range = record { low = s.low; high = s.high } in r) same

-- what stands at the place of a choice
starts : (m : Problem) (r : Given) (c : Column) → IsChoice m c → span_in (range_at (makes_list m r ++ setups_list m r) (choice_place m c)) ≡ given_ranges r c
starts m r (X i t) is =
    ap (λ k. span_in (range_at (makes_list m r ++ setups_list m r) k)) (place_x m i t is)
    ∙ ap span_in (at_front (makes_list m r) (setups_list m r) (cell_place m i t) (omega (arith, cell_below m i t is, grid_length (table_of r.low) (table_of r.high) (item_count m) m.periods))
    ∙ in_grid (table_of r.low) (table_of r.high) (item_count m) m.periods i t is.0 is.1 is.2 is.3)
starts m r (Y i t) is =
    ap (λ k. span_in (range_at (makes_list m r ++ setups_list m r) k)) (place_y m i t is)
    ∙ ap span_in (at_end (makes_list m r) (setups_list m r) (cell_count m + cell_place m i t) (cell_place m i t) (ap (λ k. k + cell_place m i t) (sym (grid_length (table_of r.low) (table_of r.high) (item_count m) m.periods)))
    ∙ in_grid (table_of r.setup_low) (table_of r.setup_high) (item_count m) m.periods i t is.0 is.1 is.2 is.3)
starts m r (S i t) is = absurd is
starts m r (R i t) is = absurd is

-- it is that of a node without a path
pub given_node : (m : Problem) (r : Given) (rs : List Range) → rs ≡ makes_list m r ++ setups_list m r → IsNodeOf m (given_ranges r) rs []
given_node m r rs is = record {
  choices = λ k d less. absurd (omega (arith, less));
  size = ap length is ∙ omega (arith, length-append (makes_list m r) (setups_list m r), grid_length (table_of r.low) (table_of r.high) (item_count m) m.periods, grid_length (table_of r.setup_low) (table_of r.setup_high) (item_count m) m.periods);
  left = λ c choice. ap (λ (list : List Range). span_in (range_at list (choice_place m c))) is ∙ starts m r c choice;
}

pub given_ordered : (m : Problem) (r : Given) (rs : List Range) → AreGiven m r → rs ≡ makes_list m r ++ setups_list m r → AreOrdered rs
given_ordered m r rs given is =
    subst AreOrdered (sym is)
    (ordered_append (makes_list m r) (setups_list m r)
    (ordered_grid (table_of r.low) (table_of r.high) (item_count m) m.periods (λ i t i_low i_high t_low t_high. given.ordered (X i t) (i_low, i_high, t_low, t_high)))
    (ordered_grid (table_of r.setup_low) (table_of r.setup_high) (item_count m) m.periods (λ i t i_low i_high t_low t_high. given.ordered (Y i t) (i_low, i_high, t_low, t_high))))

pub given_listed : (m : Problem) (r : Given) (rs : List Range) → WholeIsMeasured → AreGiven m r → rs ≡ makes_list m r ++ setups_list m r → AreListed m (given_ranges r) rs
given_listed m r rs measured given is =
    let n = item_count m in
    let T = m.periods in
    record {
      height = λ total totals.
          omega (
            arith,
            ap height is,
            height_append (makes_list m r) (setups_list m r),
            height_grid (table_of r.low) (table_of r.high) n T total (λ i t i_low i_high t_low t_high. given.inside total totals (X i t) (i_low, i_high, t_low, t_high)),
            height_grid (table_of r.setup_low) (table_of r.setup_high) n T (λ j. 1) (λ i t i_low i_high t_low t_high. given.inside total totals (Y i t) (i_low, i_high, t_low, t_high)),
            height_append (item_ranges n T total) (item_ranges n T (λ j. 1)),
            (measured n T total).1,
          );
      whole = λ all total totals.
          is
          ∙ ap (λ (list : List Range). list ++ setups_list m r) (same_grid (table_of r.low) (table_of r.high) n T total (λ i t i_low i_high t_low t_high.
          range_of (cell_range (table_of r.low) (table_of r.high) i t) (up_to (total i)) (all total totals (X i t) (i_low, i_high, t_low, t_high))))
          ∙ ap (λ (list : List Range). item_ranges n T total ++ list) (same_grid (table_of r.setup_low) (table_of r.setup_high) n T (λ j. 1) (λ i t i_low i_high t_low t_high.
          range_of (cell_range (table_of r.setup_low) (table_of r.setup_high) i t) (up_to 1) (all total totals (Y i t) (i_low, i_high, t_low, t_high))));
    }

-- ---- grids
-- with the row of one item more
pub row_filled : (m : Problem) (old new : Cells) (rs : List Range) (first item place : ℕ) → 1 ≤ item → item ≤ item_count m → Fits m old → place ≡ first + (item - 1) * m.periods → OtherRowsSame old new item → ((t : ℕ) → 1 ≤ t → t ≤ old.periods → table_of new item t ≡ (range_at rs (place + t - 1)).low) → ((i t : ℕ) → 1 ≤ i → i < item → 1 ≤ t → t ≤ m.periods → table_of old i t ≡ (range_at rs (first + cell_place m i t)).low) → (i t : ℕ) → 1 ≤ i → i < item + 1 → 1 ≤ t → t ≤ m.periods → table_of new i t ≡ (range_at rs (first + cell_place m i t)).low
row_filled m old new rs first item place low high fits is others here before i t i_low i_high t_low t_high =
    ⊎_elim
    (λ less. others i t i_low (omega (arith, less, high, fits.items)) t_low (omega (arith, t_high, fits.periods)) (omega (arith, less)) ∙ before i t i_low less t_low t_high)
    (λ rest.
    let same : i ≡ item = omega (arith, rest, i_high) in
    ap (λ j. table_of new j t) same
    ∙ here t t_low (omega (arith, t_high, fits.periods))
    ∙ ap (λ k. (range_at rs k).low) (omega (arith, is, t_low))
    ∙ ap (λ j. (range_at rs (first + cell_place m j t)).low) (sym same))
    (cases_lt i item)

-- with the same number in the row of one item more
pub totals_filled : (m : Problem) (old new : Cells) (item value : ℕ) (total : ℕ → ℕ) → item ≤ item_count m → Fits m old → value ≡ total item → OtherRowsSame old new item → ((t : ℕ) → 1 ≤ t → t ≤ old.periods → table_of new item t ≡ value) → ((i t : ℕ) → 1 ≤ i → i < item → 1 ≤ t → t ≤ m.periods → table_of old i t ≡ total i) → (i t : ℕ) → 1 ≤ i → i < item + 1 → 1 ≤ t → t ≤ m.periods → table_of new i t ≡ total i
totals_filled m old new item value total high fits is others here before i t i_low i_high t_low t_high =
    ⊎_elim
    (λ less. others i t i_low (omega (arith, less, high, fits.items)) t_low (omega (arith, t_high, fits.periods)) (omega (arith, less)) ∙ before i t i_low less t_low t_high)
    (λ rest.
    let same : i ≡ item = omega (arith, rest, i_high) in
    ap (λ j. table_of new j t) same ∙ here t t_low (omega (arith, t_high, fits.periods)) ∙ is ∙ ap total (sym same))
    (cases_lt i item)

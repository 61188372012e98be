-- What holds of each item and period, as loops go on, and what it says of ranges.
use Rattle.std.proofs.Common.{◌≡◌, ◌≤◌, ◌<◌, ◌+◌, ◌∙◌, ⊎_elim, ℕ, ap, subst, arith}
use Rattle.std.proofs.lemmas.Bool.{cases_lt}
use Rattle.lot_sizing.specs.Problem.{Problem, item_count}
use Rattle.lot_sizing.specs.Totals.{AreLargestTotals}
use Rattle.lin_rows.specs.declared.column.Column.{Column}
use Rattle.lin_rows.specs.declared.column.Column.TheVariants.{X, Y, S, R}
use Rattle.plan_rules.specs.Cells.{HoldsOnly, Fits, table_of}
use Rattle.cert_trees.specs.Ranges.{IsChoice, WithTotals, whole_ranges}
use Rattle.cert_trees.specs.Spans.{Span}
use Rattle.node_domains.specs.declared.within.Ranges.{Ranges as Given}
use Rattle.node_domains.specs.Within.{AreGiven, HaveShape, IsCellGiven, IsCellUpTo, IsWhole, given_ranges}

-- one period more, and one item more
pub period_more : (P : ℕ → Type 0) (n : ℕ) → ((t : ℕ) → 1 ≤ t → t < n → P t) → P n → (t : ℕ) → 1 ≤ t → t < n + 1 → P t
period_more P n before here t low high =
    ⊎_elim
    (λ less. before t low less)
    (λ rest. let same : n ≡ t = omega (arith, rest, high) in subst P same here)
    (cases_lt t n)

pub item_more : (P : ℕ → ℕ → Type 0) (n T : ℕ) → ((i t : ℕ) → 1 ≤ i → i < n → 1 ≤ t → t ≤ T → P i t) → ((t : ℕ) → 1 ≤ t → t ≤ T → P n t) → (i t : ℕ) → 1 ≤ i → i < n + 1 → 1 ≤ t → t ≤ T → P i t
item_more P n T before here i t low high t_low t_high =
    ⊎_elim
    (λ less. before i t low less t_low t_high)
    (λ rest. let same : n ≡ i = omega (arith, rest, high) in subst (λ j. P j t) same (here t t_low t_high))
    (cases_lt i n)

-- ---- ranges that were given
pub given_of : (m : Problem) (r : Given) → HaveShape m r → ((i t : ℕ) → 1 ≤ i → i ≤ item_count m → 1 ≤ t → t ≤ m.periods → IsCellGiven m (given_ranges r) i t) → AreGiven m r
given_of m r shape cells = record { shape = shape; ordered = ordered; inside = λ total totals c choice. inside total totals c choice }
  where
    ordered : (c : Column) → IsChoice m c → (given_ranges r c).low ≤ (given_ranges r c).high
    ordered (X i t) is = (cells i t is.0 is.1 is.2 is.3).0
    ordered (Y i t) is = (cells i t is.0 is.1 is.2 is.3).2
    ordered (S i t) is = absurd is
    ordered (R i t) is = absurd is

    inside : (total : ℕ → ℕ) → AreLargestTotals m total → (c : Column) → IsChoice m c → (given_ranges r c).high ≤ (whole_ranges total c).high
    inside total totals (X i t) is = (cells i t is.0 is.1 is.2 is.3).1 total totals
    inside total totals (Y i t) is = (cells i t is.0 is.1 is.2 is.3).3
    inside total totals (S i t) is = absurd is
    inside total totals (R i t) is = absurd is

pub cells_of : (m : Problem) (r : Given) (some : ℕ → ℕ) → AreLargestTotals m some → AreGiven m r → (i t : ℕ) → 1 ≤ i → i ≤ item_count m → 1 ≤ t → t ≤ m.periods → IsCellGiven m (given_ranges r) i t
cells_of m r some totals is i t low high t_low t_high = (
  is.ordered (X i t) (low, high, t_low, t_high),
  λ total are. is.inside total are (X i t) (low, high, t_low, t_high),
  is.ordered (Y i t) (low, high, t_low, t_high),
  is.inside some totals (Y i t) (low, high, t_low, t_high),
)

-- by one largest total, or by all
pub cell_given : (m : Problem) (r : Given) (most i t : ℕ) → ((total : ℕ → ℕ) → AreLargestTotals m total → most ≡ total i) → IsCellUpTo (given_ranges r) most i t → IsCellGiven m (given_ranges r) i t
cell_given m r most i t all is = (is.0, λ total totals. omega (arith, is.1, all total totals), is.2, is.3)

pub cell_up_to : (m : Problem) (r : Given) (most i t : ℕ) → (total : ℕ → ℕ) → AreLargestTotals m total → most ≡ total i → IsCellGiven m (given_ranges r) i t → IsCellUpTo (given_ranges r) most i t
cell_up_to m r most i t total totals same is = (is.0, (let less = is.1 total totals in omega (arith, less, same)), is.2, is.3)

-- ---- the whole ranges
span_is : (a b c d : ℕ) → a ≡ c → b ≡ d → (let s : Span = record { low = a; high = b } in s) ≡ record { low = c; high = d }
span_is a b c d p q = ap (λ n. let s : Span = record { low = n; high = b } in s) p ∙ ap (λ n. let s : Span = record { low = c; high = n } in s) q

-- grids as `Ranges::all` fills them
pub record AreFilled (m : Problem) (r : Given) (n T : ℕ) : Type 0 where
  pub low : HoldsOnly n T 0 r.low
  pub setup_low : HoldsOnly n T 0 r.setup_low
  pub setup_high : HoldsOnly n T 1 r.setup_high
  pub high : Fits m r.high
  pub totals : WithTotals m (λ total. (i t : ℕ) → 1 ≤ i → i ≤ item_count m → 1 ≤ t → t ≤ m.periods → table_of r.high i t ≡ total i)
  pub items : n ≡ item_count m
  pub periods : T ≡ m.periods

module _ (m : Problem) (r : Given) (n T : ℕ) (is : AreFilled m r n T) where
  pub filled_whole : IsWhole m (given_ranges r)
  filled_whole total totals (X i t) c =
      span_is (table_of r.low i t) (table_of r.high i t) 0 (total i) (is.low.each i t c.0 (omega (arith, c.1, is.items)) c.2 (omega (arith, c.3, is.periods))) (is.totals total totals i t c.0 c.1 c.2 c.3)
  filled_whole total totals (Y i t) c =
      span_is (table_of r.setup_low i t) (table_of r.setup_high i t) 0 1 (is.setup_low.each i t c.0 (omega (arith, c.1, is.items)) c.2 (omega (arith, c.3, is.periods))) (is.setup_high.each i t c.0 (omega (arith, c.1, is.items)) c.2 (omega (arith, c.3, is.periods)))
  filled_whole total totals (S i t) c = absurd c
  filled_whole total totals (R i t) c = absurd c

  pub filled_given : AreGiven m r
  filled_given = given_of m r
      (record {
        low = record { items = is.low.item_count ∙ is.items; periods = is.low.period_count ∙ is.periods };
        high = is.high;
        setup_low = record { items = is.setup_low.item_count ∙ is.items; periods = is.setup_low.period_count ∙ is.periods };
        setup_high = record { items = is.setup_high.item_count ∙ is.items; periods = is.setup_high.period_count ∙ is.periods };
      })
      (λ i t low high t_low t_high.
      let i_high : i ≤ n = omega (arith, high, is.items) in
      let u_high : t ≤ T = omega (arith, t_high, is.periods) in
      let zero_is = is.low.each i t low i_high t_low u_high in
      let none_is = is.setup_low.each i t low i_high t_low u_high in
      let one_is = is.setup_high.each i t low i_high t_low u_high in (
        omega (arith, zero_is),
        λ total totals. omega (arith, is.totals total totals i t low high t_low t_high),
        omega (arith, none_is),
        omega (arith, one_is),
      ))

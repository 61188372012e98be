-- The rows that the rules of plans make.
use Rattle.std.specs.Prelude.{◌≡◌, ℕ, zero, suc, ◌-◌, ◌+◌, ◌≤◌, ◌<◌, min, Bool, true, false, ◌&&◌, ◌==◌, nat_le, nat_lt, Option, Some, None, is_some, ℤ, pos, negsuc, ◌-ℤ◌, neg_ℤ, List, [], ◌∷◌, ◌++◌, if◌then◌else◌}
use Rattle.std.specs.List.{filter}
use Rattle.lot_sizing.specs.Problem.{Problem, item_at, item_count, resource_count, demand, capacity, per_unit, unit_time, setup_time}
use Rattle.lot_sizing.specs.Bill.{one_if_same}
use Rattle.lot_sizing.specs.Totals.{AreLargestTotals}
use Rattle.lin_rows.specs.declared.column.Column.{Column}
use Rattle.lin_rows.specs.declared.column.Column.TheVariants.{X, Y, S, R}
use Rattle.lin_rows.specs.declared.row.Term.{Term}
use Rattle.lin_rows.specs.declared.base.RowName.{RowName}
use Rattle.lin_rows.specs.declared.base.RowName.TheVariants.{Balance, Link, Capacity, EndMin, EndMax, Top, Least, Late, Path, Cut}
use Rattle.lin_rows.specs.Columns.{IsCell}
use Rattle.lin_rows.specs.Rows.{LinRow}

abbrev pub term : Column → ℤ → Term
term column times = record { column = column; times = times }

abbrev pub is_some_term : ℤ → Bool
is_some_term (pos zero) = false
is_some_term (pos (suc n)) = true
is_some_term (negsuc n) = true

-- the terms that aren't 0 times their column
abbrev pub some_terms : List Term → List Term
some_terms terms = filter (λ a. is_some_term a.times) terms

-- the terms of 1, .., of n
abbrev pub terms_to : ℕ → (ℕ → List Term) → List Term
terms_to zero f = []
terms_to (suc n) f = terms_to n f ++ f (suc n)

-- the stock at the end of a period; before the first period it is no column
abbrev pub stock_terms : ℕ → ℕ → ℤ → List Term
stock_terms i zero times = []
stock_terms i (suc t) times = term (S i (suc t)) times ∷ []

-- a backlog is a column where the item has a cost of it, but for the last period
abbrev pub is_owing : Problem → ℕ → ℕ → Bool
is_owing m i t = nat_le 1 t && (nat_lt t m.periods && is_some (item_at m i).backlog_cost)

abbrev pub owing_terms : Problem → ℕ → ℕ → ℤ → List Term
owing_terms m i t times = if is_owing m i t then term (R i t) times ∷ [] else []

-- a lot that arrives in a period was started in an earlier one
abbrev pub is_earlier : Problem → ℕ → ℕ → Bool
is_earlier m i t = nat_le 1 (item_at m i).lead && nat_lt (item_at m i).lead t

-- the lot that arrives, where it was started in an earlier period
abbrev pub earlier_terms : Problem → ℕ → ℕ → List Term
earlier_terms m i t = if is_earlier m i t then term (X i (t - (item_at m i).lead)) (pos 1) ∷ [] else []

-- 1 where the items are the same, and its lots arrive when they are started
abbrev pub arrives_now : Problem → ℕ → ℕ → ℕ
arrives_now m i j = if (item_at m i).lead == 0 then one_if_same i j else 0

-- what lots of item j give of item i in a period, less what they take of it
abbrev pub made_terms : Problem → ℕ → ℕ → ℕ → List Term
made_terms m i t j = (if i == j then earlier_terms m i t else []) ++ (term (X j t) (pos (arrives_now m i j) -ℤ pos (per_unit m i j)) ∷ [])

-- the time that making units of an item, and its setup, take of a resource
abbrev pub unit_terms : Problem → ℕ → ℕ → ℕ → List Term
unit_terms m k t i = term (X i t) (neg_ℤ (pos (unit_time m i k))) ∷ []

abbrev pub setup_terms : Problem → ℕ → ℕ → ℕ → List Term
setup_terms m k t i = term (Y i t) (neg_ℤ (pos (setup_time m i k))) ∷ []

-- the lesser of a number and a bound, where there is one
abbrev pub within_bound : ℕ → Option ℕ → ℕ
within_bound n None = n
within_bound n (Some most) = min n most

-- the most that a setup makes: the largest total, and no more than the largest lot
abbrev pub most_made : Problem → (ℕ → ℕ) → ℕ → ℕ
most_made m total i = within_bound (total i) (item_at m i).max_lot

-- the terms of a row; `total` has the largest totals
abbrev pub all_terms : Problem → (ℕ → ℕ) → RowName → List Term
all_terms m total (Balance i t) = terms_to (item_count m) (made_terms m i t) ++ (stock_terms i (t - 1) (pos 1) ++ (stock_terms i t (negsuc 0) ++ (owing_terms m i (t - 1) (negsuc 0) ++ owing_terms m i t (pos 1))))
all_terms m total (Link i t) = term (X i t) (negsuc 0) ∷ (term (Y i t) (pos (most_made m total i)) ∷ [])
all_terms m total (Capacity k t) = terms_to (item_count m) (unit_terms m k t) ++ terms_to (item_count m) (setup_terms m k t)
all_terms m total (EndMin i) = term (S i m.periods) (pos 1) ∷ []
all_terms m total (EndMax i) = term (S i m.periods) (negsuc 0) ∷ []
all_terms m total (Top i t) = term (Y i t) (negsuc 0) ∷ []
all_terms m total (Least i t) = term (X i t) (pos 1) ∷ (term (Y i t) (neg_ℤ (pos (item_at m i).min_lot)) ∷ [])
all_terms m total (Late i t) = term (X i t) (negsuc 0) ∷ []
all_terms m total (Path n) = []
all_terms m total (Cut n) = []

-- the opening stock, which stands on the right side in the first period
abbrev pub opening_at : Problem → ℕ → ℕ → ℕ
opening_at m i zero = (item_at m i).opening
opening_at m i (suc t) = 0

abbrev pub right_side : Problem → RowName → ℤ
right_side m (Balance i t) = pos (demand m i t) -ℤ pos (opening_at m i (t - 1))
right_side m (Link i t) = pos 0
right_side m (Capacity k t) = neg_ℤ (pos (capacity m k t))
right_side m (EndMin i) = pos (item_at m i).end_min
right_side m (EndMax i) = neg_ℤ (pos (item_at m i).end_max)
right_side m (Top i t) = negsuc 0
right_side m (Least i t) = pos 0
right_side m (Late i t) = pos 0
right_side m (Path n) = pos 0
right_side m (Cut n) = pos 0

abbrev pub is_equality : RowName → Bool
is_equality (Balance i t) = true
is_equality (Link i t) = false
is_equality (Capacity k t) = false
is_equality (EndMin i) = false
is_equality (EndMax i) = false
is_equality (Top i t) = false
is_equality (Least i t) = false
is_equality (Late i t) = false
is_equality (Path n) = false
is_equality (Cut n) = false

-- the problem has the row
abbrev pub HasRow : Problem → RowName → Type 0
HasRow m (Balance i t) = IsCell m i t
HasRow m (Link i t) = IsCell m i t
HasRow m (Capacity k t) = (1 ≤ k) × (k ≤ resource_count m) × (1 ≤ t) × (t ≤ m.periods)
HasRow m (EndMin i) = (1 ≤ i) × (i ≤ item_count m)
HasRow m (EndMax i) = (1 ≤ i) × (i ≤ item_count m)
HasRow m (Top i t) = IsCell m i t
HasRow m (Least i t) = IsCell m i t × (1 ≤ (item_at m i).min_lot)
HasRow m (Late i t) = IsCell m i t × (m.periods < t + (item_at m i).lead)
HasRow m (Path n) = ⊥
HasRow m (Cut n) = ⊥

abbrev pub row_of : Problem → (ℕ → ℕ) → RowName → LinRow
row_of m total name = record { terms = some_terms (all_terms m total name); right = right_side m name; equal = is_equality name }

-- the row of this name, with the largest totals
abbrev pub IsBaseRow : Problem → RowName → LinRow → Type 0
IsBaseRow m name row = (total : ℕ → ℕ) × AreLargestTotals m total × (row ≡ row_of m total name)

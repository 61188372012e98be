-- The columns of the rows that the rules of plans make: they rise, and the model has them.
use Rattle.std.proofs.Common.{◌≡◌, ◌≤◌, ◌<◌, ◌+◌, ◌-◌, ◌*◌, ◌^◌, ℕ, zero, suc, refl, sym, subst, arith, Bool, List, true, false, [], ◌∷◌, ◌++◌}
use Rattle.std.specs.Prelude.{◌&&◌, ◌==◌, nat_le, nat_lt, if◌then◌else◌, is_some, ℤ, pos, negsuc, ◌-ℤ◌, neg_ℤ}
use Rattle.std.specs.List.{All}
use Rattle.std.proofs.lemmas.List.Elements.{All-append}
use Rattle.lot_sizing.specs.Problem.{IsWithinLimits, Problem, item_at, item_count, per_unit}
use Rattle.lot_sizing.specs.declared.limits.TheConstants.{MAX_ITEMS}
use Rattle.lin_rows.specs.declared.column.Column.TheVariants.{X, Y, S, R}
use Rattle.lin_rows.specs.declared.row.Term.{Term}
use Rattle.lin_rows.specs.declared.base.RowName.{RowName}
use Rattle.lin_rows.specs.declared.base.RowName.TheVariants.{Balance, Link, Capacity, EndMin, EndMax, Top, Least, Late, Path, Cut}
use Rattle.lin_rows.specs.Columns.{IsColumn, order_of, order_at}
use Rattle.lin_rows.specs.Base.{HasRow, all_terms, arrives_now, earlier_terms, is_earlier, is_owing, made_terms, most_made, owing_terms, setup_terms, stock_terms, term, terms_to, unit_terms}
use Rattle.lin_rows.proofs.Terms.{RiseTo, all_both, all_none, all_one, all_to, rise_append, rise_to}

-- the stock at the end of a period
stock_rise : (i t : ℕ) (times : ℤ) (low high : ℕ) → low ≤ order_at 2 i t → order_at 2 i t < high → RiseTo low (stock_terms i t times) high
stock_rise i zero times low high above below = omega (arith, above, below)
stock_rise i (suc t) times low high above below = (above, omega (arith, below))

owing_rise : (b : Bool) (i t : ℕ) (times : ℤ) (low high : ℕ) → low ≤ order_at 3 i t → order_at 3 i t < high → RiseTo low (if b then term (R i t) times ∷ [] else []) high
owing_rise true i t times low high above below = (above, omega (arith, below))
owing_rise false i t times low high above below = omega (arith, above, below)

-- one column of a kind, item by item
column_rise : (n kind t : ℕ) (f : ℕ → List Term) (low high : ℕ) → n ≤ MAX_ITEMS → ((k : ℕ) → 1 ≤ k → k ≤ n → RiseTo (kind * 2 ^ 64 + k * 2 ^ 32) (f k) (kind * 2 ^ 64 + k * 2 ^ 32 + 2 ^ 32)) → low ≡ kind * 2 ^ 64 → low + 2 ^ 64 ≤ high → RiseTo low (terms_to n f) high
column_rise n kind t f low high small each is room =
    rise_to n f low (2 ^ 32) high
    (λ k k_low k_high. subst (λ l. RiseTo (l + k * 2 ^ 32) (f k) (l + k * 2 ^ 32 + 2 ^ 32)) (sym is) (each k k_low k_high))
    (omega (arith, room, small))

-- one term of an item's
one_rise : (a : Term) (low high : ℕ) → low ≤ order_of a.column → order_of a.column < high → RiseTo low (a ∷ []) high
one_rise a low high above below = (above, omega (arith, below))

earlier_parts : (lead t : ℕ) → (nat_le 1 lead && nat_lt lead t) ≡ true → (1 ≤ lead) × (lead < t)
earlier_parts lead t is = (grind (arith, is), grind (arith, is))

-- a lot that was started in an earlier period
earlier_rise : (m : Problem) (b : Bool) (i t : ℕ) → is_earlier m i t ≡ b → RiseTo (order_at 0 i 0) (if b then term (X i (t - (item_at m i).lead)) (pos 1) ∷ [] else []) (order_at 0 i t)
earlier_rise m true i t is =
    let parts = earlier_parts (item_at m i).lead t is in
    one_rise (term (X i (t - (item_at m i).lead)) (pos 1)) (order_at 0 i 0) (order_at 0 i t) (omega arith) (omega (arith, parts.0, parts.1))
earlier_rise m false i t is = omega arith

same_item : (i k : ℕ) → (i == k) ≡ true → i ≡ k
same_item i k is = grind (arith, is)

given_rise : (m : Problem) (b : Bool) (i t k : ℕ) → (i == k) ≡ b → RiseTo (order_at 0 k 0) (if b then earlier_terms m i t else []) (order_at 0 k t)
given_rise m true i t k is = subst (λ j. RiseTo (order_at 0 j 0) (earlier_terms m i t) (order_at 0 j t)) (same_item i k is) (earlier_rise m (is_earlier m i t) i t refl)
given_rise m false i t k is = omega arith

made_rise : (m : Problem) (i t k : ℕ) → t < 2 ^ 32 → RiseTo (0 * 2 ^ 64 + k * 2 ^ 32) (made_terms m i t k) (0 * 2 ^ 64 + k * 2 ^ 32 + 2 ^ 32)
made_rise m i t k t_small =
    let taken = term (X k t) (pos (arrives_now m i k) -ℤ pos (per_unit m i k)) in
    rise_append (if i == k then earlier_terms m i t else []) (taken ∷ []) (0 * 2 ^ 64 + k * 2 ^ 32) (order_at 0 k t) (0 * 2 ^ 64 + k * 2 ^ 32 + 2 ^ 32)
    (subst (λ l. RiseTo l (if i == k then earlier_terms m i t else []) (order_at 0 k t)) (start k) (given_rise m (i == k) i t k refl))
    (one_rise taken (order_at 0 k t) (0 * 2 ^ 64 + k * 2 ^ 32 + 2 ^ 32) (omega arith) (omega (arith, t_small)))
  where
    start : (k : ℕ) → order_at 0 k 0 ≡ 0 * 2 ^ 64 + k * 2 ^ 32
    start k = omega arith

-- the columns of a row rise
pub base_rise : (m : Problem) (total : ℕ → ℕ) (name : RowName) → IsWithinLimits m → HasRow m name → RiseTo 0 (all_terms m total name) (4 * 2 ^ 64)
base_rise m total (Balance i t) within h =
    let t_small : t < 2 ^ 32 = omega (arith, h.3, within.periods) in
    let i_small : i ≤ MAX_ITEMS = omega (arith, h.1, within.items) in
    rise_append (terms_to (item_count m) (made_terms m i t)) (stock_terms i (t - 1) (pos 1) ++ (stock_terms i t (negsuc 0) ++ (owing_terms m i (t - 1) (negsuc 0) ++ owing_terms m i t (pos 1)))) 0 (2 ^ 64) (4 * 2 ^ 64)
    (column_rise (item_count m) 0 t (made_terms m i t) 0 (2 ^ 64) within.items (λ k low high. made_rise m i t k t_small) (omega arith) (omega arith))
    (rise_append (stock_terms i (t - 1) (pos 1)) (stock_terms i t (negsuc 0) ++ (owing_terms m i (t - 1) (negsuc 0) ++ owing_terms m i t (pos 1))) (2 ^ 64) (order_at 2 i t) (4 * 2 ^ 64)
    (stock_rise i (t - 1) (pos 1) (2 ^ 64) (order_at 2 i t) (omega arith) (omega (arith, h.2)))
    (rise_append (stock_terms i t (negsuc 0)) (owing_terms m i (t - 1) (negsuc 0) ++ owing_terms m i t (pos 1)) (order_at 2 i t) (3 * 2 ^ 64) (4 * 2 ^ 64)
    (stock_rise i t (negsuc 0) (order_at 2 i t) (3 * 2 ^ 64) (omega arith) (omega (arith, t_small, i_small)))
    (rise_append (owing_terms m i (t - 1) (negsuc 0)) (owing_terms m i t (pos 1)) (3 * 2 ^ 64) (order_at 3 i t) (4 * 2 ^ 64)
    (owing_rise (is_owing m i (t - 1)) i (t - 1) (negsuc 0) (3 * 2 ^ 64) (order_at 3 i t) (omega arith) (omega (arith, h.2)))
    (owing_rise (is_owing m i t) i t (pos 1) (order_at 3 i t) (4 * 2 ^ 64) (omega arith) (omega (arith, t_small, i_small))))))
base_rise m total (Link i t) within h = (omega arith, (omega (arith, h.1, within.items, h.3, within.periods), omega (arith, h.1, within.items, h.3, within.periods)))
base_rise m total (Capacity k t) within h =
    let t_small : t < 2 ^ 32 = omega (arith, h.3, within.periods) in
    rise_append (terms_to (item_count m) (unit_terms m k t)) (terms_to (item_count m) (setup_terms m k t)) 0 (2 ^ 64) (4 * 2 ^ 64)
    (column_rise (item_count m) 0 t (unit_terms m k t) 0 (2 ^ 64) within.items (λ i low high. (omega arith, omega (arith, t_small))) (omega arith) (omega arith))
    (column_rise (item_count m) 1 t (setup_terms m k t) (2 ^ 64) (4 * 2 ^ 64) within.items (λ i low high. (omega arith, omega (arith, t_small))) (omega arith) (omega arith))
base_rise m total (EndMin i) within h = (omega arith, omega (arith, h.1, within.items, within.periods))
base_rise m total (EndMax i) within h = (omega arith, omega (arith, h.1, within.items, within.periods))
base_rise m total (Top i t) within h = (omega arith, omega (arith, h.1, within.items, h.3, within.periods))
base_rise m total (Least i t) within h = (omega arith, (omega (arith, h.0.1, within.items, h.0.3, within.periods), omega (arith, h.0.1, within.items, h.0.3, within.periods)))
base_rise m total (Late i t) within h = (omega arith, omega (arith, h.0.1, within.items, h.0.3, within.periods))
base_rise m total (Path n) within h = absurd h
base_rise m total (Cut n) within h = absurd h

abbrev Exists : Problem → Term → Type 0
Exists m a = IsColumn m a.column

stock_exists : (m : Problem) (i t : ℕ) (times : ℤ) → 1 ≤ i → i ≤ item_count m → t ≤ m.periods → All (Exists m) (stock_terms i t times)
stock_exists m i zero times low high t_high = λ k d less. absurd (omega (arith, less))
stock_exists m i (suc t) times low high t_high = all_one (Exists m) (term (S i (suc t)) times) (low, high, omega arith, t_high)

owing_parts : (t n : ℕ) (some : Bool) → (nat_le 1 t && (nat_lt t n && some)) ≡ true → (1 ≤ t) × (t < n) × (some ≡ true)
owing_parts t n some is = (grind (arith, is), grind (arith, is), grind (arith, is))

owing_exists : (m : Problem) (b : Bool) (i t : ℕ) (times : ℤ) → is_owing m i t ≡ b → 1 ≤ i → i ≤ item_count m → All (Exists m) (if b then term (R i t) times ∷ [] else [])
owing_exists m true i t times is low high =
    let parts = owing_parts t m.periods (is_some (item_at m i).backlog_cost) is in
    all_one (Exists m) (term (R i t) times) ((low, high, parts.0, omega (arith, parts.1)), parts.1, parts.2)
owing_exists m false i t times is low high = λ k d less. absurd (omega (arith, less))

earlier_exists : (m : Problem) (b : Bool) (i t : ℕ) → is_earlier m i t ≡ b → 1 ≤ i → i ≤ item_count m → t ≤ m.periods → All (Exists m) (if b then term (X i (t - (item_at m i).lead)) (pos 1) ∷ [] else [])
earlier_exists m true i t is low high t_high =
    let parts = earlier_parts (item_at m i).lead t is in
    all_one (Exists m) (term (X i (t - (item_at m i).lead)) (pos 1)) (low, high, omega (arith, parts.1), omega (arith, t_high))
earlier_exists m false i t is low high t_high = all_none (Exists m)

given_exists : (m : Problem) (b : Bool) (i t : ℕ) → 1 ≤ i → i ≤ item_count m → t ≤ m.periods → All (Exists m) (if b then earlier_terms m i t else [])
given_exists m true i t low high t_high = earlier_exists m (is_earlier m i t) i t refl low high t_high
given_exists m false i t low high t_high = all_none (Exists m)

made_exists : (m : Problem) (i t k : ℕ) → 1 ≤ i → i ≤ item_count m → 1 ≤ k → k ≤ item_count m → 1 ≤ t → t ≤ m.periods → All (Exists m) (made_terms m i t k)
made_exists m i t k i_low i_high low high t_low t_high =
    All-append (Exists m) (if i == k then earlier_terms m i t else []) _ (given_exists m (i == k) i t i_low i_high t_high) (all_one (Exists m) (term (X k t) (pos (arrives_now m i k) -ℤ pos (per_unit m i k))) (low, high, t_low, t_high))

-- and the model has them
pub base_exists : (m : Problem) (total : ℕ → ℕ) (name : RowName) → 1 ≤ m.periods → HasRow m name → All (Exists m) (all_terms m total name)
base_exists m total (Balance i t) some h =
    All-append (Exists m) (terms_to (item_count m) (made_terms m i t)) _ (all_to (Exists m) (item_count m) (made_terms m i t) (λ k low high. made_exists m i t k h.0 h.1 low high h.2 h.3))
    (All-append (Exists m) (stock_terms i (t - 1) (pos 1)) _ (stock_exists m i (t - 1) (pos 1) h.0 h.1 (omega (arith, h.3)))
    (All-append (Exists m) (stock_terms i t (negsuc 0)) _ (stock_exists m i t (negsuc 0) h.0 h.1 h.3)
    (All-append (Exists m) (owing_terms m i (t - 1) (negsuc 0)) _ (owing_exists m (is_owing m i (t - 1)) i (t - 1) (negsuc 0) refl h.0 h.1) (owing_exists m (is_owing m i t) i t (pos 1) refl h.0 h.1))))
base_exists m total (Link i t) some h = all_both (Exists m) (term (X i t) (negsuc 0)) (term (Y i t) (pos (most_made m total i))) h h
base_exists m total (Capacity k t) some h =
    All-append (Exists m) (terms_to (item_count m) (unit_terms m k t)) (terms_to (item_count m) (setup_terms m k t))
    (all_to (Exists m) (item_count m) (unit_terms m k t) (λ i low high. all_one (Exists m) (term (X i t) _) (low, high, h.2, h.3)))
    (all_to (Exists m) (item_count m) (setup_terms m k t) (λ i low high. all_one (Exists m) (term (Y i t) _) (low, high, h.2, h.3)))
base_exists m total (EndMin i) some h = all_one (Exists m) (term (S i m.periods) (pos 1)) (h.0, h.1, some, omega arith)
base_exists m total (EndMax i) some h = all_one (Exists m) (term (S i m.periods) (negsuc 0)) (h.0, h.1, some, omega arith)
base_exists m total (Top i t) some h = all_one (Exists m) (term (Y i t) (negsuc 0)) h
base_exists m total (Least i t) some h = all_both (Exists m) (term (X i t) (pos 1)) (term (Y i t) (neg_ℤ (pos (item_at m i).min_lot))) h.0 h.0
base_exists m total (Late i t) some h = all_one (Exists m) (term (X i t) (negsuc 0)) h.0
base_exists m total (Path n) some h = absurd h
base_exists m total (Cut n) some h = absurd h

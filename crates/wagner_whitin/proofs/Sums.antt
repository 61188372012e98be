-- Sums that are kept in tables.
use Rattle.std.proofs.Common.{◌≡◌, ◌≤◌, ◌<◌, ◌+◌, ◌-◌, ◌*◌, ◌^◌, ◌∙◌, ⊎_elim, ℕ, zero, suc, refl, sym, ap, arith, List, [], ◌∷◌, ◌++◌, length, slice_index_or, Option, Some, None, IfSome, IsNone}
use Rattle.std.proofs.lemmas.List.{length_push, get_or_push, get_or_append_left}
use Rattle.std.proofs.lemmas.Bool.{cases_lt}
use Rattle.std.proofs.lemmas.Grind.{get_or_default_zero}
use Rattle.lot_sizing.specs.Sums.{sum_to, sum_from}
use Rattle.lot_sizing.specs.Problem.{entry, backlog_price, IsSeries}
use Rattle.lot_sizing.specs.Single.{Single, IsWithinBounds, IsServer, period_count, unit_price}
use Rattle.wagner_whitin.specs.declared.cost_sums.CostSums.{CostSums}
use Rattle.wagner_whitin.specs.Tables.{AreSums, AreCostSums}

-- a table of sums takes the next one
pub sums_more : (n x : ℕ) (f : ℕ → ℕ) (sums : List ℕ) → AreSums n f sums → x ≡ sum_to (suc n) f → AreSums (suc n) f (sums ++ x ∷ [])
sums_more n x f sums table same = record {
  size = omega (arith, length_push sums x, table.size);
  each = λ k high. ⊎_elim
      (λ before. get_or_append_left sums (x ∷ []) 0 k (omega (arith, before, table.size)) ∙ table.each k (omega (arith, before)))
      (λ last. let e : k ≡ suc n = omega (arith, last, high) in get_or_push sums x 0 k (omega (arith, e, table.size)) ∙ same ∙ ap (λ j. sum_to j f) (sym e))
      (cases_lt k (suc n));
}

-- a sum in two parts
sum_parts : (a n : ℕ) (f : ℕ → ℕ) → sum_to (a + n) f ≡ sum_to a f + sum_from (suc a) n f
sum_parts a zero f = let e : a + 0 ≡ a = omega arith in omega (arith, ap (λ k. sum_to k f) e)
sum_parts a (suc n) f =
    let e : a + suc n ≡ suc (a + n) = omega arith in
    let i : suc a + n ≡ suc (a + n) = omega arith in
    omega (arith, ap (λ k. sum_to k f) e, sum_parts a n f, ap f i)

part_small : (a n : ℕ) (f : ℕ → ℕ) → ((k : ℕ) → a ≤ k → k < a + n → f k ≤ 10 ^ 9) → sum_from a n f ≤ n * 10 ^ 9
part_small a zero f small = omega arith
part_small a (suc n) f small = omega (arith, part_small a n f (λ k low high. small k low (omega (arith, high))), small (a + n) (omega arith) (omega arith))

-- two sums of the table, and what lies between
pub record Between (f : ℕ → ℕ) (u n low high : ℕ) : Type 0 where
  pub order : low ≤ high
  pub value : high - low ≡ sum_from u n f
  pub small : high - low ≤ n * 10 ^ 9

pub between : (n : ℕ) (f : ℕ → ℕ) (sums : List ℕ) (u t : ℕ) → AreSums n f sums → ((k : ℕ) → 1 ≤ k → k ≤ n → f k ≤ 10 ^ 9) → 1 ≤ u → u ≤ t → t ≤ n → Between f u (t - u) (slice_index_or sums (u - 1) 0) (slice_index_or sums (t - 1) 0)
between n f sums u t table small low order high =
    let e : u - 1 + (t - u) ≡ t - 1 = omega (arith, low, order) in
    let i : suc (u - 1) ≡ u = omega (arith, low) in
    let parts : sum_to (t - 1) f ≡ sum_to (u - 1) f + sum_from u (t - u) f = ap (λ k. sum_to k f) (sym e) ∙ sum_parts (u - 1) (t - u) f ∙ ap (λ k. sum_to (u - 1) f + sum_from k (t - u) f) i in
    let from = table.each (u - 1) (omega (arith, order, high)) in
    let to = table.each (t - 1) (omega (arith, high)) in
    record {
      order = omega (arith, parts, from, to);
      value = omega (arith, parts, from, to);
      small = omega (arith, parts, from, to, part_small u (t - u) f (λ k k_low k_high. small k (omega (arith, k_low, low)) (omega (arith, k_high, high, order))));
    }

pub entry_small : (n : ℕ) (xs : List ℕ) → IsSeries n (10 ^ 9) xs → (k : ℕ) → 1 ≤ k → k ≤ n → entry xs k ≤ 10 ^ 9
entry_small n xs series k low high = series.small (k - 1) 0 (omega (arith, series.size, low, high))

pub back_small : (n : ℕ) (back : Option (List ℕ)) → IfSome back (IsSeries n (10 ^ 9)) → (k : ℕ) → 1 ≤ k → k ≤ n → backlog_price back k ≤ 10 ^ 9
back_small n None series k low high = omega arith
back_small n (Some xs) series k low high = entry_small n xs series k low high

-- what a unit costs, from two sums
pub record IsUnit (s : Single) (u t low high : ℕ) : Type 0 where
  pub order : low ≤ high
  pub value : entry s.unit u + (high - low) ≡ unit_price s u t
  pub small : entry s.unit u + (high - low) ≤ 121 * 10 ^ 9

pub kept_unit : (s : Single) (cost_sums : CostSums) (u t : ℕ) → IsWithinBounds s → AreCostSums s cost_sums → 1 ≤ u → u ≤ t → t ≤ period_count s → IsUnit s u t (slice_index_or cost_sums.held.items (u - 1) 0) (slice_index_or cost_sums.held.items (t - 1) 0)
kept_unit s cost_sums u t within table low order high =
    let part = between (period_count s) (entry s.hold) cost_sums.held.items u t table.held (entry_small (period_count s) s.hold within.hold) low order high in
    let none : u - t ≡ 0 = omega (arith, order) in
    record {
      order = part.order;
      value = omega (arith, part.value, ap (λ k. sum_from t k (backlog_price s.back)) none);
      small = omega (arith, part.small, entry_small (period_count s) s.unit within.unit u low (omega (arith, order, high)), within.periods, order, high);
    }

owed_sums : (n : ℕ) (back : Option (List ℕ)) (sums : List ℕ) → (IsNone back → ⊥) → IfSome back (λ costs. AreSums n (entry costs) sums) → AreSums n (backlog_price back) sums
owed_sums n None sums some table = absurd (some refl)
owed_sums n (Some costs) sums some table = table

pub owed_unit : (s : Single) (cost_sums : CostSums) (u t : ℕ) → IsWithinBounds s → AreCostSums s cost_sums → IsServer s u t → 1 ≤ t → t < u → u ≤ period_count s → IsUnit s u t (slice_index_or cost_sums.owed.items (t - 1) 0) (slice_index_or cost_sums.owed.items (u - 1) 0)
owed_unit s cost_sums u t within table server low order high =
    let sums = owed_sums (period_count s) s.back cost_sums.owed.items (λ none. omega (arith, server.in_time none, order)) table.owed in
    let part = between (period_count s) (backlog_price s.back) cost_sums.owed.items t u sums (back_small (period_count s) s.back within.back) low (omega (arith, order)) high in
    let none : t - u ≡ 0 = omega (arith, order) in
    record {
      order = part.order;
      value = omega (arith, part.value, ap (λ k. sum_from u k (entry s.hold)) none);
      small = omega (arith, part.small, entry_small (period_count s) s.unit within.unit u (omega (arith, order)) high, within.periods, order, high);
    }

-- a number as a list is read
abbrev pub IsRead : List ℕ → ℕ → ℕ → Type 0
IsRead xs i x = x ≡ slice_index_or xs i x

pub read_is : (xs : List ℕ) (i x : ℕ) → i < length xs → IsRead xs i x → x ≡ slice_index_or xs i 0
read_is xs i x h read = read ∙ get_or_default_zero xs i x h

-- a price of a unit, from what was read
pub record IsPrice (s : Single) (u t unit low high : ℕ) : Type 0 where
  pub order : low ≤ high
  pub value : unit + (high - low) ≡ unit_price s u t
  pub small : unit + (high - low) ≤ 121 * 10 ^ 9

pub kept_price : (s : Single) (cost_sums : CostSums) (u t unit low high : ℕ) → IsWithinBounds s → AreCostSums s cost_sums → IsServer s u t → u ≤ t → t ≤ period_count s → IsRead s.unit (u - 1) unit → IsRead cost_sums.held.items (u - 1) low → IsRead cost_sums.held.items (t - 1) high → IsPrice s u t unit low high
kept_price s cost_sums u t unit low high within table server order t_high read_unit read_low read_high =
    let is_unit = kept_unit s cost_sums u t within table server.low order t_high in
    let a = read_is s.unit (u - 1) unit (omega (arith, within.unit.size, server.low, server.high)) read_unit in
    let b = read_is cost_sums.held.items (u - 1) low (omega (arith, table.held.size, server.low, server.high)) read_low in
    let d = read_is cost_sums.held.items (t - 1) high (omega (arith, table.held.size, t_high)) read_high in
    record { order = omega (arith, is_unit.order, b, d); value = omega (arith, is_unit.value, a, b, d); small = omega (arith, is_unit.small, a, b, d) }

pub owed_price : (s : Single) (cost_sums : CostSums) (u t unit low high : ℕ) → IsWithinBounds s → AreCostSums s cost_sums → IsServer s u t → 1 ≤ t → t < u → IsRead s.unit (u - 1) unit → IsRead cost_sums.owed.items (t - 1) low → IsRead cost_sums.owed.items (u - 1) high → IsPrice s u t unit low high
owed_price s cost_sums u t unit low high within table server t_low order read_unit read_low read_high =
    let sums = owed_sums (period_count s) s.back cost_sums.owed.items (λ none. omega (arith, server.in_time none, order)) table.owed in
    let is_unit = owed_unit s cost_sums u t within table server t_low order server.high in
    let a = read_is s.unit (u - 1) unit (omega (arith, within.unit.size, server.low, server.high)) read_unit in
    let b = read_is cost_sums.owed.items (t - 1) low (omega (arith, sums.size, server.high, order)) read_low in
    let d = read_is cost_sums.owed.items (u - 1) high (omega (arith, sums.size, server.high)) read_high in
    record { order = omega (arith, is_unit.order, b, d); value = omega (arith, is_unit.value, a, b, d); small = omega (arith, is_unit.small, a, b, d) }

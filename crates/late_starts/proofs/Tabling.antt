-- The rows of prices as lists.
use Rattle.std.proofs.Common.{◌≡◌, ◌≢◌, ◌≤◌, ◌<◌, ◌+◌, ◌-◌, ◌*◌, ◌^◌, ◌∙◌, ◌⊎◌, ⊎_elim, inl, inr, ℕ, zero, suc, refl, sym, ap, subst, arith, List, [], ◌∷◌, ◌++◌, length}
use Rattle.std.specs.Prelude.{max, min}
use Rattle.std.proofs.lemmas.Bool.{cases_lt}
use Rattle.std.proofs.lemmas.List.{length_push, get_or_push, get_or_append_left}
use Rattle.lot_sizing.specs.Problem.{entry}
use Rattle.late_starts.specs.Choices.{IsLeastUpTo, LateLots}
use Rattle.late_starts.specs.Pricing.{IsBase, IsLeastOfRow, IsLeastTo, IsNextLeast, IsNextRow, IsNextRowTo, IsPriceAfter, IsPricedTo, IsRising, IsRowOfPrices, MayServe, cost_from, servers_to}
use Rattle.late_starts.proofs.Loading.{cap_both, cap_put}
use Rattle.late_starts.proofs.Serving.{rows_end, rows_first, rows_next}

-- a capped number below the cap is itself
below_cap : (x c z : ℕ) → z ≡ min x c → z < c → z ≡ x
below_cap x c z is less = grind (arith, is, less)

within_cap : (x c z : ℕ) → z ≡ min x c → z ≤ x
within_cap x c z is = grind (arith, is)

cap_more : (c u x : ℕ) → min (u + min x c) c ≡ min (u + x) c
cap_more c u x = grind arith

-- the price of a server after one more period
pub price_after : (c n unit O owing least setup entered : ℕ) (row : List ℕ) (u base z : ℕ) → owing ≡ min O c → entered ≡ min (least + setup) c → IsBase row u entered base → z ≡ min (base + n * min (unit + owing) c) c → IsPriceAfter c (n * (unit + O)) (least + setup) row u z
price_after c n unit O owing least setup entered row u base z is_owing is_entered is_base is_price =
    let cost = n * (unit + O) in
    let each : min (unit + owing) c ≡ min (unit + O) c = ap (λ x. min (unit + x) c) is_owing ∙ cap_more c unit O in
    let units : min (n * min (unit + owing) c) c ≡ min cost c = cap_put c n (min (unit + owing) c) (unit + O) (λ some. each) in
    let price : z ≡ min (base + cost) c = is_price ∙ cap_both c base base (n * min (unit + owing) c) cost refl units in
    let enters : entered ≤ least + setup = within_cap (least + setup) c entered is_entered in
    let most : z ≤ base + cost = within_cap (base + cost) c z price in
    record {
      enter = omega (arith, most, is_base.enter, enters);
      stay = λ kept. omega (arith, most, is_base.stay kept);
      some = λ less.
          let all : z ≡ base + cost = below_cap (base + cost) c z price less in
          ⊎_elim
          (λ new. inl (omega (arith, all, new, below_cap (least + setup) c entered is_entered (omega (arith, all, new, less)))))
          (λ old. inr (old.0, omega (arith, all, old.1)))
          is_base.some;
    }

-- a row takes the price of the next server
pub row_more : (a : LateLots) (t : ℕ) (row : List ℕ) (least n k x : ℕ) (xs : List ℕ) → k ≡ n + 1 → IsNextRowTo a t row least n xs → IsPriceAfter (2 ^ 128 - 1) (cost_from a t k) (least + a.setup k) row k x → IsNextRowTo a t row least k (xs ++ x ∷ [])
row_more a t row least n k x xs next is has = record {
  size = omega (arith, length_push xs x, is.size, next);
  each = λ u low high. ⊎_elim
      (λ before. subst (IsPriceAfter (2 ^ 128 - 1) (cost_from a t u) (least + a.setup u) row u) (sym (get_or_append_left xs (x ∷ []) 0 (u - 1) (omega (arith, before, low, is.size, next)))) (is.each u low (omega (arith, before, next))))
      (λ no.
      let e : k ≡ u = omega (arith, no, high) in
      subst (IsPriceAfter (2 ^ 128 - 1) (cost_from a t u) (least + a.setup u) row u) (sym (get_or_push xs x 0 (u - 1) (omega (arith, e, is.size, next)))) (subst (λ j. IsPriceAfter (2 ^ 128 - 1) (cost_from a t j) (least + a.setup j) row j x) e has))
      (cases_lt u k);
}

pub row_none : (a : LateLots) (t : ℕ) (row : List ℕ) (least : ℕ) (xs : List ℕ) → xs ≡ [] → IsNextRowTo a t row least 0 xs
row_none a t row least xs none = record { size = ap length none; each = λ u low high. absurd (omega (arith, low, high)) }

-- the least takes the next entry
min_low : (x y : ℕ) → min x y ≤ x
min_low x y = grind arith

min_high : (x y : ℕ) → min x y ≤ y
min_high x y = grind arith

min_either : (x y : ℕ) → (min x y ≡ x) ⊎ (min x y ≡ y)
min_either x y = ⊎_elim (λ less. inl (grind (arith, less))) (λ no. inr (grind (arith, no))) (cases_lt x y)

pub least_more : (row : List ℕ) (n k least x next : ℕ) → k ≡ n + 1 → x ≡ entry row k → next ≡ min least x → IsLeastTo row n least → IsLeastTo row k next
least_more row n k least x next at read is before = record {
  any = λ u low high. ⊎_elim
      (λ less. omega (arith, is, min_low least x, before.any u low (omega (arith, less, at))))
      (λ no. let e : u ≡ k = omega (arith, no, high) in omega (arith, is, min_high least x, read, ap (entry row) e))
      (cases_lt u k);
  some = λ less. ⊎_elim
      (λ old. let (u, low, high, within) = before.some (omega (arith, is, old, less)) in (u, low, omega (arith, high, at), omega (arith, within, is, old)))
      (λ new. (k, omega (arith, at), omega arith, omega (arith, is, new, read)))
      (min_either least x);
}

pub least_none : (row : List ℕ) → IsLeastTo row 0 (2 ^ 128 - 1)
least_none row = record { any = λ u low high. absurd (omega (arith, low, high)); some = λ less. absurd (omega (arith, less)) }

pub least_all : (need : ℕ) (row : List ℕ) (n least : ℕ) → need ≢ 0 → n ≡ length row → IsLeastTo row n least → IsLeastOfRow need row least
least_all need row n least some all is = record {
  idle = λ none. absurd (some none);
  any = λ u low high. is.any u low (omega (arith, high, all));
  some = λ less. let (u, low, high, within) = is.some less in inr (u, low, omega (arith, high, all), within);
}

pub least_idle : (need : ℕ) (row : List ℕ) (least : ℕ) → need ≡ 0 → least ≡ 0 → IsLeastOfRow need row least
least_idle need row least none is = record { idle = λ again. is; any = λ u low high. omega (arith, is); some = λ less. inl none }

-- one period more
max_next_le : (t s n : ℕ) → t ≤ n → s ≤ n → max t s ≤ n
max_next_le t s n h k = grind (arith, h, k)

serves_within : (a : LateLots) (u t : ℕ) → MayServe a u t → u ≤ servers_to a.settled t
serves_within a u zero may = absurd (omega (arith, may.some))
serves_within a u (suc t) may = may.in_time

serves_some : (a : LateLots) (u t : ℕ) → a.settled ≤ a.periods → t ≤ a.periods → 1 ≤ u → u ≤ servers_to a.settled t → MayServe a u t
serves_some a u zero within t_high low high = absurd (omega (arith, low, high))
serves_some a u (suc t) within t_high low high = record {
  some = omega arith;
  low = low;
  high = omega (arith, high, max_next_le (suc t) a.settled a.periods t_high within);
  in_time = high;
}

pub priced_first : (a : LateLots) (row : List ℕ) (least : ℕ) → IsRising a → row ≡ [] → least ≡ 0 → IsPricedTo a 0 row least
priced_first a row least rises none is = record {
  size = ap length none;
  prices = subst (IsRowOfPrices a (2 ^ 128 - 1) 0 (entry row)) (sym is) (rows_first a (2 ^ 128 - 1) (entry row) rises);
}

pub priced_next : (a : LateLots) (t : ℕ) (row next : List ℕ) (least next_least : ℕ) → IsRising a → a.settled ≤ a.periods → suc t ≤ a.periods → IsPricedTo a t row least → IsNextRowTo a (suc t) row least (servers_to a.settled (suc t)) next → IsLeastOfRow (a.need (suc t)) next next_least → IsPricedTo a (suc t) next next_least
priced_next a t row next least next_least rises within high is row_next least_next =
    let rows : IsNextRow a (2 ^ 128 - 1) t (entry row) least (entry next) = λ u may.
    let price = row_next.each u may.low may.in_time in
    record {
      enter = price.enter;
      stay = λ before. price.stay (omega (arith, is.size, serves_within a u t before));
      some = λ less. ⊎_elim
          (λ new. inl new)
          (λ old. inr (serves_some a u t within (omega (arith, high)) may.low (omega (arith, old.0, is.size)), old.1))
          (price.some less);
    } in
    let leasts : IsNextLeast a (2 ^ 128 - 1) (suc t) (entry next) next_least = record {
      idle = least_next.idle;
      any = λ u may. least_next.any u may.low (omega (arith, row_next.size, may.in_time));
      some = λ less. ⊎_elim
          (λ none. inl none)
          (λ found. let (u, low, u_high, least_is) = found in inr (u, serves_some a u (suc t) within high low (omega (arith, u_high, row_next.size)), least_is))
          (least_next.some less);
    } in
    record {
      size = row_next.size;
      prices = rows_next a (2 ^ 128 - 1) t (entry row) least (entry next) next_least
          (record { rises = rises; within = within; high = high; any = is.prices.any; row_next = rows; least_next = leasts })
          is.prices;
    }

pub priced_end : (a : LateLots) (t : ℕ) (row : List ℕ) (least : ℕ) → a.settled ≤ a.periods → t ≡ a.periods → IsPricedTo a t row least → IsLeastUpTo a (2 ^ 128 - 1) least
priced_end a t row least within last is = rows_end a (2 ^ 128 - 1) (entry row) least within (subst (λ k. IsRowOfPrices a (2 ^ 128 - 1) k (entry row) least) last is.prices)

pub priced_more : (a : LateLots) (k : ℕ) (row next : List ℕ) (least next_least : ℕ) → IsRising a → a.settled ≤ a.periods → 1 ≤ k → k ≤ a.periods → IsPricedTo a (k - 1) row least → IsNextRowTo a k row least (servers_to a.settled k) next → IsLeastOfRow (a.need k) next next_least → IsPricedTo a (k + 1 - 1) next next_least
priced_more a zero row next least next_least rises within low high is row_next least_next = absurd (omega (arith, low))
priced_more a (suc t) row next least next_least rises within low high is row_next least_next =
    let before : suc t - 1 ≡ t = omega arith in
    let after : suc t ≡ suc t + 1 - 1 = omega arith in
    subst (λ j. IsPricedTo a j next next_least) after
    (priced_next a t row next least next_least rises within high (subst (λ j. IsPricedTo a j row least) before is) row_next least_next)

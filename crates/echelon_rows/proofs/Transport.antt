-- What a unit costs from one period to the next, and how much at most.
use Rattle.std.proofs.Common.{◌≡◌, ◌≤◌, ◌<◌, ◌+◌, ◌-◌, ◌*◌, ◌∙◌, ⊎_elim, ℕ, zero, suc, sym, ap, arith, Bool, true, false, List}
use Rattle.std.specs.Prelude.{Some, None, nat_le, if◌then◌else◌}
use Rattle.std.proofs.lemmas.Bool.{cases_lt}
use Rattle.lot_sizing.specs.Sums.{sum_to, sum_from}
use Rattle.lot_sizing.specs.Problem.{backlog_price, entry}
use Rattle.lot_sizing.specs.Single.{unit_price}
use Rattle.lot_sizing.proofs.Prices.{kept, owed}
use Rattle.valid_inequalities.proofs.Ls.{sum_to-split}
use Rattle.echelon_rows.specs.Rows.{ArePriced, single_with}
use Rattle.echelon_rows.specs.declared.limits.TheConstants.{MAX_PRICE}

pub first_is : (net setup unit hold back : List ℕ) (owing : Bool) (u : ℕ) → 1 ≤ u → unit_price (single_with net setup unit hold back owing) u 1 ≡ entry unit u + sum_to (u - 1) (backlog_price (if owing then Some back else None))
first_is net setup unit hold back owing u low =
    let b = backlog_price (if owing then Some back else None) in
    let e : 1 - u ≡ 0 = omega (arith, low) in
    let i : 0 + (u - 1) ≡ u - 1 = omega arith in
    omega (arith, ap (λ k. sum_from u k (entry hold)) e, sum_to-split 0 (u - 1) b, ap (λ k. sum_to k b) i)

-- a unit that is there is kept, one that is made later is owed
pub next_is : (net setup unit hold back : List ℕ) (owing : Bool) (u t : ℕ) → (if nat_le u t then unit_price (single_with net setup unit hold back owing) u t + entry hold t else unit_price (single_with net setup unit hold back owing) u t - backlog_price (if owing then Some back else None) t) ≡ unit_price (single_with net setup unit hold back owing) u (t + 1)
next_is net setup unit hold back owing u t =
    let s = single_with net setup unit hold back owing in
    let n : suc t ≡ t + 1 = omega arith in
    let more = unit_price s u t + entry hold t in
    let less = unit_price s u t - backlog_price (if owing then Some back else None) t in
    ⊎_elim
    (λ later.
    let no : nat_le u t ≡ false = grind (arith, later) in
    ap (λ b. if b then more else less) no ∙ omega (arith, owed s u t later, ap (unit_price s u) n))
    (λ early.
    let yes : nat_le u t ≡ true = grind (arith, early) in
    ap (λ b. if b then more else less) yes ∙ sym (kept s u t early) ∙ ap (unit_price s u) n)
    (cases_lt t u)

stretch_most : (u n c : ℕ) (f : ℕ → ℕ) → ((k : ℕ) → u ≤ k → k < u + n → f k ≤ c) → sum_from u n f ≤ n * c
stretch_most u zero c f each = omega arith
stretch_most u (suc n) c f each = omega (arith, stretch_most u n c f (λ k low high. each k low (omega (arith, high))), each (u + n) (omega arith) (omega arith))

back_most : (owing : Bool) (back : List ℕ) (t : ℕ) → entry back t ≤ MAX_PRICE → backlog_price (if owing then Some back else None) t ≤ MAX_PRICE
back_most true back t h = h
back_most false back t h = omega arith

-- a unit is made once and then kept, or owed, over less than all periods
pub price_most : (net setup unit hold back : List ℕ) (owing : Bool) (T u t : ℕ) → ArePriced T unit hold back → 1 ≤ u → u ≤ T → 1 ≤ t → t ≤ T → unit_price (single_with net setup unit hold back owing) u t ≤ T * MAX_PRICE
price_most net setup unit hold back owing T u t are low high t_low t_high =
    let b = backlog_price (if owing then Some back else None) in
    let made = are.unit.small (u - 1) 0 (omega (arith, low, high, are.unit.size)) in
    let stocked = stretch_most u (t - u) MAX_PRICE (entry hold) (λ k k_low k_high. are.hold.small (k - 1) 0 (omega (arith, k_low, k_high, low, t_high, are.hold.size))) in
    let owing_it = stretch_most t (u - t) MAX_PRICE b (λ k k_low k_high. back_most owing back k (are.back.small (k - 1) 0 (omega (arith, k_low, k_high, t_low, high, are.back.size)))) in
    omega (arith, made, stocked, owing_it, low, high, t_low, t_high)

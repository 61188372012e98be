-- What a unit costs that is kept or owed one period more.
use Rattle.std.proofs.Common.{◌≡◌, ◌≤◌, ◌<◌, ◌+◌, ◌-◌, ℕ, zero, suc, ap, arith}
use Rattle.lot_sizing.specs.Sums.{sum_from}
use Rattle.lot_sizing.specs.Problem.{entry, backlog_price}
use Rattle.lot_sizing.specs.Single.{Single, unit_price}

pub sum_from-front : (u n : ℕ) (f : ℕ → ℕ) → sum_from u (suc n) f ≡ f u + sum_from (suc u) n f
sum_from-front u zero f = let e : u + 0 ≡ u = omega arith in omega (arith, ap f e)
sum_from-front u (suc n) f = let e : u + suc n ≡ suc u + n = omega arith in omega (arith, sum_from-front u n f, ap f e)

-- a unit that is there is kept
pub kept : (s : Single) (u t : ℕ) → u ≤ t → unit_price s u (suc t) ≡ unit_price s u t + entry s.hold t
kept s u t h =
    let e : suc t - u ≡ suc (t - u) = omega arith in
    let i : u + (t - u) ≡ t = omega arith in
    let a : u - suc t ≡ 0 = omega arith in
    let b : u - t ≡ 0 = omega arith in
    omega (arith, ap (λ k. sum_from u k (entry s.hold)) e, ap (entry s.hold) i, ap (λ k. sum_from (suc t) k (backlog_price s.back)) a, ap (λ k. sum_from t k (backlog_price s.back)) b)

-- a unit that is made later is owed
pub owed : (s : Single) (u t : ℕ) → t < u → unit_price s u t ≡ unit_price s u (suc t) + backlog_price s.back t
owed s u t h =
    let e : u - t ≡ suc (u - suc t) = omega arith in
    let a : t - u ≡ 0 = omega arith in
    let b : suc t - u ≡ 0 = omega arith in
    omega (arith, ap (λ k. sum_from t k (backlog_price s.back)) e, sum_from-front t (u - suc t) (backlog_price s.back), ap (λ k. sum_from u k (entry s.hold)) a, ap (λ k. sum_from u k (entry s.hold)) b)

-- a unit that is made when it is needed
pub own : (s : Single) (u : ℕ) → unit_price s u u ≡ entry s.unit u
own s u =
    let e : u - u ≡ 0 = omega arith in
    omega (arith, ap (λ k. sum_from u k (entry s.hold)) e, ap (λ k. sum_from u k (backlog_price s.back)) e)

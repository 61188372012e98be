-- How potentials rise over a stretch of positions.
use Rattle.std.proofs.Common.{◌≡◌, ◌≤◌, ◌<◌, ◌+◌, ◌-◌, ⊎_elim, ℕ, zero, suc, refl, ap, subst, arith, List}
use Rattle.std.proofs.lemmas.Bool.{cases_lt}
use Rattle.lot_sizing.specs.Sums.{sum_from, sum_to}
use Rattle.lot_sizing.specs.Problem.{entry}
use Rattle.lot_sizing.specs.Single.{potential}
use Rattle.backlog_dp.specs.Search.{rise_most}

pub potential_entry : (g : List ℕ) (p : ℕ) → 1 ≤ p → potential g p ≡ entry g p
potential_entry g zero low = absurd (omega (arith, low))
potential_entry g (suc p) low = refl

-- a sum and what follows it
sum_to-split : (t n : ℕ) (f : ℕ → ℕ) → sum_to (t + n) f ≡ sum_to t f + sum_from (suc t) n f
sum_to-split t zero f = let e : t + 0 ≡ t = omega arith in omega (arith, ap (λ k. sum_to k f) e)
sum_to-split t (suc n) f =
    let e : t + suc n ≡ suc (t + n) = omega arith in
    let i : suc t + n ≡ suc (t + n) = omega arith in
    omega (arith, ap (λ k. sum_to k f) e, ap f i, sum_to-split t n f)

-- a stretch is what the sums to its ends differ by
pub stretch_between : (first last : ℕ) (f : ℕ → ℕ) → 1 ≤ first → first ≤ last → sum_to last f ≡ sum_to (first - 1) f + sum_from first (suc last - first) f
stretch_between zero last f low order = absurd (omega (arith, low))
stretch_between (suc a) last f low order =
    let d : suc a - 1 ≡ a = omega arith in
    let n : suc last - suc a ≡ last - a = omega arith in
    let e : a + (last - a) ≡ last = omega (arith, order) in
    omega (arith, sum_to-split a (last - a) f, ap (λ k. sum_to k f) e, ap (λ k. sum_to k f) d, ap (λ k. sum_from (suc a) k f) n)

pub stretch_next : (u t : ℕ) (f : ℕ → ℕ) → u ≤ t → sum_from u (suc t - u) f ≡ sum_from u (t - u) f + f t
stretch_next u t f h =
    let e : suc t - u ≡ suc (t - u) = omega (arith, h) in
    let i : u + (t - u) ≡ t = omega (arith, h) in
    omega (arith, ap (λ k. sum_from u k f) e, ap f i)

-- one position more
pub rise_next : (g costs : List ℕ) (setup first last cost : ℕ) → first ≤ last → cost ≡ potential g (first - 1) + (setup + sum_from first (last - first) (entry costs)) → rise_most g costs setup first last ≡ cost + entry costs last
rise_next g costs setup first last cost h is = omega (arith, is, stretch_next first last (entry costs) h)

pub holds_next : (g costs : List ℕ) (setup first last : ℕ) → ((k : ℕ) → first ≤ k → k < last → potential g k ≤ rise_most g costs setup first k) → potential g last ≤ rise_most g costs setup first last → (k : ℕ) → first ≤ k → k < last + 1 → potential g k ≤ rise_most g costs setup first k
holds_next g costs setup first last each here k low less =
    ⊎_elim
    (λ before. each k low before)
    (λ after. let e : last ≡ k = omega (arith, after, less) in subst (λ j. potential g j ≤ rise_most g costs setup first j) e here)
    (cases_lt k last)

-- The overlaps add to what is asked for, and to no more than what is made.
use Rattle.std.proofs.Common.{◌≡◌, ◌≤◌, ◌+◌, ◌-◌, ℕ, zero, suc, ap, arith, min, max}
use Rattle.lot_sizing.specs.Sums.{sum_to}
use Rattle.lot_sizing.proofs.Sums.{sum_to-front, sum_to_at}
use Rattle.facility_form.specs.Overlap.{Serves, overlap}

-- the overlap of two stretches, by where both end and where both begin
cross : (a b c d : ℕ) → a ≤ b → c ≤ d → (min b d - max a c) + min a d + min b c ≡ min b d + min a c
cross a b c d ab cd = omega (arith, ab, cd)

-- what is made up to period n for a period
made_for : (make net : ℕ → ℕ) (s n : ℕ) → sum_to n (λ u. overlap make net u s) + min (sum_to n make) (sum_to (s - 1) net) ≡ min (sum_to n make) (sum_to s net)
made_for make net s zero = omega arith
made_for make net s (suc n) =
    let e : suc n - 1 ≡ n = omega arith in
    let before : sum_to (s - 1) net ≤ sum_to s net = sum_to-front (s - 1) s net (omega arith) in
    omega (arith, made_for make net s n, cross (sum_to n make) (sum_to (suc n) make) (sum_to (s - 1) net) (sum_to s net) (omega arith) before, ap (λ k. sum_to k make) e)

-- what period u makes for the periods up to n
made_by : (make net : ℕ → ℕ) (u n : ℕ) → sum_to n (λ s. overlap make net u s) + min (sum_to (u - 1) make) (sum_to n net) ≡ min (sum_to u make) (sum_to n net)
made_by make net u zero = omega arith
made_by make net u (suc n) =
    let e : suc n - 1 ≡ n = omega arith in
    let before : sum_to (u - 1) make ≤ sum_to u make = sum_to-front (u - 1) u make (omega arith) in
    omega (arith, made_by make net u n, cross (sum_to (u - 1) make) (sum_to u make) (sum_to n net) (sum_to (suc n) net) before (omega arith), ap (λ k. sum_to k net) e)

pub serves : (periods : ℕ) (make net : ℕ → ℕ) → sum_to periods net ≤ sum_to periods make → Serves periods make net
serves periods make net enough = record {
  asked = λ s low high. omega (arith, made_for make net s periods, sum_to-front s periods net high, sum_to-front (s - 1) periods net (omega (arith, high)), enough, sum_to_at s net low);
  made = λ u low high. omega (arith, made_by make net u periods, sum_to_at u make low);
}

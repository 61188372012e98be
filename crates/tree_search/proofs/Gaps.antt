-- A cost within a gap stays within it where the bound rises and the cost falls.
use Rattle.std.proofs.Common.{◌≡◌, ◌≤◌, ◌+◌, ◌-◌, ◌*◌, ⊎_elim, ℕ, ap, arith, Option, Some, None}
use Rattle.std.proofs.lemmas.Bool.{cases_lt}
use Rattle.std.proofs.lemmas.Nat.{mul-le}
use Rattle.tree_search.specs.Costs.{IsAtMost}
use Rattle.tree_search.specs.Gaps.{IsNear}

-- a gap of less than the whole
within_part : (gap rest low bound less cost : ℕ) → gap + rest ≡ 10000 → low ≤ bound → less ≤ cost → 10000 * cost ≤ 10000 * low + gap * cost → 10000 * less ≤ 10000 * bound + gap * less
within_part gap rest low bound less cost whole up down near =
    let all : (gap + rest) * cost ≡ 10000 * cost = ap (λ n. n * cost) whole in
    let some : (gap + rest) * less ≡ 10000 * less = ap (λ n. n * less) whole in
    let fewer : rest * less ≤ rest * cost = mul-le rest less rest cost (omega arith) down in
    omega (arith, all, some, fewer, up, near)

-- and one of the whole or more
within_more : (gap bound less : ℕ) → 10000 ≤ gap → 10000 * less ≤ 10000 * bound + gap * less
within_more gap bound less whole =
    let more : 10000 * less ≤ gap * less = mul-le 10000 less gap less whole (omega arith) in
    omega (arith, more)

within_later : (gap low bound less cost : ℕ) → low ≤ bound → less ≤ cost → 10000 * cost ≤ 10000 * low + gap * cost → 10000 * less ≤ 10000 * bound + gap * less
within_later gap low bound less cost up down near =
    ⊎_elim
    (λ part. let whole : gap + (10000 - gap) ≡ 10000 = omega (arith, part) in within_part gap (10000 - gap) low bound less cost whole up down near)
    (λ more. within_more gap bound less more)
    (cases_lt gap 10000)

pub near_later : (gap low bound best less : Option ℕ) → IsAtMost low bound → IsAtMost less best → IsNear gap low best → IsNear gap bound less
near_later gap low None best less up down near = tt
near_later gap None (Some bound) best less up down near = absurd up
near_later None (Some low) (Some bound) best less up down near = absurd near
near_later (Some gap) (Some low) (Some bound) None less up down near = absurd near
near_later (Some gap) (Some low) (Some bound) (Some cost) None up down near = absurd down
near_later (Some gap) (Some low) (Some bound) (Some cost) (Some less) up down near = within_later gap low bound less cost up down near

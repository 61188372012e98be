-- How high numbers are drawn.
use Rattle.std.proofs.Common.{◌≡◌, ◌≤◌, ◌<◌, ◌+◌, ◌*◌, ⊎_elim, ℕ, max, min, arith}
use Rattle.std.specs.Int.{div_ceil}
use Rattle.std.proofs.Math.Nat.{mul-le-mul_right}
use Rattle.std.proofs.lemmas.Bool.{cases_lt}
use Rattle.std.proofs.lemmas.Grind.{div_ceil_times}
use Rattle.plan_page.specs.Charts.{scaled}
use Rattle.plan_page.specs.declared.chart.Chart.{Chart}
use Rattle.plan_page.specs.declared.chart.TheConstants.{PLOT}

-- a factor is below another where the products are
less : (q k n : ℕ) → q * n < k * n → q < k
less q k n h = ⊎_elim (λ yes. yes) (λ no. absurd (omega (arith, h, mul-le-mul_right n no))) (cases_lt q k)

-- a quotient that is rounded up
above : (a n : ℕ) → 0 < n → a ≤ div_ceil a n * n
above a n h = (div_ceil_times a n h).0

below : (a n : ℕ) → 0 < n → div_ceil a n * n < a + n
below a n h = (div_ceil_times a n h).1

within : (v n : ℕ) → 0 < n → div_ceil (min v n * 120) n ≤ 120
within v n h =
    let least : min v n ≤ n = omega arith in
    let few : div_ceil (min v n * 120) n * n < 121 * n = omega (arith, below (min v n * 120) n h, least) in
    omega (arith, less (div_ceil (min v n * 120) n) 121 n few)

shown : (v n : ℕ) → 0 < n → 0 < v → 0 < div_ceil (min v n * 120) n
shown v n h some =
    let least : 0 < min v n = omega arith in
    let more : 0 * n < div_ceil (min v n * 120) n * n = omega (arith, above (min v n * 120) n h, least) in
    less 0 (div_ceil (min v n * 120) n) n more

order : (v w n : ℕ) → 0 < n → v ≤ w → div_ceil (min v n * 120) n ≤ div_ceil (min w n * 120) n
order v w n h le =
    let most : min v n ≤ min w n = omega arith in
    let few : div_ceil (min v n * 120) n * n < (div_ceil (min w n * 120) n + 1) * n = omega (arith, below (min v n * 120) n h, above (min w n * 120) n h, most) in
    omega (arith, less (div_ceil (min v n * 120) n) (div_ceil (min w n * 120) n + 1) n few)

full : (v n : ℕ) → 0 < n → n ≤ v → div_ceil (min v n * 120) n ≡ 120
full v n h le =
    let most : min v n ≡ n = omega arith in
    let few : 119 * n < div_ceil (min v n * 120) n * n = omega (arith, above (min v n * 120) n h, most) in
    omega (arith, within v n h, less 119 (div_ceil (min v n * 120) n) n few)

pub scaled_within : (c : Chart) (v : ℕ) → scaled c v ≤ PLOT
unfolding scaled
scaled_within c v = within v (max c.most 1) (omega arith)

pub scaled_shown : (c : Chart) (v : ℕ) → 0 < v → 0 < scaled c v
unfolding scaled
scaled_shown c v some = shown v (max c.most 1) (omega arith) some

pub scaled_order : (c : Chart) (v w : ℕ) → v ≤ w → scaled c v ≤ scaled c w
unfolding scaled
scaled_order c v w le = order v w (max c.most 1) (omega arith) le

pub scaled_full : (c : Chart) → 0 < c.most → scaled c c.most ≡ PLOT
unfolding scaled
scaled_full c some = full c.most (max c.most 1) (omega arith) (omega arith)

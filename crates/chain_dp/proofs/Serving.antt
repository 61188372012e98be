-- What lots cost is at least what is asked at the price of the cheapest lot so far.
use Rattle.std.proofs.Common.{◌≡◌, ◌≤◌, ◌<◌, ◌+◌, ◌-◌, ◌*◌, ℕ, zero, suc, refl, ap, arith}
use Rattle.std.proofs.Math.Nat.{mul-le-mul_left, mul-le-mul_right}
use Rattle.lot_sizing.specs.Sums.{sum_to}
use Rattle.lot_sizing.proofs.Sums.{sum_to-add}
use Rattle.chain_dp.specs.Chains.{Level, Lots, lots_cost}
use Rattle.chain_dp.specs.Costs.{IsMadeAtOnce}
use Rattle.chain_dp.proofs.Prices.{lot_price}
use Rattle.chain_dp.proofs.Servers.{paid, price_falls, price_least, server}

-- quantities that cover what is asked for, their prices, and a price that never rises and is at most theirs
pub record IsCovered (periods opening worth : ℕ) (make asked price cheap : ℕ → ℕ) : Type 0 where
  pub covered : (t : ℕ) → t ≤ periods → sum_to t asked ≤ opening + sum_to t make
  pub first : cheap 0 ≤ worth
  pub falls : (t : ℕ) → t < periods → cheap (suc t) ≤ cheap t
  pub least : (t : ℕ) → t < periods → 0 < make (suc t) → cheap (suc t) ≤ price (suc t)

-- with less of a price for what is over
lower : (a b p q : ℕ) → a ≤ b → q ≤ p → p * a + q * b ≤ p * b + q * a
lower a b p q less falls =
    let e : b ≡ a + (b - a) = omega (arith, less) in
    let h = mul-le-mul_right (b - a) falls in
    omega (arith, h, ap (λ k. p * k) e, ap (λ k. q * k) e)

made_at : (x p q : ℕ) → (0 < x → q ≤ p) → q * x ≤ p * x
made_at zero p q h = omega arith
made_at (suc x) p q h = mul-le-mul_right (suc x) (h (omega arith))

so_far : (periods opening worth : ℕ) (make asked price cheap : ℕ → ℕ) → IsCovered periods opening worth make asked price cheap → (t : ℕ) → t ≤ periods →
    sum_to t (λ r. cheap r * asked r) + cheap t * (opening + sum_to t make) ≤ worth * opening + sum_to t (λ r. price r * make r) + cheap t * sum_to t asked
so_far periods opening worth make asked price cheap is zero h = omega (arith, mul-le-mul_right opening is.first)
so_far periods opening worth make asked price cheap is (suc t) h =
    let p = cheap t in
    let q = cheap (suc t) in
    let low : t < periods = omega (arith, h) in
    omega (
      arith,
      so_far periods opening worth make asked price cheap is t (omega (arith, h)),
      lower (sum_to t asked) (opening + sum_to t make) p q (is.covered t (omega (arith, h))) (is.falls t low),
      made_at (make (suc t)) (price (suc t)) q (is.least t low),
    )

pub covered_cost : (periods opening worth : ℕ) (make asked price cheap : ℕ → ℕ) → IsCovered periods opening worth make asked price cheap →
    sum_to periods (λ r. cheap r * asked r) ≤ worth * opening + sum_to periods (λ r. price r * make r)
covered_cost periods opening worth make asked price cheap is =
    omega (arith, so_far periods opening worth make asked price cheap is periods (omega arith), mul-le-mul_left (cheap periods) (is.covered periods (omega arith)))

-- the price of a lot of a level, where what goes into a unit costs so much by periods
abbrev pub price_of : Level → (ℕ → ℕ) → ℕ → ℕ
price_of l below t = lot_price l t (below t)

-- the costs of both kinds of use apart
apart : (n a : ℕ) (cheap next need : ℕ → ℕ) → sum_to n (λ r. cheap r * (a * next r + need r)) ≡ sum_to n (λ r. a * cheap r * next r) + sum_to n (λ r. need r * cheap r)
apart zero a cheap next need = refl
apart (suc n) a cheap next need = omega (arith, apart n a cheap next need)

used_is : (n a : ℕ) (next need : ℕ → ℕ) → sum_to n (λ r. a * next r + need r) ≡ a * sum_to n next + sum_to n need
used_is zero a next need = omega arith
used_is (suc n) a next need = omega (arith, used_is n a next need)

prices_apart : (n : ℕ) (l : Level) (below make : ℕ → ℕ) → sum_to n (λ r. price_of l below r * make r) ≡ sum_to n (λ r. l.unit_cost r * make r) + sum_to n (λ r. below r * make r)
prices_apart zero l below make = refl
prices_apart (suc n) l below make = omega (arith, prices_apart n l below make)

paid_apart : (n : ℕ) (l : Level) (setup price v : ℕ → ℕ) → paid l setup price v n ≡ sum_to n (λ r. l.setup_cost r * setup r) + sum_to n (λ r. l.need r * price (v r))
paid_apart n l setup price v = sum_to-add n (λ r. l.setup_cost r * setup r) (λ r. l.need r * price (v r))

cost_apart : (n : ℕ) (l : Level) (w : Lots) → lots_cost n l w ≡ sum_to n (λ r. l.setup_cost r * w.setup r) + sum_to n (λ r. l.unit_cost r * w.make r) + l.opening_price * (w.make 0)
cost_apart n l w = omega (arith, sum_to-add n (λ r. l.setup_cost r * w.setup r) (λ r. l.unit_cost r * w.make r))

-- a level pays what is asked of it, at the price of its servers, and what its next one uses; what it uses itself is on the other side
pub level_pays : (periods : ℕ) (l : Level) (w : Lots) (a : ℕ) (next below : ℕ → ℕ) → IsMadeAtOnce periods l (λ t. a * sum_to t next) w →
    paid l w.setup (price_of l below) (server w.setup (price_of l below)) periods + sum_to periods (λ t. a * price_of l below (server w.setup (price_of l below) t) * next t)
    ≤ lots_cost periods l w + sum_to periods (λ t. below t * w.make t)
level_pays periods l w a next below is =
    let price = price_of l below in
    let v = server w.setup price in
    let cheap = λ (t : ℕ). price (v t) in
    let asked = λ (t : ℕ). a * next t + l.need t in
    let covers : IsCovered periods (w.make 0) l.opening_price w.make asked price cheap = record {
      covered = λ t h. omega (arith, is.served t h, used_is t a next l.need);
      first = omega arith;
      falls = λ t h. price_falls w.setup price t;
      least = λ t h some. price_least w.setup price t (is.setup (suc t) (omega arith) (omega (arith, h)) some);
    } in
    omega (
      arith,
      covered_cost periods (w.make 0) l.opening_price w.make asked price cheap covers,
      apart periods a cheap next l.need,
      prices_apart periods l below w.make,
      paid_apart periods l w.setup price v,
      cost_apart periods l w,
    )

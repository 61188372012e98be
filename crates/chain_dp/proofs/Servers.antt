-- The cheapest lot so far, as the periods go by, and what is paid with it.
use Rattle.std.proofs.Common.{◌≡◌, ◌≤◌, ◌+◌, ◌*◌, ◌⊎◌, ⊎_elim, inl, inr, ℕ, zero, suc, ap, arith, true, false}
use Rattle.std.specs.Prelude.{if◌then◌else◌, ◌==◌, ◌||◌, nat_le}
use Rattle.std.proofs.lemmas.Bool.{cases_Bool}
use Rattle.lot_sizing.specs.Sums.{sum_to}
use Rattle.chain_dp.specs.Chains.{Level}
use Rattle.chain_dp.specs.Lists.{asked_before}

-- the cheapest lot up to a period among lot 0 and those that are set up
abbrev pub server : (ℕ → ℕ) → (ℕ → ℕ) → ℕ → ℕ
server setup price zero = 0
server setup price (suc t) = if setup (suc t) == 0 || nat_le (price (server setup price t)) (price (suc t)) then server setup price t else suc t

pub record IsKept (setup price : ℕ → ℕ) (t before now : ℕ) : Type 0 where
  pub same : now ≡ before
  pub cheap : 1 ≤ setup (suc t) → price before ≤ price (suc t)

pub record IsTaken (setup price : ℕ → ℕ) (t before now : ℕ) : Type 0 where
  pub new : now ≡ suc t
  pub made : 1 ≤ setup (suc t)
  pub cheap : price (suc t) ≤ price before

kept_test : (y p q : ℕ) → (y == 0 || nat_le p q) ≡ true → 1 ≤ y → p ≤ q
kept_test y p q h some = grind arith

taken_test : (y p q : ℕ) → (y == 0 || nat_le p q) ≡ false → (1 ≤ y) × (q ≤ p)
taken_test y p q h = (grind arith, grind arith)

pub server_step : (setup price : ℕ → ℕ) (t : ℕ) → IsKept setup price t (server setup price t) (server setup price (suc t)) ⊎ IsTaken setup price t (server setup price t) (server setup price (suc t))
server_step setup price t =
    let b = server setup price t in
    let test = setup (suc t) == 0 || nat_le (price b) (price (suc t)) in
    ⊎_elim
    (λ yes. inl (record { same = ap (λ k. if k then b else suc t) yes; cheap = kept_test (setup (suc t)) (price b) (price (suc t)) yes }))
    (λ no. inr (record { new = ap (λ k. if k then b else suc t) no; made = (taken_test (setup (suc t)) (price b) (price (suc t)) no).0; cheap = (taken_test (setup (suc t)) (price b) (price (suc t)) no).1 }))
    (cases_Bool test)

pub server_early : (setup price : ℕ → ℕ) (t : ℕ) → server setup price t ≤ t
server_early setup price zero = omega arith
server_early setup price (suc t) =
    ⊎_elim
    (λ kept. omega (arith, kept.same, server_early setup price t))
    (λ taken. omega (arith, taken.new))
    (server_step setup price t)

-- the price of the cheapest lot never rises
pub price_falls : (setup price : ℕ → ℕ) (t : ℕ) → price (server setup price (suc t)) ≤ price (server setup price t)
price_falls setup price t =
    ⊎_elim
    (λ kept. omega (arith, ap price kept.same))
    (λ taken. omega (arith, ap price taken.new, taken.cheap))
    (server_step setup price t)

-- and is at most that of each lot that is set up
pub price_least : (setup price : ℕ → ℕ) (t : ℕ) → 1 ≤ setup (suc t) → price (server setup price (suc t)) ≤ price (suc t)
price_least setup price t some =
    ⊎_elim
    (λ kept. omega (arith, ap price kept.same, kept.cheap some))
    (λ taken. omega (arith, ap price taken.new))
    (server_step setup price t)

-- what is paid up to a period: fees, and what is asked at the price of its server
abbrev pub paid : Level → (ℕ → ℕ) → (ℕ → ℕ) → (ℕ → ℕ) → ℕ → ℕ
paid l setup price v t = sum_to t (λ r. l.setup_cost r * setup r + l.need r * price (v r))

-- what is paid when a lot is opened
abbrev pub opened : Level → (ℕ → ℕ) → (ℕ → ℕ) → (ℕ → ℕ) → ℕ → ℕ
opened l setup price v zero = 0
opened l setup price v (suc t) = paid l setup price v t + l.setup_cost (suc t) * setup (suc t)

-- the server so far serves all that was asked since it was opened
pub served : (l : Level) (setup price : ℕ → ℕ) (t : ℕ) →
    opened l setup price (server setup price) (server setup price t) + price (server setup price t) * asked_before l (suc t)
    ≤ paid l setup price (server setup price) t + price (server setup price t) * asked_before l (server setup price t)
served l setup price zero = omega arith
served l setup price (suc t) =
    let v = server setup price in
    ⊎_elim
    (λ kept. rw kept.same (omega (arith, served l setup price t)))
    (λ taken. rw taken.new (omega arith))
    (server_step setup price t)

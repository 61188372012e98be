-- The worked chain.
use Rattle.std.proofs.Common.{◌≤◌, ◌<◌, ◌+◌, ◌-◌, ◌*◌, ℕ, zero, suc, refl, arith, List, [], ◌∷◌}
use Rattle.std.specs.Prelude.{if◌then◌else◌, ◌==◌}
use Rattle.lot_sizing.specs.Sums.{sum_to}
use Rattle.chain_dp.specs.Chains.{IsChainMade, IsMade, Lots, chain_cost, lots_cost, made, used_by, used_by_next}
use Rattle.chain_dp.specs.Worked.{WorkedChain, part, product}

-- so many units in period 1
abbrev in_first : ℕ → Lots
in_first units = record { make = λ t. if t == 1 then units else 0; setup = λ t. if t == 1 then 1 else 0 }

at_most_once : (t : ℕ) → (if t == 1 then 1 else 0) ≤ 1
at_most_once t = grind arith

with_a_setup : (t units : ℕ) → 0 < (if t == 1 then units else 0) → 1 ≤ (if t == 1 then 1 else 0)
with_a_setup t units some = grind arith

parts_served : (t : ℕ) → t ≤ 2 → used_by 2 (in_first 2) t + sum_to t part.need ≤ made (in_first 4) (t - 0)
parts_served zero h = omega arith
parts_served (suc zero) h = omega arith
parts_served (suc (suc zero)) h = omega arith
parts_served (suc (suc (suc t))) h = absurd (omega (arith, h))

products_served : (t : ℕ) → t ≤ 2 → used_by_next 1 [] t + sum_to t product.need ≤ made (in_first 2) (t - 0)
products_served zero h = omega arith
products_served (suc zero) h = omega arith
products_served (suc (suc zero)) h = omega arith
products_served (suc (suc (suc t))) h = absurd (omega (arith, h))

parts_made : IsMade 2 part (used_by_next 2 (in_first 2 ∷ [])) (in_first 4)
parts_made = record {
  once = λ t low high. at_most_once t;
  setup = λ t low high some. with_a_setup t 4 some;
  served = parts_served;
}

products_made : IsMade 2 product (used_by_next 1 []) (in_first 2)
products_made = record {
  once = λ t low high. at_most_once t;
  setup = λ t low high some. with_a_setup t 2 some;
  served = products_served;
}

-- enough of each, and a setup where there are any in a period
least_sum : (a0 a1 a2 s1 s2 b0 b1 b2 r1 r2 : ℕ) → 2 * (b1 + b2) ≤ a0 + (a1 + a2) → 2 ≤ b0 + (b1 + b2) → (0 < a1 → 1 ≤ s1) → (0 < a2 → 1 ≤ s2) → (0 < b1 → 1 ≤ r1) → (0 < b2 → 1 ≤ r2)
    → 15 ≤ 5 * s1 + a1 + (5 * s2 + a2) + 100 * a0 + (4 * r1 + b1 + (4 * r2 + b2) + 100 * b0)
least_sum a0 a1 a2 s1 s2 b0 b1 b2 r1 r2 parts products h1 h2 h3 h4 = grind arith

least_of : (a b : Lots) → IsMade 2 part (used_by 2 b) a → IsMade 2 product (used_by_next 1 []) b → 15 ≤ lots_cost 2 part a + lots_cost 2 product b
least_of a b low top =
    omega (
      arith,
      least_sum (a.make 0) (a.make 1) (a.make 2) (a.setup 1) (a.setup 2) (b.make 0) (b.make 1) (b.make 2) (b.setup 1) (b.setup 2)
          (omega (arith, low.served 2 (omega arith)))
          (omega (arith, top.served 2 (omega arith)))
          (low.setup 1 (omega arith) (omega arith))
          (low.setup 2 (omega arith) (omega arith))
          (top.setup 1 (omega arith) (omega arith))
          (top.setup 2 (omega arith) (omega arith)),
    )

least : (ws : List Lots) → IsChainMade 2 (part ∷ product ∷ []) ws → 15 ≤ chain_cost 2 (part ∷ product ∷ []) ws
least [] is = absurd is
least (a ∷ []) is = absurd is.1
least (a ∷ b ∷ []) is = omega (arith, least_of a b is.0 is.1.0)
least (a ∷ b ∷ c ∷ ws) is = absurd is.1.1

pub worked : WorkedChain
worked = record {
  some = (in_first 4 ∷ in_first 2 ∷ [], (parts_made, (products_made, tt)), refl);
  least = least;
}

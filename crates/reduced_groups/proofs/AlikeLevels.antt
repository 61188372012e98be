-- Chains of levels that are the same in each period have the same least cost.
use Rattle.std.proofs.Common.{◌≡◌, ◌+◌, ◌-◌, ◌*◌, ◌∙◌, ℕ, refl, sym, ap, arith, List, [], ◌∷◌}
use Rattle.lot_sizing.specs.Sums.{sum_to}
use Rattle.lot_sizing.proofs.Sums.{sum_to-same}
use Rattle.chain_dp.specs.Chains.{IsChainMade, IsLeastChainCost, IsMade, Level, Lots, chain_cost, lots_cost, made, opening_cost, used_by_next}
use Rattle.reduced_groups.specs.Levels.{AreAlikeLevels, IsAlikeLevel}

level_turned : (n : ℕ) (k l : Level) → IsAlikeLevel n k l → IsAlikeLevel n l k
level_turned n k l same = record {
  setup_cost = λ t low high. sym (same.setup_cost t low high);
  unit_cost = λ t low high. sym (same.unit_cost t low high);
  need = λ t low high. sym (same.need t low high);
  opening_price = sym same.opening_price;
  per_next = sym same.per_next;
  lead = sym same.lead;
}

turned : (n : ℕ) (ks ls : List Level) → AreAlikeLevels n ks ls → AreAlikeLevels n ls ks
turned n [] [] same = tt
turned n [] (l ∷ ls) same = absurd same
turned n (k ∷ ks) [] same = absurd same
turned n (k ∷ ks) (l ∷ ls) same = (level_turned n k l same.0, turned n ks ls same.1)

level_made : (n : ℕ) (k l : Level) (w : Lots) (ws : List Lots) → IsAlikeLevel n k l → IsMade n k (used_by_next k.per_next ws) w → IsMade n l (used_by_next l.per_next ws) w
level_made n k l w ws same is = record {
  once = is.once;
  setup = is.setup;
  served = λ t high. omega (
    arith,
    is.served t high,
    ap (λ u. used_by_next u ws t) same.per_next,
    sum_to-same t k.need l.need (λ u u_low u_high. same.need u u_low (omega (arith, u_high, high))),
    ap (λ d. made w (t - d)) same.lead,
  );
}

chain_made : (n : ℕ) (ks ls : List Level) (ws : List Lots) → AreAlikeLevels n ks ls → IsChainMade n ks ws → IsChainMade n ls ws
chain_made n [] [] ws same is = is
chain_made n [] (l ∷ ls) ws same is = absurd same
chain_made n (k ∷ ks) [] ws same is = absurd same
chain_made n (k ∷ ks) (l ∷ ls) [] same is = is
chain_made n (k ∷ ks) (l ∷ ls) (w ∷ ws) same is = (level_made n k l w ws same.0 is.0, chain_made n ks ls ws same.1 is.1)

level_cost : (n : ℕ) (k l : Level) (w : Lots) → IsAlikeLevel n k l → lots_cost n k w ≡ lots_cost n l w
level_cost n k l w same =
    omega (
      arith,
      sum_to-same n (λ t. k.setup_cost t * w.setup t + k.unit_cost t * w.make t) (λ t. l.setup_cost t * w.setup t + l.unit_cost t * w.make t) (λ t low high.
          omega (arith, ap (λ c. c * w.setup t) (same.setup_cost t low high), ap (λ c. c * w.make t) (same.unit_cost t low high))),
      ap (λ c. c * w.make 0) same.opening_price,
    )

costs_same : (n : ℕ) (ks ls : List Level) (ws : List Lots) → AreAlikeLevels n ks ls → chain_cost n ks ws ≡ chain_cost n ls ws
costs_same n [] [] ws same = refl
costs_same n [] (l ∷ ls) ws same = absurd same
costs_same n (k ∷ ks) [] ws same = absurd same
costs_same n (k ∷ ks) (l ∷ ls) [] same = refl
costs_same n (k ∷ ks) (l ∷ ls) (w ∷ ws) same = omega (arith, level_cost n k l w same.0, costs_same n ks ls ws same.1)

pub least_same : (n : ℕ) (ks ls : List Level) (c : ℕ) → AreAlikeLevels n ks ls → IsLeastChainCost n ks c → IsLeastChainCost n ls c
least_same n ks ls c same is = record {
  some = let (ws, made, costs) = is.some in (ws, chain_made n ks ls ws same made, sym (costs_same n ks ls ws same) ∙ costs);
  least = λ ws made. omega (arith, is.least ws (chain_made n ls ks ws (turned n ks ls same) made), costs_same n ks ls ws same);
}

pub one_least : (n : ℕ) (ls : List Level) (a b : ℕ) → IsLeastChainCost n ls a → IsLeastChainCost n ls b → a ≡ b
one_least n ls a b is_a is_b =
    let (va, made_a, cost_a) = is_a.some in
    let (vb, made_b, cost_b) = is_b.some in
    omega (arith, is_a.least vb made_b, cost_b, is_b.least va made_a, cost_a)

-- and their opening stocks cost the same
pub opening_same : (n : ℕ) (ks ls : List Level) → AreAlikeLevels n ks ls → opening_cost n ks ≡ opening_cost n ls
opening_same n [] [] same = refl
opening_same n [] (l ∷ ls) same = absurd same
opening_same n (k ∷ ks) [] same = absurd same
opening_same n (k ∷ ks) (l ∷ ls) same =
    omega (
      arith,
      ap (λ p. p * sum_to n k.need) (same.0).opening_price,
      ap (λ s. l.opening_price * s) (sum_to-same n k.need l.need (same.0).need),
      opening_same n ks ls same.1,
    )

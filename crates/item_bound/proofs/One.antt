-- What the items of a problem cost apart is one amount.
use Rattle.std.proofs.Common.{◌≡◌, ◌∙◌, ⊎_elim, ℕ, sym, arith}
use Rattle.lot_sizing.specs.Problem.{Problem, item_count}
use Rattle.lot_sizing.specs.Single.{IsLeastNetCost, Single}
use Rattle.lot_sizing.proofs.Sums.{sum_to-same}
use Rattle.item_bound.specs.Apart.{ApartIsOne, CostsApart, IsApartOf, IsSumTo}

-- of two least costs neither is less than the other
least_one : (s : Single) (a b : ℕ) → IsLeastNetCost s a → IsLeastNetCost s b → a ≡ b
least_one s a b first second =
    let (p, p_serves, p_costs) = first.some in
    let (q, q_serves, q_costs) = second.some in
    omega (arith, first.least q q_serves, second.least p p_serves, p_costs, q_costs)

costs_one : (m : Problem) (weight : ℕ → ℕ → ℕ) (i a b : ℕ) → CostsApart m weight i a → CostsApart m weight i b → a ≡ b
costs_one m weight i a b first second = omega (arith, first.sum, second.sum, least_one _ first.plan_cost second.plan_cost first.least second.least)

item_one : (m : Problem) (weight : ℕ → ℕ → ℕ) (i a b : ℕ) → IsApartOf m weight i a → IsApartOf m weight i b → a ≡ b
item_one m weight i a b first second =
    ⊎_elim
    (λ free. ⊎_elim (λ also. costs_one m weight i a b free.1 also.1) (λ none. absurd (none.0 free.0)) second)
    (λ none. ⊎_elim (λ free. absurd (none.0 free.0)) (λ also. none.1 ∙ sym also.1) second)
    first

sums_one : (m : Problem) (weight : ℕ → ℕ → ℕ) (n a b : ℕ) → IsSumTo m weight n a → IsSumTo m weight n b → a ≡ b
sums_one m weight n a b first second =
    first.sum ∙ sum_to-same n first.each second.each (λ i low high. item_one m weight i (first.each i) (second.each i) (first.items i low high) (second.items i low high)) ∙ sym second.sum

pub apart_one : ApartIsOne
apart_one = λ m a b first second.
    let (weight, are) = first.own in
    sums_one m weight (item_count m) a b (first.sum weight are) (second.sum weight are)

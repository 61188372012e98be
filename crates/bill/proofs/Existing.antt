-- Totals and weights exist where items have ranks.
use Rattle.std.proofs.Common.{◌≡◌, ◌≤◌, ◌<◌, ◌+◌, ◌-◌, ◌*◌, ⊎_elim, ℕ, zero, suc, ap, arith}
use Rattle.std.proofs.lemmas.Bool.{cases_lt}
use Rattle.lot_sizing.specs.Sums.{sum_to}
use Rattle.lot_sizing.specs.Bill.{Bill, AreTotals, AreWeights, HasRanks, one_if_same}
use Rattle.lot_sizing.proofs.Sums.{sum_to-same, sum_to-front, sum_to_at}

-- totals by levels of the bill
abbrev total_to : Bill → (ℕ → ℕ) → (ℕ → ℕ) → ℕ → ℕ → ℕ
total_to b asked there zero i = 0
total_to b asked there (suc n) i = (asked i + sum_to b.items (λ j. b.units i j * total_to b asked there n j)) - there i

abbrev weight_to : Bill → ℕ → ℕ → ℕ → ℕ
weight_to b zero i k = 0
weight_to b (suc n) i k = one_if_same i k + sum_to b.items (λ j. b.units i j * weight_to b n j k)

-- sums over the users of an item, where what they have is the same
users_same : (b : Bill) (i : ℕ) (f g : ℕ → ℕ) → ((j : ℕ) → 1 ≤ j → j ≤ b.items → 0 < b.units i j → f j ≡ g j) → sum_to b.items (λ j. b.units i j * f j) ≡ sum_to b.items (λ j. b.units i j * g j)
users_same b i f g same = sum_to-same b.items (λ j. b.units i j * f j) (λ j. b.units i j * g j) (λ j low high. ⊎_elim
    (λ some. ap (λ x. b.units i j * x) (same j low high some))
    (λ none. let e : b.units i j ≡ 0 = omega (arith, none) in omega (arith, ap (λ x. x * f j) e, ap (λ x. x * g j) e))
    (cases_lt 0 (b.units i j)))

total_stays : (b : Bill) (asked there rank : ℕ → ℕ) → HasRanks b rank → (n i : ℕ) → 1 ≤ i → i ≤ b.items → rank i < n → total_to b asked there n i ≡ total_to b asked there (suc n) i
total_stays b asked there rank ranks zero i low high few = absurd (omega (arith, few))
total_stays b asked there rank ranks (suc n) i low high few =
    ap (λ x. (asked i + x) - there i) (users_same b i (total_to b asked there n) (total_to b asked there (suc n)) (λ j j_low j_high some. total_stays b asked there rank ranks n j j_low j_high (omega (arith, few, ranks i j low high j_low j_high some))))

weight_stays : (b : Bill) (rank : ℕ → ℕ) → HasRanks b rank → (n i k : ℕ) → 1 ≤ i → i ≤ b.items → rank i < n → weight_to b n i k ≡ weight_to b (suc n) i k
weight_stays b rank ranks zero i k low high few = absurd (omega (arith, few))
weight_stays b rank ranks (suc n) i k low high few =
    ap (λ x. one_if_same i k + x) (users_same b i (λ j. weight_to b n j k) (λ j. weight_to b (suc n) j k) (λ j j_low j_high some. weight_stays b rank ranks n j k j_low j_high (omega (arith, few, ranks i j low high j_low j_high some))))

-- no rank is above the sum of all
rank_high : (n : ℕ) (rank : ℕ → ℕ) (i : ℕ) → 1 ≤ i → i ≤ n → rank i < suc (sum_to n rank)
rank_high n rank i low high = omega (arith, sum_to_at i rank low, sum_to-front i n rank high)

pub totals_exist : (b : Bill) (asked there rank : ℕ → ℕ) → HasRanks b rank → (total : ℕ → ℕ) × AreTotals b asked there total
totals_exist b asked there rank ranks =
    let n = suc (sum_to b.items rank) in
    (total_to b asked there n, λ i low high. total_stays b asked there rank ranks n i low high (rank_high b.items rank i low high))

pub weights_exist : (b : Bill) (rank : ℕ → ℕ) → HasRanks b rank → (weight : ℕ → ℕ → ℕ) × AreWeights b weight
weights_exist b rank ranks =
    let n = suc (sum_to b.items rank) in
    (weight_to b n, λ i k low high k_low k_high. weight_stays b rank ranks n i k low high (rank_high b.items rank i low high))

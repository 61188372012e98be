-- Levels of chains that are the same in each period.
use Rattle.std.specs.Prelude.{◌≡◌, ℕ, ◌≤◌, List, [], ◌∷◌, length, ⊤}
use Rattle.lot_sizing.specs.Problem.{entry}
use Rattle.chain_dp.specs.Chains.{Level}

-- the same in each of the first periods
pub record IsAlikeLevel (n : ℕ) (k l : Level) : Type 0 where
  pub setup_cost : (t : ℕ) → 1 ≤ t → t ≤ n → k.setup_cost t ≡ l.setup_cost t
  pub unit_cost : (t : ℕ) → 1 ≤ t → t ≤ n → k.unit_cost t ≡ l.unit_cost t
  pub need : (t : ℕ) → 1 ≤ t → t ≤ n → k.need t ≡ l.need t
  pub opening_price : k.opening_price ≡ l.opening_price
  pub per_next : k.per_next ≡ l.per_next
  pub lead : k.lead ≡ l.lead

abbrev pub AreAlikeLevels : ℕ → List Level → List Level → Type 0
AreAlikeLevels n [] [] = ⊤
AreAlikeLevels n [] (l ∷ ls) = ⊥
AreAlikeLevels n (k ∷ ks) [] = ⊥
AreAlikeLevels n (k ∷ ks) (l ∷ ls) = IsAlikeLevel n k l × AreAlikeLevels n ks ls

-- a list with an entry for each period
pub record HasSeries (n : ℕ) (f : ℕ → ℕ) (list : List ℕ) : Type 0 where
  pub size : length list ≡ n
  pub each : (t : ℕ) → 1 ≤ t → t ≤ n → entry list t ≡ f t

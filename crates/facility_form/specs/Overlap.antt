-- What each period makes for each other one: the overlap of what is made with what is asked for, both in the order of time.
use Rattle.std.specs.Prelude.{◌≡◌, ℕ, ◌+◌, ◌-◌, ◌≤◌, min, max, List, length, slice_index_or}
use Rattle.lot_sizing.specs.Sums.{sum_to}
use Rattle.lot_sizing.specs.Problem.{entry}

-- what was made and what was asked for up to each period, that of none first
pub record Sums : Type 0 where
  pub made : List ℕ
  pub asked : List ℕ

-- the sums of these lists, which have an entry for each period
pub record AreSumsOf (make net : List ℕ) (s : Sums) : Type 0 where
  pub made_size : length s.made ≡ length make + 1
  pub asked_size : length s.asked ≡ length make + 1
  pub made : (t : ℕ) → t ≤ length make → slice_index_or s.made t 0 ≡ sum_to t (entry make)
  pub asked : (t : ℕ) → t ≤ length make → slice_index_or s.asked t 0 ≡ sum_to t (entry net)

-- the overlap of what period u makes, from the sum before it to that with it, and what period s asks for
abbrev pub overlap : (ℕ → ℕ) → (ℕ → ℕ) → ℕ → ℕ → ℕ
overlap make net u s = min (sum_to u make) (sum_to s net) - max (sum_to (u - 1) make) (sum_to (s - 1) net)

-- where as much is made as is asked for, what is made for each period is what it asks for, and what each period makes for all is at most what it makes
pub record Serves (periods : ℕ) (make net : ℕ → ℕ) : Type 0 where
  pub asked : (s : ℕ) → 1 ≤ s → s ≤ periods → sum_to periods (λ u. overlap make net u s) ≡ net s
  pub made : (u : ℕ) → 1 ≤ u → u ≤ periods → sum_to periods (λ s. overlap make net u s) ≤ make u

-- Least costs in numbers of 128 bits.
use Rattle.std.specs.Prelude.{ℕ, ◌-◌, ◌^◌, ◌≤◌, ◌<◌}

-- the greatest number of 128 bits
abbrev pub most : ℕ
most = 2 ^ 128 - 1

-- a number of 128 bits in the place of any number: the same one, or `most` where it is past that
pub record IsCapped (number x : ℕ) : Type 0 where
  pub within : x ≤ number
  pub fits : x < most → number ≤ x

-- the least of the costs of the lots from `from` up to the one before `to`; `most` where none is below it
pub record IsLeastOf (from to : ℕ) (cost : ℕ → ℕ) (least : ℕ) : Type 0 where
  pub within : (w : ℕ) → from ≤ w → w < to → least ≤ cost w
  pub some : least < most → (w : ℕ) × (from ≤ w) × (w < to) × (cost w ≤ least)

-- How many plans fit some work.
use Rattle.std.specs.Prelude.{ℕ, ◌≤◌, ◌*◌, ◌/◌}
use Rattle.std.proofs.Math.Nat.{div-mul-le_self}

pub tries_fit : (work size : ℕ) → work / size * size ≤ work
tries_fit work size = div-mul-le_self work size

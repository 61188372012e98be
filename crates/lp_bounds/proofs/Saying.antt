-- What the answers are by the run.
use Rattle.std.proofs.Common.{◌≤◌, ℕ}
use Rattle.rational.specs.Rational.{ℚ}
use Rattle.lot_sizing.specs.Problem.{Problem}
use Rattle.tableau.specs.Meaning.{AreEmpty}
use Rattle.tableau.specs.Program.{Program}
use Rattle.lp_relaxation.specs.declared.limits.TheConstants.{MAX_CELLS}
use Rattle.lp_bounds.specs.declared.bound.BoundSays.{BoundSays}
use Rattle.lp_bounds.specs.declared.bound.BoundSays.TheVariants.{Bound, Empty, Skipped, Passed}
use Rattle.lp_bounds.specs.Bounds.{IfBound, IfEmpty, IsBaseProgram, PassesAsRun, SkipsExactly, cell_count}
use Rattle.lp_bounds.specs.Solved.{IsRoundedBest, IsSolved}

pub if_bound : (p : Program) (P : ℕ → Type 0) → ((n : ℕ) → IsRoundedBest p n → P n) → (s : BoundSays) → IsSolved p s → IfBound P s
if_bound p P f (Bound n) is = f n is
if_bound p P f Empty is = tt
if_bound p P f (Skipped cells) is = tt
if_bound p P f (Passed pivot row column) is = tt

pub if_empty : (p : Program) (P : Type 0) → ((y : ℕ → ℚ) → AreEmpty p y → P) → (s : BoundSays) → IsSolved p s → IfEmpty P s
if_empty p P f (Bound n) is = tt
if_empty p P f Empty is = f is.0 is.1
if_empty p P f (Skipped cells) is = tt
if_empty p P f (Passed pivot row column) is = tt

pub few : (m : Problem) (p : Program) → IsBaseProgram m p → cell_count p ≤ MAX_CELLS → (s : BoundSays) → IsSolved p s → SkipsExactly m s
few m p base low (Bound n) is = (p, base, low)
few m p base low Empty is = (p, base, low)
few m p base low (Skipped cells) is = absurd is
few m p base low (Passed pivot row column) is = (p, base, low)

pub passes : (m : Problem) (p : Program) → IsBaseProgram m p → (s : BoundSays) → IsSolved p s → PassesAsRun m s
passes m p base (Bound n) is = tt
passes m p base Empty is = tt
passes m p base (Skipped cells) is = tt
passes m p base (Passed pivot row column) is = (p, base, is)

-- First consequences of what a plan is.
use Rattle.std.proofs.Common.{◌≡◌, ◌≤◌, ℕ, zero, suc, refl, arith}
use Rattle.lot_sizing.specs.Problem.{Problem}
use Rattle.lot_sizing.specs.Plan.{Plan, stock_after, backlog_after}

pub stock_after_some : (m : Problem) (p : Plan) (i t : ℕ) → 1 ≤ t → stock_after m p i t ≡ p.stock i t
stock_after_some m p i zero h = absurd (omega arith)
stock_after_some m p i (suc t) h = refl

pub backlog_after_some : (p : Plan) (i t : ℕ) → 1 ≤ t → backlog_after p i t ≡ p.backlog i t
backlog_after_some p i zero h = absurd (omega arith)
backlog_after_some p i (suc t) h = refl

-- Laws of largest numbers.
use Rattle.std.proofs.Common.{◌≡◌, ◌≤◌, ◌+◌, ◌-◌, ℕ, zero, suc, max, refl, arith}
use Rattle.plan_report.specs.Widths.{max_to}

-- the largest of the numbers so far, and the next
pub max_to_more : (n : ℕ) (f : ℕ → ℕ) → 1 ≤ n → max_to (n + 1 - 1) f ≡ max (max_to (n - 1) f) (f n)
max_to_more zero f h = absurd (omega arith)
max_to_more (suc n) f h = let e : suc n + 1 - 1 ≡ suc n = omega arith in let d : suc n - 1 ≡ n = omega arith in rw (e, d) refl

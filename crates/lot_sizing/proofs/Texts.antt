-- Laws of texts that are joined.
use Rattle.std.proofs.Common.{◌≡◌, ◌≤◌, ◌+◌, ◌-◌, ◌++◌, ℕ, zero, suc, List, refl, arith}
use Rattle.lot_sizing.specs.Texts.{join_to}

-- a text that has come as far as n - 1 takes its next part
pub join_to_more : (n : ℕ) (g : ℕ → List ℕ) → 1 ≤ n → join_to (n + 1 - 1) g ≡ join_to (n - 1) g ++ g n
join_to_more zero g h = absurd (omega arith)
join_to_more (suc n) g h = let e : suc n + 1 - 1 ≡ suc n = omega arith in let d : suc n - 1 ≡ n = omega arith in rw (e, d) refl

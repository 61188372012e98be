-- Texts that are joined, behind another.
use Rattle.std.proofs.Common.{◌≡◌, ◌∙◌, ◌≤◌, ◌+◌, ◌-◌, ◌++◌, ℕ, List, ap, sym, append_assoc}
use Rattle.lot_sizing.specs.Texts.{join_to}
use Rattle.lot_sizing.proofs.Texts.{join_to_more}

-- behind a text, one that has come as far as n - 1 takes its next part
pub join_more : (before : List ℕ) (n : ℕ) (g : ℕ → List ℕ) → 1 ≤ n → before ++ join_to (n + 1 - 1) g ≡ (before ++ join_to (n - 1) g) ++ g n
join_more before n g h = ap (λ v. before ++ v) (join_to_more n g h) ∙ sym (append_assoc before (join_to (n - 1) g) (g n))

-- Terms of one item after those of the items before.
use Rattle.std.proofs.Common.{◌≡◌, ◌≤◌, ◌+◌, ◌-◌, ℕ, suc, sym, subst, arith, List}
use Rattle.lin_rows.specs.declared.row.Term.{Term}
use Rattle.lin_rows.specs.Made.{PutTerms}
use Rattle.lin_rows.proofs.Terms.{put_then}
use Rattle.echelon_rows.specs.Rows.{cells_to, periods_to}

pub put_cells : (n T : ℕ) (f : ℕ → ℕ → Term) (old mid new : List Term) → 1 ≤ n → PutTerms old (cells_to (n - 1) T f) mid → PutTerms mid (periods_to T (f n)) new → PutTerms old (cells_to (n + 1 - 1) T f) new
put_cells n T f old mid new low first second =
    let e : suc (n - 1) ≡ n + 1 - 1 = omega (arith, low) in
    let same : suc (n - 1) ≡ n = omega (arith, low) in
    subst (λ k. PutTerms old (cells_to k T f) new) e (put_then old (cells_to (n - 1) T f) mid (periods_to T (f (suc (n - 1)))) new first (subst (λ k. PutTerms mid (periods_to T (f k)) new) (sym same) second))

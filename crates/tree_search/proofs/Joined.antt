-- What holds of a branch is shown from its sides.
use Rattle.std.proofs.Common.{ℕ, sym, subst}
use Rattle.lin_rows.specs.declared.column.Column.{Column}
use Rattle.tree_search.specs.declared.sought.Sought.{Sought as Tree}
use Rattle.tree_search.specs.declared.sought.Sought.TheVariants.{Branch', Leaf}
use Rattle.tree_search.specs.Joined.{IsBranch}

pub at_branch : (F : Tree → Type 0) (column : Column) (place number : ℕ) (left right : Tree) → ((p : _) (q : _) → F (Branch' column place number p left q right)) → (tree : Tree) → IsBranch tree column place number left right → F tree
at_branch F column place number left right f (Branch' c spot at p low q high) h =
    subst (λ x. F (Branch' x spot at p low q high)) (sym h.0)
    (subst (λ x. F (Branch' column x at p low q high)) (sym h.1)
    (subst (λ x. F (Branch' column place x p low q high)) (sym h.2)
    (subst (λ x. F (Branch' column place number p x q high)) (sym h.3)
    (subst (λ x. F (Branch' column place number p left q x)) (sym h.4) (f p q)))))
at_branch F column place number left right f (Leaf leaf) h = absurd h

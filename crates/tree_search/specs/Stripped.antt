-- A certificate's tree with the leaves of a tree that is sought, without what they say.
use Rattle.std.specs.Prelude.{◌≡◌}
use Rattle.certificate.specs.declared.tree.Tree.{Tree}
use Rattle.certificate.specs.declared.tree.Tree.TheVariants as tree
use Rattle.tree_search.specs.declared.sought.Sought.{Sought}
use Rattle.tree_search.specs.declared.sought.Sought.TheVariants.{Branch', Leaf}

abbrev pub IsStripped : Sought → Tree → Type 0
IsStripped (Branch' c spot at p low q high) (tree.Branch' column number s left t right) = (c ≡ column) × (at ≡ number) × IsStripped low left × IsStripped high right
IsStripped (Branch' c spot at p low q high) (tree.Leaf leaf) = ⊥
IsStripped (Leaf proposal) (tree.Branch' column number s left t right) = ⊥
IsStripped (Leaf proposal) (tree.Leaf leaf) = proposal.leaf ≡ leaf

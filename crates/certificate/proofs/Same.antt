-- Certificates are the same where their shapes are.
use Rattle.std.proofs.Common.{◌≡◌, refl, ap, List, [], ◌∷◌}
use Rattle.std.specs.Prelude.{map}
use Rattle.lin_rows.specs.declared.prices.Prices.{Prices}
use Rattle.lin_rows.specs.declared.prices.Potentials.{Potentials}
use Rattle.cert_lines.specs.declared.parts.Cut.{Cut}
use Rattle.cert_lines.specs.declared.parts.Cut.TheVariants as cut
use Rattle.cert_lines.specs.declared.parts.PartList.{PartList}
use Rattle.cert_lines.specs.declared.parts.Leaf.{Leaf}
use Rattle.cert_lines.specs.declared.parts.Leaf.TheVariants as leaf
use Rattle.certificate.specs.declared.tree.Tree.{Tree}
use Rattle.certificate.specs.declared.tree.Tree.TheVariants.{Branch', Leaf as LeafOf}
use Rattle.certificate.specs.declared.tree.Certificate.{Certificate}
use Rattle.certificate.specs.Laws.{AreSameCuts, AreSameLists, HaveSamePotentials, HaveSamePrices, IsSameCertificate, IsSameCut, IsSameLeaf, IsSameList, IsSameTree}
use Rattle.cert_lines.specs.Shapes.{block_lists, cut_shape, leaf_shape, list_shape, price_lists}
use Rattle.certificate.specs.Shapes.{shape_of, tree_shape}

prices_to : (a b : Prices) → HaveSamePrices a b → price_lists a ≡ price_lists b
prices_to a b (p, u, h, k) = rw (p, u, h, k) refl

potentials_to : (a b : Potentials) → HaveSamePotentials a b → block_lists a ≡ block_lists b
potentials_to a b (s, u, h, k, g) = rw (s, u, h, k, g) refl

prices_from : (a b : Prices) → price_lists a ≡ price_lists b → HaveSamePrices a b
prices_from a b e = (ap (λ r. r.price) e, ap (λ r. r.unit) e, ap (λ r. r.hold) e, ap (λ r. r.back) e)

potentials_from : (a b : Potentials) → block_lists a ≡ block_lists b → HaveSamePotentials a b
potentials_from a b e = (ap (λ r. r.setup) e, ap (λ r. r.unit) e, ap (λ r. r.hold) e, ap (λ r. r.back) e, ap (λ r. r.steps) e)

cut_to : (c d : Cut) → IsSameCut c d → cut_shape c ≡ cut_shape d
cut_to (cut.Ls item last chosen) (cut.Ls jtem end others) (i, l, o) = rw (i, l, o) refl
cut_to (cut.Price item a) (cut.Price jtem b) (i, same) = rw (i, prices_to a b same) refl
cut_to (cut.Block item a) (cut.Block jtem b) (i, same) = rw (i, potentials_to a b same) refl
cut_to (cut.Round divisor parts) (cut.Round q others) (e, same) = rw (e, same) refl
cut_to _ _ same = absurd same

cut_from : (c d : Cut) → cut_shape c ≡ cut_shape d → IsSameCut c d
cut_from (cut.Ls item last chosen) (cut.Ls jtem end others) e = (cc e, cc e, cc e)
cut_from (cut.Price item a) (cut.Price jtem b) e = (cc e, prices_from a b (cc e))
cut_from (cut.Block item a) (cut.Block jtem b) e = (cc e, potentials_from a b (cc e))
cut_from (cut.Round divisor parts) (cut.Round q others) e = (cc e, cc e)
cut_from _ _ e = cc e

cuts_to : (cs ds : List Cut) → AreSameCuts cs ds → map cut_shape cs ≡ map cut_shape ds
cuts_to [] [] same = refl
cuts_to (c ∷ cs) (d ∷ ds) same = rw (cut_to c d same.0, cuts_to cs ds same.1) refl
cuts_to _ _ same = absurd same

cuts_from : (cs ds : List Cut) → map cut_shape cs ≡ map cut_shape ds → AreSameCuts cs ds
cuts_from [] [] e = tt
cuts_from (c ∷ cs) (d ∷ ds) e = (cut_from c d (cc e), cuts_from cs ds (cc e))
cuts_from _ _ e = cc e

list_to : (a b : PartList) → IsSameList a b → list_shape a ≡ list_shape b
list_to a b (k, i, t) = rw (k, i, t) refl

list_from : (a b : PartList) → list_shape a ≡ list_shape b → IsSameList a b
list_from a b e = (ap (λ r. r.kind) e, ap (λ r. r.index) e, ap (λ r. r.times) e)

lists_to : (xs ys : List PartList) → AreSameLists xs ys → map list_shape xs ≡ map list_shape ys
lists_to [] [] same = refl
lists_to (a ∷ xs) (b ∷ ys) same = rw (list_to a b same.0, lists_to xs ys same.1) refl
lists_to _ _ same = absurd same

lists_from : (xs ys : List PartList) → map list_shape xs ≡ map list_shape ys → AreSameLists xs ys
lists_from [] [] e = tt
lists_from (a ∷ xs) (b ∷ ys) e = (list_from a b (cc e), lists_from xs ys (cc e))
lists_from _ _ e = cc e

leaf_to : (l k : Leaf) → IsSameLeaf l k → leaf_shape l ≡ leaf_shape k
leaf_to (leaf.Linear den parts) (leaf.Linear q others) (e, same) = rw (e, same) refl
leaf_to (leaf.Farkas parts) (leaf.Farkas others) same = rw same refl
leaf_to leaf.Point leaf.Point same = refl
leaf_to (leaf.Reduced den parts lists groups) (leaf.Reduced q others seconds thirds) (e, p, l, g) = rw (e, p, lists_to lists.items seconds.items l, g) refl
leaf_to _ _ same = absurd same

leaf_from : (l k : Leaf) → leaf_shape l ≡ leaf_shape k → IsSameLeaf l k
leaf_from (leaf.Linear den parts) (leaf.Linear q others) e = (cc e, cc e)
leaf_from (leaf.Farkas parts) (leaf.Farkas others) e = cc e
leaf_from leaf.Point leaf.Point e = tt
leaf_from (leaf.Reduced den parts lists groups) (leaf.Reduced q others seconds thirds) e = (cc e, cc e, lists_from lists.items seconds.items (cc e), cc e)
leaf_from _ _ e = cc e

tree_to : (t u : Tree) → IsSameTree t u → tree_shape t ≡ tree_shape u
tree_to (Branch' column at p low q high) (Branch' other less r below s above) (c, n, l, h) = rw (c, n, tree_to low below l, tree_to high above h) refl
tree_to (LeafOf l) (LeafOf k) same = rw (leaf_to l k same) refl
tree_to _ _ same = absurd same

tree_from : (t u : Tree) → tree_shape t ≡ tree_shape u → IsSameTree t u
tree_from (Branch' column at p low q high) (Branch' other less r below s above) e = (cc e, cc e, tree_from low below (cc e), tree_from high above (cc e))
tree_from (LeafOf l) (LeafOf k) e = leaf_from l k (cc e)
tree_from _ _ e = cc e

pub to_shapes : (c d : Certificate) → IsSameCertificate c d → shape_of c ≡ shape_of d
to_shapes c d same = rw (same.version, same.claim, cuts_to c.cuts.items d.cuts.items same.cuts, tree_to c.tree d.tree same.tree) refl

pub from_shapes : (c d : Certificate) → shape_of c ≡ shape_of d → IsSameCertificate c d
from_shapes c d e = record {
  version = ap (λ s. s.version) e;
  claim = ap (λ s. s.claim) e;
  cuts = cuts_from c.cuts.items d.cuts.items (ap (λ s. s.cuts) e);
  tree = tree_from c.tree d.tree (ap (λ s. s.tree) e);
}

-- What a text means is one thing, and certificates are the same where their shapes are.
use Rattle.std.specs.Prelude.{◌≡◌, ◌≢◌, ◌↔◌, ℕ, List, [], ◌∷◌, ⊤}
use Rattle.lin_rows.specs.declared.prices.Prices.{Prices}
use Rattle.lin_rows.specs.declared.prices.Potentials.{Potentials}
use Rattle.cert_lines.specs.declared.parts.Cut.{Cut}
use Rattle.cert_lines.specs.declared.parts.Cut.TheVariants as cut
use Rattle.cert_lines.specs.declared.parts.PartList.{PartList}
use Rattle.cert_lines.specs.declared.parts.Leaf.{Leaf}
use Rattle.cert_lines.specs.declared.parts.Leaf.TheVariants as leaf
use Rattle.certificate.specs.declared.tree.Tree.{Tree}
use Rattle.certificate.specs.declared.tree.Tree.TheVariants.{Branch', Leaf as LeafOf}
use Rattle.certificate.specs.declared.tree.Certificate.{Certificate}
use Rattle.certificate.specs.declared.fault.CertTextFault.{CertTextFault}
use Rattle.certificate.specs.declared.fault.CertTextFault.TheVariants.{Memory}
use Rattle.certificate.specs.Shapes.{Shape, shape_of, tree_shape}
use Rattle.certificate.specs.Counts.{longest, longest_path, node_count, nodes}
use Rattle.certificate.specs.Limits.{IsTextOf}
use Rattle.certificate.specs.Faults.{IsCertTextFault}

-- lists are compared by their items
abbrev pub HaveSamePrices : Prices → Prices → Type 0
HaveSamePrices a b = (a.price.items ≡ b.price.items) × (a.unit.items ≡ b.unit.items) × (a.hold.items ≡ b.hold.items) × (a.back.items ≡ b.back.items)

abbrev pub HaveSamePotentials : Potentials → Potentials → Type 0
HaveSamePotentials a b = (a.setup.items ≡ b.setup.items) × (a.unit.items ≡ b.unit.items) × (a.hold.items ≡ b.hold.items) × (a.back.items ≡ b.back.items) × (a.steps.items ≡ b.steps.items)

abbrev pub IsSameCut : Cut → Cut → Type 0
IsSameCut (cut.Ls item last chosen) (cut.Ls jtem end others) = (item ≡ jtem) × (last ≡ end) × (chosen.items ≡ others.items)
IsSameCut (cut.Price item a) (cut.Price jtem b) = (item ≡ jtem) × HaveSamePrices a b
IsSameCut (cut.Block item a) (cut.Block jtem b) = (item ≡ jtem) × HaveSamePotentials a b
IsSameCut (cut.Round divisor parts) (cut.Round q others) = (divisor ≡ q) × (parts.items ≡ others.items)
IsSameCut _ _ = ⊥

abbrev pub AreSameCuts : List Cut → List Cut → Type 0
AreSameCuts [] [] = ⊤
AreSameCuts (c ∷ cs) (d ∷ ds) = IsSameCut c d × AreSameCuts cs ds
AreSameCuts _ _ = ⊥

abbrev pub IsSameList : PartList → PartList → Type 0
IsSameList a b = (a.kind ≡ b.kind) × (a.index ≡ b.index) × (a.times.items ≡ b.times.items)

abbrev pub AreSameLists : List PartList → List PartList → Type 0
AreSameLists [] [] = ⊤
AreSameLists (a ∷ rest) (b ∷ more) = IsSameList a b × AreSameLists rest more
AreSameLists _ _ = ⊥

abbrev pub IsSameLeaf : Leaf → Leaf → Type 0
IsSameLeaf (leaf.Linear den parts) (leaf.Linear q others) = (den ≡ q) × (parts.items ≡ others.items)
IsSameLeaf (leaf.Farkas parts) (leaf.Farkas others) = parts.items ≡ others.items
IsSameLeaf leaf.Point leaf.Point = ⊤
IsSameLeaf (leaf.Reduced den parts lists groups) (leaf.Reduced q others seconds thirds) = (den ≡ q) × (parts.items ≡ others.items) × AreSameLists lists.items seconds.items × (groups.items ≡ thirds.items)
IsSameLeaf _ _ = ⊥

abbrev pub IsSameTree : Tree → Tree → Type 0
IsSameTree (Branch' column at p low q high) (Branch' other less r below s above) = (column ≡ other) × (at ≡ less) × IsSameTree low below × IsSameTree high above
IsSameTree (LeafOf l) (LeafOf m) = IsSameLeaf l m
IsSameTree _ _ = ⊥

pub record IsSameCertificate (c d : Certificate) : Type 0 where
  pub version : c.version ≡ d.version
  pub claim : c.claim ≡ d.claim
  pub cuts : AreSameCuts c.cuts.items d.cuts.items
  pub tree : IsSameTree c.tree d.tree

-- certificates are the same where their shapes are
abbrev pub ShapesAreSame : Type 0
ShapesAreSame = (c d : Certificate) → IsSameCertificate c d ↔ (shape_of c ≡ shape_of d)

-- the shape of a tree has its numbers of nodes and of branches on a path
abbrev pub ShapesAreCounted : Type 0
ShapesAreCounted = (t : Tree) → (node_count (tree_shape t) ≡ nodes t) × (longest_path (tree_shape t) ≡ longest t)

-- one certificate, or one fault where memory isn't the cause
pub record MeansOneThing (bytes : List ℕ) : Type 0 where
  pub one_certificate : (c d : Shape) → IsTextOf bytes c → IsTextOf bytes d → c ≡ d
  pub certificate_or_fault : (c : Shape) (f : CertTextFault) → IsTextOf bytes c → IsCertTextFault bytes f → f ≡ Memory
  pub one_fault : (f g : CertTextFault) → f ≢ Memory → g ≢ Memory → IsCertTextFault bytes f → IsCertTextFault bytes g → f ≡ g

abbrev pub TextsMeanOneThing : Type 0
TextsMeanOneThing = (bytes : List ℕ) → MeansOneThing bytes

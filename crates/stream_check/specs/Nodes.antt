-- The nodes of a certificate's tree, one after the other.
use Rattle.std.specs.Prelude.{◌≡◌, ◌≢◌, ◌≤◌, ◌<◌, ◌+◌, ◌^◌, ℕ, Bool, true, false, IsTrue, List, [], ◌∷◌, ◌++◌, length, ◌⊎◌, ⊤}
use Rattle.std.specs.List.{All, flat_map}
use Rattle.item_groups.specs.declared.group.Group.{Group}
use Rattle.lot_io.specs.Outside.{Shelved}
use Rattle.lot_sizing.specs.Problem.{Problem}
use Rattle.lot_sizing.specs.Plan.{IsFeasible, Plan, cost}
use Rattle.lin_rows.specs.declared.bound.Bound.{Bound}
use Rattle.lin_rows.specs.declared.column.Column.{Column}
use Rattle.lin_rows.specs.Columns.{value_in}
use Rattle.lin_rows.specs.Rows.{LinRow}
use Rattle.lin_rows.specs.Rows as rows
use Rattle.cert_lines.specs.declared.limits.TheConstants.{MAX_BRANCHES}
use Rattle.cert_lines.specs.declared.parts.Claim.{Claim}
use Rattle.cert_lines.specs.declared.parts.Claim.TheVariants.{Optimal, Infeasible, Bound as BoundOf}
use Rattle.cert_lines.specs.declared.parts.Part.{Part}
use Rattle.cert_lines.specs.Shapes.{BranchLine, EndLine, LeafShape, ListShape, leaf_shape}
use Rattle.certificate.specs.Counts.{longest_path}
use Rattle.certificate.specs.Shapes.{End, Split, TreeShape}
use Rattle.certificate.specs.Values.{Values, group_values, leaf_values, list_values, part_values, tree_values}
use Rattle.cert_trees.specs.Paths.{AreMet, at_least}
use Rattle.cert_trees.specs.Ranges.{WithTotals, whole_ranges}
use Rattle.cert_trees.specs.Trees.{IsSplit}
use Rattle.certificate.specs.declared.fault.CertTextFault.TheVariants.{Memory}
use Rattle.cert_checker.specs.declared.fault.Why.{Why}
use Rattle.cert_checker.specs.declared.fault.Why.TheVariants as why
use Rattle.cert_checker.specs.Checks.{Ground, IsGoodTree, IsNodeFault, IsTreeFault, ground}
use Rattle.cert_checker.specs.Leaves.{HasDenominator}
use Rattle.cert_stream.specs.declared.lines.LineReader.{LineReader}
use Rattle.stream_check.specs.declared.fault.StreamFault.{StreamFault}
use Rattle.stream_check.specs.declared.fault.StreamFault.TheVariants as stream
use Rattle.stream_check.specs.declared.nodes.Given.{Given}
use Rattle.stream_check.specs.declared.units.CertText.{CertText}
use Rattle.stream_check.specs.declared.units.Counts.{Counts}
use Rattle.stream_check.specs.declared.units.Node.{Node}
use Rattle.stream_check.specs.declared.units.Node.TheVariants as node
use Rattle.stream_check.specs.Passes.{Awaits}

-- ---- one node
abbrev pub node_values : Node → Values
node_values (node.Branch column at) = BranchLine column at ∷ []
node_values (node.Leaf leaf) = leaf_values (leaf_shape leaf)

-- the numbers of a leaf are within their limits
abbrev pub HasNodeDenominator : Node → Type 0
HasNodeDenominator (node.Branch column at) = ⊤
HasNodeDenominator (node.Leaf leaf) = HasDenominator (leaf_shape leaf)

-- it is the first node of a tree, and these lines of the tree come after it
abbrev pub IsFirstOf : Node → TreeShape → Values → Type 0
IsFirstOf (node.Branch column at) (Split c n low high) ls = (column ≡ c) × (at ≡ n) × (ls ≡ tree_values low ++ tree_values high)
IsFirstOf (node.Leaf leaf) (End l) ls = (leaf_shape leaf ≡ l) × (ls ≡ [])
IsFirstOf _ _ ls = ⊥

-- the lines after the first of a leaf over reduced costs, and how many there are of each kind
abbrev pub reduced_values : List Part → List ListShape → List Group → Values
reduced_values parts lists groups = part_values parts ++ (list_values lists ++ group_values groups)

pub record HasCounts (counts : Counts) (parts : List Part) (lists : List ListShape) (groups : List Group) : Type 0 where
  pub parts_are : length parts ≡ counts.parts
  pub lists_are : length lists ≡ counts.lists
  pub groups_are : length groups ≡ counts.groups

-- ---- the path to a node is the stack
-- the path to the high side, at the low side of a branch
abbrev pub other_side : Bool → List Bound → Bound → List (List Bound)
other_side true before b = (before ++ (at_least b.column (b.number + 1) ∷ [])) ∷ []
other_side false before b = []

-- the paths to the trees that are needed after the one that this path leads to, the deepest first; these bounds stand before it
abbrev pub later_from : List Bound → List Bound → List (List Bound)
later_from before [] = []
later_from before (b ∷ path) = later_from (before ++ (b ∷ [])) path ++ other_side b.most before b

abbrev pub later : List Bound → List (List Bound)
later path = later_from [] path

-- the paths to all trees that are needed, where one is
abbrev pub trees_due : Bool → List Bound → List (List Bound)
trees_due true path = path ∷ later path
trees_due false path = []

-- the high side of a branch has a number of 64 bits
abbrev pub AreSmall : List Bound → Type 0
AreSmall path = All (λ b. IsTrue b.most → b.number + 1 < 2 ^ 64) path

-- ---- what one node is refused for
abbrev pub Splits : Problem → List Bound → Column → ℕ → Type 0
Splits m path c n = WithTotals m (λ total. IsSplit m (whole_ranges total) path c n)

-- a branch on this line is too deep, or doesn't split
abbrev pub IsBranchStop : Problem → List Bound → Column → ℕ → ℕ → StreamFault → Type 0
IsBranchStop m path c n line (stream.Text f) = (f ≢ Memory) × (MAX_BRANCHES ≤ length path)
IsBranchStop m path c n line (stream.Rejected r) =
    (r.line ≡ line) × (r.why ≡ why.Range) × WithTotals m (λ total. IsSplit m (whole_ranges total) path c n → ⊥)
IsBranchStop m path c n line stream.Memory = ⊤
IsBranchStop m path c n line _ = ⊥

-- a leaf on this line says nothing, or not enough
abbrev pub IsLeafStop : Problem → List LinRow → Claim → List Bound → LeafShape → ℕ → StreamFault → Type 0
IsLeafStop m rows claim path leaf line (stream.Rejected r) =
    WithTotals m (λ total. IsNodeFault (ground m total rows claim) path leaf line r.line r.why)
IsLeafStop m rows claim path leaf line stream.Memory = ⊤
IsLeafStop m rows claim path leaf line _ = ⊥

-- a tree that starts on this line isn't good, whatever the largest totals are
abbrev pub TreeIsRefused : Problem → List LinRow → Claim → TreeShape → (first at : ℕ) → Why → Type 0
TreeIsRefused m rows claim tree first at w = WithTotals m (λ total. IsTreeFault (ground m total rows claim) [] tree first at w)

-- ---- what is known of plans
-- the plan costs at least what is claimed; where none is claimed to be feasible, there is none
abbrev pub IsSafe : Problem → Claim → Plan → Type 0
IsSafe m (Optimal c) p = c ≤ cost m p
IsSafe m Infeasible p = ⊥
IsSafe m (BoundOf c) p = c ≤ cost m p

-- the values meet the bounds of one of the paths
abbrev pub MeetsOne : rows.Values → List (List Bound) → Type 0
MeetsOne v [] = ⊥
MeetsOne v (path ∷ paths) = AreMet v path ⊎ MeetsOne v paths

-- each feasible plan is safe, or lies in one of the trees that are needed
abbrev pub AreCovered : Problem → Claim → List (List Bound) → Type 0
AreCovered m claim paths = (p : Plan) → IsFeasible m p → IsSafe m claim p ⊎ MeetsOne (value_in p) paths

-- ---- what is known of the text
abbrev pub trees_values : List TreeShape → Values
trees_values ts = flat_map tree_values ts

-- there is one tree for each path, and no branch of it is too deep
abbrev pub AreShort : List (List Bound) → List TreeShape → Type 0
AreShort [] [] = ⊤
AreShort (path ∷ paths) (t ∷ ts) = (length path + longest_path t ≤ MAX_BRANCHES) × AreShort paths ts
AreShort _ _ = ⊥

-- all trees are good
abbrev pub AreGoodTrees : Ground → List (List Bound) → List TreeShape → Type 0
AreGoodTrees g [] ts = ⊤
AreGoodTrees g (path ∷ paths) [] = ⊥
AreGoodTrees g (path ∷ paths) (t ∷ ts) = IsGoodTree g path t × AreGoodTrees g paths ts

-- why trees that start on this line aren't good: the first that isn't
abbrev pub AreTreesFault : Ground → List (List Bound) → List TreeShape → (line at : ℕ) → Why → Type 0
AreTreesFault g [] ts line at w = ⊥
AreTreesFault g (path ∷ paths) [] line at w = ⊥
AreTreesFault g (path ∷ paths) (t ∷ ts) line at w =
    IsTreeFault g path t line at w ⊎ (IsGoodTree g path t × AreTreesFault g paths ts (line + length (tree_values t)) at w)

-- what is found of these trees, the first of which starts on this line, is found of the whole tree, which starts on that one
pub record Decide (m : Problem) (rows : List LinRow) (claim : Claim) (whole : TreeShape) (first : ℕ) (paths : List (List Bound)) (ts : List TreeShape) (line : ℕ) : Type 0 where
  pub good : WithTotals m (λ total. AreGoodTrees (ground m total rows claim) paths ts → IsGoodTree (ground m total rows claim) [] whole)
  pub fault : (at : ℕ) (w : Why) → WithTotals m (λ total. AreTreesFault (ground m total rows claim) paths ts line at w → IsTreeFault (ground m total rows claim) [] whole first at w)

-- these trees are left of the whole tree, and then the end
pub record AreLeft (m : Problem) (rows : List LinRow) (claim : Claim) (whole : TreeShape) (first : ℕ) (paths : List (List Bound)) (version : ℕ) (shelf : Shelved) (name : List ℕ) (r : LineReader) : Type 0 where
  pub trees : List TreeShape
  pub short : AreShort paths trees
  pub awaits : Awaits shelf name r version (trees_values trees ++ EndLine ∷ [])
  pub decide : Decide m rows claim whole first paths trees r.number

-- the same of what is given to the nodes, and of the text that they are read from
abbrev pub AreLeftOf : Given → CertText → (whole : TreeShape) (first : ℕ) → List (List Bound) → Shelved → LineReader → Type 0
AreLeftOf g t whole first paths shelf r =
    AreLeft g.instance.now g.rows.now g.claim whole first paths t.version shelf t.name.now r

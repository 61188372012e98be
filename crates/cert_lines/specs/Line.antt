-- The later lines of a certificate's text.
use Rattle.std.specs.Prelude.{◌≡◌, ℕ, ◌≤◌, pos, ◌≤ℤ◌, unsigned_abs, List, codes, length, ⊤}
use Rattle.std.specs.List.{All}
use Rattle.lin_rows.specs.declared.column.Column.{Column}
use Rattle.lin_rows.specs.declared.column.Column.TheVariants.{X, Y, S, R}
use Rattle.lin_rows.specs.declared.base.RowName.{RowName}
use Rattle.lin_rows.specs.declared.base.RowName.TheVariants.{Balance, Link, Capacity, EndMin, EndMax, Top, Least, Late, Path, Cut as CutRow}
use Rattle.cert_lines.specs.Text.{block_line, branch_line, farkas_line, group_line, linear_line, list_line, ls_line, part_line, price_line, reduced_line, round_line}
use Rattle.cert_lines.specs.Limits.{Is32, Is64, IsSmallPart, IsSmallTimes}
use Rattle.item_groups.specs.declared.group.ChainLink.{ChainLink}
use Rattle.item_groups.specs.declared.group.Group.{Group}
use Rattle.item_groups.specs.declared.group.Group.TheVariants as group
use Rattle.cert_lines.specs.Shapes.{BlockCut, BlockLists, BranchLine, CutLine, CutShape, EndLine, FarkasLine, GroupLine, LineShape, LinearLine, ListLine, ListShape, LsCut, PartLine, PointLine, PriceCut, PriceLists, ReducedLine, RoundCut, RoundLine}
use Rattle.cert_lines.specs.declared.limits.TheConstants.{FIRST_CERT_VERSION, MAX_GROUPS, MAX_LINE, MAX_LISTS, MAX_PARTS, MAX_ROUND_PARTS, REDUCED_CERT_VERSION}
use Rattle.round_cuts.specs.declared.rounding.TheConstants.{MAX_DIVISOR}
use Rattle.cert_lines.specs.Limits.{Is127}

-- the line of a cut, without its parts
abbrev pub cut_line : CutShape → List ℕ
cut_line (LsCut item last chosen) = ls_line item last chosen
cut_line (PriceCut item prices) = price_line item prices
cut_line (BlockCut item potentials) = block_line item potentials
cut_line (RoundCut divisor parts) = round_line divisor (length parts)

abbrev pub later_line : LineShape → List ℕ
later_line (CutLine c) = cut_line c
later_line (RoundLine divisor parts) = round_line divisor parts
later_line (PartLine part) = part_line part
later_line (BranchLine column at) = branch_line column at
later_line (LinearLine den parts) = linear_line den parts
later_line (FarkasLine parts) = farkas_line parts
later_line PointLine = codes "point"
later_line (ReducedLine den parts lists groups) = reduced_line den parts lists groups
later_line (ListLine a) = list_line a
later_line (GroupLine g) = group_line g
later_line EndLine = codes "end"

abbrev pub ArePriceLists : PriceLists → Type 0
ArePriceLists a = All Is64 a.price × All Is64 a.unit × All Is64 a.hold × All Is64 a.back

abbrev pub AreCosts : BlockLists → Type 0
AreCosts a = All Is64 a.setup × All Is64 a.unit × All Is64 a.hold × All Is64 a.back

abbrev pub AreBlockLists : BlockLists → Type 0
AreBlockLists a = All Is64 a.setup × All Is64 a.unit × All Is64 a.hold × All Is64 a.back × All Is127 a.steps

abbrev pub IsSmallColumn : Column → Type 0
IsSmallColumn (X i t) = Is32 i × Is32 t
IsSmallColumn (Y i t) = Is32 i × Is32 t
IsSmallColumn (S i t) = Is32 i × Is32 t
IsSmallColumn (R i t) = Is32 i × Is32 t

abbrev pub IsSmallName : RowName → Type 0
IsSmallName (Balance i t) = Is32 i × Is32 t
IsSmallName (Link i t) = Is32 i × Is32 t
IsSmallName (Capacity k t) = Is32 k × Is32 t
IsSmallName (EndMin i) = Is32 i
IsSmallName (EndMax i) = Is32 i
IsSmallName (Top i t) = Is32 i × Is32 t
IsSmallName (Least i t) = Is32 i × Is32 t
IsSmallName (Late i t) = Is32 i × Is32 t
IsSmallName (Path n) = Is32 n
IsSmallName (CutRow n) = Is32 n

-- a cut of one line; one with parts has a form of its own
abbrev pub IsSmallCut : CutShape → Type 0
IsSmallCut (LsCut item last chosen) = Is32 item × (1 ≤ last) × Is32 last × (length chosen ≡ last)
IsSmallCut (PriceCut item prices) = Is32 item × ArePriceLists prices
IsSmallCut (BlockCut item potentials) = Is32 item × AreBlockLists potentials
IsSmallCut (RoundCut divisor parts) = ⊥

abbrev pub IsSmallList : ListShape → Type 0
IsSmallList a = Is32 a.index × All IsSmallTimes a.times

abbrev pub IsSmallLink : ChainLink → Type 0
IsSmallLink link = Is32 link.item × Is127 link.opening_price

abbrev pub IsSmallGroup : Group → Type 0
IsSmallGroup (group.Item item) = Is32 item
IsSmallGroup (group.Late item shares) = Is32 item × All Is64 shares
IsSmallGroup (group.Quantities item) = Is32 item
IsSmallGroup (group.LateQuantities item shares) = Is32 item × All Is64 shares
IsSmallGroup (group.Pair low top) = IsSmallLink low × IsSmallLink top
IsSmallGroup (group.Triple low mid top) = IsSmallLink low × IsSmallLink mid × IsSmallLink top

-- the items of a chain, which alone have numbers that are wider than their limits
abbrev pub HasSmallLinks : Group → Type 0
HasSmallLinks (group.Pair low top) = IsSmallLink low × IsSmallLink top
HasSmallLinks (group.Triple low mid top) = IsSmallLink low × IsSmallLink mid × IsSmallLink top
HasSmallLinks _ = ⊤

-- the limits on numbers
abbrev pub IsSmallLine : LineShape → Type 0
IsSmallLine (CutLine c) = IsSmallCut c
IsSmallLine (RoundLine divisor parts) = (1 ≤ divisor) × (divisor ≤ MAX_DIVISOR) × (parts ≤ MAX_ROUND_PARTS)
IsSmallLine (PartLine part) = IsSmallName part.row × IsSmallPart part
IsSmallLine (BranchLine column at) = IsSmallColumn column × Is64 at
IsSmallLine (LinearLine den parts) = (pos 1 ≤ℤ den) × (Is127 (unsigned_abs den)) × (parts ≤ MAX_PARTS)
IsSmallLine (FarkasLine parts) = parts ≤ MAX_PARTS
IsSmallLine PointLine = ⊤
IsSmallLine (ReducedLine den parts lists groups) = Is64 den × (parts ≤ MAX_PARTS) × (lists ≤ MAX_LISTS) × (groups ≤ MAX_GROUPS)
IsSmallLine (ListLine a) = IsSmallList a
IsSmallLine (GroupLine g) = IsSmallGroup g
IsSmallLine EndLine = ⊤

-- the line of the value is within the limits
pub record HasForm (l : LineShape) : Type 0 where
  pub small : IsSmallLine l
  pub short : length (later_line l) ≤ MAX_LINE

-- the bytes are the line of this value, in some version
abbrev pub IsWritten : List ℕ → LineShape → Type 0
IsWritten bytes l = (bytes ≡ later_line l) × HasForm l

-- the names of rows that the first version has
abbrev pub IsFirstName : RowName → Type 0
IsFirstName (Least i t) = ⊥
IsFirstName (Late i t) = ⊥
IsFirstName _ = ⊤

-- the version has the form
abbrev pub IsKnown : ℕ → LineShape → Type 0
IsKnown version (PartLine part) = version ≡ FIRST_CERT_VERSION → IsFirstName part.row
IsKnown version (ReducedLine den parts lists groups) = REDUCED_CERT_VERSION ≤ version
IsKnown version (ListLine a) = REDUCED_CERT_VERSION ≤ version
IsKnown version (GroupLine g) = REDUCED_CERT_VERSION ≤ version
IsKnown version _ = ⊤

-- the line of a text of this version has this value
pub record IsLine (version : ℕ) (bytes : List ℕ) (l : LineShape) : Type 0 where
  pub text : bytes ≡ later_line l
  pub form : HasForm l
  pub known : IsKnown version l

-- the value has a line in texts of this version
abbrev pub HasLine : ℕ → LineShape → Type 0
HasLine version l = IsLine version (later_line l) l

-- The texts of lines.
use Rattle.std.specs.Prelude.{ℕ, ℤ, Bool, true, false, ◌≢◌, List, [], ◌∷◌, ◌++◌, codes, ⊤}
use Rattle.std.specs.Fmt.{signed_decimal}
use Rattle.std.specs.List.{flat_map}
use Rattle.lin_rows.specs.declared.column.Column.{Column}
use Rattle.lin_rows.specs.Texts.{column_text, name_text, one_text}
use Rattle.cert_lines.specs.declared.parts.Claim.{Claim}
use Rattle.cert_lines.specs.declared.parts.Claim.TheVariants as claim
use Rattle.cert_lines.specs.declared.parts.Part.{Part}
use Rattle.item_groups.specs.declared.group.ChainLink.{ChainLink}
use Rattle.item_groups.specs.declared.group.Group.{Group}
use Rattle.item_groups.specs.declared.group.Group.TheVariants as group
use Rattle.cert_lines.specs.declared.parts.ListKind.{ListKind}
use Rattle.cert_lines.specs.declared.parts.ListKind.TheVariants as kind
use Rattle.cert_lines.specs.Shapes.{BlockLists, ListShape, PriceLists}

-- lines without their line feeds
abbrev pub Lines : Type 0
Lines = List (List ℕ)

-- a line with its line feed
abbrev pub line_text : List ℕ → List ℕ
line_text line = line ++ codes "\n"

-- numbers, each after a space
abbrev pub list_text : List ℕ → List ℕ
list_text xs = flat_map one_text xs

abbrev pub bit_text : Bool → List ℕ
bit_text true = codes "1"
bit_text false = codes "0"

abbrev pub bits_text : List Bool → List ℕ
bits_text bits = flat_map bit_text bits

abbrev pub claim_line : Claim → List ℕ
claim_line (claim.Optimal cost) = codes "claim optimal" ++ one_text cost
claim_line claim.Infeasible = codes "claim infeasible"
claim_line (claim.Bound bound) = codes "claim bound" ++ one_text bound

abbrev pub part_line : Part → List ℕ
part_line part = codes "part " ++ (name_text part.row ++ (codes " " ++ signed_decimal part.times))

abbrev pub ls_line : ℕ → ℕ → List Bool → List ℕ
ls_line item last chosen = codes "ls" ++ (one_text item ++ (one_text last ++ (codes " " ++ bits_text chosen)))

abbrev pub price_head : ℕ → List ℕ
price_head item = codes "price" ++ (one_text item ++ codes " w")

abbrev pub price_line : ℕ → PriceLists → List ℕ
price_line item a = price_head item ++ (list_text a.price ++ (codes " g" ++ (list_text a.unit ++ (codes " h" ++ (list_text a.hold ++ (codes " b" ++ list_text a.back))))))

abbrev pub block_head : ℕ → List ℕ
block_head item = codes "block" ++ (one_text item ++ codes " f")

abbrev pub block_line : ℕ → BlockLists → List ℕ
block_line item a = block_head item ++ (list_text a.setup ++ (codes " g" ++ (list_text a.unit ++ (codes " h" ++ (list_text a.hold ++ (codes " b" ++ (list_text a.back ++ (codes " p" ++ list_text a.steps))))))))

abbrev pub round_line : ℕ → ℕ → List ℕ
round_line divisor count = codes "round" ++ (one_text divisor ++ one_text count)

abbrev pub linear_line : ℤ → ℕ → List ℕ
linear_line den count = codes "linear " ++ (signed_decimal den ++ one_text count)

abbrev pub farkas_line : ℕ → List ℕ
farkas_line count = codes "farkas" ++ one_text count

-- numbers that may be below 0, each after a space
abbrev pub signed_text : ℤ → List ℕ
signed_text a = codes " " ++ signed_decimal a

abbrev pub signed_list_text : List ℤ → List ℕ
signed_list_text xs = flat_map signed_text xs

-- a leaf over reduced costs: its denominator, and how many parts, lists and groups follow
abbrev pub reduced_line : ℕ → ℕ → ℕ → ℕ → List ℕ
reduced_line den parts lists groups = codes "reduced" ++ (one_text den ++ (one_text parts ++ (one_text lists ++ one_text groups)))

abbrev pub kind_text : ListKind → List ℕ
kind_text kind.Balance = codes "balance"
kind_text kind.Link = codes "link"
kind_text kind.Capacity = codes "capacity"
kind_text kind.Top = codes "top"
kind_text kind.Least = codes "least"
kind_text kind.Late = codes "late"

abbrev pub list_line : ListShape → List ℕ
list_line a = codes "parts " ++ (kind_text a.kind ++ (one_text a.index ++ signed_list_text a.times))

-- an item of a chain, and the price at which it is bought before the first period
abbrev pub link_text : ChainLink → List ℕ
link_text link = one_text link.item ++ one_text link.opening_price

-- an item and its shares
abbrev pub shares_text : ℕ → List ℕ → List ℕ
shares_text item shares = one_text item ++ list_text shares

abbrev pub group_line : Group → List ℕ
group_line (group.Item item) = codes "item" ++ one_text item
group_line (group.Late item shares) = codes "late" ++ shares_text item shares
group_line (group.Quantities item) = codes "quantities" ++ one_text item
group_line (group.LateQuantities item shares) = codes "late_quantities" ++ shares_text item shares
group_line (group.Pair low top) = codes "pair" ++ (link_text low ++ link_text top)
group_line (group.Triple low mid top) = codes "triple" ++ (link_text low ++ (link_text mid ++ link_text top))

abbrev pub branch_line : Column → ℕ → List ℕ
branch_line column at = codes "branch " ++ (column_text column ++ one_text at)

abbrev pub count_line : ℕ → List ℕ
count_line count = codes "cuts" ++ one_text count

-- no byte is a line feed
abbrev pub HasNoFeed : List ℕ → Type 0
HasNoFeed [] = ⊤
HasNoFeed (b ∷ rest) = (b ≢ 10) × HasNoFeed rest

-- The words of a line.
use Rattle.std.specs.Prelude.{◌≡◌, ◌≢◌, ◌+◌, ◌<◌, ◌++◌, ℕ, ℤ, Bool, List, [], ◌∷◌, codes, decimal, length, map, slice_index_or, ⊤}
use Rattle.std.specs.List.{All, flat_map}
use Rattle.std.specs.Fmt.{signed_decimal}
use Rattle.lin_rows.specs.declared.column.Column.{Column}
use Rattle.lin_rows.specs.declared.column.Column.TheVariants.{X, Y, S, R}
use Rattle.lin_rows.specs.declared.base.RowName.{RowName}
use Rattle.lin_rows.specs.declared.base.RowName.TheVariants.{Balance, Link, Capacity, EndMin, EndMax, Top, Least, Late, Path, Cut}
use Rattle.item_groups.specs.declared.group.ChainLink.{ChainLink}
use Rattle.item_groups.specs.declared.group.Group.{Group}
use Rattle.item_groups.specs.declared.group.Group.TheVariants as group
use Rattle.cert_lines.specs.Shapes.{ListShape}
use Rattle.cert_lines.specs.Text.{Lines, bits_text, kind_text}
use Rattle.cert_lines.specs.Limits.{bound_127, bound_32, bound_64}

-- a word after a space
abbrev pub word_text : List ℕ → List ℕ
word_text word = 32 ∷ word

abbrev pub words_text : Lines → List ℕ
words_text words = flat_map word_text words

-- no byte is a space
abbrev pub HasNoSpace : List ℕ → Type 0
HasNoSpace [] = ⊤
HasNoSpace (b ∷ rest) = (b ≢ 32) × HasNoSpace rest

abbrev pub AreWords : Lines → Type 0
AreWords [] = ⊤
AreWords (w ∷ rest) = HasNoSpace w × AreWords rest

-- these are the words of a line, which are separated by one space
pub record IsSplit (line : List ℕ) (ws : Lines) : Type 0 where
  pub text : 32 ∷ line ≡ words_text ws
  pub words : AreWords ws

-- a word by its place, and nothing where there is none
abbrev pub word_at : Lines → ℕ → List ℕ
word_at words place = slice_index_or words place []

-- these words stand from a place on
abbrev pub StandFrom : Lines → ℕ → Lines → Type 0
StandFrom ws place [] = ⊤
StandFrom ws place (v ∷ vs) = (word_at ws place ≡ v) × StandFrom ws (place + 1) vs

-- these are the words, and no more
abbrev pub HasWords : Lines → Lines → Type 0
HasWords ws vs = (length ws ≡ length vs) × StandFrom ws 0 vs

-- a word and the numbers after it
abbrev pub one_words : List ℕ → ℕ → Lines
one_words word a = word ∷ decimal a ∷ []

abbrev pub two_words : List ℕ → ℕ → ℕ → Lines
two_words word a b = word ∷ decimal a ∷ decimal b ∷ []

abbrev pub name_words : RowName → Lines
name_words (Balance i t) = two_words (codes "balance") i t
name_words (Link i t) = two_words (codes "link") i t
name_words (Capacity k t) = two_words (codes "capacity") k t
name_words (EndMin i) = one_words (codes "endmin") i
name_words (EndMax i) = one_words (codes "endmax") i
name_words (Top i t) = two_words (codes "top") i t
name_words (Least i t) = two_words (codes "least") i t
name_words (Late i t) = two_words (codes "late") i t
name_words (Path n) = one_words (codes "path") n
name_words (Cut n) = one_words (codes "cut") n

abbrev pub column_words : Column → Lines
column_words (X i t) = two_words (codes "x") i t
column_words (Y i t) = two_words (codes "y") i t
column_words (S i t) = two_words (codes "s") i t
column_words (R i t) = two_words (codes "r") i t

-- the words of the lines with a fixed number of words
abbrev pub ls_words : ℕ → ℕ → List Bool → Lines
ls_words item last chosen = codes "ls" ∷ decimal item ∷ decimal last ∷ bits_text chosen ∷ []

abbrev pub round_words : ℕ → ℕ → Lines
round_words divisor parts = two_words (codes "round") divisor parts

abbrev pub part_words : RowName → ℤ → Lines
part_words row times = codes "part" ∷ (name_words row ++ signed_decimal times ∷ [])

abbrev pub branch_words : Column → ℕ → Lines
branch_words column at = codes "branch" ∷ (column_words column ++ decimal at ∷ [])

abbrev pub linear_words : ℤ → ℕ → Lines
linear_words den parts = codes "linear" ∷ signed_decimal den ∷ decimal parts ∷ []

abbrev pub farkas_words : ℕ → Lines
farkas_words parts = one_words (codes "farkas") parts

abbrev pub reduced_words : ℕ → ℕ → ℕ → ℕ → Lines
reduced_words den parts lists groups = codes "reduced" ∷ decimal den ∷ decimal parts ∷ decimal lists ∷ decimal groups ∷ []

abbrev pub link_words : ChainLink → Lines
link_words link = decimal link.item ∷ decimal link.opening_price ∷ []

-- a word, an item and its shares, to the end of the line
abbrev pub shares_words : List ℕ → ℕ → List ℕ → Lines
shares_words word item shares = word ∷ decimal item ∷ map decimal shares

abbrev pub group_words : Group → Lines
group_words (group.Item item) = one_words (codes "item") item
group_words (group.Late item shares) = shares_words (codes "late") item shares
group_words (group.Quantities item) = one_words (codes "quantities") item
group_words (group.LateQuantities item shares) = shares_words (codes "late_quantities") item shares
group_words (group.Pair low top) = codes "pair" ∷ (link_words low ++ link_words top)
group_words (group.Triple low mid top) = codes "triple" ∷ (link_words low ++ (link_words mid ++ link_words top))

-- the words of a list of multiples, which are as many as it has periods
abbrev pub parts_words : ListShape → Lines
parts_words a = codes "parts" ∷ kind_text a.kind ∷ decimal a.index ∷ map signed_decimal a.times

-- this word and a number after it don't stand at this place
abbrev pub HasNoOne : Lines → ℕ → List ℕ → Type 0
HasNoOne ws place word = (a : ℕ) → a < bound_32 → StandFrom ws place (one_words word a) → ⊥

-- nor do this word and two numbers
abbrev pub HasNoTwo : Lines → ℕ → List ℕ → Type 0
HasNoTwo ws place word = (a b : ℕ) → a < bound_32 → b < bound_32 → StandFrom ws place (two_words word a b) → ⊥

-- no name of a row with one number
abbrev pub HasNoShortName : Lines → Type 0
HasNoShortName ws = HasNoOne ws 1 (codes "endmin") × HasNoOne ws 1 (codes "endmax") × HasNoOne ws 1 (codes "path") × HasNoOne ws 1 (codes "cut")

-- nor one with two
abbrev pub HasNoLongName : Lines → Type 0
HasNoLongName ws = HasNoTwo ws 1 (codes "balance") × HasNoTwo ws 1 (codes "link") × HasNoTwo ws 1 (codes "capacity") × HasNoTwo ws 1 (codes "top") × HasNoTwo ws 1 (codes "least") × HasNoTwo ws 1 (codes "late")

-- no column
abbrev pub HasNoColumn : Lines → Type 0
HasNoColumn ws = HasNoTwo ws 1 (codes "x") × HasNoTwo ws 1 (codes "y") × HasNoTwo ws 1 (codes "s") × HasNoTwo ws 1 (codes "r")

-- the word at this place is no number below a limit
abbrev pub HasNoNumber : Lines → ℕ → ℕ → Type 0
HasNoNumber ws limit place = (n : ℕ) → n < limit → word_at ws place ≡ decimal n → ⊥

-- these numbers stand from a place on, each below the limit, and no further one after them
pub record IsListFrom (ws : Lines) (limit place : ℕ) (xs : List ℕ) : Type 0 where
  pub stand : StandFrom ws place (map decimal xs)
  pub small : All (λ x. x < limit) xs
  pub end : HasNoNumber ws limit (place + length xs)

-- the start that `price` and `block` have in common: the item, and four lists
pub record IsFour (ws : Lines) (word letter : List ℕ) (item : ℕ) (xs bs cs ds : List ℕ) (next : ℕ) : Type 0 where
  pub first : word_at ws 0 ≡ word
  pub number : (word_at ws 1 ≡ decimal item) × (item < bound_32)
  pub first_list : (word_at ws 2 ≡ letter) × IsListFrom ws bound_64 3 xs
  pub unit : (word_at ws (3 + length xs) ≡ codes "g") × IsListFrom ws bound_64 (4 + length xs) bs
  pub hold : (word_at ws (4 + length xs + length bs) ≡ codes "h") × IsListFrom ws bound_64 (5 + length xs + length bs) cs
  pub back : (word_at ws (5 + length xs + length bs + length cs) ≡ codes "b") × IsListFrom ws bound_64 (6 + length xs + length bs + length cs) ds
  pub end : next ≡ 6 + length xs + length bs + length cs + length ds

-- the words of a `block` line
pub record HasBlockWords (ws : Lines) (item : ℕ) (xs bs cs ds es : List ℕ) : Type 0 where
  pub next : ℕ
  pub four : IsFour ws (codes "block") (codes "f") item xs bs cs ds next
  pub steps : (word_at ws next ≡ codes "p") × IsListFrom ws bound_127 (next + 1) es
  pub end : length ws ≡ next + 1 + length es

-- Each line has its words, and they its text.
use Rattle.std.specs.Prelude.{ℤ}
use Rattle.std.proofs.Common.{◌≡◌, ◌<◌, ◌≤◌, ◌^◌, ◌∙◌, ℕ, refl, rules, sym, ap, List, [], ◌∷◌, ◌++◌, append_assoc, append-nil, arith, codes, decimal, map}
use Rattle.std.specs.Fmt.{signed_decimal}
use Rattle.std.specs.List.{All}
use Rattle.lin_rows.specs.declared.column.Column.{Column}
use Rattle.lin_rows.specs.declared.column.Column.TheVariants.{X, Y, S, R}
use Rattle.lin_rows.specs.declared.base.RowName.{RowName}
use Rattle.lin_rows.specs.declared.base.RowName.TheVariants.{Balance, Link, Capacity, EndMin, EndMax, Top, Least, Late, Path, Cut as CutRow}
use Rattle.lin_rows.specs.Texts.{column_text, name_text, one_text, two_text}
use Rattle.item_groups.specs.declared.group.ChainLink.{ChainLink}
use Rattle.item_groups.specs.declared.group.Group.{Group}
use Rattle.item_groups.specs.declared.group.Group.TheVariants as group
use Rattle.cert_lines.specs.declared.parts.ListKind.{ListKind}
use Rattle.cert_lines.specs.declared.parts.ListKind.TheVariants as kind
use Rattle.cert_lines.specs.Text.{Lines, bits_text, group_line, kind_text, link_text, list_text, shares_text, signed_list_text}
use Rattle.cert_lines.specs.Limits.{Is32, Is64}
use Rattle.cert_lines.specs.Line.{IsSmallColumn, IsSmallCut, IsSmallGroup, IsSmallLine, IsSmallLink, IsSmallName, cut_line, later_line}
use Rattle.cert_lines.specs.Words.{branch_words, column_words, farkas_words, group_words, linear_words, link_words, ls_words, name_words, one_words, part_words, parts_words, reduced_words, round_words, shares_words, two_words, word_text, words_text}
use Rattle.std.proofs.lemmas.Grind.{flat_map-append}
use Rattle.cert_lines.proofs.Stands.{AreVisible, IsVisible, bits_visible, decimal_visible, list_last, list_part, list_words, numbers_visible, signed_numbers_visible, signed_visible, visible_append}
use Rattle.cert_lines.specs.Shapes.{BlockCut, BranchLine, CutLine, CutShape, EndLine, FarkasLine, GroupLine, LineShape, LinearLine, ListLine, LsCut, PartLine, PointLine, PriceCut, ReducedLine, RoundCut, RoundLine}

-- the words of the lines that end in lists
abbrev pub price_words : ℕ → List ℕ → List ℕ → List ℕ → List ℕ → Lines
price_words item xs bs cs ds = codes "price" ∷ decimal item ∷ (list_words (codes "w") xs ++ (list_words (codes "g") bs ++ (list_words (codes "h") cs ++ list_words (codes "b") ds)))

abbrev pub block_words : ℕ → List ℕ → List ℕ → List ℕ → List ℕ → List ℕ → Lines
block_words item xs bs cs ds es = codes "block" ∷ decimal item ∷ (list_words (codes "f") xs ++ (list_words (codes "g") bs ++ (list_words (codes "h") cs ++ (list_words (codes "b") ds ++ list_words (codes "p") es))))

abbrev pub words_of_cut : CutShape → Lines
words_of_cut (LsCut item last chosen) = ls_words item last chosen
words_of_cut (PriceCut item a) = price_words item a.price a.unit a.hold a.back
words_of_cut (BlockCut item a) = block_words item a.setup a.unit a.hold a.back a.steps
words_of_cut (RoundCut divisor parts) = []

-- the words of a line
abbrev pub words_of : LineShape → Lines
words_of (CutLine c) = words_of_cut c
words_of (RoundLine divisor parts) = round_words divisor parts
words_of (PartLine part) = part_words part.row part.times
words_of (BranchLine column at) = branch_words column at
words_of (LinearLine den parts) = linear_words den parts
words_of (FarkasLine parts) = farkas_words parts
words_of PointLine = codes "point" ∷ []
words_of (ReducedLine den parts lists groups) = reduced_words den parts lists groups
words_of (ListLine a) = parts_words a
words_of (GroupLine g) = group_words g
words_of EndLine = codes "end" ∷ []

one_spelled : (word : List ℕ) (a : ℕ) → words_text (one_words word a) ≡ word_text word ++ one_text a
one_spelled word a = ap (λ t. word_text word ++ t) (append-nil (one_text a))

two_spelled : (word : List ℕ) (a b : ℕ) → words_text (two_words word a b) ≡ word_text word ++ two_text a b
two_spelled word a b = ap (λ t. word_text word ++ (one_text a ++ t)) (append-nil (one_text b))

name_spelled : (row : RowName) → words_text (name_words row) ≡ 32 ∷ name_text row
name_spelled (Balance i t) = two_spelled (codes "balance") i t
name_spelled (Link i t) = two_spelled (codes "link") i t
name_spelled (Capacity k t) = two_spelled (codes "capacity") k t
name_spelled (EndMin i) = one_spelled (codes "endmin") i
name_spelled (EndMax i) = one_spelled (codes "endmax") i
name_spelled (Top i t) = two_spelled (codes "top") i t
name_spelled (Least i t) = two_spelled (codes "least") i t
name_spelled (Late i t) = two_spelled (codes "late") i t
name_spelled (Path n) = one_spelled (codes "path") n
name_spelled (CutRow n) = one_spelled (codes "cut") n

column_spelled : (column : Column) → words_text (column_words column) ≡ 32 ∷ column_text column
column_spelled (X i t) = two_spelled (codes "x") i t
column_spelled (Y i t) = two_spelled (codes "y") i t
column_spelled (S i t) = two_spelled (codes "s") i t
column_spelled (R i t) = two_spelled (codes "r") i t

-- a word, the words of a name or a column, and one more
around : (first : List ℕ) (mid : Lines) (text last : List ℕ) → words_text mid ≡ 32 ∷ text → words_text (first ∷ (mid ++ last ∷ [])) ≡ word_text first ++ ((32 ∷ text) ++ word_text last)
around first mid text last e =
    ap (λ t. word_text first ++ t) (flat_map-append word_text mid (last ∷ []) ∙ ap (λ t. t ++ words_text (last ∷ [])) e ∙ ap (λ t. (32 ∷ text) ++ t) (append-nil (word_text last)))

price_spelled : (item : ℕ) (xs bs cs ds : List ℕ) → words_text (price_words item xs bs cs ds) ≡ word_text (codes "price") ++ (one_text item ++ (codes " w" ++ (list_text xs ++ (codes " g" ++ (list_text bs ++ (codes " h" ++ (list_text cs ++ (codes " b" ++ list_text ds))))))))
price_spelled item xs bs cs ds =
    ap (λ t. word_text (codes "price") ++ (one_text item ++ t))
    (list_part (codes "w") xs _ ∙ ap (λ t. codes " w" ++ (list_text xs ++ t))
    (list_part (codes "g") bs _ ∙ ap (λ t. codes " g" ++ (list_text bs ++ t))
    (list_part (codes "h") cs _ ∙ ap (λ t. codes " h" ++ (list_text cs ++ t)) (list_last (codes "b") ds))))

block_spelled : (item : ℕ) (xs bs cs ds es : List ℕ) → words_text (block_words item xs bs cs ds es) ≡ word_text (codes "block") ++ (one_text item ++ (codes " f" ++ (list_text xs ++ (codes " g" ++ (list_text bs ++ (codes " h" ++ (list_text cs ++ (codes " b" ++ (list_text ds ++ (codes " p" ++ list_text es))))))))))
block_spelled item xs bs cs ds es =
    ap (λ t. word_text (codes "block") ++ (one_text item ++ t))
    (list_part (codes "f") xs _ ∙ ap (λ t. codes " f" ++ (list_text xs ++ t))
    (list_part (codes "g") bs _ ∙ ap (λ t. codes " g" ++ (list_text bs ++ t))
    (list_part (codes "h") cs _ ∙ ap (λ t. codes " h" ++ (list_text cs ++ t))
    (list_part (codes "b") ds _ ∙ ap (λ t. codes " b" ++ (list_text ds ++ t)) (list_last (codes "p") es)))))

cut_spelled : (c : CutShape) → IsSmallCut c → words_text (words_of_cut c) ≡ 32 ∷ cut_line c
cut_spelled (LsCut item last chosen) small = ap (λ t. word_text (codes "ls") ++ (one_text item ++ (one_text last ++ t))) (append-nil (word_text (bits_text chosen)))
cut_spelled (PriceCut item a) small = price_spelled item a.price a.unit a.hold a.back ∙ ap (λ t. word_text (codes "price") ++ t) (sym (append_assoc (one_text item) (codes " w") _))
cut_spelled (BlockCut item a) small = block_spelled item a.setup a.unit a.hold a.back a.steps ∙ ap (λ t. word_text (codes "block") ++ t) (sym (append_assoc (one_text item) (codes " f") _))
cut_spelled (RoundCut divisor parts) small = absurd small

-- the text of numbers with their signs
signed_spelled : (xs : List ℤ) → words_text (map signed_decimal xs) ≡ signed_list_text xs
signed_spelled [] = refl
signed_spelled (x ∷ xs) = ap (λ t. word_text (signed_decimal x) ++ t) (signed_spelled xs)

-- the text of an item of a chain before other words, and at the end
link_spelled : (link : ChainLink) (rest : Lines) → words_text (link_words link ++ rest) ≡ link_text link ++ words_text rest
link_spelled link rest = sym (append_assoc (one_text link.item) (one_text link.opening_price) (words_text rest))

last_spelled : (link : ChainLink) → words_text (link_words link) ≡ link_text link
last_spelled link = ap (λ t. one_text link.item ++ t) (append-nil (one_text link.opening_price))

-- an item and its shares after a word
shares_spelled : (word : List ℕ) (item : ℕ) (shares : List ℕ) → words_text (shares_words word item shares) ≡ word_text word ++ shares_text item shares
shares_spelled word item shares = ap (λ t. word_text word ++ t) (list_last (decimal item) shares)

group_spelled : (g : Group) → words_text (group_words g) ≡ 32 ∷ group_line g
group_spelled (group.Item item) = one_spelled (codes "item") item
group_spelled (group.Late item shares) = shares_spelled (codes "late") item shares
group_spelled (group.Quantities item) = one_spelled (codes "quantities") item
group_spelled (group.LateQuantities item shares) = shares_spelled (codes "late_quantities") item shares
group_spelled (group.Pair low top) = ap (λ t. word_text (codes "pair") ++ t) (link_spelled low (link_words top) ∙ ap (λ t. link_text low ++ t) (last_spelled top))
group_spelled (group.Triple low mid top) =
    ap (λ t. word_text (codes "triple") ++ t)
    (link_spelled low (link_words mid ++ link_words top) ∙ ap (λ t. link_text low ++ t) (link_spelled mid (link_words top) ∙ ap (λ t. link_text mid ++ t) (last_spelled top)))

pub spelled : (l : LineShape) → IsSmallLine l → words_text (words_of l) ≡ 32 ∷ later_line l
spelled (CutLine c) small = cut_spelled c small
spelled (RoundLine divisor parts) small = two_spelled (codes "round") divisor parts
spelled (PartLine part) small = around (codes "part") (name_words part.row) (name_text part.row) (signed_decimal part.times) (name_spelled part.row)
spelled (BranchLine column at) small = around (codes "branch") (column_words column) (column_text column) (decimal at) (column_spelled column)
spelled (LinearLine den parts) small = ap (λ t. word_text (codes "linear") ++ (word_text (signed_decimal den) ++ t)) (append-nil (one_text parts))
spelled (FarkasLine parts) small = one_spelled (codes "farkas") parts
spelled PointLine small = refl
spelled (ReducedLine den parts lists groups) small = ap (λ t. word_text (codes "reduced") ++ (one_text den ++ (one_text parts ++ (one_text lists ++ t)))) (append-nil (one_text groups))
spelled (ListLine a) small = ap (λ t. word_text (codes "parts") ++ (word_text (kind_text a.kind) ++ (one_text a.index ++ t))) (signed_spelled a.times)
spelled (GroupLine g) small = group_spelled g
spelled EndLine small = refl

one_visible : (word : List ℕ) (a : ℕ) → IsVisible word → a < 10 ^ 64 → AreVisible (one_words word a)
one_visible word a w small = (w, (decimal_visible a small, tt))

two_visible : (word : List ℕ) (a b : ℕ) → IsVisible word → a < 10 ^ 64 → b < 10 ^ 64 → AreVisible (two_words word a b)
two_visible word a b w first second = (w, (decimal_visible a first, (decimal_visible b second, tt)))

name_visible : (row : RowName) → IsSmallName row → AreVisible (name_words row)
name_visible (Balance i t) small = two_visible (codes "balance") i t (search rules) (omega (arith, small.0)) (omega (arith, small.1))
name_visible (Link i t) small = two_visible (codes "link") i t (search rules) (omega (arith, small.0)) (omega (arith, small.1))
name_visible (Capacity k t) small = two_visible (codes "capacity") k t (search rules) (omega (arith, small.0)) (omega (arith, small.1))
name_visible (EndMin i) small = one_visible (codes "endmin") i (search rules) (omega (arith, small))
name_visible (EndMax i) small = one_visible (codes "endmax") i (search rules) (omega (arith, small))
name_visible (Top i t) small = two_visible (codes "top") i t (search rules) (omega (arith, small.0)) (omega (arith, small.1))
name_visible (Least i t) small = two_visible (codes "least") i t (search rules) (omega (arith, small.0)) (omega (arith, small.1))
name_visible (Late i t) small = two_visible (codes "late") i t (search rules) (omega (arith, small.0)) (omega (arith, small.1))
name_visible (Path n) small = one_visible (codes "path") n (search rules) (omega (arith, small))
name_visible (CutRow n) small = one_visible (codes "cut") n (search rules) (omega (arith, small))

column_visible : (column : Column) → IsSmallColumn column → AreVisible (column_words column)
column_visible (X i t) small = two_visible (codes "x") i t (search rules) (omega (arith, small.0)) (omega (arith, small.1))
column_visible (Y i t) small = two_visible (codes "y") i t (search rules) (omega (arith, small.0)) (omega (arith, small.1))
column_visible (S i t) small = two_visible (codes "s") i t (search rules) (omega (arith, small.0)) (omega (arith, small.1))
column_visible (R i t) small = two_visible (codes "r") i t (search rules) (omega (arith, small.0)) (omega (arith, small.1))

list_visible : (letter xs : List ℕ) (rest : Lines) (limit : ℕ) → limit ≤ 10 ^ 64 → IsVisible letter → All (λ x. x < limit) xs → AreVisible rest → AreVisible (list_words letter xs ++ rest)
list_visible letter xs rest limit wide l a r = (l, visible_append (map decimal xs) rest (numbers_visible xs limit wide a) r)

last_visible : (letter xs : List ℕ) (limit : ℕ) → limit ≤ 10 ^ 64 → IsVisible letter → All (λ x. x < limit) xs → AreVisible (list_words letter xs)
last_visible letter xs limit wide l a = (l, numbers_visible xs limit wide a)

cut_visible : (c : CutShape) → IsSmallCut c → AreVisible (words_of_cut c)
cut_visible (LsCut item last chosen) small = (search rules, (decimal_visible item (omega (arith, small.0)), (decimal_visible last (omega (arith, small.2)), (bits_visible chosen, tt))))
cut_visible (PriceCut item a) small = (
  search rules,
  (
    decimal_visible item (omega (arith, small.0)),
    list_visible (codes "w") a.price _ (2 ^ 64) (omega arith) (search rules) small.1.0
        (list_visible (codes "g") a.unit _ (2 ^ 64) (omega arith) (search rules) small.1.1
        (list_visible (codes "h") a.hold _ (2 ^ 64) (omega arith) (search rules) small.1.2
        (last_visible (codes "b") a.back (2 ^ 64) (omega arith) (search rules) small.1.3))),
  ),
)
cut_visible (BlockCut item a) small = (
  search rules,
  (
    decimal_visible item (omega (arith, small.0)),
    list_visible (codes "f") a.setup _ (2 ^ 64) (omega arith) (search rules) small.1.0
        (list_visible (codes "g") a.unit _ (2 ^ 64) (omega arith) (search rules) small.1.1
        (list_visible (codes "h") a.hold _ (2 ^ 64) (omega arith) (search rules) small.1.2
        (list_visible (codes "b") a.back _ (2 ^ 64) (omega arith) (search rules) small.1.3
        (last_visible (codes "p") a.steps (2 ^ 127) (omega arith) (search rules) small.1.4)))),
  ),
)
cut_visible (RoundCut divisor parts) small = absurd small

kind_visible : (k : ListKind) → IsVisible (kind_text k)
kind_visible kind.Balance = search rules
kind_visible kind.Link = search rules
kind_visible kind.Capacity = search rules
kind_visible kind.Top = search rules
kind_visible kind.Least = search rules
kind_visible kind.Late = search rules

link_visible : (link : ChainLink) (rest : Lines) → IsSmallLink link → AreVisible rest → AreVisible (link_words link ++ rest)
link_visible link rest small r = (decimal_visible link.item (omega (arith, small.0)), (decimal_visible link.opening_price (omega (arith, small.1)), r))

shares_visible : (word : List ℕ) (item : ℕ) (shares : List ℕ) → IsVisible word → Is32 item → All Is64 shares → AreVisible (shares_words word item shares)
shares_visible word item shares w small all = (w, (decimal_visible item (omega (arith, small)), numbers_visible shares (2 ^ 64) (omega arith) all))

group_visible : (g : Group) → IsSmallGroup g → AreVisible (group_words g)
group_visible (group.Item item) small = one_visible (codes "item") item (search rules) (omega (arith, small))
group_visible (group.Late item shares) small = shares_visible (codes "late") item shares (search rules) small.0 small.1
group_visible (group.Quantities item) small = one_visible (codes "quantities") item (search rules) (omega (arith, small))
group_visible (group.LateQuantities item shares) small = shares_visible (codes "late_quantities") item shares (search rules) small.0 small.1
group_visible (group.Pair low top) small = (search rules, link_visible low (link_words top) small.0 (link_visible top [] small.1 tt))
group_visible (group.Triple low mid top) small = (search rules, link_visible low (link_words mid ++ link_words top) small.0 (link_visible mid (link_words top) small.1 (link_visible top [] small.2 tt)))

-- no word has a space or a byte before it
pub visible : (l : LineShape) → IsSmallLine l → AreVisible (words_of l)
visible (CutLine c) small = cut_visible c small
visible (RoundLine divisor parts) small = two_visible (codes "round") divisor parts (search rules) (omega (arith, small.1)) (omega (arith, small.2))
visible (PartLine part) small = (search rules, visible_append (name_words part.row) (signed_decimal part.times ∷ []) (name_visible part.row small.0) (signed_visible part.times (omega (arith, small.1)), tt))
visible (BranchLine column at) small = (search rules, visible_append (column_words column) (decimal at ∷ []) (column_visible column small.0) (decimal_visible at (omega (arith, small.1)), tt))
visible (LinearLine den parts) small = (search rules, (signed_visible den (omega (arith, small.1)), (decimal_visible parts (omega (arith, small.2)), tt)))
visible (FarkasLine parts) small = one_visible (codes "farkas") parts (search rules) (omega (arith, small))
visible PointLine small = (search rules, tt)
visible (ReducedLine den parts lists groups) small = (
  search rules,
  (
    decimal_visible den (omega (arith, small.0)),
    (
      decimal_visible parts (omega (arith, small.1)),
      (decimal_visible lists (omega (arith, small.2)), (decimal_visible groups (omega (arith, small.3)), tt)),
    ),
  ),
)
visible (ListLine a) small = (search rules, (kind_visible a.kind, (decimal_visible a.index (omega (arith, small.0)), signed_numbers_visible a.times small.1)))
visible (GroupLine g) small = group_visible g small
visible EndLine small = (search rules, tt)

-- A line has one value.
use Rattle.std.proofs.Common.{◌≡◌, ◌≢◌, ◌<◌, ◌+◌, ◌^◌, ◌∙◌, ℕ, suc, refl, rules, sym, ap, subst, arith, List, [], ◌∷◌, ◌++◌, codes, decimal, length, map, Bool, true, false, slice_index_or}
use Rattle.std.proofs.lemmas.Fmt.{decimal_is_IsNumeral_wide}
use Rattle.std.specs.Prelude.{ℤ, pos, negsuc, unsigned_abs}
use Rattle.std.specs.Fmt.{signed_decimal}
use Rattle.lin_rows.specs.declared.column.Column.{Column}
use Rattle.lin_rows.specs.declared.column.Column.TheVariants.{X, Y, S, R}
use Rattle.lin_rows.specs.declared.base.RowName.{RowName}
use Rattle.lin_rows.specs.declared.base.RowName.TheVariants.{Balance, Link, Capacity, EndMin, EndMax, Top, Least, Late, Path, Cut as CutRow}
use Rattle.std.specs.List.{All}
use Rattle.std.proofs.lemmas.List.Elements.{All-head, All-tail}
use Rattle.item_groups.specs.declared.group.ChainLink.{ChainLink}
use Rattle.item_groups.specs.declared.group.Group.{Group}
use Rattle.item_groups.specs.declared.group.Group.TheVariants as group
use Rattle.cert_lines.specs.declared.parts.ListKind.{ListKind}
use Rattle.cert_lines.specs.declared.parts.ListKind.TheVariants as kind
use Rattle.cert_lines.specs.declared.parts.Part.{Part}
use Rattle.cert_lines.specs.declared.parts.PartList.{PartList}
use Rattle.cert_lines.specs.Text.{Lines, bits_text, kind_text}
use Rattle.cert_lines.specs.Limits.{Is32, Is64, IsSmallTimes}
use Rattle.cert_lines.specs.Line.{IsFirstName, IsKnown, IsLine, IsSmallColumn, IsSmallCut, IsSmallGroup, IsSmallLine, IsSmallLink, IsSmallName, later_line}
use Rattle.cert_lines.specs.Words.{column_words, group_words, link_words, name_words, words_text}
use Rattle.cert_lines.proofs.Numerals.{digit_read}
use Rattle.cert_lines.proofs.Splits.{same_number, same_words, tail}
use Rattle.cert_lines.proofs.Stands.{visible_words}
use Rattle.cert_lines.specs.Forms.{IsCutOf}
use Rattle.cert_lines.specs.Words.{IsListFrom}
use Rattle.cert_lines.proofs.Listed.{same_from, same_lists}
use Rattle.cert_lines.proofs.Meant.{cut_form}
use Rattle.cert_lines.proofs.Spelled.{spelled, visible, words_of, words_of_cut}
use Rattle.cert_lines.specs.declared.line.CertLine.{CertLine}
use Rattle.cert_lines.specs.declared.line.CertLine.TheVariants as line
use Rattle.cert_lines.specs.Shapes.{line_shape, BlockLists, PriceLists, BlockCut, BranchLine, CutLine, CutShape, EndLine, FarkasLine, GroupLine, LineShape, LinearLine, ListLine, ListShape, LsCut, PartLine, PointLine, PriceCut, ReducedLine, RoundCut, RoundLine}

abbrev first : List ℕ → ℕ
first [] = 0
first (b ∷ bs) = b

abbrev after_one : Lines → Lines
after_one [] = []
after_one (a ∷ ws) = ws

abbrev after_two : Lines → Lines
after_two (a ∷ b ∷ ws) = ws
after_two _ = []

abbrev after_three : Lines → Lines
after_three (a ∷ b ∷ c ∷ ws) = ws
after_three _ = []

-- the word at a place
abbrev word : Lines → ℕ → List ℕ
word ws k = slice_index_or ws k []

same_32 : (n m : ℕ) → Is32 n → Is32 m → decimal n ≡ decimal m → n ≡ m
same_32 n m a b e = same_number n m (omega (arith, a)) (omega (arith, b)) e

-- a number with its sign is written in one way
no_minus : (n : ℕ) (rest : List ℕ) → n < 10 ^ 64 → decimal n ≡ 45 ∷ rest → ⊥
no_minus n rest small e =
    let digits = (decimal_is_IsNumeral_wide n small).0 in
    let (value, low) = digit_read (decimal n) 0 digits.1 digits.0 in
    omega (arith, value, low, ap (λ t. slice_index_or t 0 0) e)

same_signed : (z w : ℤ) → unsigned_abs z < 2 ^ 127 → unsigned_abs w < 2 ^ 127 → signed_decimal z ≡ signed_decimal w → z ≡ w
same_signed (pos n) (pos m) a b e = ap pos (same_number n m (omega (arith, a)) (omega (arith, b)) e)
same_signed (pos n) (negsuc m) a b e = absurd (no_minus n (decimal (suc m)) (omega (arith, a)) e)
same_signed (negsuc n) (pos m) a b e = absurd (no_minus m (decimal (suc n)) (omega (arith, b)) (sym e))
same_signed (negsuc n) (negsuc m) a b e = ap negsuc (omega (arith, same_number (suc n) (suc m) (omega (arith, a)) (omega (arith, b)) (ap tail e)))

same_bits : (xs ys : List Bool) → bits_text xs ≡ bits_text ys → xs ≡ ys
same_bits [] [] e = refl
same_bits [] (true ∷ ys) e = cc e
same_bits [] (false ∷ ys) e = cc e
same_bits (true ∷ xs) [] e = cc e
same_bits (false ∷ xs) [] e = cc e
same_bits (true ∷ xs) (true ∷ ys) e = ap (λ zs. true ∷ zs) (same_bits xs ys (ap tail e))
same_bits (false ∷ xs) (false ∷ ys) e = ap (λ zs. false ∷ zs) (same_bits xs ys (ap tail e))
same_bits (true ∷ xs) (false ∷ ys) e = search (rules, ap first e)
same_bits (false ∷ xs) (true ∷ ys) e = search (rules, ap first e)

-- a column and the words after it
same_column : (a b : Column) (us vs : Lines) → IsSmallColumn a → IsSmallColumn b → column_words a ++ us ≡ column_words b ++ vs → (a ≡ b) × (us ≡ vs)
same_column (X i t) (X j u) us vs a b e = (cc (same_32 i j a.0 b.0 (ap (λ ws. word ws 1) e), same_32 t u a.1 b.1 (ap (λ ws. word ws 2) e)), ap after_three e)
same_column (Y i t) (Y j u) us vs a b e = (cc (same_32 i j a.0 b.0 (ap (λ ws. word ws 1) e), same_32 t u a.1 b.1 (ap (λ ws. word ws 2) e)), ap after_three e)
same_column (S i t) (S j u) us vs a b e = (cc (same_32 i j a.0 b.0 (ap (λ ws. word ws 1) e), same_32 t u a.1 b.1 (ap (λ ws. word ws 2) e)), ap after_three e)
same_column (R i t) (R j u) us vs a b e = (cc (same_32 i j a.0 b.0 (ap (λ ws. word ws 1) e), same_32 t u a.1 b.1 (ap (λ ws. word ws 2) e)), ap after_three e)
same_column _ _ us vs a b e = search (rules, ap (λ ws. word ws 0) e)

-- a name and the words after it
same_name : (a b : RowName) (us vs : Lines) → IsSmallName a → IsSmallName b → name_words a ++ us ≡ name_words b ++ vs → (a ≡ b) × (us ≡ vs)
same_name (Balance i t) (Balance j u) us vs a b e = (cc (same_32 i j a.0 b.0 (ap (λ ws. word ws 1) e), same_32 t u a.1 b.1 (ap (λ ws. word ws 2) e)), ap after_three e)
same_name (Link i t) (Link j u) us vs a b e = (cc (same_32 i j a.0 b.0 (ap (λ ws. word ws 1) e), same_32 t u a.1 b.1 (ap (λ ws. word ws 2) e)), ap after_three e)
same_name (Capacity i t) (Capacity j u) us vs a b e = (cc (same_32 i j a.0 b.0 (ap (λ ws. word ws 1) e), same_32 t u a.1 b.1 (ap (λ ws. word ws 2) e)), ap after_three e)
same_name (Top i t) (Top j u) us vs a b e = (cc (same_32 i j a.0 b.0 (ap (λ ws. word ws 1) e), same_32 t u a.1 b.1 (ap (λ ws. word ws 2) e)), ap after_three e)
same_name (Least i t) (Least j u) us vs a b e = (cc (same_32 i j a.0 b.0 (ap (λ ws. word ws 1) e), same_32 t u a.1 b.1 (ap (λ ws. word ws 2) e)), ap after_three e)
same_name (Late i t) (Late j u) us vs a b e = (cc (same_32 i j a.0 b.0 (ap (λ ws. word ws 1) e), same_32 t u a.1 b.1 (ap (λ ws. word ws 2) e)), ap after_three e)
same_name (EndMin i) (EndMin j) us vs a b e = (ap EndMin (same_32 i j a b (ap (λ ws. word ws 1) e)), ap after_two e)
same_name (EndMax i) (EndMax j) us vs a b e = (ap EndMax (same_32 i j a b (ap (λ ws. word ws 1) e)), ap after_two e)
same_name (Path i) (Path j) us vs a b e = (ap Path (same_32 i j a b (ap (λ ws. word ws 1) e)), ap after_two e)
same_name (CutRow i) (CutRow j) us vs a b e = (ap CutRow (same_32 i j a b (ap (λ ws. word ws 1) e)), ap after_two e)
same_name _ _ us vs a b e = search (rules, ap (λ ws. word ws 0) e)

same_part : (p q : Part) → p.row ≡ q.row → p.times ≡ q.times → p ≡ q
same_part p q row times = ap (λ r. part_of r p.times) row ∙ ap (part_of q.row) times
  where
    part_of : RowName → ℤ → Part
    part_of r z = record { row = r; times = z }

same_prices : (a b : PriceLists) → a.price ≡ b.price → a.unit ≡ b.unit → a.hold ≡ b.hold → a.back ≡ b.back → a ≡ b
same_prices a b p u h k = ap (λ x. lists x a.unit a.hold a.back) p ∙ ap (λ x. lists b.price x a.hold a.back) u ∙ ap (λ x. lists b.price b.unit x a.back) h ∙ ap (lists b.price b.unit b.hold) k
  where
    lists : List ℕ → List ℕ → List ℕ → List ℕ → PriceLists
    lists p u h k = record { price = p; unit = u; hold = h; back = k }

same_potentials : (a b : BlockLists) → a.setup ≡ b.setup → a.unit ≡ b.unit → a.hold ≡ b.hold → a.back ≡ b.back → a.steps ≡ b.steps → a ≡ b
same_potentials a b s u h k g =
    ap (λ x. lists x a.unit a.hold a.back a.steps) s ∙ ap (λ x. lists b.setup x a.hold a.back a.steps) u ∙ ap (λ x. lists b.setup b.unit x a.back a.steps) h
    ∙ ap (λ x. lists b.setup b.unit b.hold x a.steps) k ∙ ap (lists b.setup b.unit b.hold b.back) g
  where
    lists : List ℕ → List ℕ → List ℕ → List ℕ → List ℕ → BlockLists
    lists s u h k g = record { setup = s; unit = u; hold = h; back = k; steps = g }

-- a cut of one line
same_cut : (c d : CutShape) → words_of_cut c ≡ words_of_cut d → IsSmallCut c → IsSmallCut d → c ≡ d
same_cut (LsCut item last chosen) (LsCut jtem end others) e a b = cc (same_32 item jtem a.0 b.0 (ap (λ ws. word ws 1) e), same_32 last end a.2 b.2 (ap (λ ws. word ws 2) e), same_bits chosen others (ap (λ ws. word ws 3) e))
same_cut (PriceCut item x) (PriceCut jtem y) e a b =
    let ws = words_of_cut (PriceCut item x) in
    let (one, two, three, four) = same_lists ws (codes "price") (codes "w") item jtem _ _ x.price x.unit x.hold x.back y.price y.unit y.hold y.back (cut_form (PriceCut item x) a) (subst (λ vs. IsCutOf vs (PriceCut jtem y)) (sym e) (cut_form (PriceCut jtem y) b)) in
    ap (λ i. PriceCut i x) (same_32 item jtem a.0 b.0 (ap (λ ws. word ws 1) e)) ∙ ap (PriceCut jtem) (same_prices x y one two three four)
same_cut (BlockCut item x) (BlockCut jtem y) e a b =
    let ws = words_of_cut (BlockCut item x) in
    let f : IsCutOf ws (BlockCut item x) = cut_form (BlockCut item x) a in
    let g : IsCutOf ws (BlockCut jtem y) = subst (λ vs. IsCutOf vs (BlockCut jtem y)) (sym e) (cut_form (BlockCut jtem y) b) in
    let (one, two, three, four) = same_lists ws (codes "block") (codes "f") item jtem _ _ x.setup x.unit x.hold x.back y.setup y.unit y.hold y.back f.four g.four in
    let next : f.next ≡ g.next = omega (arith, f.four.end, g.four.end, ap length one, ap length two, ap length three, ap length four) in
    let five = same_from ws (2 ^ 127) (f.next + 1) x.steps y.steps (omega arith) f.steps.1 (subst (λ k. IsListFrom ws (2 ^ 127) (k + 1) y.steps) (sym next) g.steps.1) in
    ap (λ i. BlockCut i x) (same_32 item jtem a.0 b.0 (ap (λ ws. word ws 1) e)) ∙ ap (BlockCut jtem) (same_potentials x y one two three four five)
same_cut (RoundCut divisor parts) d e a b = absurd a
same_cut c (RoundCut divisor parts) e a b = absurd b
same_cut _ _ e a b = search (rules, ap (λ ws. word ws 0) e)

cut_apart : (c : CutShape) (w : List ℕ) (rest : Lines) → w ≢ codes "ls" → w ≢ codes "price" → w ≢ codes "block" → words_of_cut c ≡ w ∷ rest → IsSmallCut c → ⊥
cut_apart (LsCut item last chosen) w rest ls price block e a = ls (sym (ap (λ ws. word ws 0) e))
cut_apart (PriceCut item x) w rest ls price block e a = price (sym (ap (λ ws. word ws 0) e))
cut_apart (BlockCut item x) w rest ls price block e a = block (sym (ap (λ ws. word ws 0) e))
cut_apart (RoundCut divisor parts) w rest ls price block e a = a

other_line : (c : CutShape) (m : LineShape) → words_of_cut c ≡ words_of m → IsSmallCut c → IsSmallLine m → ((d : CutShape) → m ≢ CutLine d) → ⊥
other_line c (CutLine d) e a b none = none d refl
other_line c (RoundLine divisor parts) e a b none = cut_apart c (codes "round") _ (λ f. search (rules, f)) (λ f. search (rules, f)) (λ f. search (rules, f)) e a
other_line c (PartLine part) e a b none = cut_apart c (codes "part") _ (λ f. search (rules, f)) (λ f. search (rules, f)) (λ f. search (rules, f)) e a
other_line c (BranchLine column at) e a b none = cut_apart c (codes "branch") _ (λ f. search (rules, f)) (λ f. search (rules, f)) (λ f. search (rules, f)) e a
other_line c (LinearLine den parts) e a b none = cut_apart c (codes "linear") _ (λ f. search (rules, f)) (λ f. search (rules, f)) (λ f. search (rules, f)) e a
other_line c (FarkasLine parts) e a b none = cut_apart c (codes "farkas") _ (λ f. search (rules, f)) (λ f. search (rules, f)) (λ f. search (rules, f)) e a
other_line c (ReducedLine den parts lists groups) e a b none = cut_apart c (codes "reduced") _ (λ f. search (rules, f)) (λ f. search (rules, f)) (λ f. search (rules, f)) e a
other_line c (ListLine l) e a b none = cut_apart c (codes "parts") _ (λ f. search (rules, f)) (λ f. search (rules, f)) (λ f. search (rules, f)) e a
other_line c (GroupLine (group.Item i)) e a b none = cut_apart c (codes "item") _ (λ f. search (rules, f)) (λ f. search (rules, f)) (λ f. search (rules, f)) e a
other_line c (GroupLine (group.Late i s)) e a b none = cut_apart c (codes "late") _ (λ f. search (rules, f)) (λ f. search (rules, f)) (λ f. search (rules, f)) e a
other_line c (GroupLine (group.Quantities i)) e a b none = cut_apart c (codes "quantities") _ (λ f. search (rules, f)) (λ f. search (rules, f)) (λ f. search (rules, f)) e a
other_line c (GroupLine (group.LateQuantities i s)) e a b none = cut_apart c (codes "late_quantities") _ (λ f. search (rules, f)) (λ f. search (rules, f)) (λ f. search (rules, f)) e a
other_line c (GroupLine (group.Pair low top)) e a b none = cut_apart c (codes "pair") _ (λ f. search (rules, f)) (λ f. search (rules, f)) (λ f. search (rules, f)) e a
other_line c (GroupLine (group.Triple low mid top)) e a b none = cut_apart c (codes "triple") _ (λ f. search (rules, f)) (λ f. search (rules, f)) (λ f. search (rules, f)) e a
other_line c PointLine e a b none = cut_apart c (codes "point") _ (λ f. search (rules, f)) (λ f. search (rules, f)) (λ f. search (rules, f)) e a
other_line c EndLine e a b none = cut_apart c (codes "end") _ (λ f. search (rules, f)) (λ f. search (rules, f)) (λ f. search (rules, f)) e a

-- a list of multiples
same_kind : (k l : ListKind) → kind_text k ≡ kind_text l → k ≡ l
same_kind kind.Balance kind.Balance e = refl
same_kind kind.Link kind.Link e = refl
same_kind kind.Capacity kind.Capacity e = refl
same_kind kind.Top kind.Top e = refl
same_kind kind.Least kind.Least e = refl
same_kind kind.Late kind.Late e = refl
same_kind _ _ e = search (rules, e)

same_times : (xs ys : List ℤ) → All IsSmallTimes xs → All IsSmallTimes ys → map signed_decimal xs ≡ map signed_decimal ys → xs ≡ ys
same_times [] [] a b e = refl
same_times [] (y ∷ ys) a b e = cc e
same_times (x ∷ xs) [] a b e = cc e
same_times (x ∷ xs) (y ∷ ys) a b e =
    let first = same_signed x y (All-head IsSmallTimes x xs a) (All-head IsSmallTimes y ys b) (ap (λ ws. word ws 0) e) in
    ap (λ z. z ∷ xs) first ∙ ap (λ zs. y ∷ zs) (same_times xs ys (All-tail IsSmallTimes x xs a) (All-tail IsSmallTimes y ys b) (ap after_one e))

same_list : (l m : ListShape) → l.kind ≡ m.kind → l.index ≡ m.index → l.times ≡ m.times → l ≡ m
same_list l m k i t = ap (λ x. list_of x l.index l.times) k ∙ ap (λ x. list_of m.kind x l.times) i ∙ ap (list_of m.kind m.index) t
  where
    list_of : ListKind → ℕ → List ℤ → ListShape
    list_of k i t = record { kind = k; index = i; times = t }

-- an item of a chain and the words after it
same_link : (l m : ChainLink) (us vs : Lines) → IsSmallLink l → IsSmallLink m → link_words l ++ us ≡ link_words m ++ vs → (l ≡ m) × (us ≡ vs)
same_link l m us vs a b e =
    let item = same_32 l.item m.item a.0 b.0 (ap (λ ws. word ws 0) e) in
    let price = same_number l.opening_price m.opening_price (omega (arith, a.1)) (omega (arith, b.1)) (ap (λ ws. word ws 1) e) in
    (ap (λ i. link_of i l.opening_price) item ∙ ap (link_of m.item) price, ap after_two e)
  where
    link_of : ℕ → ℕ → ChainLink
    link_of i p = record { item = i; opening_price = p }

same_shares : (xs ys : List ℕ) → All Is64 xs → All Is64 ys → map decimal xs ≡ map decimal ys → xs ≡ ys
same_shares [] [] a b e = refl
same_shares [] (y ∷ ys) a b e = cc e
same_shares (x ∷ xs) [] a b e = cc e
same_shares (x ∷ xs) (y ∷ ys) a b e =
    let low = All-head Is64 x xs a in
    let high = All-head Is64 y ys b in
    let first = same_number x y (omega (arith, low)) (omega (arith, high)) (ap (λ ws. word ws 0) e) in
    ap (λ z. z ∷ xs) first ∙ ap (λ zs. y ∷ zs) (same_shares xs ys (All-tail Is64 x xs a) (All-tail Is64 y ys b) (ap after_one e))

same_group : (g h : Group) → group_words g ≡ group_words h → IsSmallGroup g → IsSmallGroup h → g ≡ h
same_group (group.Item i) (group.Item j) e a b = ap group.Item (same_32 i j a b (ap (λ ws. word ws 1) e))
same_group (group.Late i xs) (group.Late j ys) e a b =
    cc (same_32 i j a.0 b.0 (ap (λ ws. word ws 1) e), same_shares xs ys a.1 b.1 (ap after_two e))
same_group (group.Quantities i) (group.Quantities j) e a b = ap group.Quantities (same_32 i j a b (ap (λ ws. word ws 1) e))
same_group (group.LateQuantities i xs) (group.LateQuantities j ys) e a b =
    cc (same_32 i j a.0 b.0 (ap (λ ws. word ws 1) e), same_shares xs ys a.1 b.1 (ap after_two e))
same_group (group.Pair low top) (group.Pair one other) e a b =
    let (first, rest) = same_link low one (link_words top) (link_words other) a.0 b.0 (ap after_one e) in
    cc (first, (same_link top other [] [] a.1 b.1 rest).0)
same_group (group.Triple low mid top) (group.Triple one two other) e a b =
    let (first, rest) = same_link low one (link_words mid ++ link_words top) (link_words two ++ link_words other) a.0 b.0 (ap after_one e) in
    let (second, end) = same_link mid two (link_words top) (link_words other) a.1 b.1 rest in
    cc (first, second, (same_link top other [] [] a.2 b.2 end).0)
same_group _ _ e a b = search (rules, ap (λ ws. word ws 0) e)

group_apart : (g : Group) (w : List ℕ) (rest : Lines) → w ≢ codes "item" → w ≢ codes "late" → w ≢ codes "quantities" → w ≢ codes "late_quantities" → w ≢ codes "pair" → w ≢ codes "triple" → group_words g ≡ w ∷ rest → ⊥
group_apart (group.Item i) w rest item late quantities both pair triple e = item (sym (ap (λ ws. word ws 0) e))
group_apart (group.Late i s) w rest item late quantities both pair triple e = late (sym (ap (λ ws. word ws 0) e))
group_apart (group.Quantities i) w rest item late quantities both pair triple e = quantities (sym (ap (λ ws. word ws 0) e))
group_apart (group.LateQuantities i s) w rest item late quantities both pair triple e = both (sym (ap (λ ws. word ws 0) e))
group_apart (group.Pair low top) w rest item late quantities both pair triple e = pair (sym (ap (λ ws. word ws 0) e))
group_apart (group.Triple low mid top) w rest item late quantities both pair triple e = triple (sym (ap (λ ws. word ws 0) e))

other_group : (g : Group) (m : LineShape) → group_words g ≡ words_of m → IsSmallGroup g → IsSmallLine m → ((h : Group) → m ≢ GroupLine h) → ⊥
other_group g (CutLine c) e a b none = other_line c (GroupLine g) (sym e) b a (λ d f. search (rules, f))
other_group g (RoundLine divisor parts) e a b none = group_apart g (codes "round") _ (λ f. search (rules, f)) (λ f. search (rules, f)) (λ f. search (rules, f)) (λ f. search (rules, f)) (λ f. search (rules, f)) (λ f. search (rules, f)) e
other_group g (PartLine part) e a b none = group_apart g (codes "part") _ (λ f. search (rules, f)) (λ f. search (rules, f)) (λ f. search (rules, f)) (λ f. search (rules, f)) (λ f. search (rules, f)) (λ f. search (rules, f)) e
other_group g (BranchLine column at) e a b none = group_apart g (codes "branch") _ (λ f. search (rules, f)) (λ f. search (rules, f)) (λ f. search (rules, f)) (λ f. search (rules, f)) (λ f. search (rules, f)) (λ f. search (rules, f)) e
other_group g (LinearLine den parts) e a b none = group_apart g (codes "linear") _ (λ f. search (rules, f)) (λ f. search (rules, f)) (λ f. search (rules, f)) (λ f. search (rules, f)) (λ f. search (rules, f)) (λ f. search (rules, f)) e
other_group g (FarkasLine parts) e a b none = group_apart g (codes "farkas") _ (λ f. search (rules, f)) (λ f. search (rules, f)) (λ f. search (rules, f)) (λ f. search (rules, f)) (λ f. search (rules, f)) (λ f. search (rules, f)) e
other_group g PointLine e a b none = group_apart g (codes "point") _ (λ f. search (rules, f)) (λ f. search (rules, f)) (λ f. search (rules, f)) (λ f. search (rules, f)) (λ f. search (rules, f)) (λ f. search (rules, f)) e
other_group g (ReducedLine den parts lists groups) e a b none = group_apart g (codes "reduced") _ (λ f. search (rules, f)) (λ f. search (rules, f)) (λ f. search (rules, f)) (λ f. search (rules, f)) (λ f. search (rules, f)) (λ f. search (rules, f)) e
other_group g (ListLine l) e a b none = group_apart g (codes "parts") _ (λ f. search (rules, f)) (λ f. search (rules, f)) (λ f. search (rules, f)) (λ f. search (rules, f)) (λ f. search (rules, f)) (λ f. search (rules, f)) e
other_group g (GroupLine h) e a b none = none h refl
other_group g EndLine e a b none = group_apart g (codes "end") _ (λ f. search (rules, f)) (λ f. search (rules, f)) (λ f. search (rules, f)) (λ f. search (rules, f)) (λ f. search (rules, f)) (λ f. search (rules, f)) e

-- lines with the same words
same_values : (l m : LineShape) → words_of l ≡ words_of m → IsSmallLine l → IsSmallLine m → l ≡ m
same_values (CutLine c) (CutLine d) e a b = ap CutLine (same_cut c d e a b)
same_values (RoundLine divisor parts) (RoundLine q n) e a b = cc (same_number divisor q (omega (arith, a.1)) (omega (arith, b.1)) (ap (λ ws. word ws 1) e), same_number parts n (omega (arith, a.2)) (omega (arith, b.2)) (ap (λ ws. word ws 2) e))
same_values (PartLine p) (PartLine q) e a b =
    let (row, rest) = same_name p.row q.row (signed_decimal p.times ∷ []) (signed_decimal q.times ∷ []) a.0 b.0 (ap after_one e) in
    ap PartLine (same_part p q row (same_signed p.times q.times a.1 b.1 (ap (λ ws. word ws 0) rest)))
same_values (BranchLine column at) (BranchLine other less) e a b =
    let (same, rest) = same_column column other (decimal at ∷ []) (decimal less ∷ []) a.0 b.0 (ap after_one e) in
    cc (same, same_number at less (omega (arith, a.1)) (omega (arith, b.1)) (ap (λ ws. word ws 0) rest))
same_values (LinearLine den parts) (LinearLine q n) e a b = cc (same_signed den q a.1 b.1 (ap (λ ws. word ws 1) e), same_number parts n (omega (arith, a.2)) (omega (arith, b.2)) (ap (λ ws. word ws 2) e))
same_values (FarkasLine parts) (FarkasLine n) e a b = ap FarkasLine (same_number parts n (omega (arith, a)) (omega (arith, b)) (ap (λ ws. word ws 1) e))
same_values PointLine PointLine e a b = refl
same_values EndLine EndLine e a b = refl
same_values (ReducedLine den parts lists groups) (ReducedLine q n k h) e a b = cc (
  same_number den q (omega (arith, a.0)) (omega (arith, b.0)) (ap (λ ws. word ws 1) e),
  same_number parts n (omega (arith, a.1)) (omega (arith, b.1)) (ap (λ ws. word ws 2) e),
  same_number lists k (omega (arith, a.2)) (omega (arith, b.2)) (ap (λ ws. word ws 3) e),
  same_number groups h (omega (arith, a.3)) (omega (arith, b.3)) (ap (λ ws. word ws 4) e),
)
same_values (ListLine x) (ListLine y) e a b =
    ap ListLine (same_list x y (same_kind x.kind y.kind (ap (λ ws. word ws 1) e)) (same_32 x.index y.index a.0 b.0 (ap (λ ws. word ws 2) e)) (same_times x.times y.times a.1 b.1 (ap after_three e)))
same_values (GroupLine g) (GroupLine h) e a b = ap GroupLine (same_group g h e a b)
same_values (GroupLine g) m e a b = absurd (other_group g m e a b (λ h is. search (rules, is)))
same_values l (GroupLine g) e a b = absurd (other_group g l (sym e) b a (λ h is. search (rules, is)))
same_values (CutLine c) m e a b = absurd (other_line c m e a b (λ d is. search (rules, is)))
same_values l (CutLine d) e a b = absurd (other_line d l (sym e) b a (λ c is. search (rules, is)))
same_values _ _ e a b = search (rules, ap (λ ws. word ws 0) e)

-- the value of a line that is within the limits
pub only_value : (bytes : List ℕ) (l m : LineShape) → bytes ≡ later_line l → IsSmallLine l → bytes ≡ later_line m → IsSmallLine m → l ≡ m
only_value bytes l m is a same b =
    let text : words_text (words_of l) ≡ words_text (words_of m) = spelled l a ∙ ap (λ t. 32 ∷ t) (sym is ∙ same) ∙ sym (spelled m b) in
    same_values l m (same_words (words_of l) (words_of m) (visible_words (words_of l) (visible l a)) (visible_words (words_of m) (visible m b)) text) a b

pub one_value : (version : ℕ) (bytes : List ℕ) (l m : LineShape) → IsLine version bytes l → IsLine version bytes m → l ≡ m
one_value version bytes l m a b = only_value bytes l m a.text a.form.small b.text b.form.small

-- a version that lacks the form of the one value
pub unknown : (version : ℕ) (bytes : List ℕ) (l m : LineShape) → bytes ≡ later_line l → IsSmallLine l → (IsKnown version l → ⊥) → IsLine version bytes m → ⊥
unknown version bytes l m is small lacks line = lacks (subst (IsKnown version) (sym (only_value bytes l m is small line.text line.form.small)) line.known)

-- a line that is no part, no leaf over reduced costs, no list and no group is known to each version
pub others_known : (version : ℕ) (l : CertLine) → ((part : Part) → l ≢ line.Part part)
    → ((den parts lists groups : ℕ) → l ≢ line.Reduced den parts lists groups)
    → ((a : PartList) → l ≢ line.List a) → ((g : Group) → l ≢ line.Group g) → IsKnown version (line_shape l)
others_known version (line.Part part) a b c d = absurd (a part refl)
others_known version (line.Reduced den parts lists groups) a b c d = absurd (b den parts lists groups refl)
others_known version (line.List x) a b c d = absurd (c x refl)
others_known version (line.Group g) a b c d = absurd (d g refl)
others_known version (line.Cut x) a b c d = tt
others_known version (line.Round divisor parts) a b c d = tt
others_known version (line.Branch column at) a b c d = tt
others_known version (line.Linear den parts) a b c d = tt
others_known version (line.Farkas parts) a b c d = tt
others_known version line.Point a b c d = tt
others_known version line.End a b c d = tt

pub other_first : (row : RowName) → ((i t : ℕ) → row ≢ Least i t) → ((i t : ℕ) → row ≢ Late i t) → IsFirstName row
other_first (Least i t) least late = absurd (least i t refl)
other_first (Late i t) least late = absurd (late i t refl)
other_first (Balance i t) least late = tt
other_first (Link i t) least late = tt
other_first (Capacity k t) least late = tt
other_first (EndMin i) least late = tt
other_first (EndMax i) least late = tt
other_first (Top i t) least late = tt
other_first (Path n) least late = tt
other_first (CutRow n) least late = tt

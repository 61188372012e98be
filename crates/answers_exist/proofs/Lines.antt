-- A text starts with a line of its version, or with none: all lines within the limits are gone through.
use Rattle.std.proofs.Common.{◌≡◌, ◌≤◌, ◌<◌, ◌+◌, ◌∙◌, ◌⊎◌, ⊎_elim, inl, inr, ℕ, refl, ap, arith, Bool, List, [], ◌∷◌, ◌++◌, length, codes}
use Rattle.std.specs.Prelude.{ℤ, pos, ◌≤ℤ◌, ◌<ℤ◌, unsigned_abs, decimal, ⊤}
use Rattle.std.specs.Fmt.{signed_decimal}
use Rattle.std.proofs.lemmas.Bool.{cases_eq}
use Rattle.std.proofs.lemmas.Int.{by_lt_z, ints}
use Rattle.std.proofs.lemmas.List.{length-append}
use Rattle.lin_rows.specs.declared.column.Column.{Column}
use Rattle.lin_rows.specs.declared.column.Column.TheVariants.{X, Y, S, R}
use Rattle.lin_rows.specs.declared.base.RowName.{RowName}
use Rattle.lin_rows.specs.declared.base.RowName.TheVariants.{Balance, Link, Capacity, EndMin, EndMax, Top, Least, Late, Path, Cut}
use Rattle.lin_rows.specs.Texts.{one_text}
use Rattle.round_cuts.specs.declared.rounding.TheConstants.{MAX_DIVISOR}
use Rattle.item_groups.specs.declared.group.ChainLink.{ChainLink}
use Rattle.item_groups.specs.declared.group.Group.TheVariants as group
use Rattle.cert_lines.specs.declared.limits.TheConstants.{MAX_GROUPS, MAX_LINE, MAX_LISTS, MAX_PARTS, MAX_ROUND_PARTS, REDUCED_CERT_VERSION}
use Rattle.cert_lines.specs.declared.parts.ListKind.{ListKind}
use Rattle.cert_lines.specs.declared.parts.ListKind.TheVariants as kind
use Rattle.cert_lines.specs.Limits.{Is127, Is32, Is64, bound_127, bound_32, bound_64}
use Rattle.cert_lines.specs.Line.{HasForm, IsFirstName, IsKnown, IsSmallColumn, IsSmallLine, IsSmallName, later_line}
use Rattle.cert_lines.specs.Shapes.{BlockCut, BranchLine, CutLine, EndLine, FarkasLine, GroupLine, LineShape, LinearLine, ListLine, LsCut, PartLine, PointLine, PriceCut, ReducedLine, RoundCut, RoundLine}
use Rattle.cert_lines.specs.Text.{block_head, kind_text, list_text, price_head, signed_list_text, signed_text}
use Rattle.certificate.specs.Dues.{StartsWith}
use Rattle.certificate.specs.Values.{value_text}
use Rattle.existence.proofs.Deciding.{Decided, if_or_not, le_or_not}
use Rattle.answers_exist.proofs.Searching.{IsListOf, Searched, bits, both, integers, lists, made, numbers, pairs}

-- ---- what is made of two numbers
two : (A : Type 0) (n k : ℕ) (f : ℕ → ℕ → A) (Good Bad : A → Type 0) → ((i t : ℕ) → i < n → t < k → Good (f i t) ⊎ Bad (f i t)) → ((a : A) × Good a) ⊎ ((i t : ℕ) → i < n → t < k → Bad (f i t))
two A n k f Good Bad either =
    ⊎_elim (λ found. inl (f found.0 found.1.0, found.1.1)) (λ none. inr (λ i t low high. none i low t high))
    (numbers n (λ i. (t : ℕ) × Good (f i t)) (λ i. (t : ℕ) → t < k → Bad (f i t)) (λ i low. numbers k (λ t. Good (f i t)) (λ t. Bad (f i t)) (λ t high. either i t low high)))

pub one : (A : Type 0) (n : ℕ) (f : ℕ → A) (Good Bad : A → Type 0) → ((i : ℕ) → i < n → Good (f i) ⊎ Bad (f i)) → ((a : A) × Good a) ⊎ ((i : ℕ) → i < n → Bad (f i))
one A n f Good Bad either = made ℕ A (λ i. i < n) (numbers n) f Good Bad either

-- columns and names of rows by their numbers of 32 bits
abbrev OfTwo : (A : Type 0) → (A → Type 0) → (ℕ → ℕ → A) → Type 0
OfTwo A Bad f = (i t : ℕ) → i < bound_32 → t < bound_32 → Bad (f i t)

abbrev OfOne : (A : Type 0) → (A → Type 0) → (ℕ → A) → Type 0
OfOne A Bad f = (i : ℕ) → i < bound_32 → Bad (f i)

columns : Searched Column IsSmallColumn
columns Good Bad either =
    ⊎_elim
    (λ found. inl found)
    (λ none. inr (each none))
    (both (two Column bound_32 bound_32 (λ i t. X i t) Good Bad (λ i t low high. either (X i t) (low, high)))
    (both (two Column bound_32 bound_32 (λ i t. Y i t) Good Bad (λ i t low high. either (Y i t) (low, high)))
    (both (two Column bound_32 bound_32 (λ i t. S i t) Good Bad (λ i t low high. either (S i t) (low, high)))
    (two Column bound_32 bound_32 (λ i t. R i t) Good Bad (λ i t low high. either (R i t) (low, high))))))
  where
    each : OfTwo Column Bad (λ i t. X i t) × (OfTwo Column Bad (λ i t. Y i t) × (OfTwo Column Bad (λ i t. S i t) × OfTwo Column Bad (λ i t. R i t))) → (c : Column) → IsSmallColumn c → Bad c
    each none (X i t) is = none.0 i t is.0 is.1
    each none (Y i t) is = none.1.0 i t is.0 is.1
    each none (S i t) is = none.1.1.0 i t is.0 is.1
    each none (R i t) is = none.1.1.1 i t is.0 is.1

row_names : Searched RowName IsSmallName
row_names Good Bad either =
    ⊎_elim
    (λ found. inl found)
    (λ none. inr (each none.0 none.1))
    (both
    (both (two RowName bound_32 bound_32 (λ i t. Balance i t) Good Bad (λ i t low high. either (Balance i t) (low, high)))
    (both (two RowName bound_32 bound_32 (λ i t. Link i t) Good Bad (λ i t low high. either (Link i t) (low, high)))
    (both (two RowName bound_32 bound_32 (λ i t. Capacity i t) Good Bad (λ i t low high. either (Capacity i t) (low, high)))
    (both (two RowName bound_32 bound_32 (λ i t. Top i t) Good Bad (λ i t low high. either (Top i t) (low, high)))
    (both (two RowName bound_32 bound_32 (λ i t. Least i t) Good Bad (λ i t low high. either (Least i t) (low, high)))
    (two RowName bound_32 bound_32 (λ i t. Late i t) Good Bad (λ i t low high. either (Late i t) (low, high))))))))
    (both (one RowName bound_32 (λ i. EndMin i) Good Bad (λ i low. either (EndMin i) low))
    (both (one RowName bound_32 (λ i. EndMax i) Good Bad (λ i low. either (EndMax i) low))
    (both (one RowName bound_32 (λ i. Path i) Good Bad (λ i low. either (Path i) low))
    (one RowName bound_32 (λ i. Cut i) Good Bad (λ i low. either (Cut i) low))))))
  where
    each :
        OfTwo RowName Bad (λ i t. Balance i t) × (OfTwo RowName Bad (λ i t. Link i t) × (OfTwo RowName Bad (λ i t. Capacity i t) × (OfTwo RowName Bad (λ i t. Top i t) × (OfTwo RowName Bad (λ i t. Least i t) × OfTwo RowName Bad (λ i t. Late i t)))))
        → OfOne RowName Bad (λ i. EndMin i) × (OfOne RowName Bad (λ i. EndMax i) × (OfOne RowName Bad (λ i. Path i) × OfOne RowName Bad (λ i. Cut i))) → (name : RowName) → IsSmallName name → Bad name
    each long short (Balance i t) is = long.0 i t is.0 is.1
    each long short (Link i t) is = long.1.0 i t is.0 is.1
    each long short (Capacity i t) is = long.1.1.0 i t is.0 is.1
    each long short (EndMin i) is = short.0 i is
    each long short (EndMax i) is = short.1.0 i is
    each long short (Top i t) is = long.1.1.1.0 i t is.0 is.1
    each long short (Least i t) is = long.1.1.1.1.0 i t is.0 is.1
    each long short (Late i t) is = long.1.1.1.1.1 i t is.0 is.1
    each long short (Path i) is = short.1.1.0 i is
    each long short (Cut i) is = short.1.1.1 i is

-- ---- lists that have room on a line
abbrev IsList : List ℕ → Type 0
IsList xs = IsListOf Is64 MAX_LINE xs

abbrev IsLongList : List ℕ → Type 0
IsLongList xs = IsListOf Is127 MAX_LINE xs

abbrev Two : Type 0
Two = List ℕ × List ℕ

abbrev AreTwo : Two → Type 0
AreTwo p = IsList p.0 × IsList p.1

some_lists : Searched (List ℕ) IsList
some_lists = lists ℕ Is64 (numbers bound_64) MAX_LINE

two_lists : Searched Two AreTwo
two_lists = pairs (List ℕ) (List ℕ) IsList (λ _. IsList) some_lists (λ _. some_lists)

abbrev AreFour : Two × Two → Type 0
AreFour p = AreTwo p.0 × AreTwo p.1

four_lists : Searched (Two × Two) AreFour
four_lists = pairs Two Two AreTwo (λ _. AreTwo) two_lists (λ _. two_lists)

-- an item with four lists, and a fifth one
abbrev Priced : Type 0
Priced = ℕ × (Two × Two)

abbrev IsPriced : Priced → Type 0
IsPriced x = Is32 x.0 × AreFour x.1

priced : Searched Priced IsPriced
priced = pairs ℕ (Two × Two) Is32 (λ _. AreFour) (numbers bound_32) (λ _. four_lists)

abbrev IsStepped : Priced × List ℕ → Type 0
IsStepped x = IsPriced x.0 × IsLongList x.1

stepped : Searched (Priced × List ℕ) IsStepped
stepped = pairs Priced (List ℕ) IsPriced (λ _. IsLongList) priced (λ _. lists ℕ Is127 (numbers bound_127) MAX_LINE)

-- the lists on a line are no longer than it
list_long : (xs : List ℕ) → length xs ≤ length (list_text xs)
list_long [] = omega arith
list_long (x ∷ xs) = omega (arith, length-append (one_text x) (list_text xs), length-append (codes " ") (decimal x), list_long xs)

four_long : (head a g b h c k d : List ℕ) (n : ℕ) → length (head ++ (a ++ (g ++ (b ++ (h ++ (c ++ (k ++ d))))))) ≤ n → (length a ≤ n) × (length b ≤ n) × (length c ≤ n) × (length d ≤ n)
four_long head a g b h c k d n few =
    let is : length head + (length a + (length g + (length b + (length h + (length c + (length k + length d)))))) ≤ n = simp length-append at few in
    (omega (arith, is), omega (arith, is), omega (arith, is), omega (arith, is))

two_long : (a p b : List ℕ) (n : ℕ) → length (a ++ (p ++ b)) ≤ n → (length a ≤ n) × (length b ≤ n)
two_long a p b n few =
    let is : length a + (length p + length b) ≤ n = simp length-append at few in
    (omega (arith, is), omega (arith, is))

three_long : (a b c d : List ℕ) (n : ℕ) → length (a ++ (b ++ (c ++ d))) ≤ n → length d ≤ n
three_long a b c d n few =
    let is : length a + (length b + (length c + length d)) ≤ n = simp length-append at few in
    omega (arith, is)

short : (xs : List ℕ) → length (list_text xs) ≤ MAX_LINE → length xs ≤ MAX_LINE
short xs few = omega (arith, few, list_long xs)

-- ---- lists of multiples
kinds : Searched ListKind (λ k. ⊤)
kinds Good Bad either =
    ⊎_elim (λ found. inl found) (λ none. inr (each none))
    (both (of kind.Balance) (both (of kind.Link) (both (of kind.Capacity) (both (of kind.Top) (both (of kind.Least) (of kind.Late))))))
  where
    of : (k : ListKind) → ((a : ListKind) × Good a) ⊎ Bad k
    of k = ⊎_elim (λ good. inl (k, good)) (λ bad. inr bad) (either k tt)

    each : Bad kind.Balance × (Bad kind.Link × (Bad kind.Capacity × (Bad kind.Top × (Bad kind.Least × Bad kind.Late)))) → (k : ListKind) → ⊤ → Bad k
    each none kind.Balance here = none.0
    each none kind.Link here = none.1.0
    each none kind.Capacity here = none.1.1.0
    each none kind.Top here = none.1.1.1.0
    each none kind.Least here = none.1.1.1.1.0
    each none kind.Late here = none.1.1.1.1.1

abbrev IsMultiple : ℤ → Type 0
IsMultiple z = Is127 (unsigned_abs z)

abbrev Listed : Type 0
Listed = ListKind × (ℕ × List ℤ)

abbrev IsListed : Listed → Type 0
IsListed x = ⊤ × (Is32 x.1.0 × IsListOf IsMultiple MAX_LINE x.1.1)

listed : Searched Listed IsListed
listed =
    pairs ListKind (ℕ × List ℤ) (λ k. ⊤) (λ _ x. Is32 x.0 × IsListOf IsMultiple MAX_LINE x.1) kinds
    (λ _. pairs ℕ (List ℤ) Is32 (λ _. IsListOf IsMultiple MAX_LINE) (numbers bound_32) (λ _. lists ℤ IsMultiple (integers bound_127) MAX_LINE))

signed_long : (xs : List ℤ) → length xs ≤ length (signed_list_text xs)
signed_long [] = omega arith
signed_long (x ∷ xs) = omega (arith, length-append (signed_text x) (signed_list_text xs), length-append (codes " ") (signed_decimal x), signed_long xs)

-- ---- groups, with their items, shares and prices
abbrev Shared : Type 0
Shared = ℕ × List ℕ

abbrev IsShared : Shared → Type 0
IsShared x = Is32 x.0 × IsList x.1

shared : Searched Shared IsShared
shared = pairs ℕ (List ℕ) Is32 (λ _. IsList) (numbers bound_32) (λ _. some_lists)

abbrev IsLink : ℕ × ℕ → Type 0
IsLink x = Is32 x.0 × Is127 x.1

links : Searched (ℕ × ℕ) IsLink
links = pairs ℕ ℕ Is32 (λ _. Is127) (numbers bound_32) (λ _. numbers bound_127)

link_of : ℕ × ℕ → ChainLink
link_of x = record { item = x.0; opening_price = x.1 }

abbrev Paired : Type 0
Paired = (ℕ × ℕ) × (ℕ × ℕ)

abbrev ArePaired : Paired → Type 0
ArePaired x = IsLink x.0 × IsLink x.1

paired : Searched Paired ArePaired
paired = pairs (ℕ × ℕ) (ℕ × ℕ) IsLink (λ _. IsLink) links (λ _. links)

tripled : Searched ((ℕ × ℕ) × Paired) (λ x. IsLink x.0 × ArePaired x.1)
tripled = pairs (ℕ × ℕ) Paired IsLink (λ _. ArePaired) links (λ _. paired)

-- ---- all lines
module _ (Good Bad : LineShape → Type 0) (either : (l : LineShape) → IsSmallLine l → Good l ⊎ Bad l) where
  abbrev IfSmall : LineShape → Type 0
  IfSmall l = IsSmallLine l → Bad l

  abbrev Found : Type 0
  Found = (l : LineShape) × Good l

  if_small : (l : LineShape) → Decided (IsSmallLine l) → Good l ⊎ IfSmall l
  if_small l (inl small) = ⊎_elim (λ good. inl good) (λ bad. inr (λ _. bad)) (either l small)
  if_small l (inr large) = inr (λ small. absurd (large small))

  -- a mark for each period
  abbrev Marked : Type 0
  Marked = ℕ × (ℕ × List Bool)

  abbrev IsMarked : Marked → Type 0
  IsMarked x = Is32 x.0 × (Is32 x.1.0 × IsListOf (λ b. ⊤) x.1.0 x.1.1)

  marked : Searched Marked IsMarked
  marked =
      pairs ℕ (ℕ × List Bool) Is32 (λ _ x. Is32 x.0 × IsListOf (λ b. ⊤) x.0 x.1) (numbers bound_32)
      (λ _. pairs ℕ (List Bool) Is32 (λ last. IsListOf (λ b. ⊤) last) (numbers bound_32) (λ last. lists Bool (λ b. ⊤) bits last))

  ls_line : Marked → LineShape
  ls_line x = CutLine (LsCut x.0 x.1.0 x.1.1)

  ls_small : (x : Marked) → IsMarked x → Decided (IsSmallLine (ls_line x))
  unfolding ls_line
  ls_small x is =
      ⊎_elim
      (λ low. ⊎_elim
      (λ size. inl (is.0, low, is.1.0, size))
      (λ no. inr (λ small. no small.3))
      (cases_eq (length x.1.1) x.1.0))
      (λ no. inr (λ small. no small.1))
      (le_or_not 1 x.1.0)

  price_of : Priced → LineShape
  price_of x = CutLine (PriceCut x.0 (record { price = x.1.0.0; unit = x.1.0.1; hold = x.1.1.0; back = x.1.1.1 }))

  block_of : Priced × List ℕ → LineShape
  block_of x = CutLine (BlockCut x.0.0 (record { setup = x.0.1.0.0; unit = x.0.1.0.1; hold = x.0.1.1.0; back = x.0.1.1.1; steps = x.1 }))

  part_of : RowName × ℤ → LineShape
  part_of x = PartLine (record { row = x.0; times = x.1 })

  ls_found : Found ⊎ ((x : Marked) → IsMarked x → IfSmall (ls_line x))
  ls_found = made Marked LineShape IsMarked marked ls_line Good IfSmall (λ x is. if_small (ls_line x) (ls_small x is))

  price_found : Found ⊎ ((x : Priced) → IsPriced x → IfSmall (price_of x))
  unfolding price_of
  price_found = made Priced LineShape IsPriced priced price_of Good IfSmall (λ x is. if_small (price_of x) (inl (is.0, (is.1.0.0.1, is.1.0.1.1, is.1.1.0.1, is.1.1.1.1))))

  block_found : Found ⊎ ((x : Priced × List ℕ) → IsStepped x → IfSmall (block_of x))
  unfolding block_of
  block_found =
      made (Priced × List ℕ) LineShape IsStepped stepped block_of Good IfSmall
      (λ x is. if_small (block_of x) (inl (is.0.0, (is.0.1.0.0.1, is.0.1.0.1.1, is.0.1.1.0.1, is.0.1.1.1.1, is.1.1))))

  round_found : Found ⊎ ((q k : ℕ) → q < MAX_DIVISOR + 1 → k < MAX_ROUND_PARTS + 1 → IfSmall (RoundLine q k))
  round_found =
      two LineShape (MAX_DIVISOR + 1) (MAX_ROUND_PARTS + 1) (λ q k. RoundLine q k) Good IfSmall
      (λ q k q_high k_high. if_small (RoundLine q k) (⊎_elim (λ low. inl (low, omega (arith, q_high), omega (arith, k_high))) (λ no. inr (λ small. no small.0)) (le_or_not 1 q)))

  part_found : Found ⊎ ((x : RowName × ℤ) → IsSmallName x.0 × Is127 (unsigned_abs x.1) → IfSmall (part_of x))
  unfolding part_of
  part_found =
      made (RowName × ℤ) LineShape (λ x. IsSmallName x.0 × Is127 (unsigned_abs x.1))
      (pairs RowName ℤ IsSmallName (λ _ z. Is127 (unsigned_abs z)) row_names (λ _. integers bound_127)) part_of Good IfSmall
      (λ x is. if_small (part_of x) (inl is))

  branch_found : Found ⊎ ((x : Column × ℕ) → IsSmallColumn x.0 × Is64 x.1 → IfSmall (BranchLine x.0 x.1))
  branch_found =
      made (Column × ℕ) LineShape (λ x. IsSmallColumn x.0 × Is64 x.1)
      (pairs Column ℕ IsSmallColumn (λ _. Is64) columns (λ _. numbers bound_64)) (λ x. BranchLine x.0 x.1) Good IfSmall
      (λ x is. if_small (BranchLine x.0 x.1) (inl is))

  linear_found : Found ⊎ ((x : ℤ × ℕ) → Is127 (unsigned_abs x.0) × (x.1 < MAX_PARTS + 1) → IfSmall (LinearLine x.0 x.1))
  linear_found =
      made (ℤ × ℕ) LineShape (λ x. Is127 (unsigned_abs x.0) × (x.1 < MAX_PARTS + 1))
      (pairs ℤ ℕ (λ z. Is127 (unsigned_abs z)) (λ _ k. k < MAX_PARTS + 1) (integers bound_127) (λ _. numbers (MAX_PARTS + 1))) (λ x. LinearLine x.0 x.1) Good IfSmall
      (λ x is. if_small (LinearLine x.0 x.1) (by_lt_z x.0 (pos 1)
      (λ less. inr (λ small. not_both x.0 less small.0))
      (λ low. inl (low, is.0, omega (arith, is.1)))))
    where
      not_both : (z : ℤ) → z <ℤ pos 1 → pos 1 ≤ℤ z → ⊥
      not_both z less low = omega (arith, ints, less, low)

  list_of_words : Listed → LineShape
  list_of_words x = ListLine (record { kind = x.0; index = x.1.0; times = x.1.1 })

  list_found : Found ⊎ ((x : Listed) → IsListed x → IfSmall (list_of_words x))
  unfolding list_of_words
  list_found = made Listed LineShape IsListed listed list_of_words Good IfSmall (λ x is. if_small (list_of_words x) (inl (is.1.0, is.1.1.1)))

  -- the numbers of a leaf over reduced costs
  abbrev Four : Type 0
  Four = (ℕ × ℕ) × (ℕ × ℕ)

  abbrev IsReduced : Four → Type 0
  IsReduced x = (Is64 x.0.0 × (x.0.1 < MAX_PARTS + 1)) × ((x.1.0 < MAX_LISTS + 1) × (x.1.1 < MAX_GROUPS + 1))

  reduced_found : Found ⊎ ((x : Four) → IsReduced x → IfSmall (ReducedLine x.0.0 x.0.1 x.1.0 x.1.1))
  reduced_found =
      made Four LineShape IsReduced
      (pairs (ℕ × ℕ) (ℕ × ℕ) (λ x. Is64 x.0 × (x.1 < MAX_PARTS + 1)) (λ _ x. (x.0 < MAX_LISTS + 1) × (x.1 < MAX_GROUPS + 1))
      (pairs ℕ ℕ Is64 (λ _ k. k < MAX_PARTS + 1) (numbers bound_64) (λ _. numbers (MAX_PARTS + 1)))
      (λ _. pairs ℕ ℕ (λ k. k < MAX_LISTS + 1) (λ _ k. k < MAX_GROUPS + 1) (numbers (MAX_LISTS + 1)) (λ _. numbers (MAX_GROUPS + 1))))
      (λ x. ReducedLine x.0.0 x.0.1 x.1.0 x.1.1) Good IfSmall
      (λ x is. if_small (ReducedLine x.0.0 x.0.1 x.1.0 x.1.1) (inl (is.0.0, omega (arith, is.0.1), omega (arith, is.1.0), omega (arith, is.1.1))))

  item_found : Found ⊎ ((i : ℕ) → i < bound_32 → IfSmall (GroupLine (group.Item i)))
  item_found = one LineShape bound_32 (λ i. GroupLine (group.Item i)) Good IfSmall (λ i low. if_small (GroupLine (group.Item i)) (inl low))

  late_of : Shared → LineShape
  late_of x = GroupLine (group.Late x.0 x.1)

  late_found : Found ⊎ ((x : Shared) → IsShared x → IfSmall (late_of x))
  unfolding late_of
  late_found = made Shared LineShape IsShared shared late_of Good IfSmall (λ x is. if_small (late_of x) (inl (is.0, is.1.1)))

  late_quantities_of : Shared → LineShape
  late_quantities_of x = GroupLine (group.LateQuantities x.0 x.1)

  late_quantities_found : Found ⊎ ((x : Shared) → IsShared x → IfSmall (late_quantities_of x))
  unfolding late_quantities_of
  late_quantities_found =
      made Shared LineShape IsShared shared late_quantities_of Good IfSmall
      (λ x is. if_small (late_quantities_of x) (inl (is.0, is.1.1)))

  quantities_found : Found ⊎ ((i : ℕ) → i < bound_32 → IfSmall (GroupLine (group.Quantities i)))
  quantities_found = one LineShape bound_32 (λ i. GroupLine (group.Quantities i)) Good IfSmall (λ i low. if_small (GroupLine (group.Quantities i)) (inl low))

  pair_of : Paired → LineShape
  pair_of x = GroupLine (group.Pair (link_of x.0) (link_of x.1))

  pair_found : Found ⊎ ((x : Paired) → ArePaired x → IfSmall (pair_of x))
  unfolding pair_of link_of
  pair_found = made Paired LineShape ArePaired paired pair_of Good IfSmall (λ x is. if_small (pair_of x) (inl (is.0, is.1)))

  triple_of : (ℕ × ℕ) × Paired → LineShape
  triple_of x = GroupLine (group.Triple (link_of x.0) (link_of x.1.0) (link_of x.1.1))

  triple_found : Found ⊎ ((x : (ℕ × ℕ) × Paired) → IsLink x.0 × ArePaired x.1 → IfSmall (triple_of x))
  unfolding triple_of link_of
  triple_found =
      made ((ℕ × ℕ) × Paired) LineShape (λ x. IsLink x.0 × ArePaired x.1) tripled triple_of Good IfSmall
      (λ x is. if_small (triple_of x) (inl (is.0, is.1.0, is.1.1)))

  farkas_found : Found ⊎ ((k : ℕ) → k < MAX_PARTS + 1 → IfSmall (FarkasLine k))
  farkas_found = one LineShape (MAX_PARTS + 1) (λ k. FarkasLine k) Good IfSmall (λ k high. if_small (FarkasLine k) (inl (omega (arith, high))))

  pub all_lines : Found ⊎ ((l : LineShape) → HasForm l → Bad l)
  unfolding ls_line price_of block_of part_of list_of_words late_of late_quantities_of pair_of triple_of link_of
  all_lines =
      ⊎_elim (λ found. inl found) (λ none. inr (each none.0 none.1.0 none.1.1))
      (both
      (both ls_found (both price_found (both block_found round_found)))
      (both
      (both part_found (both branch_found (both linear_found (both farkas_found (both (if_found PointLine tt) (if_found EndLine tt))))))
      (both reduced_found (both list_found (both item_found (both late_found (both quantities_found (both late_quantities_found (both pair_found triple_found)))))))))
    where
      if_found : (l : LineShape) → IsSmallLine l → Found ⊎ Bad l
      if_found l small = ⊎_elim (λ good. inl (l, good)) (λ bad. inr bad) (either l small)

      each :
          ((x : Marked) → IsMarked x → IfSmall (ls_line x)) × (((x : Priced) → IsPriced x → IfSmall (price_of x)) × (((x : Priced × List ℕ) → IsStepped x → IfSmall (block_of x)) × ((q k : ℕ) → q < MAX_DIVISOR + 1 → k < MAX_ROUND_PARTS + 1 → IfSmall (RoundLine q k))))
          → ((x : RowName × ℤ) → IsSmallName x.0 × Is127 (unsigned_abs x.1) → IfSmall (part_of x)) × (((x : Column × ℕ) → IsSmallColumn x.0 × Is64 x.1 → IfSmall (BranchLine x.0 x.1)) × (((x : ℤ × ℕ) → Is127 (unsigned_abs x.0) × (x.1 < MAX_PARTS + 1) → IfSmall (LinearLine x.0 x.1)) × (((k : ℕ) → k < MAX_PARTS + 1 → IfSmall (FarkasLine k)) × (Bad PointLine × Bad EndLine))))
          → ((x : Four) → IsReduced x → IfSmall (ReducedLine x.0.0 x.0.1 x.1.0 x.1.1)) × (((x : Listed) → IsListed x → IfSmall (list_of_words x)) × (((i : ℕ) → i < bound_32 → IfSmall (GroupLine (group.Item i))) × (((x : Shared) → IsShared x → IfSmall (late_of x)) × (((i : ℕ) → i < bound_32 → IfSmall (GroupLine (group.Quantities i))) × (((x : Shared) → IsShared x → IfSmall (late_quantities_of x)) × (((x : Paired) → ArePaired x → IfSmall (pair_of x)) × ((x : (ℕ × ℕ) × Paired) → IsLink x.0 × ArePaired x.1 → IfSmall (triple_of x))))))))
          → (l : LineShape) → HasForm l → Bad l
      each cuts others reduced (CutLine (LsCut item last chosen)) form =
          let small = form.small in
          cuts.0 (item, (last, chosen)) (small.0, (small.2, (omega (arith, small.3), λ k d less. tt))) small
      each cuts others reduced (CutLine (PriceCut item a)) form =
          let small = form.small in
          let long = four_long (price_head item) (list_text a.price) (codes " g") (list_text a.unit) (codes " h") (list_text a.hold) (codes " b") (list_text a.back) MAX_LINE form.short in
          cuts.1.0 (item, ((a.price, a.unit), (a.hold, a.back)))
          (small.0, (((short a.price long.0, small.1.0), (short a.unit long.1, small.1.1)), ((short a.hold long.2, small.1.2), (short a.back long.3, small.1.3)))) small
      each cuts others reduced (CutLine (BlockCut item a)) form =
          let small = form.small in
          let long = four_long (block_head item) (list_text a.setup) (codes " g") (list_text a.unit) (codes " h") (list_text a.hold) (codes " b") (list_text a.back ++ (codes " p" ++ list_text a.steps)) MAX_LINE form.short in
          let last = two_long (list_text a.back) (codes " p") (list_text a.steps) MAX_LINE long.3 in
          cuts.1.1.0 ((item, ((a.setup, a.unit), (a.hold, a.back))), a.steps)
          ((small.0, (((short a.setup long.0, small.1.0), (short a.unit long.1, small.1.1)), ((short a.hold long.2, small.1.2), (short a.back last.0, small.1.3)))), (short a.steps last.1, small.1.4)) small
      each cuts others reduced (CutLine (RoundCut q parts)) form = absurd form.small
      each cuts others reduced (RoundLine q k) form =
          let small = form.small in
          cuts.1.1.1 q k (omega (arith, small.1)) (omega (arith, small.2)) small
      each cuts others reduced (PartLine part) form = others.0 (part.row, part.times) form.small form.small
      each cuts others reduced (BranchLine c at) form = others.1.0 (c, at) form.small form.small
      each cuts others reduced (LinearLine den k) form =
          let small = form.small in
          others.1.1.0 (den, k) (small.1, omega (arith, small.2)) small
      each cuts others reduced (FarkasLine k) form =
          let small = form.small in
          others.1.1.1.0 k (omega (arith, small)) small
      each cuts others reduced PointLine form = others.1.1.1.1.0
      each cuts others reduced (ReducedLine den parts lists groups) form =
          let small = form.small in
          reduced.0 ((den, parts), (lists, groups)) ((small.0, omega (arith, small.1)), (omega (arith, small.2), omega (arith, small.3))) small
      each cuts others reduced (ListLine a) form =
          let small = form.small in
          let long = three_long (codes "parts ") (kind_text a.kind) (one_text a.index) (signed_list_text a.times) MAX_LINE form.short in
          reduced.1.0 (a.kind, (a.index, a.times)) (tt, (small.0, (omega (arith, long, signed_long a.times), small.1))) small
      each cuts others reduced (GroupLine (group.Item i)) form = reduced.1.1.0 i form.small form.small
      each cuts others reduced (GroupLine (group.Late i shares)) form =
          let small = form.small in
          let long = two_long (codes "late") (one_text i) (list_text shares) MAX_LINE form.short in
          reduced.1.1.1.0 (i, shares) (small.0, (short shares long.1, small.1)) small
      each cuts others reduced (GroupLine (group.Quantities i)) form = reduced.1.1.1.1.0 i form.small form.small
      each cuts others reduced (GroupLine (group.LateQuantities i shares)) form =
          let small = form.small in
          let long = two_long (codes "late_quantities") (one_text i) (list_text shares) MAX_LINE form.short in
          reduced.1.1.1.1.1.0 (i, shares) (small.0, (short shares long.1, small.1)) small
      each cuts others reduced (GroupLine (group.Pair low top)) form =
          let small = form.small in
          reduced.1.1.1.1.1.1.0 ((low.item, low.opening_price), (top.item, top.opening_price)) (small.0, small.1) small
      each cuts others reduced (GroupLine (group.Triple low mid top)) form =
          let small = form.small in
          reduced.1.1.1.1.1.1.1 ((low.item, low.opening_price), ((mid.item, mid.opening_price), (top.item, top.opening_price))) (small.0, (small.1, small.2)) small
      each cuts others reduced EndLine form = others.1.1.1.1.1

-- ---- the first line of a text
-- a list starts another, or it doesn't
pub begins_or_not : (xs text : List ℕ) → ((rest : List ℕ) × (text ≡ xs ++ rest)) ⊎ ((rest : List ℕ) → text ≡ xs ++ rest → ⊥)
begins_or_not [] text = inl (text, refl)
begins_or_not (x ∷ xs) [] = inr (λ rest e. cc e)
begins_or_not (x ∷ xs) (y ∷ text) =
    ⊎_elim
    (λ same. ⊎_elim
    (λ found. inl (found.0, ap (λ z. z ∷ text) same ∙ ap (λ ys. x ∷ ys) found.1))
    (λ none. inr (λ rest e. none rest (cc e)))
    (begins_or_not xs text))
    (λ other. inr (λ rest e. other (cc e)))
    (cases_eq y x)

first_or_not : (name : RowName) → Decided (IsFirstName name)
first_or_not (Balance i t) = inl tt
first_or_not (Link i t) = inl tt
first_or_not (Capacity k t) = inl tt
first_or_not (EndMin i) = inl tt
first_or_not (EndMax i) = inl tt
first_or_not (Top i t) = inl tt
first_or_not (Least i t) = inr (λ is. is)
first_or_not (Late i t) = inr (λ is. is)
first_or_not (Path n) = inl tt
first_or_not (Cut n) = inl tt

known_or_not : (version : ℕ) (l : LineShape) → Decided (IsKnown version l)
known_or_not version (CutLine c) = inl tt
known_or_not version (RoundLine q k) = inl tt
known_or_not version (PartLine part) = if_or_not (cases_eq version 1) (first_or_not part.row)
known_or_not version (BranchLine c at) = inl tt
known_or_not version (LinearLine den k) = inl tt
known_or_not version (FarkasLine k) = inl tt
known_or_not version PointLine = inl tt
known_or_not version (ReducedLine den parts lists groups) = le_or_not REDUCED_CERT_VERSION version
known_or_not version (ListLine a) = le_or_not REDUCED_CERT_VERSION version
known_or_not version (GroupLine g) = le_or_not REDUCED_CERT_VERSION version
known_or_not version EndLine = inl tt

starts_or_not : (version : ℕ) (text : List ℕ) (l : LineShape) → IsSmallLine l → Decided (StartsWith version text l)
starts_or_not version text l small =
    ⊎_elim
    (λ found. ⊎_elim
    (λ short. ⊎_elim
    (λ known. inl (record { rest = found.0; text = found.1; line = record { text = refl; form = record { small = small; short = short }; known = known } }))
    (λ no. inr (λ starts. no starts.line.known))
    (known_or_not version l))
    (λ no. inr (λ starts. no starts.line.form.short))
    (le_or_not (length (later_line l)) MAX_LINE))
    (λ none. inr (λ starts. none starts.rest starts.text))
    (begins_or_not (value_text l) text)

pub first_line : (version : ℕ) (text : List ℕ) → ((l : LineShape) × StartsWith version text l) ⊎ ((l : LineShape) → StartsWith version text l → ⊥)
first_line version text =
    ⊎_elim (λ found. inl found) (λ none. inr (λ l starts. none l starts.line.form starts))
    (all_lines (StartsWith version text) (λ l. StartsWith version text l → ⊥) (starts_or_not version text))

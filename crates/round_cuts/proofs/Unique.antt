-- A row is known by how many times it takes each column.
use Rattle.std.proofs.Common.{◌≡◌, ◌≢◌, ◌≤◌, ◌<◌, ◌+◌, ◌*◌, ◌^◌, ◌∙◌, ⊎_elim, ℕ, refl, sym, ap, subst, arith, Bool, true, false, List, [], ◌∷◌}
use Rattle.std.specs.Prelude.{if◌then◌else◌, ℤ, pos, ◌+ℤ◌, ◌==◌, ◌&&◌}
use Rattle.std.specs.List.{All}
use Rattle.std.proofs.lemmas.Bool.{cases_Bool, cases_lt}
use Rattle.std.proofs.lemmas.List.Elements.{All-head, All-tail}
use Rattle.algebra.proofs.Integers.{add_zero, zero_add}
use Rattle.lin_rows.specs.declared.column.Column.{Column}
use Rattle.lin_rows.specs.declared.column.Column.TheVariants.{X, Y, S, R}
use Rattle.lin_rows.specs.declared.row.Term.{Term}
use Rattle.lin_rows.specs.Base.{term}
use Rattle.lin_rows.specs.Columns.{order_of, order_at}
use Rattle.lin_rows.specs.Rows.{AreTerms, LinRow}
use Rattle.lin_rows.specs.Sums.{coefficient, item_of, kind_of, period_of, same_column}
use Rattle.lin_rows.proofs.Below.{one_by_parts}
use Rattle.lin_rows.proofs.Cells.{same_self}
use Rattle.round_cuts.specs.Rounding.{HasShortColumns, IsRounded}
use Rattle.round_cuts.proofs.Ceilings.{ceilings_are_one}

-- short columns with the same place in the order are one
by_parts : (k l i j t s : ℕ) → i < 2 ^ 32 → t < 2 ^ 32 → j < 2 ^ 32 → s < 2 ^ 32 → order_at k i t ≡ order_at l j s → ((k == l) && ((i == j) && (t == s))) ≡ true
by_parts k l i j t s i_small t_small j_small s_small same =
    let kinds : k ≡ l = omega (arith, i_small, t_small, j_small, s_small, same) in
    let items : i ≡ j = omega (arith, kinds, i_small, t_small, j_small, s_small, same) in
    let periods : t ≡ s = omega (arith, kinds, items, same) in
    all_same k l i j t s kinds items periods
  where
    all_same : (k l i j t s : ℕ) → k ≡ l → i ≡ j → t ≡ s → ((k == l) && ((i == j) && (t == s))) ≡ true
    all_same k l i j t s a b c = grind (arith, a, b, c)

order_by : (c : Column) → order_of c ≡ order_at (kind_of c) (item_of c) (period_of c)
order_by (X i t) = refl
order_by (Y i t) = refl
order_by (S i t) = refl
order_by (R i t) = refl

pub same_by_order : (c d : Column) → item_of c < 2 ^ 32 → period_of c < 2 ^ 32 → item_of d < 2 ^ 32 → period_of d < 2 ^ 32 → order_of c ≡ order_of d → same_column c d ≡ true
same_by_order c d ci cp di dp same = by_parts (kind_of c) (kind_of d) (item_of c) (item_of d) (period_of c) (period_of d) ci cp di dp (sym (order_by c) ∙ same ∙ order_by d)

pub order_by_same : (c d : Column) → same_column c d ≡ true → order_of c ≡ order_of d
order_by_same c d same = ap order_of (one_by_parts c d same)

-- ---- terms that take each column as often
later_none : (ts : List Term) (low : ℕ) (c : Column) → AreTerms low ts → order_of c < low → coefficient ts c ≡ pos 0
later_none [] low c h less = refl
later_none (a ∷ ts) low c h less =
    ⊎_elim
    (λ same. absurd (omega (arith, h.0, less, order_by_same a.column c same)))
    (λ other. ap (λ b. (if b then a.times else pos 0) +ℤ coefficient ts c) other ∙ zero_add (coefficient ts c) ∙ later_none ts (order_of a.column + 1) c h.2 (omega (arith, h.0, less)))
    (cases_Bool (same_column a.column c))

own_is : (a : Term) (ts : List Term) (c : Column) → AreTerms (order_of a.column + 1) ts → same_column a.column c ≡ true → coefficient (a ∷ ts) c ≡ a.times
own_is a ts c h same =
    ap (λ b. (if b then a.times else pos 0) +ℤ coefficient ts c) same
    ∙ ap (λ z. a.times +ℤ z) (later_none ts (order_of a.column + 1) c h (omega (arith, order_by_same a.column c same)))
    ∙ add_zero a.times

rest_is : (a : Term) (ts : List Term) (c : Column) → same_column a.column c ≡ false → coefficient (a ∷ ts) c ≡ coefficient ts c
rest_is a ts c other = ap (λ b. (if b then a.times else pos 0) +ℤ coefficient ts c) other ∙ zero_add (coefficient ts c)

-- the first term of one list is that of the other
never_later : (a b : Term) (xs ys : List Term) (low : ℕ) → AreTerms low (a ∷ xs) → AreTerms (order_of b.column + 1) ys → order_of a.column < order_of b.column → coefficient (a ∷ xs) a.column ≡ coefficient (b ∷ ys) a.column → ⊥
never_later a b xs ys low one other less alike =
    one.1 (sym (own_is a xs a.column one.2 (same_self a.column)) ∙ alike ∙ rest_is b ys a.column (apart b.column a.column less) ∙ later_none ys (order_of b.column + 1) a.column other (omega (arith, less)))
  where
    apart : (b a : Column) → order_of a < order_of b → same_column b a ≡ false
    apart b a less = ⊎_elim (λ same. absurd (omega (arith, less, order_by_same b a same))) (λ other. other) (cases_Bool (same_column b a))

abbrev Short : Term → Type 0
Short a = (item_of a.column < 2 ^ 32) × (period_of a.column < 2 ^ 32)

pub one_list : (xs ys : List Term) (low high : ℕ) → AreTerms low xs → AreTerms high ys → HasShortColumns xs → HasShortColumns ys → ((c : Column) → coefficient xs c ≡ coefficient ys c) → xs ≡ ys
one_list [] [] low high one other x y alike = refl
one_list [] (b ∷ ys) low high one other x y alike = absurd (other.1 (sym (own_is b ys b.column other.2 (same_self b.column)) ∙ sym (alike b.column)))
one_list (a ∷ xs) [] low high one other x y alike = absurd (one.1 (sym (own_is a xs a.column one.2 (same_self a.column)) ∙ alike a.column))
one_list (a ∷ xs) (b ∷ ys) low high one other x y alike =
    ⊎_elim
    (λ less. absurd (never_later a b xs ys low one other.2 less (alike a.column)))
    (λ least. ⊎_elim
    (λ more. absurd (never_later b a ys xs high other one.2 more (sym (alike b.column))))
    (λ most.
    let order : order_of a.column ≡ order_of b.column = omega (arith, least, most) in
    let here = All-head Short a xs x in
    let there = All-head Short b ys y in
    let same = same_by_order a.column b.column here.0 here.1 there.0 there.1 order in
    let column : a.column ≡ b.column = one_by_parts a.column b.column same in
    let times : a.times ≡ b.times = sym (own_is a xs b.column one.2 same) ∙ alike b.column ∙ own_is b ys b.column other.2 (same_self b.column) in
    let first : a ≡ b = ap (λ c. term c a.times) column ∙ ap (term b.column) times in
    let rest : (c : Column) → coefficient xs c ≡ coefficient ys c = λ c. ⊎_elim
    (λ is.
    let past : order_of c < order_of a.column + 1 = omega (arith, order_by_same a.column c is) in
    later_none xs (order_of a.column + 1) c one.2 past ∙ sym (later_none ys (order_of b.column + 1) c other.2 (omega (arith, past, order))))
    (λ apart. sym (rest_is a xs c apart) ∙ alike c ∙ rest_is b ys c (ap (λ d. same_column d c) (sym column) ∙ apart))
    (cases_Bool (same_column a.column c)) in
    ap (λ t. t ∷ xs) first ∙ ap (λ ts. b ∷ ts) (one_list xs ys (order_of a.column + 1) (order_of b.column + 1) one.2 other.2 (All-tail Short a xs x) (All-tail Short b ys y) rest))
    (cases_lt (order_of b.column) (order_of a.column)))
    (cases_lt (order_of a.column) (order_of b.column))

abbrev row_by : List Term → ℤ → Bool → LinRow
row_by terms right equal = record { terms = terms; right = right; equal = equal }

-- there is one rounding row
pub one_rounded : (rows : List LinRow) (times : List ℤ) (q : ℕ) (row other : LinRow) → 1 ≤ q → HasShortColumns row.terms → HasShortColumns other.terms → IsRounded rows times q row → IsRounded rows times q other → other ≡ row
one_rounded rows times q row other some short other_short is is_other =
    let terms = one_list other.terms row.terms 0 0 is_other.terms is.terms other_short short (λ c. ceilings_are_one q _ (coefficient other.terms c) (coefficient row.terms c) some (is_other.columns c) (is.columns c)) in
    same_parts other.terms row.terms other.right row.right other.equal row.equal terms (ceilings_are_one q _ other.right row.right some is_other.right is.right) (is_other.equal ∙ sym is.equal)
  where
    same_parts : (ts us : List Term) (x y : ℤ) (b c : Bool) → ts ≡ us → x ≡ y → b ≡ c → row_by ts x b ≡ row_by us y c
    same_parts ts us x y b c e f g = ap (λ v. row_by v x b) e ∙ ap (λ z. row_by us z b) f ∙ ap (row_by us y) g

-- Columns by their numbers, and the coefficients of the program's rows.
use Rattle.std.proofs.Common.{◌≡◌, ◌≤◌, ◌<◌, ◌+◌, ◌*◌, ◌^◌, ◌∙◌, ◌⊎◌, ⊎_elim, inl, inr, ℕ, refl, sym, ap, arith, Bool, true, false, List, [], ◌∷◌}
use Rattle.std.specs.Prelude.{if◌then◌else◌, ◌==◌, map, ℤ, pos, ◌+ℤ◌, ◌*ℤ◌}
use Rattle.std.specs.List.{All}
use Rattle.std.proofs.lemmas.Bool.{cases_Bool, cases_eq, cases_lt}
use Rattle.std.proofs.lemmas.List.Elements.{All-head, All-tail}
use Rattle.algebra.proofs.Integers.{neg_mul}
use Rattle.algebra.proofs.Order.{linear}
use Rattle.lot_sizing.specs.Problem.{IsWithinLimits, Problem}
use Rattle.lin_rows.specs.declared.column.Column.{Column}
use Rattle.lin_rows.specs.declared.column.Column.TheVariants.{X, Y, S, R}
use Rattle.lin_rows.specs.declared.row.Term.{Term}
use Rattle.lin_rows.specs.Columns.{IsColumn, number_of, order_of}
use Rattle.lin_rows.specs.Sums.{coefficient, same_column}
use Rattle.lin_rows.proofs.Ranks.{numbers_rise}
use Rattle.lin_rows.proofs.Cells.{same_self}
use Rattle.tableau.specs.Program.{times_of}
use Rattle.lin_rows.proofs.Below.{one_by_parts}
use Rattle.lp_relaxation.specs.Sides.{lp_term, turn}

-- ---- changed signs
pub turn_zero : (b : Bool) → turn b (pos 0) ≡ pos 0
turn_zero true = refl
turn_zero false = refl

pub turn_add : (b : Bool) (x y : ℤ) → turn b (x +ℤ y) ≡ turn b x +ℤ turn b y
turn_add true x y = omega (arith, linear)
turn_add false x y = refl

pub turn_times : (b : Bool) (x y : ℤ) → turn b x *ℤ y ≡ turn b (x *ℤ y)
turn_times true x y = neg_mul x y
turn_times false x y = refl

-- ---- columns have numbers of their own
-- columns of a problem at one place in the order are one
small_place : (i t j s : ℕ) → t < 2 ^ 32 → s < 2 ^ 32 → i * 2 ^ 32 + t ≡ j * 2 ^ 32 + s → (i ≡ j) × (t ≡ s)
small_place i t j s t_small s_small same = (omega (arith, t_small, s_small, same), omega (arith, t_small, s_small, same))

abbrev IsSmallColumn : Column → Type 0
IsSmallColumn (X i t) = (i ≤ 40) × (t ≤ 120)
IsSmallColumn (Y i t) = (i ≤ 40) × (t ≤ 120)
IsSmallColumn (S i t) = (i ≤ 40) × (t ≤ 120)
IsSmallColumn (R i t) = (i ≤ 40) × (t ≤ 120)

is_small : (m : Problem) (c : Column) → IsWithinLimits m → IsColumn m c → IsSmallColumn c
is_small m (X i t) within h = (omega (arith, h.1, within.items), omega (arith, h.3, within.periods))
is_small m (Y i t) within h = (omega (arith, h.1, within.items), omega (arith, h.3, within.periods))
is_small m (S i t) within h = (omega (arith, h.1, within.items), omega (arith, h.3, within.periods))
is_small m (R i t) within h = (omega (arith, h.0.1, within.items), omega (arith, h.0.3, within.periods))

same_items : (make : ℕ → ℕ → Column) (i t j s : ℕ) → (i ≡ j) × (t ≡ s) → make i t ≡ make j s
same_items make i t j s is = ap (λ k. make k t) is.0 ∙ ap (make j) is.1

by_order : (c d : Column) → IsSmallColumn c → IsSmallColumn d → order_of c ≡ order_of d → c ≡ d
by_order (X i t) (X j s) h k same = same_items (λ i t. X i t) i t j s (small_place i t j s (omega (arith, h.1)) (omega (arith, k.1)) (omega (arith, same)))
by_order (Y i t) (Y j s) h k same = same_items (λ i t. Y i t) i t j s (small_place i t j s (omega (arith, h.1)) (omega (arith, k.1)) (omega (arith, same)))
by_order (S i t) (S j s) h k same = same_items (λ i t. S i t) i t j s (small_place i t j s (omega (arith, h.1)) (omega (arith, k.1)) (omega (arith, same)))
by_order (R i t) (R j s) h k same = same_items (λ i t. R i t) i t j s (small_place i t j s (omega (arith, h.1)) (omega (arith, k.1)) (omega (arith, same)))
by_order (X i t) (Y j s) h k same = absurd (omega (arith, same, h.0, h.1, k.0, k.1))
by_order (X i t) (S j s) h k same = absurd (omega (arith, same, h.0, h.1, k.0, k.1))
by_order (X i t) (R j s) h k same = absurd (omega (arith, same, h.0, h.1, k.0, k.1))
by_order (Y i t) (X j s) h k same = absurd (omega (arith, same, h.0, h.1, k.0, k.1))
by_order (Y i t) (S j s) h k same = absurd (omega (arith, same, h.0, h.1, k.0, k.1))
by_order (Y i t) (R j s) h k same = absurd (omega (arith, same, h.0, h.1, k.0, k.1))
by_order (S i t) (X j s) h k same = absurd (omega (arith, same, h.0, h.1, k.0, k.1))
by_order (S i t) (Y j s) h k same = absurd (omega (arith, same, h.0, h.1, k.0, k.1))
by_order (S i t) (R j s) h k same = absurd (omega (arith, same, h.0, h.1, k.0, k.1))
by_order (R i t) (X j s) h k same = absurd (omega (arith, same, h.0, h.1, k.0, k.1))
by_order (R i t) (Y j s) h k same = absurd (omega (arith, same, h.0, h.1, k.0, k.1))
by_order (R i t) (S j s) h k same = absurd (omega (arith, same, h.0, h.1, k.0, k.1))

-- and so are columns with the same number
pub one_number : (m : Problem) (c d : Column) → IsWithinLimits m → IsColumn m c → IsColumn m d → number_of m c ≡ number_of m d → c ≡ d
one_number m c d within h k same =
    ⊎_elim
    (λ less. absurd (omega (arith, same, numbers_rise m d c within k h less)))
    (λ least. ⊎_elim
    (λ more. absurd (omega (arith, same, numbers_rise m c d within h k more)))
    (λ most. by_order c d (is_small m c within h) (is_small m d within k) (omega (arith, least, most)))
    (cases_lt (order_of d) (order_of c)))
    (cases_lt (order_of c) (order_of d))

-- ---- coefficients
abbrev pub Exists : Problem → Term → Type 0
Exists m a = IsColumn m a.column

if_same : (a b : ℕ) (x y : ℤ) → a ≡ b → (if a == b then x else y) ≡ x
if_same a b x y e = grind (arith, e)

if_other : (a b : ℕ) (x y : ℤ) → (a ≡ b → ⊥) → (if a == b then x else y) ≡ y
if_other a b x y e = grind (arith, e)

-- a term adds to the coefficient of its column alone
one_taken : (m : Problem) (b : Bool) (a : Term) (c : Column) → IsWithinLimits m → IsColumn m a.column → IsColumn m c → (if number_of m a.column == number_of m c then turn b a.times else pos 0) ≡ turn b (if same_column a.column c then a.times else pos 0)
one_taken m b a c within h k =
    ⊎_elim
    (λ same. if_same (number_of m a.column) (number_of m c) (turn b a.times) (pos 0) (ap (number_of m) (one_by_parts a.column c same)) ∙ ap (λ s. turn b (if s then a.times else pos 0)) (sym same))
    (λ apart.
    if_other (number_of m a.column) (number_of m c) (turn b a.times) (pos 0) (λ e. cc (sym apart ∙ ap (λ d. same_column a.column d) (sym (one_number m a.column c within h k e)) ∙ same_self a.column))
    ∙ sym (turn_zero b) ∙ ap (λ s. turn b (if s then a.times else pos 0)) (sym apart))
    (cases_Bool (same_column a.column c))

-- the program takes a column as often as the row does
pub times_are : (m : Problem) (b : Bool) (ts : List Term) (c : Column) → IsWithinLimits m → All (Exists m) ts → IsColumn m c → times_of (map (lp_term m b) ts) (number_of m c) ≡ turn b (coefficient ts c)
times_are m b [] c within each k = sym (turn_zero b)
times_are m b (a ∷ ts) c within each k =
    ap (λ z. z +ℤ times_of (map (lp_term m b) ts) (number_of m c)) (one_taken m b a c within (All-head (Exists m) a ts each) k)
    ∙ ap (λ z. turn b (if same_column a.column c then a.times else pos 0) +ℤ z) (times_are m b ts c within (All-tail (Exists m) a ts each) k)
    ∙ sym (turn_add b (if same_column a.column c then a.times else pos 0) (coefficient ts c))

-- a number of the program is that of a column that the terms take, or they don't take it
pub taken_or_not : (m : Problem) (ts : List Term) (k : ℕ) → All (Exists m) ts → ((c : Column) × IsColumn m c × (number_of m c ≡ k)) ⊎ (times_of (map (lp_term m false) ts) k ≡ pos 0)
taken_or_not m [] k each = inr refl
taken_or_not m (a ∷ ts) k each =
    ⊎_elim
    (λ same. inl (a.column, All-head (Exists m) a ts each, same))
    (λ apart. ⊎_elim
    (λ found. inl found)
    (λ none. inr (ap (λ z. z +ℤ times_of (map (lp_term m false) ts) k) (if_other (number_of m a.column) k a.times (pos 0) apart) ∙ ap (λ z. pos 0 +ℤ z) none))
    (taken_or_not m ts k (All-tail (Exists m) a ts each)))
    (cases_eq (number_of m a.column) k)

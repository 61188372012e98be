-- What holds or doesn't, and where it first doesn't.
use Rattle.std.proofs.Common.{◌≤◌, ◌<◌, ◌⊎◌, ⊎_elim, inl, inr, ℕ, zero, suc, refl, sym, subst, arith, Bool, true, false, IsTrue, Option, Some, None, IsNone, IfSome}
use Rattle.std.proofs.lemmas.Bool.{cases_eq, cases_lt}
use Rattle.lot_sizing.specs.Plan.{Each}
use Rattle.plan_rules.specs.Order.{IsFirst}

-- it holds, or it doesn't
abbrev pub Decided : Type 0 → Type 0
Decided A = A ⊎ (A → ⊥)

pub le_or_not : (a b : ℕ) → Decided (a ≤ b)
le_or_not a b = ⊎_elim (λ less. inr (λ le. omega (arith, less, le))) (λ le. inl le) (cases_lt b a)

pub lt_or_not : (a b : ℕ) → Decided (a < b)
lt_or_not a b = ⊎_elim (λ less. inl less) (λ le. inr (λ less. omega (arith, less, le))) (cases_lt a b)

pub both_or_not : {A B : Type 0} → Decided A → Decided B → Decided (A × B)
both_or_not a b = ⊎_elim (λ x. ⊎_elim (λ y. inl (x, y)) (λ no. inr (λ both. no both.1)) b) (λ no. inr (λ both. no both.0)) a

pub if_or_not : {A B : Type 0} → Decided A → Decided B → Decided (A → B)
if_or_not a b = ⊎_elim (λ x. ⊎_elim (λ y. inl (λ _. y)) (λ no. inr (λ f. no (f x))) b) (λ no. inl (λ x. absurd (no x))) a

pub not_or_not : {A : Type 0} → Decided A → Decided (A → ⊥)
not_or_not a = ⊎_elim (λ x. inr (λ no. no x)) (λ no. inl no) a

pub true_or_not : (b : Bool) → Decided (IsTrue b)
true_or_not true = inl refl
true_or_not false = inr (λ e. cc e)

pub none_or_not : {A : Type 0} → (o : Option A) → Decided (IsNone o)
none_or_not None = inl refl
none_or_not (Some x) = inr (λ e. cc e)

-- a number is at most the one that there is, if there is one
pub within_or_not : (o : Option ℕ) (x : ℕ) → Decided (IfSome o (λ most. x ≤ most))
within_or_not None x = inl tt
within_or_not (Some most) x = le_or_not x most

-- it holds at each number from 1 to n, or one of them is the first at which it doesn't
pub all_or_first : (R : ℕ → Type 0) → ((t : ℕ) → Decided (R t)) → (n : ℕ) → ((t : ℕ) → 1 ≤ t → t ≤ n → R t) ⊎ ((t : ℕ) × (1 ≤ t) × (t ≤ n) × (R t → ⊥) × ((u : ℕ) → 1 ≤ u → u < t → R u))
all_or_first R decided zero = inl (λ t low high. absurd (omega (arith, low, high)))
all_or_first R decided (suc n) =
    ⊎_elim
    (λ before. ⊎_elim
    (λ holds. inl (λ t low high. ⊎_elim
    (λ same. subst R (sym same) holds)
    (λ apart. before t low (omega (arith, high, apart)))
    (cases_eq t (suc n))))
    (λ no. inr (suc n, omega arith, omega arith, no, λ u low less. before u low (omega (arith, less))))
    (decided (suc n)))
    (λ found. inr (found.0, found.1, omega (arith, found.2), found.3, found.4))
    (all_or_first R decided n)

-- it holds at each place of the first n rows, or one place of all is the first at which it doesn't
rows_or_first : (rows columns : ℕ) (R : ℕ → ℕ → Type 0) → ((i t : ℕ) → Decided (R i t)) → (n : ℕ) → n ≤ rows → Each n columns R ⊎ ((i t : ℕ) × IsFirst rows columns R i t)
rows_or_first rows columns R decided zero few = inl (λ i t low high t_low t_high. absurd (omega (arith, low, high)))
rows_or_first rows columns R decided (suc n) few =
    ⊎_elim
    (λ before. ⊎_elim
    (λ row. inl (λ i t low high t_low t_high. ⊎_elim
    (λ same. subst (λ k. R k t) (sym same) (row t t_low t_high))
    (λ apart. before i t low (omega (arith, high, apart)) t_low t_high)
    (cases_eq i (suc n))))
    (λ found. inr (
      suc n,
      found.0,
      record {
        row_low = omega arith;
        row_high = few;
        column_low = found.1;
        column_high = found.2;
        broken = found.3;
        before = λ j u j_low j_high u_low u_high sooner. ⊎_elim
            (λ less. before j u j_low (omega (arith, less)) u_low u_high)
            (λ same. subst (λ k. R k u) (sym same.0) (found.4 u u_low same.1))
            sooner;
      },
    ))
    (all_or_first (R (suc n)) (decided (suc n)) columns))
    (λ found. inr found)
    (rows_or_first rows columns R decided n (omega (arith, few)))

pub each_or_first : (rows columns : ℕ) (R : ℕ → ℕ → Type 0) → ((i t : ℕ) → Decided (R i t)) → Each rows columns R ⊎ ((i t : ℕ) × IsFirst rows columns R i t)
each_or_first rows columns R decided = rows_or_first rows columns R decided rows (omega arith)

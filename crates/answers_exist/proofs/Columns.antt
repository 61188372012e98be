-- The columns of a problem are gone through in their order, and rows are made of a number for each.
use Rattle.std.proofs.Common.{◌≡◌, ◌≢◌, ◌≤◌, ◌<◌, ◌+◌, ◌*◌, ◌^◌, ◌∙◌, ◌⊎◌, ⊎_elim, inl, inr, ℕ, zero, suc, refl, sym, ap, subst, arith, Bool, true, false, Option, List, [], ◌∷◌, ◌++◌}
use Rattle.std.specs.Prelude.{if◌then◌else◌, is_some, IsSome, ℤ, pos, negsuc, ◌+ℤ◌}
use Rattle.std.specs.List.{All}
use Rattle.std.proofs.lemmas.Bool.{cases_Bool, cases_eq, cases_lt}
use Rattle.std.proofs.lemmas.List.Elements.{All-head, All-tail}
use Rattle.algebra.proofs.Integers.{add_zero, zero_add}
use Rattle.lot_sizing.specs.Problem.{IsWithinLimits, Problem, item_at, item_count}
use Rattle.lin_rows.specs.declared.column.Column.{Column}
use Rattle.lin_rows.specs.declared.column.Column.TheVariants.{X, Y, S, R}
use Rattle.lin_rows.specs.declared.row.Term.{Term}
use Rattle.lin_rows.specs.Base.{is_some_term, some_terms, term, terms_to}
use Rattle.lin_rows.specs.Columns.{IsCell, IsColumn, order_of}
use Rattle.lin_rows.specs.Rows.{AreTerms}
use Rattle.lin_rows.specs.Sums.{coefficient, same_column}
use Rattle.lin_rows.proofs.Below.{coefficient_append, one_by_parts}
use Rattle.lin_rows.proofs.Cells.{same_self}
use Rattle.lin_rows.proofs.Terms.{RiseTo, are_terms, rise_append, rise_to}
use Rattle.plan_rules.specs.Order.{IsFirst}
use Rattle.existence.proofs.Deciding.{Decided, each_or_first, if_or_not, le_or_not, lt_or_not}
use Rattle.group_existence.proofs.Judged.{three_or_not}

pub some_or_not : {A : Type 0} (o : Option A) → Decided (IsSome o)
some_or_not o = ⊎_elim (λ yes. inl yes) (λ none. inr (λ some. not_both (is_some o) some none)) (cases_Bool (is_some o))
  where
    not_both : (b : Bool) → b ≡ true → b ≡ false → ⊥
    not_both b one other = let e : true ≡ false = sym one ∙ other in cc e

pub four_or_not : {A B C D : Type 0} → Decided A → Decided B → Decided C → Decided D → Decided (A × B × C × D)
four_or_not a b c d = ⊎_elim (λ x. ⊎_elim (λ y. ⊎_elim (λ z. ⊎_elim (λ w. inl (x, y, z, w)) (λ none. inr (λ all. none all.3)) d) (λ none. inr (λ all. none all.2)) c) (λ none. inr (λ all. none all.1)) b) (λ none. inr (λ all. none all.0)) a

-- ---- terms that are added up
-- terms of nothing add nothing
none_added : (z : ℤ) (b : Bool) → is_some_term z ≡ false → (if b then z else pos 0) ≡ pos 0
none_added (pos zero) true none = refl
none_added (pos zero) false none = refl
none_added (pos (suc n)) b none = cc none
none_added (negsuc n) b none = cc none

sum_some : (ts : List Term) (c : Column) → coefficient (some_terms ts) c ≡ coefficient ts c
sum_some [] c = refl
sum_some (a ∷ ts) c =
    ⊎_elim
    (λ some. rw some (ap (λ z. (if same_column a.column c then a.times else pos 0) +ℤ z) (sum_some ts c)))
    (λ none. rw none (sum_some ts c ∙ sym (zero_add (coefficient ts c)) ∙ ap (λ z. z +ℤ coefficient ts c) (sym (none_added a.times (same_column a.column c) none))))
    (cases_Bool (is_some_term a.times))

nothing_to : (n : ℕ) (f : ℕ → List Term) (c : Column) → ((k : ℕ) → 1 ≤ k → k ≤ n → coefficient (f k) c ≡ pos 0) → coefficient (terms_to n f) c ≡ pos 0
nothing_to zero f c none = refl
nothing_to (suc n) f c none =
    coefficient_append (terms_to n f) (f (suc n)) c ∙ ap (λ z. z +ℤ coefficient (f (suc n)) c) (nothing_to n f c (λ k low high. none k low (omega (arith, high))))
    ∙ zero_add (coefficient (f (suc n)) c) ∙ none (suc n) (omega arith) (omega arith)

only_at : (n k : ℕ) (f : ℕ → List Term) (c : Column) → 1 ≤ k → k ≤ n → ((j : ℕ) → 1 ≤ j → j ≤ n → j ≢ k → coefficient (f j) c ≡ pos 0) → coefficient (terms_to n f) c ≡ coefficient (f k) c
only_at zero k f c low high others = absurd (omega (arith, low, high))
only_at (suc n) k f c low high others =
    coefficient_append (terms_to n f) (f (suc n)) c
    ∙ ⊎_elim
    (λ last.
    ap (λ z. z +ℤ coefficient (f (suc n)) c) (nothing_to n f c (λ j j_low j_high. others j j_low (omega (arith, j_high)) (λ e. omega (arith, e, last, j_high))))
    ∙ zero_add (coefficient (f (suc n)) c) ∙ ap (λ j. coefficient (f j) c) (sym last))
    (λ before.
    ap (λ z. coefficient (terms_to n f) c +ℤ z) (others (suc n) (omega arith) (omega arith) (λ e. before (sym e)))
    ∙ add_zero (coefficient (terms_to n f) c)
    ∙ only_at n k f c low (omega (arith, high, before)) (λ j j_low j_high. others j j_low (omega (arith, j_high))))
    (cases_eq k (suc n))

-- rows of a problem take no other column
pub takes_none : (m : Problem) (ts : List Term) (c : Column) → All (λ a. IsColumn m a.column) ts → (IsColumn m c → ⊥) → coefficient ts c ≡ pos 0
takes_none m [] c are none = refl
takes_none m (a ∷ ts) c are none =
    let P = λ (b : Term). IsColumn m b.column in
    ⊎_elim
    (λ same. absurd (none (subst (IsColumn m) (one_by_parts a.column c same) (All-head P a ts are))))
    (λ other. ap (λ b. (if b then a.times else pos 0) +ℤ coefficient ts c) other ∙ zero_add (coefficient ts c) ∙ takes_none m ts c (All-tail P a ts are) none)
    (cases_Bool (same_column a.column c))

-- of two places in the order, one row and column comes first
earlier : (i t j u : ℕ) → t ≤ 120 → u ≤ 120 → j * 2 ^ 32 + u < i * 2 ^ 32 + t → (j < i) ⊎ ((j ≡ i) × (u < t))
earlier i t j u t_high u_high less =
    ⊎_elim (λ before. inl before) (λ after. inr (omega (arith, less, after, t_high, u_high), omega (arith, less, after, t_high, u_high))) (cases_lt j i)

module _ (m : Problem) (limits : IsWithinLimits m) where
  pub cell_or_not : (i t : ℕ) → Decided (IsCell m i t)
  cell_or_not i t = four_or_not (le_or_not 1 i) (le_or_not i (item_count m)) (le_or_not 1 t) (le_or_not t m.periods)

  pub column_or_not : (c : Column) → Decided (IsColumn m c)
  column_or_not (X i t) = cell_or_not i t
  column_or_not (Y i t) = cell_or_not i t
  column_or_not (S i t) = cell_or_not i t
  column_or_not (R i t) = three_or_not (cell_or_not i t) (lt_or_not t m.periods) (some_or_not (item_at m i).backlog_cost)

  -- ---- something holds of all columns, or one is the first of which it doesn't
  module _ (P : Column → Type 0) (decide : (c : Column) → Decided (P c)) where
    abbrev All_of : (ℕ → ℕ → Column) → Type 0
    All_of make = (i t : ℕ) → IsColumn m (make i t) → P (make i t)

    abbrev FirstIs : Column → Type 0
    FirstIs c = IsColumn m c × (P c → ⊥) × ((d : Column) → IsColumn m d → order_of d < order_of c → P d)

    abbrev First : Type 0
    First = (c : Column) × FirstIs c

    abbrev FirstAt : (ℕ → ℕ → Column) → ℕ → ℕ → Type 0
    FirstAt make i t = IsFirst (item_count m) m.periods (λ j u. IsColumn m (make j u) → P (make j u)) i t

    kind_out : (make : ℕ → ℕ → Column) → ((i t : ℕ) → IsColumn m (make i t) → IsCell m i t) → All_of make ⊎ ((i t : ℕ) × FirstAt make i t)
    kind_out make cell = ⊎_elim
        (λ each. inl (λ i t is. let here = cell i t is in each i t here.0 here.1 here.2 here.3 is))
        (λ found. inr found)
        (each_or_first (item_count m) m.periods (λ j u. IsColumn m (make j u) → P (make j u)) (λ j u. if_or_not (column_or_not (make j u)) (decide (make j u))))

    -- what is broken there
    is_there : (make : ℕ → ℕ → Column) (i t : ℕ) → FirstAt make i t → IsColumn m (make i t) × (P (make i t) → ⊥)
    is_there make i t f =
        ⊎_elim
        (λ is. (is, λ holds. f.broken (λ _. holds)))
        (λ none. absurd (f.broken (λ is. absurd (none is))))
        (column_or_not (make i t))

    small : (i t : ℕ) → IsCell m i t → (i ≤ 40) × (t ≤ 120)
    small i t is = (omega (arith, is.1, limits.items), omega (arith, is.3, limits.periods))

    first_x : (i t : ℕ) → FirstAt (λ j u. X j u) i t → First
    first_x i t f =
        let here = is_there (λ j u. X j u) i t f in
        (X i t, (here.0, here.1, before here.0))
      where
        before : IsCell m i t → (d : Column) → IsColumn m d → order_of d < order_of (X i t) → P d
        before cell (X j u) is less = let a = small i t cell in let b = small j u is in f.before j u is.0 is.1 is.2 is.3 (earlier i t j u a.1 b.1 (omega (arith, less))) is
        before cell (Y j u) is less = let a = small i t cell in absurd (omega (arith, less, a.0, a.1))
        before cell (S j u) is less = let a = small i t cell in absurd (omega (arith, less, a.0, a.1))
        before cell (R j u) is less = let a = small i t cell in absurd (omega (arith, less, a.0, a.1))

    first_y : All_of (λ j u. X j u) → (i t : ℕ) → FirstAt (λ j u. Y j u) i t → First
    first_y xs i t f =
        let here = is_there (λ j u. Y j u) i t f in
        (Y i t, (here.0, here.1, before here.0))
      where
        before : IsCell m i t → (d : Column) → IsColumn m d → order_of d < order_of (Y i t) → P d
        before cell (X j u) is less = xs j u is
        before cell (Y j u) is less = let a = small i t cell in let b = small j u is in f.before j u is.0 is.1 is.2 is.3 (earlier i t j u a.1 b.1 (omega (arith, less))) is
        before cell (S j u) is less = let a = small i t cell in absurd (omega (arith, less, a.0, a.1))
        before cell (R j u) is less = let a = small i t cell in absurd (omega (arith, less, a.0, a.1))

    first_s : All_of (λ j u. X j u) → All_of (λ j u. Y j u) → (i t : ℕ) → FirstAt (λ j u. S j u) i t → First
    first_s xs ys i t f =
        let here = is_there (λ j u. S j u) i t f in
        (S i t, (here.0, here.1, before here.0))
      where
        before : IsCell m i t → (d : Column) → IsColumn m d → order_of d < order_of (S i t) → P d
        before cell (X j u) is less = xs j u is
        before cell (Y j u) is less = ys j u is
        before cell (S j u) is less = let a = small i t cell in let b = small j u is in f.before j u is.0 is.1 is.2 is.3 (earlier i t j u a.1 b.1 (omega (arith, less))) is
        before cell (R j u) is less = let a = small i t cell in absurd (omega (arith, less, a.0, a.1))

    first_r : All_of (λ j u. X j u) → All_of (λ j u. Y j u) → All_of (λ j u. S j u) → (i t : ℕ) → FirstAt (λ j u. R j u) i t → First
    first_r xs ys ss i t f =
        let here = is_there (λ j u. R j u) i t f in
        (R i t, (here.0, here.1, before here.0.0))
      where
        before : IsCell m i t → (d : Column) → IsColumn m d → order_of d < order_of (R i t) → P d
        before cell (X j u) is less = xs j u is
        before cell (Y j u) is less = ys j u is
        before cell (S j u) is less = ss j u is
        before cell (R j u) is less =
            let a = small i t cell in
            let b = small j u is.0 in
            f.before j u is.0.0 is.0.1 is.0.2 is.0.3 (earlier i t j u a.1 b.1 (omega (arith, less))) is

    pub first_column : ((c : Column) → IsColumn m c → P c) ⊎ First
    first_column =
        ⊎_elim
        (λ xs. ⊎_elim
        (λ ys. ⊎_elim
        (λ ss. ⊎_elim
        (λ rs. inl (each xs ys ss rs))
        (λ f. inr (first_r xs ys ss f.0 f.1 f.2))
        (kind_out (λ j u. R j u) (λ i t is. is.0)))
        (λ f. inr (first_s xs ys f.0 f.1 f.2))
        (kind_out (λ j u. S j u) (λ i t is. is)))
        (λ f. inr (first_y xs f.0 f.1 f.2))
        (kind_out (λ j u. Y j u) (λ i t is. is)))
        (λ f. inr (first_x f.0 f.1 f.2))
        (kind_out (λ j u. X j u) (λ i t is. is))
      where
        each : All_of (λ j u. X j u) → All_of (λ j u. Y j u) → All_of (λ j u. S j u) → All_of (λ j u. R j u) → (c : Column) → IsColumn m c → P c
        each xs ys ss rs (X i t) is = xs i t is
        each xs ys ss rs (Y i t) is = ys i t is
        each xs ys ss rs (S i t) is = ss i t is
        each xs ys ss rs (R i t) is = rs i t is

  -- ---- terms with a number for each column
  module _ (f : Column → ℤ) where
    -- the term of a column, where the problem has it
    own : (c : Column) → Decided (IsColumn m c) → List Term
    own c (inl is) = term c (f c) ∷ []
    own c (inr none) = []

    piece : Column → List Term
    piece c = own c (column_or_not c)

    own_other : (d c : Column) (x : Decided (IsColumn m d)) → d ≢ c → coefficient (own d x) c ≡ pos 0
    unfolding own
    own_other d c (inl is) apart = ⊎_elim (λ same. absurd (apart (one_by_parts d c same))) (λ other. ap (λ b. (if b then f d else pos 0) +ℤ pos 0) other) (cases_Bool (same_column d c))
    own_other d c (inr none) apart = refl

    own_out : (d c : Column) (x : Decided (IsColumn m d)) → (IsColumn m c → ⊥) → coefficient (own d x) c ≡ pos 0
    unfolding own
    own_out d c (inl is) out = own_other d c (inl is) (λ e. out (subst (IsColumn m) e is))
    own_out d c (inr none) out = refl

    own_is : (c : Column) (x : Decided (IsColumn m c)) → IsColumn m c → coefficient (own c x) c ≡ f c
    unfolding own
    own_is c (inl is) has = ap (λ b. (if b then f c else pos 0) +ℤ pos 0) (same_self c) ∙ add_zero (f c)
    own_is c (inr none) has = absurd (none has)

    piece_other : (d c : Column) → d ≢ c → coefficient (piece d) c ≡ pos 0
    unfolding piece
    piece_other d c apart = own_other d c (column_or_not d) apart

    piece_out : (d c : Column) → (IsColumn m c → ⊥) → coefficient (piece d) c ≡ pos 0
    unfolding piece
    piece_out d c out = own_out d c (column_or_not d) out

    piece_is : (c : Column) → IsColumn m c → coefficient (piece c) c ≡ f c
    unfolding piece
    piece_is c has = own_is c (column_or_not c) has

    -- those of a kind
    grid : (ℕ → ℕ → Column) → List Term
    grid make = terms_to (item_count m) (λ i. terms_to m.periods (λ t. piece (make i t)))

    grid_other : (make : ℕ → ℕ → Column) (c : Column) → ((i t : ℕ) → coefficient (piece (make i t)) c ≡ pos 0) → coefficient (grid make) c ≡ pos 0
    unfolding grid
    grid_other make c none = nothing_to (item_count m) (λ i. terms_to m.periods (λ t. piece (make i t))) c (λ i low high. nothing_to m.periods (λ t. piece (make i t)) c (λ t t_low t_high. none i t))

    grid_is : (make : ℕ → ℕ → Column) (i t : ℕ) → IsCell m i t → ((j u : ℕ) → (j ≢ i) ⊎ (u ≢ t) → make j u ≢ make i t) → coefficient (grid make) (make i t) ≡ coefficient (piece (make i t)) (make i t)
    unfolding grid
    grid_is make i t cell apart =
        only_at (item_count m) i (λ j. terms_to m.periods (λ u. piece (make j u))) (make i t) cell.0 cell.1
        (λ j low high other. nothing_to m.periods (λ u. piece (make j u)) (make i t) (λ u u_low u_high. piece_other (make j u) (make i t) (apart j u (inl other))))
        ∙ only_at m.periods t (λ u. piece (make i u)) (make i t) cell.2 cell.3 (λ u u_low u_high other. piece_other (make i u) (make i t) (apart i u (inr other)))

    all : List Term
    all = grid (λ i t. X i t) ++ (grid (λ i t. Y i t) ++ (grid (λ i t. S i t) ++ grid (λ i t. R i t)))

    parts_add : (c : Column) → coefficient all c ≡ coefficient (grid (λ i t. X i t)) c +ℤ (coefficient (grid (λ i t. Y i t)) c +ℤ (coefficient (grid (λ i t. S i t)) c +ℤ coefficient (grid (λ i t. R i t)) c))
    unfolding all
    parts_add c =
        let xs = grid (λ i t. X i t) in
        let ys = grid (λ i t. Y i t) in
        let ss = grid (λ i t. S i t) in
        let rs = grid (λ i t. R i t) in
        coefficient_append xs (ys ++ (ss ++ rs)) c
        ∙ ap (λ z. coefficient xs c +ℤ z) (coefficient_append ys (ss ++ rs) c ∙ ap (λ z. coefficient ys c +ℤ z) (coefficient_append ss rs c))

    added : (a b c d x y z w : ℤ) → a ≡ x → b ≡ y → c ≡ z → d ≡ w → a +ℤ (b +ℤ (c +ℤ d)) ≡ x +ℤ (y +ℤ (z +ℤ w))
    added a b c d x y z w p q r s = ap (λ k. k +ℤ (b +ℤ (c +ℤ d))) p ∙ ap (λ k. x +ℤ (k +ℤ (c +ℤ d))) q ∙ ap (λ k. x +ℤ (y +ℤ (k +ℤ d))) r ∙ ap (λ k. x +ℤ (y +ℤ (z +ℤ k))) s

    all_is : (c : Column) → IsColumn m c → coefficient all c ≡ f c
    all_is (X i t) has =
        let c = X i t in
        parts_add c
        ∙ added _ _ _ _ (f c) (pos 0) (pos 0) (pos 0)
        (grid_is (λ j u. X j u) i t has (λ j u other e. ⊎_elim (λ no_item. no_item (cc e)) (λ no_period. no_period (cc e)) other) ∙ piece_is c has)
        (grid_other (λ j u. Y j u) c (λ j u. piece_other (Y j u) c (λ e. cc e)))
        (grid_other (λ j u. S j u) c (λ j u. piece_other (S j u) c (λ e. cc e)))
        (grid_other (λ j u. R j u) c (λ j u. piece_other (R j u) c (λ e. cc e)))
        ∙ add_zero (f c)
    all_is (Y i t) has =
        let c = Y i t in
        parts_add c
        ∙ added _ _ _ _ (pos 0) (f c) (pos 0) (pos 0)
        (grid_other (λ j u. X j u) c (λ j u. piece_other (X j u) c (λ e. cc e)))
        (grid_is (λ j u. Y j u) i t has (λ j u other e. ⊎_elim (λ no_item. no_item (cc e)) (λ no_period. no_period (cc e)) other) ∙ piece_is c has)
        (grid_other (λ j u. S j u) c (λ j u. piece_other (S j u) c (λ e. cc e)))
        (grid_other (λ j u. R j u) c (λ j u. piece_other (R j u) c (λ e. cc e)))
        ∙ zero_add (f c +ℤ pos 0) ∙ add_zero (f c)
    all_is (S i t) has =
        let c = S i t in
        parts_add c
        ∙ added _ _ _ _ (pos 0) (pos 0) (f c) (pos 0)
        (grid_other (λ j u. X j u) c (λ j u. piece_other (X j u) c (λ e. cc e)))
        (grid_other (λ j u. Y j u) c (λ j u. piece_other (Y j u) c (λ e. cc e)))
        (grid_is (λ j u. S j u) i t has (λ j u other e. ⊎_elim (λ no_item. no_item (cc e)) (λ no_period. no_period (cc e)) other) ∙ piece_is c has)
        (grid_other (λ j u. R j u) c (λ j u. piece_other (R j u) c (λ e. cc e)))
        ∙ zero_add (pos 0 +ℤ (f c +ℤ pos 0)) ∙ zero_add (f c +ℤ pos 0) ∙ add_zero (f c)
    all_is (R i t) has =
        let c = R i t in
        parts_add c
        ∙ added _ _ _ _ (pos 0) (pos 0) (pos 0) (f c)
        (grid_other (λ j u. X j u) c (λ j u. piece_other (X j u) c (λ e. cc e)))
        (grid_other (λ j u. Y j u) c (λ j u. piece_other (Y j u) c (λ e. cc e)))
        (grid_other (λ j u. S j u) c (λ j u. piece_other (S j u) c (λ e. cc e)))
        (grid_is (λ j u. R j u) i t has.0 (λ j u other e. ⊎_elim (λ no_item. no_item (cc e)) (λ no_period. no_period (cc e)) other) ∙ piece_is c has)
        ∙ zero_add (pos 0 +ℤ (pos 0 +ℤ f c)) ∙ zero_add (pos 0 +ℤ f c) ∙ zero_add (f c)

    all_out : (c : Column) → (IsColumn m c → ⊥) → coefficient all c ≡ pos 0
    all_out c out =
        parts_add c
        ∙ added _ _ _ _ (pos 0) (pos 0) (pos 0) (pos 0)
        (grid_other (λ j u. X j u) c (λ j u. piece_out (X j u) c out))
        (grid_other (λ j u. Y j u) c (λ j u. piece_out (Y j u) c out))
        (grid_other (λ j u. S j u) c (λ j u. piece_out (S j u) c out))
        (grid_other (λ j u. R j u) c (λ j u. piece_out (R j u) c out))

    -- they rise
    own_rise : (c : Column) (x : Decided (IsColumn m c)) (low high : ℕ) → low ≤ order_of c → order_of c < high → RiseTo low (own c x) high
    unfolding own
    own_rise c (inl is) low high least most = (least, omega (arith, most))
    own_rise c (inr none) low high least most = omega (arith, least, most)

    piece_rise : (c : Column) (low high : ℕ) → low ≤ order_of c → order_of c < high → RiseTo low (piece c) high
    unfolding piece
    piece_rise c low high least most = own_rise c (column_or_not c) low high least most

    grid_rise : (kind : ℕ) (make : ℕ → ℕ → Column) → ((i t : ℕ) → order_of (make i t) ≡ kind * 2 ^ 64 + i * 2 ^ 32 + t) → RiseTo (kind * 2 ^ 64) (grid make) (kind * 2 ^ 64 + 2 ^ 64)
    unfolding grid
    grid_rise kind make is =
        rise_to (item_count m) (λ i. terms_to m.periods (λ t. piece (make i t))) (kind * 2 ^ 64) (2 ^ 32) (kind * 2 ^ 64 + 2 ^ 64)
        (λ i low high. rise_to m.periods (λ t. piece (make i t)) (kind * 2 ^ 64 + i * 2 ^ 32) 1 (kind * 2 ^ 64 + i * 2 ^ 32 + 2 ^ 32)
        (λ t t_low t_high. piece_rise (make i t) (kind * 2 ^ 64 + i * 2 ^ 32 + t * 1) (kind * 2 ^ 64 + i * 2 ^ 32 + t * 1 + 1) (omega (arith, is i t)) (omega (arith, is i t)))
        (omega (arith, limits.periods)))
        (omega (arith, limits.items))

    rises : RiseTo 0 all (4 * 2 ^ 64)
    unfolding all
    rises =
        let xs = grid (λ i t. X i t) in
        let ys = grid (λ i t. Y i t) in
        let ss = grid (λ i t. S i t) in
        let rs = grid (λ i t. R i t) in
        rise_append xs (ys ++ (ss ++ rs)) 0 (2 ^ 64) (4 * 2 ^ 64) (grid_rise 0 (λ i t. X i t) (λ i t. refl))
        (rise_append ys (ss ++ rs) (2 ^ 64) (2 * 2 ^ 64) (4 * 2 ^ 64) (grid_rise 1 (λ i t. Y i t) (λ i t. refl))
        (rise_append ss rs (2 * 2 ^ 64) (3 * 2 ^ 64) (4 * 2 ^ 64) (grid_rise 2 (λ i t. S i t) (λ i t. refl)) (grid_rise 3 (λ i t. R i t) (λ i t. refl))))

    -- the terms of a row with these numbers
    pub terms_with : List Term
    terms_with = some_terms all

    pub terms_rise : AreTerms 0 terms_with
    unfolding terms_with
    terms_rise = are_terms all 0 (4 * 2 ^ 64) rises

    pub terms_are : (c : Column) → IsColumn m c → coefficient terms_with c ≡ f c
    unfolding terms_with
    terms_are c has = sum_some all c ∙ all_is c has

    pub terms_out : (c : Column) → (IsColumn m c → ⊥) → coefficient terms_with c ≡ pos 0
    unfolding terms_with
    terms_out c out = sum_some all c ∙ all_out c out

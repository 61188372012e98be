-- All columns of a plan at their reduced costs, as one more row.
use Rattle.std.proofs.Common.{◌≡◌, ◌≢◌, ◌≤◌, ◌<◌, ◌*◌, ◌∙◌, ◌⊎◌, ⊎_elim, inl, inr, ℕ, zero, suc, refl, sym, ap, subst, arith, Bool, true, false, List, [], ◌∷◌}
use Rattle.std.specs.Prelude.{if◌then◌else◌, ◌&&◌, is_some, nat_le, nat_lt, ℤ, pos, ◌+ℤ◌, ◌*ℤ◌, ◌≤ℤ◌}
use Rattle.std.specs.List.{All}
use Rattle.std.proofs.lemmas.Bool.{cases_eq, cases_lt}
use Rattle.std.proofs.lemmas.List.Elements.{All-cons, All-nil}
use Rattle.algebra.proofs.Integers.{mul_one, one_mul}
use Rattle.algebra.proofs.Order.{linear}
use Rattle.lot_sizing.specs.Sums.{sum_to}
use Rattle.lot_sizing.specs.Problem.{Problem, item_at, item_count}
use Rattle.lot_sizing.specs.Plan.{Plan, IsFeasible, cost}
use Rattle.lin_rows.specs.declared.column.Column.{Column}
use Rattle.lin_rows.specs.declared.column.Column.TheVariants.{X, Y, S, R}
use Rattle.lin_rows.specs.declared.row.Term.{Term}
use Rattle.lin_rows.specs.Base.{is_owing, owing_terms, term, terms_to}
use Rattle.lin_rows.specs.Columns.{IsCell, IsColumn, value_in}
use Rattle.lin_rows.specs.Combining.{AllHold, AreOfProblem, AreSigned, SumsBoundPlans, right_sum}
use Rattle.lin_rows.specs.Rows.{LinRow, sum_at, whole_point}
use Rattle.lin_rows.specs.Sums.{coefficient, item_of, kind_of, period_of, same_column}
use Rattle.lin_rows.proofs.Below.{coefficient_append, one_by_parts}
use Rattle.lin_rows.proofs.Cells.{same_parts, true_or_false}
use Rattle.lin_rows.proofs.Terms.{all_one, all_to, sum_append}
use Rattle.must_start.proofs.Starts.{none_or}
use Rattle.reduced_groups.specs.Rows.{AreReduced, paid, paid_at}

-- the columns of a problem, each its price times
abbrev pub priced_at : Problem → (Column → ℤ) → ℕ → ℕ → List Term
priced_at m price i t = term (X i t) (price (X i t)) ∷ (term (Y i t) (price (Y i t)) ∷ (term (S i t) (price (S i t)) ∷ owing_terms m i t (price (R i t))))

abbrev pub all_priced : Problem → (Column → ℤ) → List Term
all_priced m price = terms_to (item_count m) (λ i. terms_to m.periods (priced_at m price i))

-- what a priced column adds to another one
abbrev pub one_of : (Column → ℤ) → Column → Column → ℤ
one_of price a c = if same_column a c then price a else pos 0

abbrev pub IsOther : Column → Column → Type 0
IsOther a c = (kind_of a ≢ kind_of c) ⊎ ((item_of a ≢ item_of c) ⊎ (period_of a ≢ period_of c))

one_other : (price : Column → ℤ) (a c : Column) → IsOther a c → one_of price a c ≡ pos 0
one_other price a c apart =
    ⊎_elim
    (λ same.
    let parts = same_parts a c same in
    absurd (⊎_elim (λ k. k parts.0) (λ rest. ⊎_elim (λ i. i parts.1) (λ t. t parts.2) rest) apart))
    (λ other. ap (λ b. if b then price a else pos 0) other)
    (true_or_false (same_column a c))

one_same : (price : Column → ℤ) (a c : Column) → same_column a c ≡ true → one_of price a c ≡ price c
one_same price a c same = ap (λ b. if b then price a else pos 0) same ∙ ap price (one_by_parts a c same)

-- the columns of an item and a period
abbrev pub IsElsewhere : ℕ → ℕ → Column → Type 0
IsElsewhere i t c = (i ≢ item_of c) ⊎ (t ≢ period_of c)

-- terms that take a column 0 times, and those that take it in one place at most
terms_none : (n : ℕ) (f : ℕ → List Term) (c : Column) → ((k : ℕ) → 1 ≤ k → k ≤ n → coefficient (f k) c ≡ pos 0) → coefficient (terms_to n f) c ≡ pos 0
terms_none zero f c each = refl
terms_none (suc n) f c each = omega (arith, linear, coefficient_append (terms_to n f) (f (suc n)) c, terms_none n f c (λ k low high. each k low (omega (arith, high))), each (suc n) (omega arith) (omega arith))

terms_most : (n : ℕ) (f : ℕ → List Term) (c : Column) (place : ℕ) (z : ℤ) → pos 0 ≤ℤ z → ((k : ℕ) → k ≢ place → coefficient (f k) c ≡ pos 0) → coefficient (f place) c ≤ℤ z → coefficient (terms_to n f) c ≤ℤ z
terms_most zero f c place z sign none here = omega (arith, linear, sign)
terms_most (suc n) f c place z sign none here =
    let parts = coefficient_append (terms_to n f) (f (suc n)) c in
    ⊎_elim
    (λ last. omega (arith, linear, parts, terms_none n f c (λ k low high. none k (λ e. omega (arith, e, last, high))), subst (λ k. coefficient (f k) c ≤ℤ z) (sym last) here))
    (λ before. omega (arith, linear, parts, terms_most n f c place z sign none here, none (suc n) before))
    (cases_eq (suc n) place)

-- backlogs
owing_none : (b : Bool) (price : Column → ℤ) (i t : ℕ) (c : Column) → IsOther (R i t) c → coefficient (if b then term (R i t) (price (R i t)) ∷ [] else []) c ≡ pos 0
owing_none true price i t c apart = omega (arith, linear, one_other price (R i t) c apart)
owing_none false price i t c apart = refl

owing_most : (b : Bool) (price : Column → ℤ) (i t : ℕ) (c : Column) → pos 0 ≤ℤ price c → coefficient (if b then term (R i t) (price (R i t)) ∷ [] else []) c ≤ℤ price c
owing_most true price i t c sign =
    ⊎_elim
    (λ same. omega (arith, linear, one_same price (R i t) c same))
    (λ other. omega (arith, linear, sign, ap (λ b. if b then price (R i t) else pos 0) other))
    (true_or_false (same_column (R i t) c))
owing_most false price i t c sign = omega (arith, linear, sign)

owing_parts : (t n : ℕ) (some : Bool) → (nat_le 1 t && (nat_lt t n && some)) ≡ true → (t < n) × (some ≡ true)
owing_parts t n some is = (grind (arith, is), grind (arith, is))

owing_columns : (m : Problem) (b : Bool) (price : Column → ℤ) (i t : ℕ) → is_owing m i t ≡ b → 1 ≤ i → i ≤ item_count m → 1 ≤ t → t ≤ m.periods → All (λ a. IsColumn m a.column) (if b then term (R i t) (price (R i t)) ∷ [] else [])
owing_columns m true price i t is low high t_low t_high =
    let parts = owing_parts t m.periods (is_some (item_at m i).backlog_cost) is in
    all_one (λ a. IsColumn m a.column) _ ((low, high, t_low, t_high), parts.0, parts.1)
owing_columns m false price i t is low high t_low t_high = All-nil (λ a. IsColumn m a.column)

-- a column of an item and a period stands nowhere else
none_at : (m : Problem) (price : Column → ℤ) (i t : ℕ) (c : Column) → IsElsewhere i t c → coefficient (priced_at m price i t) c ≡ pos 0
none_at m price i t c far =
    omega (arith, linear, one_other price (X i t) c (inr far), one_other price (Y i t) c (inr far), one_other price (S i t) c (inr far), owing_none (is_owing m i t) price i t c (inr far))

not_same : (price : Column → ℤ) (a b c : Column) → same_column a c ≡ true → kind_of a ≢ kind_of b → one_of price b c ≡ pos 0
not_same price a b c same other = one_other price b c (inl (λ e. other ((same_parts a c same).0 ∙ sym e)))

most_at : (m : Problem) (price : Column → ℤ) (i t : ℕ) (c : Column) → pos 0 ≤ℤ price c → coefficient (priced_at m price i t) c ≤ℤ price c
most_at m price i t c sign =
    ⊎_elim
    (λ x. let parts = same_parts (X i t) c x in omega (arith, linear, one_same price (X i t) c x, not_same price (X i t) (Y i t) c x (λ e. omega (arith, e)), not_same price (X i t) (S i t) c x (λ e. omega (arith, e)), owing_none (is_owing m i t) price i t c (inl (λ e. omega (arith, e, parts.0)))))
    (λ no_x. ⊎_elim
    (λ y. let parts = same_parts (Y i t) c y in omega (arith, linear, one_same price (Y i t) c y, ap (λ b. if b then price (X i t) else pos 0) no_x, not_same price (Y i t) (S i t) c y (λ e. omega (arith, e)), owing_none (is_owing m i t) price i t c (inl (λ e. omega (arith, e, parts.0)))))
    (λ no_y. ⊎_elim
    (λ s. let parts = same_parts (S i t) c s in omega (arith, linear, one_same price (S i t) c s, ap (λ b. if b then price (X i t) else pos 0) no_x, ap (λ b. if b then price (Y i t) else pos 0) no_y, owing_none (is_owing m i t) price i t c (inl (λ e. omega (arith, e, parts.0)))))
    (λ no_s. omega (arith, linear, ap (λ b. if b then price (X i t) else pos 0) no_x, ap (λ b. if b then price (Y i t) else pos 0) no_y, ap (λ b. if b then price (S i t) else pos 0) no_s, owing_most (is_owing m i t) price i t c sign))
    (true_or_false (same_column (S i t) c)))
    (true_or_false (same_column (Y i t) c)))
    (true_or_false (same_column (X i t) c))

all_most : (m : Problem) (price : Column → ℤ) (c : Column) → pos 0 ≤ℤ price c → coefficient (all_priced m price) c ≤ℤ price c
all_most m price c sign =
    terms_most (item_count m) (λ i. terms_to m.periods (priced_at m price i)) c (item_of c) (price c) sign
    (λ i other. terms_none m.periods (priced_at m price i) c (λ t low high. none_at m price i t c (inl other)))
    (terms_most m.periods (priced_at m price (item_of c)) c (period_of c) (price c) sign
    (λ t other. none_at m price (item_of c) t c (inr other))
    (most_at m price (item_of c) (period_of c) c sign))

all_columns : (m : Problem) (price : Column → ℤ) → All (λ a. IsColumn m a.column) (all_priced m price)
all_columns m price =
    let P = λ (a : Term). IsColumn m a.column in
    all_to P (item_count m) (λ i. terms_to m.periods (priced_at m price i)) (λ i low high. all_to P m.periods (priced_at m price i) (λ t t_low t_high.
    let x = term (X i t) (price (X i t)) in
    let y = term (Y i t) (price (Y i t)) in
    let s = term (S i t) (price (S i t)) in
    let rs = owing_terms m i t (price (R i t)) in
    let cell : IsCell m i t = (low, high, t_low, t_high) in
    All-cons P x (y ∷ (s ∷ rs)) cell (All-cons P y (s ∷ rs) cell (All-cons P s rs cell (owing_columns m (is_owing m i t) price i t refl low high t_low t_high)))))

-- what they add to at a feasible plan
abbrev pub as_times : (Column → ℕ) → Column → ℤ
as_times price c = pos (price c)

owing_when : (t n : ℕ) (some : Bool) → 1 ≤ t → t < n → some ≡ true → (nat_le 1 t && (nat_lt t n && some)) ≡ true
owing_when t n some t_low t_high is = grind (arith, t_low, t_high, is)

none_owed : (m : Problem) (p : Plan) → IsFeasible m p → (i t : ℕ) → 1 ≤ i → i ≤ item_count m → 1 ≤ t → t ≤ m.periods → is_owing m i t ≡ false → p.backlog i t ≡ 0
none_owed m p f i t low high t_low t_high no_column =
    let allowed = f.backlog i t low high t_low t_high in
    ⊎_elim
    (λ before. ⊎_elim
    (λ some. absurd (cc (sym no_column ∙ owing_when t m.periods (is_some (item_at m i).backlog_cost) t_low before some)))
    (λ none. allowed.0 none)
    (none_or (item_at m i).backlog_cost))
    (λ last. allowed.1 (omega (arith, last, t_high)))
    (cases_lt t m.periods)

owed_sum : (b : Bool) (p : Plan) (k i t : ℕ) → (b ≡ false → p.backlog i t ≡ 0) → sum_at (value_in p) (if b then term (R i t) (pos k) ∷ [] else []) ≡ pos (k * p.backlog i t)
owed_sum true p k i t none = omega (arith, linear)
owed_sum false p k i t none = omega (arith, linear, ap (λ n. pos (k * n)) (none refl))

module _ (m : Problem) (price : Column → ℕ) (p : Plan) (f : IsFeasible m p) where
  cell_sum : (i t : ℕ) → 1 ≤ i → i ≤ item_count m → 1 ≤ t → t ≤ m.periods → sum_at (value_in p) (priced_at m (as_times price) i t) ≡ pos (paid_at price p i t)
  cell_sum i t low high t_low t_high =
      omega (arith, linear, owed_sum (is_owing m i t) p (price (R i t)) i t (λ no_column. none_owed m p f i t low high t_low t_high no_column))

  item_sum : (i : ℕ) → 1 ≤ i → i ≤ item_count m → (n : ℕ) → n ≤ m.periods → sum_at (value_in p) (terms_to n (priced_at m (as_times price) i)) ≡ pos (sum_to n (paid_at price p i))
  item_sum i low high zero h = refl
  item_sum i low high (suc n) h =
      let here = priced_at m (as_times price) i in
      omega (arith, linear, sum_append (value_in p) (terms_to n here) (here (suc n)), item_sum i low high n (omega (arith, h)), cell_sum i (suc n) low high (omega arith) h)

  items_sum : (n : ℕ) → n ≤ item_count m → sum_at (value_in p) (terms_to n (λ i. terms_to m.periods (priced_at m (as_times price) i))) ≡ pos (sum_to n (λ i. sum_to m.periods (paid_at price p i)))
  items_sum zero h = refl
  items_sum (suc n) h =
      let here = λ (i : ℕ). terms_to m.periods (priced_at m (as_times price) i) in
      omega (arith, linear, sum_append (value_in p) (terms_to n here) (here (suc n)), items_sum n (omega (arith, h)), item_sum (suc n) (omega arith) h m.periods (omega arith))

  -- the row that says so
  abbrev pub priced_row : LinRow
  priced_row = record { terms = all_priced m (as_times price); right = pos (paid m price p); equal = false }

  pub costs_bound : SumsBoundPlans → (rows : List LinRow) (times : List ℤ) (den : ℕ) → AreSigned rows times → AreOfProblem m rows → AreReduced m rows times den price → AllHold (whole_point (value_in p)) rows → (right_sum rows times +ℤ pos (paid m price p)) ≤ℤ (pos den *ℤ pos (cost m p))
  costs_bound bound rows times den signed columns reduced hold =
      let row = priced_row in
      let most = bound m (row ∷ rows) (pos 1 ∷ times) den
      ((λ e. omega (arith, linear)), signed)
      (all_columns m (as_times price), columns)
      (λ c has. omega (arith, linear, one_mul (coefficient row.terms c), all_most m (as_times price) c (omega (arith, linear)), reduced c has))
      p f
      (omega (arith, linear, items_sum (item_count m) (omega arith), mul_one row.right), hold) in
      omega (arith, linear, most, one_mul row.right)

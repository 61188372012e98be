-- The columns of an echelon's rows rise, and the model has them.
use Rattle.std.proofs.Common.{◌≡◌, ◌≤◌, ◌<◌, ◌+◌, ◌-◌, ◌*◌, ◌^◌, ◌∙◌, ⊎_elim, ℕ, zero, suc, refl, sym, ap, arith, true, List, [], ◌∷◌, ◌++◌}
use Rattle.std.specs.Prelude.{pos}
use Rattle.std.specs.List.{All}
use Rattle.std.proofs.lemmas.Bool.{cases_Bool}
use Rattle.std.proofs.lemmas.List.Elements.{All-append, All-cons, All-head, All-tail, All-nil}
use Rattle.lot_sizing.specs.Problem.{Problem, item_count}
use Rattle.echelon.specs.declared.net.EchelonItem.{EchelonItem}
use Rattle.echelon.specs.Views.{IsEchelonWithinBounds}
use Rattle.lin_rows.specs.declared.column.Column.{Column}
use Rattle.lin_rows.specs.declared.column.Column.TheVariants.{X, Y, S, R}
use Rattle.lin_rows.specs.declared.row.Term.{Term}
use Rattle.lin_rows.specs.Columns.{IsColumn, order_of, order_at}
use Rattle.lin_rows.specs.Rows.{AreTerms}
use Rattle.lin_rows.specs.Base.{is_some_term, some_terms, term}
use Rattle.lin_rows.proofs.Terms.{RiseTo, all_one, all_to, are_terms, rise_append, rise_to}
use Rattle.echelon_rows.specs.Rows.{Echelon, cells_to, cost_terms, echelon_in, owed_times, owes, periods_to}
use Rattle.echelon_rows.specs.Plans.{AreColumnsOf, IsOfItem}
use Rattle.echelon_rows.proofs.Ways.{owed_none, owes_back, owes_before}

-- a lower start
rise_from_here : (ts : List Term) (lower low high : ℕ) → lower ≤ low → RiseTo low ts high → RiseTo lower ts high
rise_from_here [] lower low high h x = omega (arith, h, x)
rise_from_here (a ∷ ts) lower low high h x = (omega (arith, h, x.0), x.1)

-- one column of a kind and an item, period by period
pub periods_rise : (kind i T : ℕ) (c : ℕ → Column) (k : ℕ → ℕ) (low high : ℕ) → T < 2 ^ 32 - 1 → ((t : ℕ) → order_of (c t) ≡ order_at kind i t) → low ≤ order_at kind i 0 → order_at kind (i + 1) 0 ≤ high → RiseTo low (periods_to T (λ t. term (c t) (pos (k t)))) high
periods_rise kind i T c k low high small each above below =
    rise_from_here (periods_to T (λ t. term (c t) (pos (k t)))) low (order_at kind i 0) high above
    (rise_to T (λ t. term (c t) (pos (k t)) ∷ []) (order_at kind i 0) 1 high
    (λ t t_low t_high. (omega (arith, each t), omega (arith, each t)))
    (omega (arith, small, below)))

-- and item by item
pub items_rise : (kind n T : ℕ) (c : ℕ → ℕ → Column) (k : ℕ → ℕ → ℕ) (low high : ℕ) → T < 2 ^ 32 - 1 → ((j t : ℕ) → order_of (c j t) ≡ order_at kind j t) → low ≤ order_at kind 1 0 → order_at kind (n + 1) 0 ≤ high → RiseTo low (cells_to n T (λ j t. term (c j t) (pos (k j t)))) high
items_rise kind zero T c k low high small each above below = omega (arith, above, below)
items_rise kind (suc n) T c k low high small each above below =
    let f = λ (j t : ℕ). term (c j t) (pos (k j t)) in
    rise_append (cells_to n T f) (periods_to T (f (suc n))) low (order_at kind (n + 1) 0) high
    (items_rise kind n T c k low (order_at kind (n + 1) 0) small each above (omega arith))
    (periods_rise kind (suc n) T (c (suc n)) (k (suc n)) (order_at kind (n + 1) 0) high small (each (suc n)) (omega arith) (omega (arith, below)))

-- numbers of 32 bits
pub record IsSmall (e : Echelon) : Type 0 where
  pub item : e.item < 2 ^ 32
  pub items : e.items < 2 ^ 32 - 1
  pub periods : e.asked.periods < 2 ^ 32 - 1

pub small_echelon : (e : EchelonItem) → IsEchelonWithinBounds e → IsSmall (echelon_in e)
small_echelon e within = record {
  item = omega (arith, within.item.1, within.items);
  items = omega (arith, within.items);
  periods = omega (arith, within.periods);
}

cost_rise : (e : Echelon) → IsSmall e → (setup unit hold back : ℕ → ℕ) → AreTerms 0 (some_terms (cost_terms e setup unit hold back))
cost_rise e small setup unit hold back =
    let i = e.item in
    let T = e.asked.periods in
    let n = e.items in
    let xs = periods_to T (λ t. term (X i t) (pos (unit t))) in
    let ys = periods_to T (λ t. term (Y i t) (pos (setup t))) in
    let ks = λ (j t : ℕ). hold t * e.weight j in
    let kr = λ (j t : ℕ). back t * owed_times e j t in
    let ss = cells_to n T (λ j t. term (S j t) (pos (ks j t))) in
    let rs = cells_to n T (λ j t. term (R j t) (pos (kr j t))) in
    are_terms (xs ++ (ys ++ (ss ++ rs))) 0 (4 * 2 ^ 64)
    (rise_append xs (ys ++ (ss ++ rs)) 0 (2 ^ 64) (4 * 2 ^ 64)
    (periods_rise 0 i T (λ t. X i t) unit 0 (2 ^ 64) small.periods (λ t. refl) (omega arith) (omega (arith, small.item)))
    (rise_append ys (ss ++ rs) (2 ^ 64) (2 * 2 ^ 64) (4 * 2 ^ 64)
    (periods_rise 1 i T (λ t. Y i t) setup (2 ^ 64) (2 * 2 ^ 64) small.periods (λ t. refl) (omega arith) (omega (arith, small.item)))
    (rise_append ss rs (2 * 2 ^ 64) (3 * 2 ^ 64) (4 * 2 ^ 64)
    (items_rise 2 n T (λ j t. S j t) ks (2 * 2 ^ 64) (3 * 2 ^ 64) small.periods (λ j t. refl) (omega arith) (omega (arith, small.items)))
    (items_rise 3 n T (λ j t. R j t) kr (3 * 2 ^ 64) (4 * 2 ^ 64) small.periods (λ j t. refl) (omega arith) (omega (arith, small.items))))))

pub cost_terms_rise : (e : EchelonItem) → IsEchelonWithinBounds e → (setup unit hold back : ℕ → ℕ) → AreTerms 0 (some_terms (cost_terms (echelon_in e) setup unit hold back))
cost_terms_rise e within setup unit hold back = cost_rise (echelon_in e) (small_echelon e within) setup unit hold back

-- each term that counts is of a column of the model
abbrev pub Counts : Problem → Term → Type 0
Counts m a = is_some_term a.times ≡ true → IsColumn m a.column

abbrev pub Exists : Problem → Term → Type 0
Exists m a = IsColumn m a.column

pub some_exist : (m : Problem) (ts : List Term) → All (Counts m) ts → All (Exists m) (some_terms ts)
some_exist m [] each = All-nil (Exists m)
some_exist m (a ∷ ts) each =
    let rest = some_exist m ts (All-tail (Counts m) a ts each) in
    ⊎_elim
    (λ some. rw some (All-cons (Exists m) a (some_terms ts) (All-head (Counts m) a ts each some) rest))
    (λ none. rw none rest)
    (cases_Bool (is_some_term a.times))

pub periods_each : (P : Term → Type 0) (T : ℕ) (f : ℕ → Term) → ((t : ℕ) → 1 ≤ t → t ≤ T → P (f t)) → All P (periods_to T f)
periods_each P T f each = all_to P T (λ t. f t ∷ []) (λ t low high. all_one P (f t) (each t low high))

pub items_each : (P : Term → Type 0) (n T : ℕ) (f : ℕ → ℕ → Term) → ((j t : ℕ) → 1 ≤ j → j ≤ n → 1 ≤ t → t ≤ T → P (f j t)) → All P (cells_to n T f)
items_each P zero T f each = All-nil P
items_each P (suc n) T f each = All-append P (cells_to n T f) (periods_to T (f (suc n))) (items_each P n T f (λ j t low high t_low t_high. each j t low (omega (arith, high)) t_low t_high)) (periods_each P T (f (suc n)) (λ t t_low t_high. each (suc n) t (omega arith) (omega arith) t_low t_high))

none_counts : (n : ℕ) → n ≡ 0 → is_some_term (pos n) ≡ true → ⊥
none_counts n is some = cc (sym (ap (λ k. is_some_term (pos k)) is) ∙ some)

-- a backlog that counts is a column
pub owed_counts : (m : Problem) (weight : ℕ → ℕ → ℕ) (i : ℕ) (e : EchelonItem) → IsOfItem m weight i e → (j t k : ℕ) → 1 ≤ j → j ≤ item_count m → 1 ≤ t → t ≤ m.periods → is_some_term (pos (k * owed_times (echelon_in e) j t)) ≡ true → IsColumn m (R j t)
owed_counts m weight i e of j t k low high t_low t_high some =
    let E = echelon_in e in
    let is = of.echelon in
    ⊎_elim
    (λ yes. ((low, high, t_low, t_high), omega (arith, owes_before t E.asked.periods (E.back j) yes, is.demand.size), (is.backs.each j low high).0 (owes_back t E.asked.periods (E.back j) yes)))
    (λ no. absurd (none_counts (k * owed_times E j t) (omega (arith, ap (λ x. k * x) (owed_none E j t no))) some))
    (cases_Bool (owes E j t))

pub cost_terms_exist : (e : EchelonItem) (setup unit hold back : ℕ → ℕ) → AreColumnsOf e (some_terms (cost_terms (echelon_in e) setup unit hold back))
cost_terms_exist e setup unit hold back m weight i of =
    let E = echelon_in e in
    let is = of.echelon in
    let T = E.asked.periods in
    let i_low : 1 ≤ e.item = omega (arith, is.item, of.low) in
    let i_high : e.item ≤ item_count m = omega (arith, is.item, of.high) in
    let last : T ≤ m.periods = omega (arith, is.demand.size) in
    some_exist m (cost_terms E setup unit hold back)
    (All-append (Counts m) (periods_to T (λ t. term (X E.item t) (pos (unit t)))) _ (periods_each (Counts m) T _ (λ t t_low t_high _. (i_low, i_high, t_low, omega (arith, t_high, last))))
    (All-append (Counts m) (periods_to T (λ t. term (Y E.item t) (pos (setup t)))) _ (periods_each (Counts m) T _ (λ t t_low t_high _. (i_low, i_high, t_low, omega (arith, t_high, last))))
    (All-append (Counts m) (cells_to E.items T (λ j t. term (S j t) (pos (hold t * E.weight j)))) _ (items_each (Counts m) E.items T _ (λ j t j_low j_high t_low t_high _. (j_low, omega (arith, j_high, is.weights.size), t_low, omega (arith, t_high, last))))
    (items_each (Counts m) E.items T _ (λ j t j_low j_high t_low t_high. owed_counts m weight i e of j t (back t) j_low (omega (arith, j_high, is.weights.size)) t_low (omega (arith, t_high, last)))))))

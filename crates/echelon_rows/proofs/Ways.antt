-- In a plan in which it balances an echelon goes a way, by the columns of the linear model.
use Rattle.std.proofs.Common.{◌≡◌, ◌≤◌, ◌<◌, ◌-◌, ◌*◌, ◌∙◌, ◌⊎◌, ⊎_elim, inl, inr, ℕ, zero, suc, refl, sym, ap, arith, Bool, true, false, List, length}
use Rattle.std.specs.Prelude.{◌&&◌, nat_le, nat_lt, if◌then◌else◌, Option, Some, None, IsNone, is_some}
use Rattle.std.proofs.lemmas.Bool.{cases_lt, cases_Bool}
use Rattle.lot_sizing.specs.Problem.{Problem, entry, item_at, item_count}
use Rattle.lot_sizing.specs.Plan.{Plan, IsFeasible}
use Rattle.lot_sizing.proofs.Sums.{sum_to-same, sum_to-zero}
use Rattle.echelon.specs.declared.net.EchelonItem.{EchelonItem}
use Rattle.echelon.specs.Views.{asked_of_echelon, marked}
use Rattle.echelon.specs.Weights.{IsEchelonOf}
use Rattle.echelon.specs.Balance.{backlog_in, stock_in}
use Rattle.lin_rows.specs.declared.column.Column.TheVariants.{R}
use Rattle.lin_rows.specs.Columns.{value_in}
use Rattle.lin_rows.specs.Rows.{Values}
use Rattle.valid_inequalities.specs.Trajectory.{IsTrajectory}
use Rattle.echelon_rows.specs.Rows.{Echelon, backlog_at, echelon_in, owed_times, owes, stock_at, trajectory_at}
use Rattle.echelon_rows.specs.Plans.{IsOfItem, IsPlanOf}

owes_low : (t n : ℕ) (some : Bool) → (nat_le 1 t && (nat_lt t n && some)) ≡ true → 1 ≤ t
owes_low t n some is = grind (arith, is)

pub owes_back : (t n : ℕ) (some : Bool) → (nat_le 1 t && (nat_lt t n && some)) ≡ true → some ≡ true
owes_back t n some is = grind (arith, is)

pub owes_before : (t n : ℕ) (some : Bool) → (nat_le 1 t && (nat_lt t n && some)) ≡ true → t < n
owes_before t n some is = grind (arith, is)

owes_when : (t n : ℕ) (some : Bool) → 1 ≤ t → t < n → some ≡ true → (nat_le 1 t && (nat_lt t n && some)) ≡ true
owes_when t n some low high is = grind (arith, low, high, is)

some_or_none : (o : Option (List ℕ)) → (is_some o ≡ true) ⊎ IsNone o
some_or_none None = inr refl
some_or_none (Some x) = inl refl

owed_all : (e : Echelon) (j t : ℕ) → owes e j t ≡ true → owed_times e j t ≡ e.weight j
owed_all e j t is = ap (λ b. if b then e.weight j else 0) is

pub owed_none : (e : Echelon) (j t : ℕ) → owes e j t ≡ false → owed_times e j t ≡ 0
owed_none e j t is = ap (λ b. if b then e.weight j else 0) is

-- before the first period nothing is owed by a column
none_before : (e : Echelon) (j : ℕ) → owed_times e j 0 ≡ 0
none_before e j = ⊎_elim (λ yes. absurd (omega (arith, owes_low 0 e.asked.periods (e.back j) yes))) (λ no. owed_none e j 0 no) (cases_Bool (owes e j 0))

pub nothing_before : (e : Echelon) (v : Values) → backlog_at e v 0 ≡ 0
nothing_before e v = sum_to-same e.items (λ j. owed_times e j 0 * v (R j 0)) (λ _. 0) (λ j low high. omega (arith, ap (λ k. k * v (R j 0)) (none_before e j))) ∙ sum_to-zero e.items

-- a backlog that is no column is 0
owed_is : (m : Problem) (weight : ℕ → ℕ → ℕ) (i : ℕ) (e : EchelonItem) → IsEchelonOf m weight i e → (p : Plan) → IsFeasible m p → (j t : ℕ) → 1 ≤ j → j ≤ item_count m → 1 ≤ t → t ≤ m.periods → owed_times (echelon_in e) j t * p.backlog j t ≡ entry e.weights.items j * p.backlog j t
owed_is m weight i e is p f j t low high t_low t_high =
    let E = echelon_in e in
    let allowed = f.backlog j t low high t_low t_high in
    ⊎_elim
    (λ yes. ap (λ k. k * p.backlog j t) (owed_all E j t yes))
    (λ no.
    let none : p.backlog j t ≡ 0 =
    ⊎_elim
    (λ before. ⊎_elim
    (λ some. cc (sym no ∙ owes_when t (length e.demand.items) (marked e.backs.items j) t_low (omega (arith, before, is.demand.size)) ((is.backs.each j low high).1 some)))
    (λ free. allowed.0 free)
    (some_or_none (item_at m j).backlog_cost))
    (λ last. allowed.1 (omega (arith, last, t_high)))
    (cases_lt t m.periods) in
    omega (arith, ap (λ k. owed_times E j t * k) none, ap (λ k. entry e.weights.items j * k) none))
    (cases_Bool (owes E j t))

backlog_is : (m : Problem) (weight : ℕ → ℕ → ℕ) (i : ℕ) (e : EchelonItem) → IsEchelonOf m weight i e → (p : Plan) → IsFeasible m p → (t : ℕ) → t ≤ m.periods → backlog_at (echelon_in e) (value_in p) t ≡ backlog_in p e t
backlog_is m weight i e is p f zero h =
    let E = echelon_in e in
    omega (arith, nothing_before E (value_in p), sum_to-same E.items (λ j. E.weight j * 0) (λ _. 0) (λ j low high. omega arith), sum_to-zero E.items)
backlog_is m weight i e is p f (suc t) h =
    let E = echelon_in e in
    sum_to-same E.items (λ j. owed_times E j (suc t) * p.backlog j (suc t)) (λ j. E.weight j * p.backlog j (suc t)) (λ j low high. owed_is m weight i e is p f j (suc t) low (omega (arith, high, is.weights.size)) (omega arith) h)

stock_is : (m : Problem) (e : EchelonItem) (p : Plan) → stock_in m p e 0 ≡ e.opening → (t : ℕ) → stock_at (echelon_in e) (value_in p) t ≡ stock_in m p e t
stock_is m e p opening zero = sym opening
stock_is m e p opening (suc t) = refl

pub echelon_goes : (m : Problem) (weight : ℕ → ℕ → ℕ) (i : ℕ) (e : EchelonItem) → IsOfItem m weight i e → (p : Plan) → IsPlanOf m e p → IsTrajectory (asked_of_echelon e) e.backlogged (trajectory_at (echelon_in e) (value_in p))
echelon_goes m weight i e of p plan =
    let E = echelon_in e in
    let is = of.echelon in
    let f = plan.feasible in
    let b = plan.balanced in
    let T = length e.demand.items in
    let size : T ≡ m.periods = is.demand.size in
    let stock = stock_is m e p b.opening in
    let owed : (t : ℕ) → t ≤ T → backlog_at E (value_in p) t ≡ backlog_in p e t = λ t high. backlog_is m weight i e is p f t (omega (arith, high, size)) in
    record {
      opening = refl;
      nothing_owed = nothing_before E (value_in p);
      balance = λ t low high. omega (arith, b.balance t low high, stock (t - 1), stock t, owed (t - 1) (omega (arith, high)), owed t high);
      setup = λ t low high. omega (arith, f.setup i t of.low of.high low (omega (arith, high, size)), ap (λ k. p.setup k t) is.item);
      made = λ t low high made. ap (λ k. p.setup k t) is.item ∙ f.made i t of.low of.high low (omega (arith, high, size)) (omega (arith, made, ap (λ k. p.make k t) is.item));
      in_time = λ free t low high. owed t high ∙ b.in_time free t high;
      settled = owed T (omega arith) ∙ b.settled;
      end_stock = omega (arith, b.end_stock, stock T);
    }

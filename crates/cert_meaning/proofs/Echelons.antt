-- The echelon of a lead-free item goes a way that balances, and its rows have columns of the problem.
use Rattle.std.proofs.Common.{◌≡◌, ◌≤◌, ◌<◌, ◌-◌, ◌*◌, ◌∙◌, ◌⊎◌, ⊎_elim, inl, inr, ℕ, zero, suc, refl, sym, ap, arith, Bool, true, false, List}
use Rattle.std.specs.Prelude.{◌&&◌, nat_le, nat_lt, if◌then◌else◌, pos, Option, Some, None, IsNone, is_some}
use Rattle.std.specs.List.{All}
use Rattle.std.proofs.lemmas.Bool.{cases_eq, cases_lt, cases_Bool}
use Rattle.std.proofs.lemmas.List.Elements.{All-append}
use Rattle.std.proofs.Math.Nat.{mul-le-mul_left}
use Rattle.lot_sizing.specs.Sums.{sum_to}
use Rattle.lot_sizing.specs.Problem.{Problem, item_at, item_count}
use Rattle.lot_sizing.specs.Plan.{Plan, IsFeasible, stock_after}
use Rattle.lot_sizing.specs.Bill.{AreWeights, bill_of}
use Rattle.lot_sizing.specs.Echelon.{echelon_backlog, echelon_stock}
use Rattle.lot_sizing.specs.Laws.{EchelonsBalance}
use Rattle.lot_sizing.specs.Totals.{IsRanking}
use Rattle.lot_sizing.proofs.Plans.{stock_after_some}
use Rattle.lot_sizing.proofs.Sums.{sum_to-le, sum_to-same, sum_to-zero}
use Rattle.lin_rows.specs.declared.column.Column.TheVariants.{X, Y, S, R}
use Rattle.lin_rows.specs.Base.{is_some_term, some_terms, term}
use Rattle.lin_rows.specs.Columns.{IsColumn, value_in}
use Rattle.valid_inequalities.specs.Trajectory.{IsTrajectory}
use Rattle.echelon_rows.specs.Rows.{backlog_at, cells_to, cost_terms, owed_times, owes, periods_to, stock_at, trajectory_at}
use Rattle.echelon_rows.proofs.Shapes.{Counts, items_each, periods_each, some_exist}
use Rattle.echelon_rows.proofs.Ways.{nothing_before, owed_none, owes_back, owes_before}
use Rattle.ls_cuts.specs.Rows.{Periods, backlog_times, ls_terms, setup_times, unit_times}
use Rattle.cert_meaning.specs.CutRows.{HasEchelon, backs_in, echelon_at}

owes_low : (t n : ℕ) (some : Bool) → (nat_le 1 t && (nat_lt t n && some)) ≡ true → 1 ≤ t
owes_low t n some is = grind (arith, is)

owes_when : (t n : ℕ) (some : Bool) → 1 ≤ t → t < n → some ≡ true → (nat_le 1 t && (nat_lt t n && some)) ≡ true
owes_when t n some low high is = grind (arith, low, high, is)

some_or_none : (o : Option (List ℕ)) → (is_some o ≡ true) ⊎ IsNone o
some_or_none None = inr refl
some_or_none (Some x) = inl refl

nothing : (n : ℕ) (f v : ℕ → ℕ) → ((j : ℕ) → 1 ≤ j → j ≤ n → f j ≡ 0) → sum_to n (λ j. f j * v j) ≡ 0
nothing n f v none = sum_to-same n (λ j. f j * v j) (λ _. 0) (λ j low high. omega (arith, ap (λ k. k * v j) (none j low high))) ∙ sum_to-zero n

-- each of the numbers of a sum is at most the sum
pub one_of : (n : ℕ) (f : ℕ → ℕ) (j : ℕ) → 1 ≤ j → j ≤ n → f j ≤ sum_to n f
one_of zero f j low high = absurd (omega (arith, low, high))
one_of (suc n) f j low high =
    ⊎_elim
    (λ last. omega (arith, ap f last))
    (λ before. omega (arith, one_of n f j low (omega (arith, high, before))))
    (cases_eq j (suc n))

not_less : (n : ℕ) → nat_lt 0 n ≡ false → n ≡ 0
not_less n is = grind (arith, is)

none_counts : (n : ℕ) → n ≡ 0 → is_some_term (pos n) ≡ true → ⊥
none_counts n is some = cc (sym (ap (λ k. is_some_term (pos k)) is) ∙ some)

module _ (m : Problem) (weight : ℕ → ℕ → ℕ) (i : ℕ) where
  -- a backlog that is a column weighs as much as its item
  owed_all : (j t : ℕ) → owes (echelon_at m weight i) j t ≡ true → owed_times (echelon_at m weight i) j t ≡ weight i j
  owed_all j t is = ap (λ b. if b then weight i j else 0) is

  stock_is : (p : Plan) (t : ℕ) → stock_at (echelon_at m weight i) (value_in p) t ≡ echelon_stock m weight p i t
  stock_is p zero = refl
  stock_is p (suc t) = refl

  none_owed : (j t : ℕ) → (1 ≤ t → t < m.periods → ⊥) → owed_times (echelon_at m weight i) j t ≡ 0
  none_owed j t out =
      let E = echelon_at m weight i in
      ⊎_elim (λ yes. absurd (out (owes_low t m.periods (E.back j) yes) (owes_before t m.periods (E.back j) yes))) (λ no. owed_none E j t no) (cases_Bool (owes E j t))

  -- a backlog that is no column is 0
  owed_is : (p : Plan) → IsFeasible m p → (j t : ℕ) → 1 ≤ j → j ≤ item_count m → 1 ≤ t → t ≤ m.periods → owed_times (echelon_at m weight i) j t * p.backlog j t ≡ weight i j * p.backlog j t
  owed_is p f j t low high t_low t_high =
      let E = echelon_at m weight i in
      let allowed = f.backlog j t low high t_low t_high in
      ⊎_elim
      (λ yes. ap (λ k. k * p.backlog j t) (owed_all j t yes))
      (λ no.
      let none : p.backlog j t ≡ 0 =
      ⊎_elim
      (λ before. ⊎_elim
      (λ some. cc (sym no ∙ owes_when t m.periods (E.back j) t_low before some))
      (λ free. allowed.0 free)
      (some_or_none (item_at m j).backlog_cost))
      (λ last. allowed.1 (omega (arith, last, t_high)))
      (cases_lt t m.periods) in
      omega (arith, ap (λ k. owed_times E j t * k) none, ap (λ k. weight i j * k) none))
      (cases_Bool (owes E j t))

  backlog_is : (p : Plan) → IsFeasible m p → (t : ℕ) → t ≤ m.periods → backlog_at (echelon_at m weight i) (value_in p) t ≡ echelon_backlog m weight p i t
  backlog_is p f zero h = omega (arith, nothing_before (echelon_at m weight i) (value_in p), sum_to-same (item_count m) (λ j. weight i j * 0) (λ _. 0) (λ j low high. omega arith), sum_to-zero (item_count m))
  backlog_is p f (suc t) h = sum_to-same (item_count m) (λ j. owed_times (echelon_at m weight i) j (suc t) * p.backlog j (suc t)) (λ j. weight i j * p.backlog j (suc t)) (λ j low high. owed_is p f j (suc t) low high (omega arith) h)

  -- nothing is owed where no item that counts has a backlog cost
  free_times : (j t : ℕ) → (echelon_at m weight i).owing ≡ false → 1 ≤ j → j ≤ item_count m → owed_times (echelon_at m weight i) j t ≡ 0
  free_times j t free low high =
      let E = echelon_at m weight i in
      let back = λ (k : ℕ). if is_some (item_at m k).backlog_cost then weight i k else 0 in
      ⊎_elim
      (λ yes.
      let all = one_of (item_count m) back j low high in
      let own : back j ≡ weight i j = ap (λ b. if b then weight i j else 0) (owes_back t m.periods (E.back j) yes) in
      omega (arith, owed_all j t yes, all, own, not_less (backs_in m weight i) free))
      (λ no. owed_none E j t no)
      (cases_Bool (owes E j t))

  -- a backlog that a row takes is a column
  owed_counts : (j t k : ℕ) → 1 ≤ j → j ≤ item_count m → 1 ≤ t → t ≤ m.periods → is_some_term (pos (k * owed_times (echelon_at m weight i) j t)) ≡ true → IsColumn m (R j t)
  owed_counts j t k low high t_low t_high some =
      let E = echelon_at m weight i in
      ⊎_elim
      (λ yes. ((low, high, t_low, t_high), owes_before t m.periods (E.back j) yes, owes_back t m.periods (E.back j) yes))
      (λ no. absurd (none_counts (k * owed_times E j t) (omega (arith, ap (λ x. k * x) (owed_none E j t no))) some))
      (cases_Bool (owes E j t))

pub echelon_goes : EchelonsBalance → (m : Problem) (weight : ℕ → ℕ → ℕ) (rank : ℕ → ℕ) → AreWeights (bill_of m) weight → IsRanking m rank → 1 ≤ m.periods → (i : ℕ) → HasEchelon m weight i → (p : Plan) → IsFeasible m p → IsTrajectory (echelon_at m weight i).asked (echelon_at m weight i).owing (trajectory_at (echelon_at m weight i) (value_in p))
echelon_goes balance m weight rank are ranks some i has p f =
    let E = echelon_at m weight i in
    let n = item_count m in
    let T = m.periods in
    record {
      opening = refl;
      nothing_owed = nothing_before E (value_in p);
      balance = λ t t_low t_high.
          omega (
            arith,
            balance m weight rank are ranks p f i t has.low has.high t_low t_high has.lead_free,
            stock_is m weight i p (t - 1),
            stock_is m weight i p t,
            backlog_is m weight i p f (t - 1) (omega (arith, t_high)),
            backlog_is m weight i p f t t_high,
          );
      setup = λ t t_low t_high. f.setup i t has.low has.high t_low t_high;
      made = λ t t_low t_high made. f.made i t has.low has.high t_low t_high made;
      in_time = λ free t t_low t_high. nothing n (λ j. owed_times E j t) (λ j. p.backlog j t) (λ j j_low j_high. free_times m weight i j t free j_low j_high);
      settled = nothing n (λ j. owed_times E j T) (λ j. p.backlog j T) (λ j j_low j_high. none_owed m weight i j T (λ _ before. absurd (omega (arith, before))));
      end_stock =
          omega (
            arith,
            stock_is m weight i p T,
            sum_to-le n (λ j. weight i j * (item_at m j).end_min) (λ j. weight i j * stock_after m p j T) (λ j j_low j_high. mul-le-mul_left (weight i j) (omega (arith, (f.end_stock j j_low j_high).0, stock_after_some m p j T some))),
          );
    }

pub ls_exist : (m : Problem) (weight : ℕ → ℕ → ℕ) (i : ℕ) → 1 ≤ i → i ≤ item_count m → (l : ℕ) (chosen : Periods) → l ≤ m.periods → All (λ a. IsColumn m a.column) (some_terms (ls_terms (echelon_at m weight i) l chosen))
ls_exist m weight i low high l chosen last =
    let E = echelon_at m weight i in
    some_exist m (ls_terms E l chosen)
    (All-append (Counts m) (periods_to l (λ t. term (X i t) (pos (unit_times chosen t)))) _ (periods_each (Counts m) l _ (λ t t_low t_high _. (low, high, t_low, omega (arith, t_high, last))))
    (All-append (Counts m) (periods_to l (λ t. term (Y i t) (pos (setup_times E.asked l chosen t)))) _ (periods_each (Counts m) l _ (λ t t_low t_high _. (low, high, t_low, omega (arith, t_high, last))))
    (items_each (Counts m) (item_count m) l _ (λ j t j_low j_high t_low t_high. owed_counts m weight i j t (backlog_times l chosen t) j_low j_high t_low (omega (arith, t_high, last))))))

pub cost_exist : (m : Problem) (weight : ℕ → ℕ → ℕ) (i : ℕ) → 1 ≤ i → i ≤ item_count m → (setup unit hold back : ℕ → ℕ) → All (λ a. IsColumn m a.column) (some_terms (cost_terms (echelon_at m weight i) setup unit hold back))
cost_exist m weight i low high setup unit hold back =
    let E = echelon_at m weight i in
    let T = m.periods in
    some_exist m (cost_terms E setup unit hold back)
    (All-append (Counts m) (periods_to T (λ t. term (X i t) (pos (unit t)))) _ (periods_each (Counts m) T _ (λ t t_low t_high _. (low, high, t_low, t_high)))
    (All-append (Counts m) (periods_to T (λ t. term (Y i t) (pos (setup t)))) _ (periods_each (Counts m) T _ (λ t t_low t_high _. (low, high, t_low, t_high)))
    (All-append (Counts m) (cells_to (item_count m) T (λ j t. term (S j t) (pos (hold t * E.weight j)))) _ (items_each (Counts m) (item_count m) T _ (λ j t j_low j_high t_low t_high _. (j_low, j_high, t_low, t_high)))
    (items_each (Counts m) (item_count m) T _ (λ j t j_low j_high t_low t_high. owed_counts m weight i j t (back t) j_low j_high t_low t_high)))))

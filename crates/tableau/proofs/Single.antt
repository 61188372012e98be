-- A run by the least-index rule ends in one way.
use Rattle.std.proofs.Common.{◌≡◌, ◌≢◌, ◌≤◌, ◌<◌, ◌+◌, ◌-◌, ◌-ℤ◌, ◌∙◌, ⊎_elim, ℕ, zero, suc, sym, ap, subst, arith, List, length}
use Rattle.std.proofs.lemmas.Bool.{cases_eq, cases_lt}
use Rattle.std.proofs.lemmas.List.{ext_get_or}
use Rattle.std.specs.Prelude.{pos, if◌then◌else◌, ◌==◌}
use Rattle.algebra.proofs.Sums.{sum-same}
use Rattle.rational.specs.Rational.{ℚ, whole, inv_ℚ, neg_ℚ, ◌*ℚ◌, ◌-ℚ◌, ◌≤ℚ◌}
use Rattle.rational.proofs.Rationals as Q
use Rattle.rational.proofs.Rationals.{rational_ring}
use Rattle.frac128.specs.Limits.{divided_ℚ, Fits, SumFits}
use Rattle.tableau.specs.declared.outcome.Outcome.{Outcome}
use Rattle.tableau.specs.declared.outcome.Outcome.TheVariants as outcome
use Rattle.tableau.specs.Program.{Program, column_count, row_count, sum_ℚ, zero_ℚ}
use Rattle.tableau.specs.Dictionary.{Dictionary, IsPivoted, IsStart, basic_at, cell, factor_at, height, nonbasic_at, slack_of, width}
use Rattle.tableau.specs.Run.{IsCandidate, IsEntering, IsFittingStep, IsPrimalFeasible, IsLeaving, IsNegative, IsPositive, IsStep, OtherFits, RowFits, Runs, UpdateFits, ratio_at}
use Rattle.tableau.specs.Meaning.{IsBasis, coefficient_at, opposite_at, value_at}
use Rattle.tableau.specs.Steps.{HasNoneTo}
use Rattle.tableau.specs.Outcomes.{GoesOn, IsEmptyOf, IsLeastOf, IsOutcome, IsReached, IsRefused, number_at}
use Rattle.tableau.specs.Laws.{IsAlike, IsSameOutcome}
use Rattle.tableau.proofs.Steps.{run_is}

-- ---- alike dictionaries
pub turned : (d e : Dictionary) → IsAlike d e → IsAlike e d
turned d e a = record {
  some = omega (arith, a.some, a.columns);
  rows = sym a.rows;
  columns = sym a.columns;
  basics = λ i high. sym (a.basics i (omega (arith, high, a.rows)));
  nonbasics = λ t high. sym (a.nonbasics t (omega (arith, high, a.columns)));
  cells = λ i t i_high t_high. sym (a.cells i t (omega (arith, i_high, a.rows)) (omega (arith, t_high, a.columns)));
}

starts_alike : (p : Program) (d e : Dictionary) → IsStart p d → IsStart p e → IsAlike d e
starts_alike p d e a b = record {
  some = omega (arith, a.columns);
  rows = omega (arith, a.rows, b.rows);
  columns = omega (arith, a.columns, b.columns);
  basics = λ i high. ⊎_elim (λ none. ap (basic_at e) none ∙ b.first ∙ sym a.first ∙ ap (basic_at d) (sym none)) (λ some. ap (basic_at e) (sym (before i some)) ∙ b.slacks (i - 1) (omega (arith, high, some, a.rows)) ∙ sym (a.slacks (i - 1) (omega (arith, high, some, a.rows))) ∙ ap (basic_at d) (before i some)) (cases_eq i 0);
  nonbasics = λ t high. b.names t (omega (arith, high, a.columns, b.columns)) ∙ sym (a.names t high);
  cells = λ i t i_high t_high. ⊎_elim
      (λ first. ap (λ h. cell e h t) first ∙ ⊎_elim (λ none. ap (cell e 0) none ∙ b.value ∙ sym a.value ∙ ap (cell d 0) (sym none)) (λ some. ap (cell e 0) (sym (before t some)) ∙ b.costs (t - 1) (omega (arith, t_high, some, a.columns)) ∙ sym (a.costs (t - 1) (omega (arith, t_high, some, a.columns))) ∙ ap (cell d 0) (before t some)) (cases_eq t 0) ∙ ap (λ h. cell d h t) (sym first))
      (λ later. ap (λ h. cell e h t) (sym (before i later)) ∙ ⊎_elim
      (λ none. ap (cell e (i - 1 + 1)) none ∙ b.constants (i - 1) (omega (arith, i_high, later, a.rows)) ∙ sym (a.constants (i - 1) (omega (arith, i_high, later, a.rows))) ∙ ap (cell d (i - 1 + 1)) (sym none))
      (λ some. ap (cell e (i - 1 + 1)) (sym (before t some)) ∙ b.entries (i - 1) (t - 1) (omega (arith, i_high, later, a.rows)) (omega (arith, t_high, some, a.columns)) ∙ sym (a.entries (i - 1) (t - 1) (omega (arith, i_high, later, a.rows)) (omega (arith, t_high, some, a.columns))) ∙ ap (cell d (i - 1 + 1)) (before t some))
      (cases_eq t 0) ∙ ap (λ h. cell d h t) (before i later))
      (cases_eq i 0);
}
  where
    before : (i : ℕ) → i ≢ 0 → i - 1 + 1 ≡ i
    before i some = omega (arith, some)

module _ (d e : Dictionary) (a : IsAlike d e) where
  first : (i : ℕ) → i < height d → cell e i 0 ≡ cell d i 0
  first i high = a.cells i 0 high a.some

  pub leaving_alike : (k : ℕ) → IsLeaving e k → IsLeaving d k
  leaving_alike k l =
      let high : k < height d = omega (arith, l.high, a.rows) in
      record {
        low = l.low;
        high = high;
        negative = subst IsNegative (first k high) l.negative;
        least = λ i i_low i_high negative. omega (arith, l.least i i_low (omega (arith, i_high, a.rows)) (subst IsNegative (sym (first i i_high)) negative), a.basics k high, a.basics i i_high);
      }

  pub candidate_alike : (k t : ℕ) → k < height d → IsCandidate e k t → IsCandidate d k t
  candidate_alike k t high c =
      let t_high : t < width d = omega (arith, c.high, a.columns) in
      record { low = c.low; high = t_high; positive = subst IsPositive (a.cells k t high t_high) c.positive }

  ratio_alike : (k t : ℕ) → k < height d → t < width d → ratio_at e k t ≡ ratio_at d k t
  ratio_alike k t high t_high = ap (λ x. divided_ℚ x (cell e k t)) (a.cells 0 t (omega (arith, high)) t_high) ∙ ap (divided_ℚ (cell d 0 t)) (a.cells k t high t_high)

  pub entering_alike : (k j : ℕ) → k < height d → IsEntering e k j → IsEntering d k j
  entering_alike k j high enter =
      let mine = candidate_alike k j high enter.candidate in
      record {
        candidate = mine;
        least = λ t c. subst (λ x. x ≤ℚ ratio_at d k t) (ratio_alike k j high mine.high) (subst (λ x. ratio_at e k j ≤ℚ x) (ratio_alike k t high c.high) (enter.least t (back k t high c)));
        ties = λ t c same. omega (arith, enter.ties t (back k t high c) (ratio_alike k j high mine.high ∙ same ∙ sym (ratio_alike k t high c.high)), a.nonbasics j mine.high, a.nonbasics t c.high);
      }
    where
      back : (k t : ℕ) → k < height d → IsCandidate d k t → IsCandidate e k t
      back k t high c = record { low = c.low; high = omega (arith, c.high, a.columns); positive = subst IsPositive (sym (a.cells k t high c.high)) c.positive }

  pub pivots_alike : (k j : ℕ) → k < height d → j < width d → (f g : Dictionary) → IsPivoted d k j f → IsPivoted e k j g → IsAlike f g
  pivots_alike k j k_high j_high f g p q = record {
    some = omega (arith, p.columns, a.some);
    rows = omega (arith, p.rows, q.rows, a.rows);
    columns = omega (arith, p.columns, q.columns, a.columns);
    basics = λ i i_high.
        let high : i < height d = omega (arith, i_high, p.rows) in
        ⊎_elim (λ is. ap (basic_at g) is ∙ q.entered ∙ a.nonbasics j j_high ∙ sym p.entered ∙ ap (basic_at f) (sym is)) (λ apart. q.basics i (omega (arith, high, a.rows)) apart ∙ a.basics i high ∙ sym (p.basics i high apart)) (cases_eq i k);
    nonbasics = λ t t_high.
        let high : t < width d = omega (arith, t_high, p.columns) in
        ⊎_elim (λ is. ap (nonbasic_at g) is ∙ q.left ∙ a.basics k k_high ∙ sym p.left ∙ ap (nonbasic_at f) (sym is)) (λ apart. q.nonbasics t (omega (arith, high, a.columns)) apart ∙ a.nonbasics t high ∙ sym (p.nonbasics t high apart)) (cases_eq t j);
    cells = λ i t i_f t_f.
        let i_high : i < height d = omega (arith, i_f, p.rows) in
        let t_high : t < width d = omega (arith, t_f, p.columns) in
        ⊎_elim (in_row i t t_high) (in_other i t i_high t_high) (cases_eq i k);
  }
    where
      corner : cell e k j ≡ cell d k j
      corner = a.cells k j k_high j_high

      in_row : (i t : ℕ) → t < width d → i ≡ k → cell g i t ≡ cell f i t
      in_row i t t_high is =
          ap (λ h. cell g h t) is ∙ ⊎_elim
          (λ same. ap (cell g k) same ∙ q.corner ∙ ap inv_ℚ corner ∙ sym p.corner ∙ ap (cell f k) (sym same))
          (λ apart. q.pivot_row t (omega (arith, t_high, a.columns)) apart ∙ ap (λ x. divided_ℚ x (neg_ℚ (cell e k j))) (a.cells k t k_high t_high) ∙ ap (λ x. divided_ℚ (cell d k t) (neg_ℚ x)) corner ∙ sym (p.pivot_row t t_high apart))
          (cases_eq t j) ∙ ap (λ h. cell f h t) (sym is)

      factor : (i : ℕ) → i < height d → factor_at e k j i ≡ factor_at d k j i
      factor i high = ap (λ x. divided_ℚ x (cell e k j)) (a.cells i j high j_high) ∙ ap (divided_ℚ (cell d i j)) corner

      in_other : (i t : ℕ) → i < height d → t < width d → i ≢ k → cell g i t ≡ cell f i t
      in_other i t i_high t_high row = ⊎_elim
          (λ same. ap (cell g i) same ∙ q.pivot_column i (omega (arith, i_high, a.rows)) row ∙ factor i i_high ∙ sym (p.pivot_column i i_high row) ∙ ap (cell f i) (sym same))
          (λ apart. q.others i t (omega (arith, i_high, a.rows)) (omega (arith, t_high, a.columns)) row apart ∙ ap (λ x. x -ℚ factor_at e k j i *ℚ cell e k t) (a.cells i t i_high t_high) ∙ ap (λ x. cell d i t -ℚ x *ℚ cell e k t) (factor i i_high) ∙ ap (λ x. cell d i t -ℚ factor_at d k j i *ℚ x) (a.cells k t k_high t_high) ∙ sym (p.others i t i_high t_high row apart))
          (cases_eq t j)

-- ---- one row leaves, and one column enters
pub one_leaving : (p : Program) (d : Dictionary) → IsBasis p d → (k h : ℕ) → IsLeaving d k → IsLeaving d h → k ≡ h
one_leaving p d names k h a b = names.rows_apart k h a.high b.high (omega (arith, a.least h b.low b.high b.negative, b.least k a.low a.high a.negative))

one_entering : (p : Program) (d : Dictionary) → IsBasis p d → (k j t : ℕ) → IsEntering d k j → IsEntering d k t → j ≡ t
one_entering p d names k j t a b =
    let same : ratio_at d k j ≡ ratio_at d k t = Q.le_antisym (ratio_at d k j) (ratio_at d k t) (a.least t b.candidate) (b.least j a.candidate) in
    names.columns_apart j t a.candidate.high b.candidate.high (omega (arith, a.ties t b.candidate same, b.ties j a.candidate (sym same)))

steps_alike : (p : Program) (d e f g : Dictionary) → IsBasis p d → IsAlike d e → IsStep IsFittingStep d f → IsStep IsFittingStep e g → IsAlike f g
steps_alike p d e f g names a s t =
    let row : s.row ≡ t.row = one_leaving p d names s.row t.row s.chosen.step.leaving (leaving_alike d e a t.row t.chosen.step.leaving) in
    let theirs : IsEntering d s.row t.column = entering_alike d e a s.row t.column s.chosen.step.leaving.high (subst (λ k. IsEntering e k t.column) (sym row) t.chosen.step.entering) in
    let column : s.column ≡ t.column = one_entering p d names s.row s.column t.column s.chosen.step.entering theirs in
    pivots_alike d e a s.row s.column s.chosen.step.leaving.high s.chosen.step.entering.candidate.high f g s.pivoted (subst (λ k. IsPivoted e k s.column g) (sym row) (subst (λ j. IsPivoted e t.row j g) (sym column) t.pivoted))

pub runs_alike : (p : Program) (n : ℕ) (d e : Dictionary) → Runs IsFittingStep p n d → Runs IsFittingStep p n e → IsAlike d e
runs_alike p zero d e a b = starts_alike p d e a b
runs_alike p (suc n) f g a b =
    let (d, before, step) = a in
    let (e, other_before, other_step) = b in
    steps_alike p d e f g (run_is p n d before).names (runs_alike p n d e before other_before) step other_step

-- ---- ends
-- a run that goes on has made a step from each dictionary before
prefix : (p : Program) (n m : ℕ) (e : Dictionary) → n < m → Runs IsFittingStep p m e → (d : Dictionary) × (f : Dictionary) × Runs IsFittingStep p n d × IsStep IsFittingStep d f
prefix p n zero e less run = absurd (omega (arith, less))
prefix p n (suc m) e less run =
    let (d, before, step) = run in
    ⊎_elim (λ same. (d, e, subst (λ k. Runs IsFittingStep p k d) (sym same) before, step)) (λ apart. prefix p n m d (omega (arith, less, apart)) before) (cases_eq n m)

-- no pivot can be made from here
abbrev StandsStill : Dictionary → Type 0
StandsStill d = (k t : ℕ) → IsLeaving d k → IsCandidate d k t → ⊥

step_goes_on : (d e : Dictionary) → IsStep IsFittingStep d e → GoesOn d
step_goes_on d e s = record { row = s.row; leaving = s.chosen.step.leaving; column = s.column; candidate = s.chosen.step.entering.candidate }

last_stands : (d : Dictionary) → IsPrimalFeasible d → StandsStill d
last_stands d last k t leaving candidate = leaving.negative (last k leaving.low leaving.high)

empty_stands : (p : Program) (d : Dictionary) → IsBasis p d → (k : ℕ) → IsLeaving d k → HasNoneTo d k (width d) → StandsStill d
empty_stands p d names k mine none h t leaving candidate =
    let c : IsCandidate d k t = subst (λ i. IsCandidate d i t) (one_leaving p d names h k leaving mine) candidate in
    none t c.high c

stays : (d e : Dictionary) → IsAlike d e → StandsStill d → GoesOn e → ⊥
stays d e a still on =
    let l : IsLeaving d on.row = leaving_alike d e a on.row on.leaving in
    still on.row on.column l (candidate_alike d e a on.row on.column l.high on.candidate)

-- where a run goes on after so many pivots, it does so at every dictionary before
goes_on_before : (p : Program) (n m : ℕ) (d e : Dictionary) → n ≤ m → Runs IsFittingStep p n d → Runs IsFittingStep p m e → GoesOn e → StandsStill d → ⊥
goes_on_before p n m d e less before run on still = ⊎_elim
    (λ same. stays d e (runs_alike p n d e before (subst (λ k. Runs IsFittingStep p k e) (sym same) run)) still on)
    (λ apart.
    let (f, g, other, step) = prefix p n m e (omega (arith, less, apart)) run in
    stays d f (runs_alike p n d f before other) still (step_goes_on f g step))
    (cases_eq n m)

-- what fits in one fits in the other
module _ (d e : Dictionary) (a : IsAlike d e) (k j i t : ℕ) (k_high : k < height d) (j_high : j < width d) (i_high : i < height d) (t_high : t < width d) where
  corner : cell e k j ≡ cell d k j
  corner = a.cells k j k_high j_high

  in_row : cell e k t ≡ cell d k t
  in_row = a.cells k t k_high t_high

  in_column : cell e i j ≡ cell d i j
  in_column = a.cells i j i_high j_high

  same_factor : factor_at e k j i ≡ factor_at d k j i
  same_factor = ap (λ x. divided_ℚ x (cell e k j)) in_column ∙ ap (divided_ℚ (cell d i j)) corner

  row_fits : RowFits e k j t → RowFits d k j t
  row_fits fits =
      let (own, other) = fits in (
        λ same. subst (λ x. Fits (inv_ℚ x)) corner (own same),
        λ apart some. subst (λ x. Fits (divided_ℚ (cell d k t) (neg_ℚ x))) corner (subst (λ x. Fits (divided_ℚ x (neg_ℚ (cell e k j)))) in_row (other apart (λ none. some (sym in_row ∙ none)))),
      )

  other_fits : OtherFits e k j i t → OtherFits d k j i t
  other_fits fits = record {
    factor = λ same. subst (λ x. Fits x) same_factor (fits.factor same);
    product = λ apart some others. subst (λ x. Fits (factor_at d k j i *ℚ x)) in_row (subst (λ x. Fits (x *ℚ cell e k t)) same_factor (fits.product apart (λ none. some (sym in_column ∙ none)) (λ none. others (sym in_row ∙ none))));
    difference = λ apart some others. subst (λ x. SumFits ◌-ℤ◌ (cell d i t) (factor_at d k j i *ℚ x)) in_row (subst (λ x. SumFits ◌-ℤ◌ (cell d i t) (x *ℚ cell e k t)) same_factor (subst (λ x. SumFits ◌-ℤ◌ x (factor_at e k j i *ℚ cell e k t)) (a.cells i t i_high t_high) (fits.difference apart (λ none. some (sym in_column ∙ none)) (λ none. others (sym in_row ∙ none)))));
  }

  update_fits : UpdateFits e k j i t → UpdateFits d k j i t
  update_fits fits =
      let (row, other) = fits in
      (λ same. row_fits (row same), λ apart. other_fits (other apart))

-- no fitting step is made where something is refused
refused_stays : (p : Program) (d e f : Dictionary) → IsBasis p d → IsAlike d e → (row column : ℕ) → IsRefused d row column → IsStep IsFittingStep e f → ⊥
refused_stays p d e f names a row column r s = ⊎_elim
    (λ ratio.
    let (t, refused, number, place) = ratio in
    let c = refused.candidate in
    let theirs : IsCandidate e s.row t = subst (λ k. IsCandidate e k t) same_row (candidate_alike e d (turned d e a) k t (omega (arith, k_high, a.rows)) c) in
    refused.refused (subst (λ x. Fits x) (ratio_alike d e a k t k_high c.high) (subst (λ h. Fits (ratio_at e h t)) (sym same_row) (s.chosen.fits.ratios t theirs))))
    (λ update.
    let enters : IsEntering d s.row s.column = entering_alike d e a s.row s.column (omega (arith, k_high, same_row)) s.chosen.step.entering in
    let same_column : s.column ≡ update.pivot_column = one_entering p d names k s.column update.pivot_column (subst (λ h. IsEntering d h s.column) (sym same_row) enters) update.entering in
    let fits : UpdateFits e k update.pivot_column update.cell_row update.cell_column = subst (λ j. UpdateFits e k j update.cell_row update.cell_column) same_column (subst (λ h. UpdateFits e h s.column update.cell_row update.cell_column) (sym same_row) (s.chosen.fits.updates update.cell_row update.cell_column (omega (arith, update.row_high, a.rows)) (omega (arith, update.column_high, a.columns)))) in
    update.refused (update_fits d e a k update.pivot_column update.cell_row update.cell_column k_high update.entering.candidate.high update.row_high update.column_high fits))
    r.which
  where
    k : ℕ
    k = r.pivot_row

    k_high : k < height d
    k_high = r.leaving.high

    same_row : k ≡ s.row
    same_row = one_leaving p d names k s.row r.leaving (leaving_alike d e a s.row s.chosen.step.leaving)

pub stops : (p : Program) (pivots : ℕ) (d : Dictionary) → Runs IsFittingStep p pivots d → GoesOn d → (end : Outcome) → IsOutcome p pivots end → end ≡ outcome.Stopped pivots
stops p pivots d run on (outcome.Least point multipliers value) is =
    let (e, reached, least) = is in
    absurd (goes_on_before p reached.made pivots e d reached.few reached.run run on (last_stands e least.last))
stops p pivots d run on (outcome.Empty multipliers) is =
    let (e, reached, empty) = is in
    absurd (goes_on_before p reached.made pivots e d reached.few reached.run run on (empty_stands p e (run_is p reached.made e reached.run).names empty.row empty.leaving empty.none))
stops p pivots d run on (outcome.Stopped made) is =
    let (same, rest) = is in
    ap outcome.Stopped same
stops p pivots d run on (outcome.Passed pivot row column) is =
    let (made, next, few, rest) = is in
    let (e, before, refused) = rest in
    let (f, g, other, step) = prefix p made pivots d (omega (arith, next, few)) run in
    absurd (refused_stays p e f g (run_is p made e before).names (runs_alike p made e f before other) row column refused step)

-- ---- one outcome
-- no fitting step is made from here
abbrev Ends : Dictionary → Type 0
Ends d = (e f : Dictionary) → IsAlike d e → IsStep IsFittingStep e f → ⊥

standing_ends : (d : Dictionary) → StandsStill d → Ends d
standing_ends d still e f a step = stays d e a still (step_goes_on e f step)

ends_first : (p : Program) (n m : ℕ) (d e : Dictionary) → Runs IsFittingStep p n d → Ends d → Runs IsFittingStep p m e → n < m → ⊥
ends_first p n m d e run end other less =
    let (f, g, before, step) = prefix p n m e less other in
    end f g (runs_alike p n d f run before) step

one_end : (p : Program) (n m : ℕ) (d e : Dictionary) → Runs IsFittingStep p n d → Ends d → Runs IsFittingStep p m e → Ends e → n ≡ m
one_end p n m d e run end other also = ⊎_elim
    (λ same. same)
    (λ apart. absurd (⊎_elim
    (λ less. ends_first p n m d e run end other less)
    (λ more. ends_first p m n e d other also run (omega (arith, more, apart)))
    (cases_lt n m)))
    (cases_eq n m)

alike_ends : (p : Program) (n m : ℕ) (d e : Dictionary) → Runs IsFittingStep p n d → Ends d → Runs IsFittingStep p m e → Ends e → IsAlike d e
alike_ends p n m d e run end other also = runs_alike p n d e run (subst (λ k. Runs IsFittingStep p k e) (sym (one_end p n m d e run end other also)) other)

module _ (d e : Dictionary) (a : IsAlike d e) where
  value_alike : (v : ℕ) → value_at d v ≡ value_at e v
  value_alike v =
      sum-same rational_ring (height d) (λ i. if basic_at d i == v then cell d i 0 else zero_ℚ) (λ i. if basic_at e i == v then cell e i 0 else zero_ℚ) (λ i high. ap (λ n. if n == v then cell d i 0 else zero_ℚ) (sym (a.basics i high)) ∙ ap (λ x. if basic_at e i == v then x else zero_ℚ) (sym (a.cells i 0 high a.some)))
      ∙ ap (λ n. sum_ℚ n (λ i. if basic_at e i == v then cell e i 0 else zero_ℚ)) (sym a.rows)

  coefficient_alike : (i v : ℕ) → i < height d → coefficient_at d i v ≡ coefficient_at e i v
  coefficient_alike i v i_high =
      sum-same rational_ring (width d) (λ t. if nonbasic_at d t == v then cell d i t else zero_ℚ) (λ t. if nonbasic_at e t == v then cell e i t else zero_ℚ) (λ t high. ap (λ n. if n == v then cell d i t else zero_ℚ) (sym (a.nonbasics t high)) ∙ ap (λ x. if nonbasic_at e t == v then x else zero_ℚ) (sym (a.cells i t i_high high)))
      ∙ ap (λ n. sum_ℚ n (λ t. if nonbasic_at e t == v then cell e i t else zero_ℚ)) (sym a.columns)

  opposite_alike : (i v : ℕ) → i < height d → opposite_at d i v ≡ opposite_at e i v
  opposite_alike i v high = ap (λ n. (if n == v then whole (pos 1) else zero_ℚ) -ℚ coefficient_at d i v) (sym (a.basics i high)) ∙ ap (λ x. (if basic_at e i == v then whole (pos 1) else zero_ℚ) -ℚ x) (coefficient_alike i v high)

same_lists : (n : ℕ) (xs ys : List ℚ) → length xs ≡ n → length ys ≡ n → ((k : ℕ) → k < n → number_at xs k ≡ number_at ys k) → xs ≡ ys
same_lists n xs ys a b each = ext_get_or zero_ℚ xs ys (a ∙ sym b) (λ k less. each k (omega (arith, less, a)))

-- the row that leaves a refused dictionary has a candidate
refused_candidate : (d : Dictionary) (row column : ℕ) (r : IsRefused d row column) → (t : ℕ) × IsCandidate d r.pivot_row t
refused_candidate d row column r = ⊎_elim
    (λ ratio. let (t, refused, number, place) = ratio in (t, refused.candidate))
    (λ update. (update.pivot_column, update.entering.candidate))
    r.which

refused_goes_on : (d : Dictionary) (row column : ℕ) → IsRefused d row column → GoesOn d
refused_goes_on d row column r =
    let (t, candidate) = refused_candidate d row column r in
    record { row = r.pivot_row; leaving = r.leaving; column = t; candidate = candidate }

refused_ends : (p : Program) (n : ℕ) (d : Dictionary) (row column : ℕ) → Runs IsFittingStep p n d → IsRefused d row column → Ends d
refused_ends p n d row column run r e f a step = refused_stays p d e f (run_is p n d run).names a row column r step

module _ (p : Program) (pivots : ℕ) where
  least_least : (d e : Dictionary) (xs ys us ws : List ℚ) (x u : ℚ) → IsReached p pivots d → IsReached p pivots e → IsLeastOf p d xs ys x → IsLeastOf p e us ws u → (xs ≡ us) × (ys ≡ ws) × (x ≡ u)
  least_least d e xs ys us ws x u r s a b =
      let alike : IsAlike d e = alike_ends p r.made s.made d e r.run (standing_ends d (last_stands d a.last)) s.run (standing_ends e (last_stands e b.last)) in (
        same_lists (column_count p) xs us a.columns b.columns (λ c high. a.point c high ∙ value_alike d e alike (c + 1) ∙ sym (b.point c high)),
        same_lists (row_count p) ys ws a.rows b.rows (λ k high. a.multipliers k high ∙ coefficient_alike d e alike 0 (slack_of p k) (omega (arith, (run_is p r.made d r.run).names.rows)) ∙ sym (b.multipliers k high)),
        a.value ∙ sym (alike.cells 0 0 (omega (arith, (run_is p r.made d r.run).names.rows)) alike.some) ∙ sym b.value,
      )

  empty_still : (d : Dictionary) (ys : List ℚ) → IsReached p pivots d → IsEmptyOf p d ys → StandsStill d
  empty_still d ys r a = empty_stands p d (run_is p r.made d r.run).names a.row a.leaving a.none

  empty_empty : (d e : Dictionary) (ys ws : List ℚ) → IsReached p pivots d → IsReached p pivots e → IsEmptyOf p d ys → IsEmptyOf p e ws → ys ≡ ws
  empty_empty d e ys ws r s a b =
      let alike : IsAlike d e = alike_ends p r.made s.made d e r.run (standing_ends d (empty_still d ys r a)) s.run (standing_ends e (empty_still e ws s b)) in
      let row : a.row ≡ b.row = one_leaving p d (run_is p r.made d r.run).names a.row b.row a.leaving (leaving_alike d e alike b.row b.leaving) in
      same_lists (row_count p) ys ws a.rows b.rows (λ k high. a.multipliers k high ∙ opposite_alike d e alike a.row (slack_of p k) a.leaving.high ∙ ap (λ i. opposite_at e i (slack_of p k)) row ∙ sym (b.multipliers k high))

  least_empty : (d e : Dictionary) (ys : List ℚ) → IsReached p pivots d → IsReached p pivots e → IsPrimalFeasible d → IsEmptyOf p e ys → ⊥
  least_empty d e ys r s last b =
      let alike : IsAlike d e = alike_ends p r.made s.made d e r.run (standing_ends d (last_stands d last)) s.run (standing_ends e (empty_still e ys s b)) in
      let l : IsLeaving d b.row = leaving_alike d e alike b.row b.leaving in
      l.negative (last b.row l.low l.high)

  still_refused : (n m : ℕ) (d e : Dictionary) (row column : ℕ) → Runs IsFittingStep p n d → StandsStill d → Runs IsFittingStep p m e → IsRefused e row column → ⊥
  still_refused n m d e row column run still other r =
      stays d e (alike_ends p n m d e run (standing_ends d still) other (refused_ends p m e row column other r)) still (refused_goes_on e row column r)

  refused_refused : (n m : ℕ) (d e : Dictionary) (row column r c : ℕ) → Runs IsFittingStep p n d → IsRefused d row column → Runs IsFittingStep p m e → IsRefused e r c → n ≡ m
  refused_refused n m d e row column r c run a other b = one_end p n m d e run (refused_ends p n d row column run a) other (refused_ends p m e r c other b)

stopped_other : (p : Program) (pivots made : ℕ) (end : Outcome) → IsOutcome p pivots (outcome.Stopped made) → IsOutcome p pivots end → (end ≢ outcome.Stopped pivots) → ⊥
stopped_other p pivots made end x y other =
    let (same, rest) = x in
    let (d, run, on) = rest in
    other (stops p pivots d run on end y)

pub outcome_one : (p : Program) (pivots : ℕ) (a b : Outcome) → IsOutcome p pivots a → IsOutcome p pivots b → IsSameOutcome a b
outcome_one p pivots (outcome.Least point multipliers value) (outcome.Least others more cost) x y =
    let (d, r, a) = x in
    let (e, s, b) = y in
    least_least p pivots d e point.items multipliers.items others.items more.items value cost r s a b
outcome_one p pivots (outcome.Least point multipliers value) (outcome.Empty more) x y =
    let (d, r, a) = x in
    let (e, s, b) = y in
    least_empty p pivots d e more.items r s a.last b
outcome_one p pivots (outcome.Least point multipliers value) (outcome.Passed pivot row column) x y =
    let (d, r, a) = x in
    let (made, next, few, rest) = y in
    let (e, run, refused) = rest in
    still_refused p pivots r.made made d e row column r.run (last_stands d a.last) run refused
outcome_one p pivots (outcome.Empty more) (outcome.Least point multipliers value) x y =
    let (d, r, a) = x in
    let (e, s, b) = y in
    least_empty p pivots e d more.items s r b.last a
outcome_one p pivots (outcome.Empty multipliers) (outcome.Empty more) x y =
    let (d, r, a) = x in
    let (e, s, b) = y in
    empty_empty p pivots d e multipliers.items more.items r s a b
outcome_one p pivots (outcome.Empty more) (outcome.Passed pivot row column) x y =
    let (d, r, a) = x in
    let (made, next, few, rest) = y in
    let (e, run, refused) = rest in
    still_refused p pivots r.made made d e row column r.run (empty_still p pivots d more.items r a) run refused
outcome_one p pivots (outcome.Passed pivot row column) (outcome.Least point multipliers value) x y =
    let (d, r, a) = y in
    let (made, next, few, rest) = x in
    let (e, run, refused) = rest in
    still_refused p pivots r.made made d e row column r.run (last_stands d a.last) run refused
outcome_one p pivots (outcome.Passed pivot row column) (outcome.Empty more) x y =
    let (d, r, a) = y in
    let (made, next, few, rest) = x in
    let (e, run, refused) = rest in
    still_refused p pivots r.made made d e row column r.run (empty_still p pivots d more.items r a) run refused
outcome_one p pivots (outcome.Passed pivot row column) (outcome.Passed other r c) x y =
    let (n, next, few, rest) = x in
    let (d, run, refused) = rest in
    let (m, after, less, more) = y in
    let (e, also, too) = more in
    next ∙ ap (λ k. k + 1) (refused_refused p pivots n m d e row column r c run refused also too) ∙ sym after
outcome_one p pivots (outcome.Stopped made) (outcome.Stopped done) x y = x.0 ∙ sym y.0
outcome_one p pivots (outcome.Stopped made) (outcome.Least point multipliers value) x y = stopped_other p pivots made (outcome.Least point multipliers value) x y (λ e. cc e)
outcome_one p pivots (outcome.Stopped made) (outcome.Empty more) x y = stopped_other p pivots made (outcome.Empty more) x y (λ e. cc e)
outcome_one p pivots (outcome.Stopped made) (outcome.Passed pivot row column) x y = stopped_other p pivots made (outcome.Passed pivot row column) x y (λ e. cc e)
outcome_one p pivots (outcome.Least point multipliers value) (outcome.Stopped made) x y = stopped_other p pivots made (outcome.Least point multipliers value) y x (λ e. cc e)
outcome_one p pivots (outcome.Empty more) (outcome.Stopped made) x y = stopped_other p pivots made (outcome.Empty more) y x (λ e. cc e)
outcome_one p pivots (outcome.Passed pivot row column) (outcome.Stopped made) x y = stopped_other p pivots made (outcome.Passed pivot row column) y x (λ e. cc e)

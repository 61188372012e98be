-- The run of each program comes to its end, or to a number that doesn't fit.
use Rattle.std.proofs.Common.{◌≡◌, ◌≢◌, ◌≤◌, ◌<◌, ◌+◌, ◌-◌, ◌*◌, ◌/◌, ◌%◌, ◌^◌, ◌∙◌, ◌⊎◌, ⊎_elim, inl, inr, ℕ, zero, suc, refl, ap, arith, List, [], ◌∷◌, length, slice_index_or}
use Rattle.std.specs.Prelude.{min, slice_set, if◌then◌else◌, ◌==◌}
use Rattle.std.proofs.lemmas.List.{get_or-set_other, get_or-set_same, length-set}
use Rattle.std.proofs.lemmas.Nat.{div-mul-add, mod-mul-add, mul-add-lt}
use Rattle.rational.specs.Rational.{ℚ, inv_ℚ, neg_ℚ, ◌*ℚ◌, ◌-ℚ◌}
use Rattle.frac128.specs.Limits.{divided_ℚ}
use Rattle.tableau.specs.Program.{Program, column_count, cost_at, entry_at, right_at, row_count, zero_ℚ}
use Rattle.tableau.specs.Dictionary.{Dictionary, IsPivoted, IsStart, basic_at, cell, cost_of, factor_at, height, nonbasic_at, slack_of, width}
use Rattle.tableau.specs.Held.{values_of}
use Rattle.tableau.specs.Run.{IsFittingStep, IsPrimalFeasible, IsLeastIndex, IsLeaving, Runs}
use Rattle.tableau.specs.Steps.{HasNoneTo}
use Rattle.tableau.specs.Meaning.{coefficient_at, opposite_at, value_at}
use Rattle.tableau.specs.Stepwise.{HasEnded}
use Rattle.tableau.specs.Outcomes.{IsRefused}
use Rattle.tableau.proofs.Steps.{empty_certain, least_certain, run_is}
use Rattle.least_index.proofs.Numbers.{if_same, if_other}
use Rattle.least_index.proofs.Counts.{loosened as by_rule}
use Rattle.existence.specs.Runs.{HasProvedBest, HasProvedNone, RunsComeOut}
use Rattle.existence.proofs.Pivoting.{next_step}

-- ---- lists by their places

value_is : (n k : ℕ) (f : ℕ → ℚ) → k < n → slice_index_or (values_of n f) k zero_ℚ ≡ f k
unfolding values_of
value_is zero k f less = absurd (omega (arith, less))
value_is (suc n) zero f less = refl
value_is (suc n) (suc k) f less = value_is n k (λ j. f (suc j)) (omega (arith, less))

value_count : (n : ℕ) (f : ℕ → ℚ) → length (values_of n f) ≡ n
unfolding values_of
value_count zero f = refl
value_count (suc n) f = ap suc (value_count n (λ j. f (suc j)))

pub numbers_of : ℕ → (ℕ → ℕ) → List ℕ
numbers_of zero f = []
numbers_of (suc n) f = f 0 ∷ numbers_of n (λ k. f (suc k))

pub number_is : (n k : ℕ) (f : ℕ → ℕ) → k < n → slice_index_or (numbers_of n f) k 0 ≡ f k
unfolding numbers_of
number_is zero k f less = absurd (omega (arith, less))
number_is (suc n) zero f less = refl
number_is (suc n) (suc k) f less = number_is n k (λ j. f (suc j)) (omega (arith, less))

pub number_count : (n : ℕ) (f : ℕ → ℕ) → length (numbers_of n f) ≡ n
unfolding numbers_of
number_count zero f = refl
number_count (suc n) f = ap suc (number_count n (λ j. f (suc j)))

-- a dictionary of these names, with a number for each row and column
abbrev tabled : List ℕ → List ℕ → ℕ → ℕ → (ℕ → ℕ → ℚ) → Dictionary
tabled basic nonbasic h w f = record { basic = basic; nonbasic = nonbasic; cells = values_of (h * w) (λ n. f (n / w) (n % w)) }

turned : (a b : ℕ) → a * b ≡ b * a
turned a b = omega arith

cell_is : (basic nonbasic : List ℕ) (h w : ℕ) (f : ℕ → ℕ → ℚ) (i t : ℕ) → length nonbasic ≡ w → i < h → t < w → cell (tabled basic nonbasic h w f) i t ≡ f i t
cell_is basic nonbasic h w f i t size i_high t_high =
    ap (λ u. slice_index_or (values_of (h * w) (λ n. f (n / w) (n % w))) (i * u + t) zero_ℚ) size
    ∙ value_is (h * w) (i * w + t) (λ n. f (n / w) (n % w)) (omega (arith, mul-add-lt i w t h i_high t_high, turned h w))
    ∙ ap (λ x. f x ((i * w + t) % w)) (div-mul-add i w t t_high)
    ∙ ap (f i) (mod-mul-add i w t t_high)

-- ---- the first dictionary

module _ (p : Program) where
  start_row : ℕ → ℕ
  start_row i = if i == 0 then cost_of p else slack_of p (i - 1)

  start_cell : ℕ → ℕ → ℚ
  start_cell i t =
      if i == 0 then (if t == 0 then zero_ℚ else cost_at p (t - 1)) else (if t == 0 then neg_ℚ (right_at p (i - 1)) else entry_at p (i - 1) (t - 1))

  first : Dictionary
  first = tabled (numbers_of (row_count p + 1) start_row) (numbers_of (column_count p + 1) (λ t. t)) (row_count p + 1) (column_count p + 1) start_cell

  more : (k : ℕ) → k + 1 ≢ 0
  more k e = omega (arith, e)

  back : (k : ℕ) → k + 1 - 1 ≡ k
  back k = omega arith

  -- its cells are these
  first_cell : (i t : ℕ) → i < row_count p + 1 → t < column_count p + 1 → cell first i t ≡ start_cell i t
  unfolding first
  first_cell i t i_high t_high = cell_is (numbers_of (row_count p + 1) start_row) (numbers_of (column_count p + 1) (λ u. u)) (row_count p + 1) (column_count p + 1) start_cell i t (number_count (column_count p + 1) (λ u. u)) i_high t_high

  is_start : IsStart p first
  unfolding first start_row start_cell
  is_start = record {
    rows = number_count (row_count p + 1) start_row;
    columns = number_count (column_count p + 1) (λ t. t);
    first = number_is (row_count p + 1) 0 start_row (omega arith);
    slacks = λ k less. number_is (row_count p + 1) (k + 1) start_row (omega (arith, less)) ∙ if_other (k + 1) 0 (cost_of p) (slack_of p (k + 1 - 1)) (more k) ∙ ap (slack_of p) (back k);
    names = λ t less. number_is (column_count p + 1) t (λ u. u) (omega (arith, less, number_count (column_count p + 1) (λ u. u)));
    value = first_cell 0 0 (omega arith) (omega arith);
    costs = λ c less. first_cell 0 (c + 1) (omega arith) (omega (arith, less)) ∙ if_other (c + 1) 0 zero_ℚ (cost_at p (c + 1 - 1)) (more c) ∙ ap (cost_at p) (back c);
    constants = λ k less.
        first_cell (k + 1) 0 (omega (arith, less)) (omega arith)
        ∙ if_other (k + 1) 0 zero_ℚ (neg_ℚ (right_at p (k + 1 - 1))) (more k)
        ∙ ap (λ j. neg_ℚ (right_at p j)) (back k);
    entries = λ k c less few.
        first_cell (k + 1) (c + 1) (omega (arith, less)) (omega (arith, few))
        ∙ if_other (k + 1) 0 (if c + 1 == 0 then zero_ℚ else cost_at p (c + 1 - 1)) (if c + 1 == 0 then neg_ℚ (right_at p (k + 1 - 1)) else entry_at p (k + 1 - 1) (c + 1 - 1)) (more k)
        ∙ if_other (c + 1) 0 (neg_ℚ (right_at p (k + 1 - 1))) (entry_at p (k + 1 - 1) (c + 1 - 1)) (more c)
        ∙ ap (λ j. entry_at p j (c + 1 - 1)) (back k)
        ∙ ap (entry_at p k) (back c);
  }

-- ---- a pivot

module _ (d : Dictionary) (k j : ℕ) (k_high : k < height d) (j_high : j < width d) where
  -- the pivot row, and another one
  row_cell : ℕ → ℚ
  row_cell t = if t == j then inv_ℚ (cell d k j) else divided_ℚ (cell d k t) (neg_ℚ (cell d k j))

  other_cell : ℕ → ℕ → ℚ
  other_cell i t = if t == j then factor_at d k j i else cell d i t -ℚ factor_at d k j i *ℚ cell d k t

  next_cell : ℕ → ℕ → ℚ
  next_cell i t = if i == k then row_cell t else other_cell i t

  next : Dictionary
  next = tabled (slice_set d.basic k (nonbasic_at d j)) (slice_set d.nonbasic j (basic_at d k)) (height d) (width d) next_cell

  cell_next : (i t : ℕ) → i < height d → t < width d → cell next i t ≡ next_cell i t
  unfolding next
  cell_next i t i_high t_high = cell_is (slice_set d.basic k (nonbasic_at d j)) (slice_set d.nonbasic j (basic_at d k)) (height d) (width d) next_cell i t (length-set d.nonbasic j (basic_at d k)) i_high t_high

  in_row : (t : ℕ) → t < width d → cell next k t ≡ row_cell t
  unfolding next_cell
  in_row t t_high = cell_next k t k_high t_high ∙ if_same k k (row_cell t) (other_cell k t) refl

  in_other : (i t : ℕ) → i < height d → t < width d → i ≢ k → cell next i t ≡ other_cell i t
  unfolding next_cell
  in_other i t i_high t_high apart = cell_next i t i_high t_high ∙ if_other i k (row_cell t) (other_cell i t) apart

  is_pivoted : IsPivoted d k j next
  unfolding next row_cell other_cell
  is_pivoted = record {
    rows = length-set d.basic k (nonbasic_at d j);
    columns = length-set d.nonbasic j (basic_at d k);
    entered = get_or-set_same d.basic k (nonbasic_at d j) 0 k_high;
    left = get_or-set_same d.nonbasic j (basic_at d k) 0 j_high;
    basics = λ i i_high apart. get_or-set_other d.basic k i (nonbasic_at d j) 0 apart;
    nonbasics = λ t t_high apart. get_or-set_other d.nonbasic j t (basic_at d k) 0 apart;
    corner = in_row j j_high ∙ if_same j j (inv_ℚ (cell d k j)) (divided_ℚ (cell d k j) (neg_ℚ (cell d k j))) refl;
    pivot_row = λ t t_high apart. in_row t t_high ∙ if_other t j (inv_ℚ (cell d k j)) (divided_ℚ (cell d k t) (neg_ℚ (cell d k j))) apart;
    pivot_column = λ i i_high apart. in_other i j i_high j_high apart ∙ if_same j j (factor_at d k j i) (cell d i j -ℚ factor_at d k j i *ℚ cell d k j) refl;
    others = λ i t i_high t_high apart beside. in_other i t i_high t_high apart ∙ if_other t j (factor_at d k j i) (cell d i t -ℚ factor_at d k j i *ℚ cell d k t) beside;
  }

-- ---- the run

-- a run has ended at a dictionary
abbrev Ends : Program → Type 0
Ends p = (made : ℕ) × (d : Dictionary) × Runs IsFittingStep p made d × HasEnded d

-- its next pivot is refused there
abbrev Stops : Program → Type 0
Stops p = (made : ℕ) × (d : Dictionary) × Runs IsFittingStep p made d × ((row : ℕ) × (column : ℕ) × IsRefused d row column)

abbrev IsShort : Program → ℕ → Type 0
IsShort p bound = (n : ℕ) (d : Dictionary) → Runs IsFittingStep p n d → n < bound

run_on : (p : Program) (bound : ℕ) → IsShort p bound → (left n : ℕ) (d : Dictionary) → Runs IsFittingStep p n d → bound ≤ n + left → Ends p ⊎ Stops p
run_on p bound short zero n d runs room = absurd (omega (arith, room, short n d runs))
run_on p bound short (suc left) n d runs room =
    ⊎_elim
    (λ ended. inl (n, d, runs, ended))
    (λ more. ⊎_elim
    (λ refused. inr (n, d, runs, refused))
    (λ fits.
    let k = fits.0 in
    let j = fits.1 in
    let step = fits.2.step in
    run_on p bound short left (suc n) (next d k j step.leaving.high step.entering.candidate.high)
    (d, runs, record { row = k; column = j; chosen = fits.2; pivoted = is_pivoted d k j step.leaving.high step.entering.candidate.high })
    (omega (arith, room)))
    more)
    (next_step d)

best_there : (p : Program) (n : ℕ) (d : Dictionary) → Runs IsFittingStep p n d → IsPrimalFeasible d → HasProvedBest p
best_there p n d runs last =
    let xs = values_of (column_count p) (λ c. value_at d (c + 1)) in
    let ys = values_of (row_count p) (λ k. coefficient_at d 0 (slack_of p k)) in (
      λ c. slice_index_or xs c zero_ℚ,
      λ k. slice_index_or ys k zero_ℚ,
      cell d 0 0,
      least_certain p d xs ys (cell d 0 0) (run_is p n d runs) (record {
        last = last;
        columns = value_count (column_count p) (λ c. value_at d (c + 1));
        point = λ c less. value_is (column_count p) c (λ c. value_at d (c + 1)) less;
        rows = value_count (row_count p) (λ k. coefficient_at d 0 (slack_of p k));
        multipliers = λ k less. value_is (row_count p) k (λ k. coefficient_at d 0 (slack_of p k)) less;
        value = refl;
      }),
    )

none_there : (p : Program) (n : ℕ) (d : Dictionary) → Runs IsFittingStep p n d → (k : ℕ) → IsLeaving d k → HasNoneTo d k (width d) → HasProvedNone p
none_there p n d runs k leaving none =
    let ys = values_of (row_count p) (λ h. opposite_at d k (slack_of p h)) in (
      λ h. slice_index_or ys h zero_ℚ,
      empty_certain p d ys (run_is p n d runs) (record {
        row = k;
        leaving = leaving;
        none = none;
        rows = value_count (row_count p) (λ h. opposite_at d k (slack_of p h));
        multipliers = λ h less. value_is (row_count p) h (λ h. opposite_at d k (slack_of p h)) less;
      }),
    )

-- where the runs of each program are short
pub runs_out : (bound : Program → ℕ) → ((p : Program) (n : ℕ) (d : Dictionary) → Runs IsLeastIndex p n d → n < bound p) → RunsComeOut
runs_out bound short p =
    ⊎_elim
    (λ ends. ⊎_elim
    (λ last. inl (best_there p ends.0 ends.1 ends.2 last))
    (λ empty. inr (inl (none_there p ends.0 ends.1 ends.2 empty.0 empty.1 empty.2)))
    ends.3)
    (λ stops. inr (inr (min (stops.0 + 1) (2 ^ 32 - 1), stops.3.0, stops.3.1, (stops.0, refl, (stops.1, stops.2, stops.3.2)))))
    (run_on p (bound p) (λ n d runs. short p n d (by_rule p n d runs)) (bound p) 0 (first p) (is_start p) (omega arith))

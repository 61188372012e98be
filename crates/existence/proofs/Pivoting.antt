-- Of fractions it is decided how they stand and whether they fit, and of a dictionary which pivot comes next.
use Rattle.std.proofs.Common.{◌≡◌, ◌≤◌, ◌<◌, ◌∙◌, ◌⊎◌, ⊎_elim, inl, inr, ℕ, zero, suc, refl, sym, subst, arith}
use Rattle.std.specs.Prelude.{ℤ, ◌*ℤ◌, ◌-ℤ◌, ◌^◌, unsigned_abs}
use Rattle.std.specs.declared.cmp.Ordering.{Ordering}
use Rattle.std.specs.declared.cmp.Ordering.TheVariants.{Less, Equal, Greater}
use Rattle.std.proofs.lemmas.Bool.{cases_eq, cases_lt}
use Rattle.rational.specs.Rational.{ℚ, IsOrder, cmp_ℚ, inv_ℚ, neg_ℚ, ◌*ℚ◌, ◌≤ℚ◌}
use Rattle.rational.proofs.Orders.{order_of}
use Rattle.rational.proofs.Rationals.{le_refl, le_total, le_trans}
use Rattle.frac128.specs.Limits.{AlignFits, Fits, IsSmall, SumFits, divided_ℚ, own_part}
use Rattle.tableau.specs.Program.{zero_ℚ}
use Rattle.tableau.specs.Dictionary.{Dictionary, basic_at, cell, factor_at, height, nonbasic_at, width}
use Rattle.tableau.specs.Run.{IsCandidate, IsEntering, IsFittingStep, IsPrimalFeasible, IsLeaving, IsNegative, OtherFits, RatioFits, RowFits, UpdateFits, ratio_at}
use Rattle.tableau.specs.Steps.{HasNoneTo, IsRefusedRatio}
use Rattle.tableau.specs.Stepwise.{HasEnded}
use Rattle.tableau.specs.Outcomes.{IsRefused, row_number}
use Rattle.existence.proofs.Deciding.{Decided, both_or_not, if_or_not, lt_or_not, le_or_not, not_or_not}

-- ---- fractions

le_by : (x y : ℚ) → (x ≤ℚ y) ⊎ (y ≤ℚ x) → (o : Ordering) → IsOrder x y o → Decided (x ≤ℚ y)
le_by x y (inl le) o is = inl le
le_by x y (inr ge) Less is = absurd (is ge)
le_by x y (inr ge) Equal is = inl (subst (λ z. x ≤ℚ z) is (le_refl x))
le_by x y (inr ge) Greater is = inr is

pub le_or_not_ℚ : (x y : ℚ) → Decided (x ≤ℚ y)
le_or_not_ℚ x y = le_by x y (le_total x y) (cmp_ℚ x y) (order_of x y)

same_by : (x y : ℚ) → (o : Ordering) → IsOrder x y o → Decided (x ≡ y)
same_by x y Less is = inr (λ same. is (subst (λ z. z ≤ℚ x) same (le_refl x)))
same_by x y Equal is = inl is
same_by x y Greater is = inr (λ same. is (subst (λ z. x ≤ℚ z) same (le_refl x)))

pub same_or_not : (x y : ℚ) → Decided (x ≡ y)
same_or_not x y = same_by x y (cmp_ℚ x y) (order_of x y)

small_or_not : (z : ℤ) → Decided (IsSmall z)
small_or_not z = lt_or_not (unsigned_abs z) (2 ^ 127)

fits_or_not : (x : ℚ) → Decided (Fits x)
fits_or_not x = ⊎_elim
    (λ both. inl (record { num = both.0; den = both.1 }))
    (λ no. inr (λ fits. no (fits.num, fits.den)))
    (both_or_not (small_or_not x.num) (small_or_not x.den))

align_or_not : (a b c d : ℤ) → Decided (AlignFits a b c d)
align_or_not a b c d = ⊎_elim
    (λ all. inl (record { left = all.0.0; right = all.0.1; den = all.1 }))
    (λ no. inr (λ fits. no ((fits.left, fits.right), fits.den)))
    (both_or_not (both_or_not (small_or_not (a *ℤ own_part d b)) (small_or_not (c *ℤ own_part b d))) (small_or_not (b *ℤ own_part d b)))

sum_or_not : (step : ℤ → ℤ → ℤ) (x y : ℚ) → Decided (SumFits step x y)
sum_or_not step x y = ⊎_elim
    (λ both. inl (record { parts = both.0; total = both.1 }))
    (λ no. inr (λ fits. no (fits.parts, fits.total)))
    (both_or_not (align_or_not x.num x.den y.num y.den) (small_or_not (step (x.num *ℤ own_part y.den x.den) (y.num *ℤ own_part x.den y.den))))

-- ---- places

-- it holds at each place below n, or not at one
pub all_below : (R : ℕ → Type 0) → ((i : ℕ) → Decided (R i)) → (n : ℕ) → ((i : ℕ) → i < n → R i) ⊎ ((i : ℕ) × (i < n) × (R i → ⊥))
all_below R decided zero = inl (λ i less. absurd (omega (arith, less)))
all_below R decided (suc n) =
    ⊎_elim
    (λ before. ⊎_elim
    (λ here. inl (λ i less. ⊎_elim
    (λ same. subst R (sym same) here)
    (λ apart. before i (omega (arith, less, apart)))
    (cases_eq i n)))
    (λ no. inr (n, omega arith, no))
    (decided n))
    (λ found. inr (found.0, omega (arith, found.1), found.2))
    (all_below R decided n)

-- at each pair of places, or not at one
pub rows_below : (R : ℕ → ℕ → Type 0) → ((i t : ℕ) → Decided (R i t)) → (h w : ℕ) → ((i t : ℕ) → i < h → t < w → R i t) ⊎ ((i : ℕ) × (t : ℕ) × (i < h) × (t < w) × (R i t → ⊥))
rows_below R decided zero w = inl (λ i t less high. absurd (omega (arith, less)))
rows_below R decided (suc h) w =
    ⊎_elim
    (λ before. ⊎_elim
    (λ row. inl (λ i t less high. ⊎_elim
    (λ same. subst (λ k. R k t) (sym same) (row t high))
    (λ apart. before i t (omega (arith, less, apart)) high)
    (cases_eq i h)))
    (λ found. inr (h, found.0, omega arith, found.1, found.2))
    (all_below (R h) (decided h) w))
    (λ found. inr (found.0, found.1, omega (arith, found.2), found.3, found.4))
    (rows_below R decided h w)

-- of the good places below n one of the least value, by an order in which any two numbers stand
module _ (A : Type 0) (le : A → A → Type 0) (itself : (x : A) → le x x) (total : (x y : A) → le x y ⊎ le y x) (trans : (x y z : A) → le x y → le y z → le x z) (Good : ℕ → Type 0) (decided : (i : ℕ) → Decided (Good i)) (f : ℕ → A) where
  abbrev HasLeastGood : ℕ → Type 0
  HasLeastGood n = (k : ℕ) × (k < n) × Good k × ((i : ℕ) → i < n → Good i → le (f k) (f i))

  abbrev HasNoGood : ℕ → Type 0
  HasNoGood n = (i : ℕ) → i < n → Good i → ⊥

  -- the last place is good
  with_last : (n : ℕ) → Good n → HasNoGood n ⊎ HasLeastGood n → HasLeastGood (suc n)
  with_last n good (inl none) = (
    n,
    omega arith,
    good,
    λ i less also. ⊎_elim
        (λ same. subst (λ j. le (f n) (f j)) (sym same) (itself (f n)))
        (λ apart. absurd (none i (omega (arith, less, apart)) also))
        (cases_eq i n),
  )
  with_last n good (inr found) = ⊎_elim
      (λ stays. (
        found.0,
        omega (arith, found.1),
        found.2,
        λ i less also. ⊎_elim
            (λ same. subst (λ j. le (f found.0) (f j)) (sym same) stays)
            (λ apart. found.3 i (omega (arith, less, apart)) also)
            (cases_eq i n),
      ))
      (λ lower. (
        n,
        omega arith,
        good,
        λ i less also. ⊎_elim
            (λ same. subst (λ j. le (f n) (f j)) (sym same) (itself (f n)))
            (λ apart. trans (f n) (f found.0) (f i) lower (found.3 i (omega (arith, less, apart)) also))
            (cases_eq i n),
      ))
      (total (f found.0) (f n))

  without_last : (n : ℕ) → (Good n → ⊥) → HasNoGood n ⊎ HasLeastGood n → HasNoGood (suc n) ⊎ HasLeastGood (suc n)
  without_last n bad (inl none) = inl (λ i less also. ⊎_elim (λ same. bad (subst Good same also)) (λ apart. none i (omega (arith, less, apart)) also) (cases_eq i n))
  without_last n bad (inr found) = inr (found.0, omega (arith, found.1), found.2, λ i less also. ⊎_elim (λ same. absurd (bad (subst Good same also))) (λ apart. found.3 i (omega (arith, less, apart)) also) (cases_eq i n))

  pub least_or_none : (n : ℕ) → HasNoGood n ⊎ HasLeastGood n
  least_or_none zero = inl (λ i less also. omega (arith, less))
  least_or_none (suc n) = ⊎_elim (λ good. inr (with_last n good (least_or_none n))) (λ no. without_last n no (least_or_none n)) (decided n)

le_trans_ℕ : (x y z : ℕ) → x ≤ y → y ≤ z → x ≤ z
le_trans_ℕ x y z h i = omega (arith, h, i)

le_total_ℕ : (x y : ℕ) → (x ≤ y) ⊎ (y ≤ x)
le_total_ℕ x y = ⊎_elim (λ less. inl (omega (arith, less))) (λ no. inr (omega (arith, no))) (cases_lt x y)

-- ---- the next pivot

module _ (d : Dictionary) where
  -- a row whose constant is negative
  abbrev Leaves : ℕ → Type 0
  Leaves i = (1 ≤ i) × IsNegative (cell d i 0)

  leaves_or_not : (i : ℕ) → Decided (Leaves i)
  leaves_or_not i = both_or_not (le_or_not 1 i) (not_or_not (le_or_not_ℚ zero_ℚ (cell d i 0)))

  nonnegative : (x : ℚ) → (IsNegative x → ⊥) → zero_ℚ ≤ℚ x
  nonnegative x never = ⊎_elim (λ le. le) (λ not. absurd (never not)) (le_or_not_ℚ zero_ℚ x)

  last_or_leaving : IsPrimalFeasible d ⊎ ((k : ℕ) × IsLeaving d k)
  last_or_leaving = ⊎_elim
      (λ none. inl (λ i low high. nonnegative (cell d i 0) (λ negative. none i high (low, negative))))
      (λ found. inr (found.0, record { low = found.2.0; high = found.1; negative = found.2.1; least = λ i low high negative. found.3 i high (low, negative) }))
      (least_or_none ℕ (λ x y. x ≤ y) (λ x. omega arith) le_total_ℕ le_trans_ℕ Leaves leaves_or_not (basic_at d) (height d))

  module _ (k : ℕ) where
    candidate_or_not : (t : ℕ) → Decided (IsCandidate d k t)
    candidate_or_not t = ⊎_elim
        (λ all. inl (record { low = all.0.0; high = all.0.1; positive = all.1 }))
        (λ no. inr (λ is. no ((is.low, is.high), is.positive)))
        (both_or_not (both_or_not (le_or_not 1 t) (lt_or_not t (width d))) (not_or_not (le_or_not_ℚ (cell d k t) zero_ℚ)))

    -- a candidate whose ratio is this
    abbrev IsTied : ℚ → ℕ → Type 0
    IsTied x t = IsCandidate d k t × (x ≡ ratio_at d k t)

    tied_or_not : (x : ℚ) (t : ℕ) → Decided (IsTied x t)
    tied_or_not x t = both_or_not (candidate_or_not t) (same_or_not x (ratio_at d k t))

    none_or_entering : HasNoneTo d k (width d) ⊎ ((j : ℕ) × IsEntering d k j)
    none_or_entering = ⊎_elim
        (λ none. inl none)
        (λ first.
        let x = ratio_at d k first.0 in
        inr (⊎_elim
        (λ none. absurd (none first.0 first.1 (first.2, refl)))
        (λ found. (
          found.0,
          record {
            candidate = found.2.0;
            least = λ t candidate. subst (λ y. y ≤ℚ ratio_at d k t) found.2.1 (first.3 t candidate.high candidate);
            ties = λ t candidate same. found.3 t candidate.high (candidate, found.2.1 ∙ same);
          },
        ))
        (least_or_none ℕ (λ a b. a ≤ b) (λ a. omega arith) le_total_ℕ le_trans_ℕ (IsTied x) (tied_or_not x) (nonbasic_at d) (width d))))
        (least_or_none ℚ (λ x y. x ≤ℚ y) le_refl le_total le_trans (IsCandidate d k) candidate_or_not (ratio_at d k) (width d))

    -- the ratio of a candidate fits
    abbrev HasRatio : ℕ → Type 0
    HasRatio t = IsCandidate d k t → RatioFits d k t

    ratios_or_refused : ((t : ℕ) → IsCandidate d k t → RatioFits d k t) ⊎ ((t : ℕ) × IsRefusedRatio d k t)
    ratios_or_refused = ⊎_elim
        (λ all. inl (λ t candidate. all t candidate.high candidate))
        (λ found. inr (
          found.0,
          record {
            candidate = ⊎_elim (λ is. is) (λ no. absurd (found.2 (λ is. absurd (no is)))) (candidate_or_not found.0);
            refused = λ fits. found.2 (λ _. fits);
          },
        ))
        (all_below HasRatio (λ t. if_or_not (candidate_or_not t) (fits_or_not (ratio_at d k t))) (width d))

    module _ (j : ℕ) where
      row_or_not : (t : ℕ) → Decided (RowFits d k j t)
      row_or_not t = both_or_not
          (if_or_not (cases_eq t j) (fits_or_not (inv_ℚ (cell d k j))))
          (if_or_not (not_or_not (cases_eq t j)) (if_or_not (not_or_not (same_or_not (cell d k t) zero_ℚ)) (fits_or_not (divided_ℚ (cell d k t) (neg_ℚ (cell d k j))))))

      other_or_not : (i t : ℕ) → Decided (OtherFits d k j i t)
      other_or_not i t =
          let apart = not_or_not (cases_eq t j) in
          let some = not_or_not (same_or_not (cell d i j) zero_ℚ) in
          let more = not_or_not (same_or_not (cell d k t) zero_ℚ) in
          ⊎_elim
          (λ all. inl (record { factor = all.0.0; product = all.0.1; difference = all.1 }))
          (λ no. inr (λ fits. no ((fits.factor, fits.product), fits.difference)))
          (both_or_not
          (both_or_not
          (if_or_not (cases_eq t j) (fits_or_not (factor_at d k j i)))
          (if_or_not apart (if_or_not some (if_or_not more (fits_or_not (factor_at d k j i *ℚ cell d k t))))))
          (if_or_not apart (if_or_not some (if_or_not more (sum_or_not ◌-ℤ◌ (cell d i t) (factor_at d k j i *ℚ cell d k t))))))

      update_or_not : (i t : ℕ) → Decided (UpdateFits d k j i t)
      update_or_not i t = both_or_not (if_or_not (cases_eq i k) (row_or_not t)) (if_or_not (not_or_not (cases_eq i k)) (other_or_not i t))

  -- the pivot of a row that leaves and a column that enters fits, or is refused
  fits_or_refused : (k j : ℕ) → IsLeaving d k → IsEntering d k j → ((row : ℕ) × (column : ℕ) × IsRefused d row column) ⊎ IsFittingStep d k j
  fits_or_refused k j leaving entering = ⊎_elim
      (λ ratios. ⊎_elim
      (λ updates. inr (record { step = record { leaving = leaving; entering = entering }; fits = record { ratios = ratios; updates = updates } }))
      (λ found. inl (
        row_number d found.0,
        nonbasic_at d found.1,
        record {
          pivot_row = k;
          leaving = leaving;
          which = inr (record {
            pivot_column = j;
            entering = entering;
            cell_row = found.0;
            cell_column = found.1;
            row_high = found.2;
            column_high = found.3;
            refused = found.4;
            row_is = refl;
            column_is = refl;
          });
        },
      ))
      (rows_below (UpdateFits d k j) (update_or_not k j) (height d) (width d)))
      (λ found. inl (0, nonbasic_at d found.0, record { pivot_row = k; leaving = leaving; which = inl (found.0, found.1, refl, refl) }))
      (ratios_or_refused k)

  -- the run has ended, its next pivot is refused, or it fits
  pub next_step : HasEnded d ⊎ (((row : ℕ) × (column : ℕ) × IsRefused d row column) ⊎ ((k : ℕ) × (j : ℕ) × IsFittingStep d k j))
  next_step = ⊎_elim
      (λ last. inl (inl last))
      (λ leaving. ⊎_elim
      (λ none. inl (inr (leaving.0, leaving.1, none)))
      (λ entering. ⊎_elim
      (λ refused. inr (inl refused))
      (λ fits. inr (inr (leaving.0, entering.0, fits)))
      (fits_or_refused leaving.0 entering.0 leaving.1 entering.1))
      (none_or_entering leaving.0))
      last_or_leaving

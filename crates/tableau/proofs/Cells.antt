-- The steps by which a dictionary is searched and changed.
use Rattle.std.proofs.Common.{◌≡◌, ◌≢◌, ◌⊎◌, ◌≤◌, ◌<◌, ◌+◌, ◌*◌, ◌∙◌, ⊎_elim, ℕ, refl, sym, ap, subst, arith, inl, inr, List, length, get_or-set_other}
use Rattle.std.proofs.lemmas.Bool.{cases_eq, cases_lt}
use Rattle.std.proofs.lemmas.List.{get_or-set_same}
use Rattle.std.proofs.lemmas.Nat.{mul-add-lt, same_from_place}
use Rattle.std.specs.Prelude.{pos, slice_index_or, slice_set, ◌-ℤ◌, Option, Some, None, IfSome}
use Rattle.std.specs.declared.cmp.Ordering.{Ordering}
use Rattle.std.specs.declared.cmp.Ordering.TheVariants.{Less, Equal, Greater}
use Rattle.rational.specs.Rational.{ℚ, whole, inv_ℚ, neg_ℚ, ◌*ℚ◌, ◌-ℚ◌, ◌≤ℚ◌, cmp_ℚ, IsOrder}
use Rattle.frac128.specs.Limits.{divided_ℚ, Fits, SumFits}
use Rattle.rational.proofs.Rationals as Q
use Rattle.rational.proofs.Rationals.{rational_ring}
use Rattle.rational.proofs.Orders.{order_of}
use Rattle.algebra.proofs.Rings.{con, ◌⊖◌, ◌⊗◌, ◌⊜◌, ring1, ring2}
use Rattle.tableau.proofs.Numbers.{inv_opposite, not_opposite_zero, whole_fits}
use Rattle.tableau.specs.Program.{zero_ℚ}
use Rattle.tableau.specs.Dictionary.{Dictionary, IsPivoted, cell, factor_at, height, nonbasic_at, width}
use Rattle.tableau.specs.Run.{IsCandidate, IsEntering, OtherFits, RatioFits, RowFits, ratio_at}
use Rattle.tableau.specs.Steps.{AreExchanged, CellFits, GoesBefore, HasSameNames, IsBetter, IsDivided, IsRowUpdated, IsSet, RatiosFitTo, UpdatesFit}
use Rattle.tableau.proofs.Loops.{AreRowsTo, IsBestOrNone, IsBestTo, IsDividedTo, IsRowTo}

-- ---- a cell that is set
pub set_is : (b n : List ℕ) (cs : List ℚ) (i t : ℕ) (x : ℚ) → i < length b → t < length n → length cs ≡ length b * length n → IsSet (record { basic = b; nonbasic = n; cells = cs }) i t x (record { basic = b; nonbasic = n; cells = slice_set cs (i * length n + t) x })
set_is b n cs i t x i_high t_high size = record {
  names = record { basics = refl; nonbasics = refl };
  here = get_or-set_same cs (i * length n + t) x zero_ℚ (omega (arith, mul-add-lt i (length n) t (length b) i_high t_high, size, turned (length b) (length n)));
  others = λ h u h_high u_high apart. get_or-set_other cs (i * length n + t) (h * length n + u) x zero_ℚ (λ same.
      let both = same_from_place h u i t (length n) u_high t_high same in
      ⊎_elim (λ row. row both.0) (λ column. column both.1) apart);
}
  where
    turned : (a c : ℕ) → a * c ≡ c * a
    turned a c = omega arith

le_or_not : (y x : ℚ) → (y ≤ℚ x) ⊎ (y ≤ℚ x → ⊥)
le_or_not y x = by (cmp_ℚ x y) (order_of x y)
  where
    by : (o : Ordering) → IsOrder x y o → (y ≤ℚ x) ⊎ (y ≤ℚ x → ⊥)
    by Less is = inr is
    by Equal is = inl (subst (λ z. z ≤ℚ x) is (Q.le_refl x))
    by Greater is = inl (⊎_elim (λ le. absurd (is le)) (λ ge. ge) (Q.le_total x y))

-- ---- the entering column
module _ (d : Dictionary) (k t : ℕ) where
  -- a candidate that goes before
  before_all : (best : Option (ℕ × ℚ)) → IsBestOrNone d k t best → IsCandidate d k t → GoesBefore d t (ratio_at d k t) best → IsBestTo d k (t + 1) t (ratio_at d k t)
  before_all None before candidate goes = record {
    candidate = candidate;
    ratio = refl;
    least = λ h high other. ⊎_elim (λ same. subst (λ u. ratio_at d k t ≤ℚ ratio_at d k u) (sym same) (Q.le_refl (ratio_at d k t))) (λ apart. absurd (before h (omega (arith, high, apart)) other)) (cases_eq h t);
    ties = λ h high other same_ratio. ⊎_elim (λ same. omega (arith, ap (nonbasic_at d) same)) (λ apart. absurd (before h (omega (arith, high, apart)) other)) (cases_eq h t);
  }
  before_all (Some (j, y)) old candidate goes = record { candidate = candidate; ratio = refl; least = least; ties = ties }
    where
      no_greater : ratio_at d k t ≤ℚ y
      no_greater = ⊎_elim (λ less. ⊎_elim (λ le. le) (λ ge. absurd (less ge)) (Q.le_total (ratio_at d k t) y)) (λ tie. subst (λ z. ratio_at d k t ≤ℚ z) tie.0 (Q.le_refl (ratio_at d k t))) goes

      least : (h : ℕ) → h < t + 1 → IsCandidate d k h → ratio_at d k t ≤ℚ ratio_at d k h
      least h high other =
          ⊎_elim (λ same. subst (λ u. ratio_at d k t ≤ℚ ratio_at d k u) (sym same) (Q.le_refl (ratio_at d k t)))
          (λ apart. Q.le_trans (ratio_at d k t) y (ratio_at d k h) no_greater (old.least h (omega (arith, high, apart)) other))
          (cases_eq h t)

      ties : (h : ℕ) → h < t + 1 → IsCandidate d k h → ratio_at d k t ≡ ratio_at d k h → nonbasic_at d t ≤ nonbasic_at d h
      ties h high other same_ratio =
          ⊎_elim (λ same. omega (arith, ap (nonbasic_at d) same))
          (λ apart.
          let le : y ≤ℚ ratio_at d k t = subst (λ z. y ≤ℚ z) (sym same_ratio) (old.least h (omega (arith, high, apart)) other) in
          ⊎_elim (λ less. absurd (less le)) (λ tie. omega (arith, tie.1, old.ties h (omega (arith, high, apart)) other (sym tie.0 ∙ same_ratio))) goes)
          (cases_eq h t)

  -- one that doesn't
  after_best : (best : Option (ℕ × ℚ)) → IsBestOrNone d k t best → (IsCandidate d k t → GoesBefore d t (ratio_at d k t) best → ⊥) → IsBestOrNone d k (t + 1) best
  after_best None before other = λ h high candidate. ⊎_elim (λ same. other (subst (IsCandidate d k) same candidate) tt) (λ apart. before h (omega (arith, high, apart)) candidate) (cases_eq h t)
  after_best (Some (j, y)) old other = record {
    candidate = old.candidate;
    ratio = old.ratio;
    least = λ h high candidate. ⊎_elim (λ same. subst (λ u. y ≤ℚ ratio_at d k u) (sym same) (⊎_elim (λ le. le) (λ less. absurd (other (subst (IsCandidate d k) same candidate) (inl less))) (le_or_not y (ratio_at d k t)))) (λ apart. old.least h (omega (arith, high, apart)) candidate) (cases_eq h t);
    ties = λ h high candidate same_ratio. ⊎_elim (λ same. subst (λ u. nonbasic_at d j ≤ nonbasic_at d u) (sym same) (⊎_elim (λ less. absurd (other (subst (IsCandidate d k) same candidate) (inr (sym (same_ratio ∙ ap (ratio_at d k) same), less)))) (λ le. le) (cases_lt (nonbasic_at d t) (nonbasic_at d j)))) (λ apart. old.ties h (omega (arith, high, apart)) candidate same_ratio) (cases_eq h t);
  }

  pub best_next : (best next : Option (ℕ × ℚ)) → IsBestOrNone d k t best → IsBetter d k best t next → IsBestOrNone d k (t + 1) next
  best_next best next so_far step =
      ⊎_elim
      (λ skipped. subst (IsBestOrNone d k (t + 1)) (sym skipped.0) (after_best best so_far (λ candidate goes. skipped.1 candidate)))
      (λ seen. ⊎_elim
      (λ taken. subst (IsBestOrNone d k (t + 1)) (sym taken.0) (before_all best so_far seen.0 taken.1))
      (λ kept. subst (IsBestOrNone d k (t + 1)) (sym kept.0) (after_best best so_far (λ candidate goes. kept.1 goes))) seen.2)
      step

  pub fit_next : (best next : Option (ℕ × ℚ)) → RatiosFitTo d k t → IsBetter d k best t next → RatiosFitTo d k (t + 1)
  fit_next best next so_far step h high candidate =
      ⊎_elim (λ same. subst (RatioFits d k) (sym same) (⊎_elim (λ skipped. absurd (skipped.1 (subst (IsCandidate d k) same candidate))) (λ seen. seen.1) step)) (λ apart. so_far h (omega (arith, high, apart)) candidate) (cases_eq h t)

-- ---- a cell of a row that is updated
pub row_start : (d : Dictionary) (k j i : ℕ) (factor : ℚ) → IsRowTo d k j i factor 0 d
row_start d k j i factor = record {
  names = record { basics = refl; nonbasics = refl };
  others = λ h u h_high u_high apart. refl;
  before = λ u less. absurd (omega (arith, less));
  fits = λ u less. absurd (omega (arith, less));
  after = λ u low high. refl;
}

pub same_sizes : (d e : Dictionary) → HasSameNames d e → (height e ≡ height d) × (width e ≡ width d)
same_sizes d e names = (ap length names.basics, ap length names.nonbasics)

pub names_then : (d e f : Dictionary) → HasSameNames d e → HasSameNames e f → HasSameNames d f
names_then d e f a b = record { basics = b.basics ∙ a.basics; nonbasics = b.nonbasics ∙ a.nonbasics }

pub row_next : (d e f : Dictionary) (k j i t : ℕ) (factor : ℚ) → k < height d → i < height d → t < width d → i ≢ k → t ≢ j → IsRowTo d k j i factor t e → IsSet e i t (cell e i t -ℚ factor *ℚ cell e k t) f → CellFits e k i t factor → IsRowTo d k j i factor (t + 1) f
row_next d e f k j i t factor k_high i_high t_high apart other so_far set fits =
    let sizes = same_sizes d e so_far.names in
    let mine : cell e i t ≡ cell d i t = so_far.after t (omega arith) t_high in
    let source : cell e k t ≡ cell d k t = so_far.others k t k_high t_high (λ e. apart (sym e)) in
    record {
      names = names_then d e f so_far.names set.names;
      others = λ h u h_high u_high row. set.others h u (omega (arith, h_high, sizes.0)) (omega (arith, u_high, sizes.1)) (inl row) ∙ so_far.others h u h_high u_high row;
      before = λ u less high not_pivot. ⊎_elim (λ same. ap (cell f i) same ∙ set.here ∙ ap (λ x. x -ℚ factor *ℚ cell e k t) mine ∙ ap (λ x. cell d i t -ℚ factor *ℚ x) source ∙ ap (λ v. cell d i v -ℚ factor *ℚ cell d k v) (sym same)) (λ column. set.others i u (omega (arith, i_high, sizes.0)) (omega (arith, high, sizes.1)) (inr column) ∙ so_far.before u (omega (arith, less, column)) high not_pivot) (cases_eq u t);
      fits = λ u less high not_pivot. ⊎_elim (λ same. subst (λ v. CellFits d k i v factor) (sym same) (cell_fits mine source)) (λ column. so_far.fits u (omega (arith, less, column)) high not_pivot) (cases_eq u t);
      after = λ u low high. set.others i u (omega (arith, i_high, sizes.0)) (omega (arith, high, sizes.1)) (inr (λ e. omega (arith, e, low))) ∙ so_far.after u (omega (arith, low)) high;
    }
  where
    cell_fits : cell e i t ≡ cell d i t → cell e k t ≡ cell d k t → CellFits d k i t factor
    cell_fits mine source = record {
      product = λ some. subst (λ x. Fits (factor *ℚ x)) source (fits.product (λ e. some (sym source ∙ e)));
      difference = λ some. subst (λ x. SumFits ◌-ℤ◌ (cell d i t) (factor *ℚ x)) source (subst (λ x. SumFits ◌-ℤ◌ x (factor *ℚ cell e k t)) mine (fits.difference (λ e. some (sym source ∙ e))));
    }

pub row_skip : (d e : Dictionary) (k j i t : ℕ) (factor : ℚ) → t ≡ j → IsRowTo d k j i factor t e → IsRowTo d k j i factor (t + 1) e
row_skip d e k j i t factor is so_far = record {
  names = so_far.names;
  others = so_far.others;
  before = λ u less high not_pivot. so_far.before u (omega (arith, less, is, not_pivot)) high not_pivot;
  fits = λ u less high not_pivot. so_far.fits u (omega (arith, less, is, not_pivot)) high not_pivot;
  after = λ u low high. so_far.after u (omega (arith, low)) high;
}

pub row_end : (d e f : Dictionary) (k j i to : ℕ) (factor : ℚ) → i < height d → j < width d → width d ≤ to → factor ≡ factor_at d k j i → Fits factor → IsRowTo d k j i factor to e → IsSet e i j factor f → IsRowUpdated d k j i f
row_end d e f k j i to factor i_high j_high all is factor_fits so_far set =
    let sizes = same_sizes d e so_far.names in
    record {
      names = names_then d e f so_far.names set.names;
      others = λ h u h_high u_high row. set.others h u (omega (arith, h_high, sizes.0)) (omega (arith, u_high, sizes.1)) (inl row) ∙ so_far.others h u h_high u_high row;
      cells = λ u high not_pivot. set.others i u (omega (arith, i_high, sizes.0)) (omega (arith, high, sizes.1)) (inr not_pivot) ∙ so_far.before u (omega (arith, high, all)) high not_pivot ∙ ap (λ x. cell d i u -ℚ x *ℚ cell d k u) is;
      column = set.here ∙ is;
      fits = λ u high. record {
        factor = λ e. subst Fits is factor_fits;
        product = λ not_pivot mine some. subst (λ x. Fits (x *ℚ cell d k u)) is ((so_far.fits u (omega (arith, high, all)) high not_pivot).product some);
        difference = λ not_pivot mine some. subst (λ x. SumFits ◌-ℤ◌ (cell d i u) (x *ℚ cell d k u)) is ((so_far.fits u (omega (arith, high, all)) high not_pivot).difference some);
      };
    }

-- a row with 0 in the pivot column stays
pub row_stays : (d : Dictionary) (k j i : ℕ) → cell d i j ≡ zero_ℚ → IsRowUpdated d k j i d
row_stays d k j i zero = record {
  names = record { basics = refl; nonbasics = refl };
  others = λ h u h_high u_high row. refl;
  cells = λ u high not_pivot. ring2 rational_ring (λ c r. c ⊜ c ⊖ con (pos 0) ⊗ r) refl (cell d i u) (cell d k u) ∙ ap (λ x. cell d i u -ℚ x *ℚ cell d k u) (sym none);
  column = zero ∙ sym none;
  fits = λ u high. record {
    factor = λ e. subst Fits (sym none) zero_fits;
    product = λ not_pivot mine. absurd (mine zero);
    difference = λ not_pivot mine. absurd (mine zero);
  };
}
  where
    none : factor_at d k j i ≡ zero_ℚ
    none = ap (λ x. divided_ℚ x (cell d k j)) zero ∙ ring1 rational_ring (λ r. con (pos 0) ⊗ r ⊜ con (pos 0)) refl (inv_ℚ (cell d k j))

    zero_fits : Fits zero_ℚ
    zero_fits = let (both, is) = whole_fits (pos 0) (omega arith) in subst Fits is both.1

-- a cell that stays, as if it were set
pub set_same : (d : Dictionary) (i t : ℕ) (x : ℚ) → cell d i t ≡ x → IsSet d i t x d
set_same d i t x is = record { names = record { basics = refl; nonbasics = refl }; here = is; others = λ h u h_high u_high apart. refl }

pub reduced_zero : (c f r : ℚ) → r ≡ zero_ℚ → c ≡ c -ℚ f *ℚ r
reduced_zero c f r zero = ring2 rational_ring (λ c f. c ⊜ c ⊖ f ⊗ con (pos 0)) refl c f ∙ ap (λ x. c -ℚ f *ℚ x) (sym zero)

pub times_zero : (c f : ℚ) → c ≡ zero_ℚ → c ≡ c *ℚ f
times_zero c f zero = zero ∙ ring1 rational_ring (λ f. con (pos 0) ⊜ con (pos 0) ⊗ f) refl f ∙ ap (λ x. x *ℚ f) (sym zero)

pub best_enters : (d : Dictionary) (k to : ℕ) (best : Option (ℕ × ℚ)) → width d ≤ to → IsBestOrNone d k to best → IfSome best (λ p. IsEntering d k p.0)
best_enters d k to None all before = tt
best_enters d k to (Some (j, x)) all old = record {
  candidate = old.candidate;
  least = λ t other. subst (λ y. y ≤ℚ ratio_at d k t) old.ratio (old.least t (omega (arith, all, other.high)) other);
  ties = λ t other same. old.ties t (omega (arith, all, other.high)) other (old.ratio ∙ same);
}

-- what a cell that doesn't fit says of the row
pub row_refused : (d e : Dictionary) (k j i t : ℕ) (factor : ℚ) → k < height d → t < width d → i ≢ k → t ≢ j → factor ≡ factor_at d k j i → cell d i j ≢ zero_ℚ → cell e k t ≢ zero_ℚ → IsRowTo d k j i factor t e → OtherFits d k j i t → CellFits e k i t factor
row_refused d e k j i t factor k_high t_high apart other is mine some so_far fits =
    let own : cell e i t ≡ cell d i t = so_far.after t (omega arith) t_high in
    let source : cell e k t ≡ cell d k t = so_far.others k t k_high t_high (λ same. apart (sym same)) in
    let source_some : cell d k t ≢ zero_ℚ = λ zero. some (source ∙ zero) in
    record {
      product = λ _. subst (λ f. Fits (f *ℚ cell e k t)) (sym is) (subst (λ x. Fits (factor_at d k j i *ℚ x)) (sym source) (fits.product other mine source_some));
      difference = λ _. subst (λ f. SumFits ◌-ℤ◌ (cell e i t) (f *ℚ cell e k t)) (sym is) (subst (λ x. SumFits ◌-ℤ◌ x (factor_at d k j i *ℚ cell e k t)) (sym own) (subst (λ x. SumFits ◌-ℤ◌ (cell d i t) (factor_at d k j i *ℚ x)) (sym source) (fits.difference other mine source_some)));
    }

-- ---- the pivot row
pub divided_start : (d : Dictionary) (k j : ℕ) (factor : ℚ) → IsDividedTo d k j factor 0 d
divided_start d k j factor = record {
  names = record { basics = refl; nonbasics = refl };
  others = λ h u h_high u_high apart. refl;
  cells = λ u less. absurd (omega (arith, less));
  fits = λ u less. absurd (omega (arith, less));
  after = λ u low high. refl;
}

pub divided_skip : (d e : Dictionary) (k j t : ℕ) (factor : ℚ) → t ≡ j → IsDividedTo d k j factor t e → IsDividedTo d k j factor (t + 1) e
divided_skip d e k j t factor is so_far = record {
  names = so_far.names;
  others = so_far.others;
  cells = λ u less high not_pivot. so_far.cells u (omega (arith, less, is, not_pivot)) high not_pivot;
  fits = λ u less high not_pivot. so_far.fits u (omega (arith, less, is, not_pivot)) high not_pivot;
  after = λ u low high. so_far.after u (omega (arith, low)) high;
}

pub divided_next : (d e f : Dictionary) (k j t : ℕ) (factor : ℚ) → k < height d → t < width d → t ≢ j → IsDividedTo d k j factor t e → IsSet e k t (cell e k t *ℚ factor) f → (cell e k t ≢ zero_ℚ → Fits (cell e k t *ℚ factor)) → IsDividedTo d k j factor (t + 1) f
divided_next d e f k j t factor k_high t_high other so_far set fits =
    let sizes = same_sizes d e so_far.names in
    let mine : cell e k t ≡ cell d k t = so_far.after t (omega arith) t_high in
    record {
      names = names_then d e f so_far.names set.names;
      others = λ h u h_high u_high row. set.others h u (omega (arith, h_high, sizes.0)) (omega (arith, u_high, sizes.1)) (inl row) ∙ so_far.others h u h_high u_high row;
      cells = λ u less high not_pivot. ⊎_elim (λ same. ap (cell f k) same ∙ set.here ∙ ap (λ x. x *ℚ factor) mine ∙ ap (λ v. cell d k v *ℚ factor) (sym same)) (λ column. set.others k u (omega (arith, k_high, sizes.0)) (omega (arith, high, sizes.1)) (inr column) ∙ so_far.cells u (omega (arith, less, column)) high not_pivot) (cases_eq u t);
      fits = λ u less high not_pivot some. ⊎_elim (λ same. subst (λ v. Fits (cell d k v *ℚ factor)) (sym same) (subst (λ x. Fits (x *ℚ factor)) mine (fits (λ zero. some (ap (cell d k) same ∙ sym mine ∙ zero))))) (λ column. so_far.fits u (omega (arith, less, column)) high not_pivot some) (cases_eq u t);
      after = λ u low high. set.others k u (omega (arith, k_high, sizes.0)) (omega (arith, high, sizes.1)) (inr (λ e. omega (arith, e, low))) ∙ so_far.after u (omega (arith, low)) high;
    }

-- the factor divides by the opposite of the pivot cell
pub factor_divides : (p factor corner : ℚ) → p ≢ zero_ℚ → corner ≡ inv_ℚ p → factor ≡ zero_ℚ -ℚ corner → factor ≡ inv_ℚ (neg_ℚ p)
factor_divides p factor corner some is opposite = opposite ∙ ap (λ x. zero_ℚ -ℚ x) is ∙ sym (inv_opposite p some (not_opposite_zero p some))

pub divided_end : (d e f : Dictionary) (k j to : ℕ) (factor corner : ℚ) → k < height d → j < width d → width d ≤ to → factor ≡ inv_ℚ (neg_ℚ (cell d k j)) → corner ≡ inv_ℚ (cell d k j) → Fits corner → IsDividedTo d k j factor to e → IsSet e k j corner f → IsDivided d k j f
divided_end d e f k j to factor corner k_high j_high all is corner_is corner_fits so_far set =
    let sizes = same_sizes d e so_far.names in
    record {
      names = names_then d e f so_far.names set.names;
      others = λ h u h_high u_high row. set.others h u (omega (arith, h_high, sizes.0)) (omega (arith, u_high, sizes.1)) (inl row) ∙ so_far.others h u h_high u_high row;
      cells = λ u high not_pivot. set.others k u (omega (arith, k_high, sizes.0)) (omega (arith, high, sizes.1)) (inr not_pivot) ∙ so_far.cells u (omega (arith, high, all)) high not_pivot ∙ ap (λ x. cell d k u *ℚ x) is;
      corner = set.here ∙ corner_is;
      fits = λ u high. ((λ e. subst Fits corner_is corner_fits), λ not_pivot some. subst (λ x. Fits (cell d k u *ℚ x)) is (so_far.fits u (omega (arith, high, all)) high not_pivot some));
    }

pub divided_refused : (d e : Dictionary) (k j t : ℕ) (factor : ℚ) → t < width d → t ≢ j → factor ≡ inv_ℚ (neg_ℚ (cell d k j)) → cell e k t ≢ zero_ℚ → IsDividedTo d k j factor t e → RowFits d k j t → Fits (cell e k t *ℚ factor)
divided_refused d e k j t factor t_high other is some so_far fits =
    let mine : cell e k t ≡ cell d k t = so_far.after t (omega arith) t_high in
    subst (λ f. Fits (cell e k t *ℚ f)) (sym is) (subst (λ x. Fits (x *ℚ inv_ℚ (neg_ℚ (cell d k j)))) (sym mine) (fits.1 other (λ zero. some (mine ∙ zero))))

-- ---- the rows of a pivot
pub rows_start : (d : Dictionary) (k j : ℕ) → AreRowsTo d k j 0 d
rows_start d k j = record {
  names = record { basics = refl; nonbasics = refl };
  cells = λ i u less. absurd (omega (arith, less));
  column = λ i less. absurd (omega (arith, less));
  fits = λ i u less. absurd (omega (arith, less));
  after = λ i u low i_high u_high. refl;
  pivot_row = λ u high. refl;
}

pub rows_skip : (d e : Dictionary) (k j i : ℕ) → i ≡ k → AreRowsTo d k j i e → AreRowsTo d k j (i + 1) e
rows_skip d e k j i is so_far = record {
  names = so_far.names;
  cells = λ h u less high row. so_far.cells h u (omega (arith, less, is, row)) high row;
  column = λ h less high row. so_far.column h (omega (arith, less, is, row)) high row;
  fits = λ h u less high row. so_far.fits h u (omega (arith, less, is, row)) high row;
  after = λ h u low h_high u_high. so_far.after h u (omega (arith, low)) h_high u_high;
  pivot_row = so_far.pivot_row;
}

-- the cells of a row and of the pivot row as they were
module _ (d e : Dictionary) (k j i : ℕ) (k_high : k < height d) (j_high : j < width d) (i_high : i < height d) (so_far : AreRowsTo d k j i e) where
  mine : (u : ℕ) → u < width d → cell e i u ≡ cell d i u
  mine u high = so_far.after i u (omega arith) i_high high

  source : (u : ℕ) → u < width d → cell e k u ≡ cell d k u
  source u high = so_far.pivot_row u high

  same_factor : factor_at e k j i ≡ factor_at d k j i
  same_factor = ap (λ x. divided_ℚ x (cell e k j)) (mine j j_high) ∙ ap (divided_ℚ (cell d i j)) (source j j_high)

  pub fits_before : (u : ℕ) → u < width d → OtherFits e k j i u → OtherFits d k j i u
  fits_before u high fits = record {
    factor = λ is. subst Fits same_factor (fits.factor is);
    product = λ not_pivot own some. subst (λ f. Fits (f *ℚ cell d k u)) same_factor (subst (λ x. Fits (factor_at e k j i *ℚ x)) (source u high) (fits.product not_pivot (λ zero. own (sym (mine j j_high) ∙ zero)) (λ zero. some (sym (source u high) ∙ zero))));
    difference = λ not_pivot own some. subst (λ f. SumFits ◌-ℤ◌ (cell d i u) (f *ℚ cell d k u)) same_factor (subst (λ x. SumFits ◌-ℤ◌ (cell d i u) (factor_at e k j i *ℚ x)) (source u high) (subst (λ x. SumFits ◌-ℤ◌ x (factor_at e k j i *ℚ cell e k u)) (mine u high) (fits.difference not_pivot (λ zero. own (sym (mine j j_high) ∙ zero)) (λ zero. some (sym (source u high) ∙ zero)))));
  }

  pub fits_after : (u : ℕ) → u < width d → OtherFits d k j i u → OtherFits e k j i u
  fits_after u high fits = record {
    factor = λ is. subst Fits (sym same_factor) (fits.factor is);
    product = λ not_pivot own some. subst (λ f. Fits (f *ℚ cell e k u)) (sym same_factor) (subst (λ x. Fits (factor_at d k j i *ℚ x)) (sym (source u high)) (fits.product not_pivot (λ zero. own (mine j j_high ∙ zero)) (λ zero. some (source u high ∙ zero))));
    difference = λ not_pivot own some. subst (λ f. SumFits ◌-ℤ◌ (cell e i u) (f *ℚ cell e k u)) (sym same_factor) (subst (λ x. SumFits ◌-ℤ◌ x (factor_at d k j i *ℚ cell e k u)) (sym (mine u high)) (subst (λ x. SumFits ◌-ℤ◌ (cell d i u) (factor_at d k j i *ℚ x)) (sym (source u high)) (fits.difference not_pivot (λ zero. own (mine j j_high ∙ zero)) (λ zero. some (source u high ∙ zero)))));
  }

  pub rows_next : (f : Dictionary) → i ≢ k → IsRowUpdated e k j i f → AreRowsTo d k j (i + 1) f
  rows_next f apart row =
      let sizes = same_sizes d e so_far.names in
      record {
        names = names_then d e f so_far.names row.names;
        cells = λ h u less h_high not_k u_high not_j. ⊎_elim (λ same. ap (λ g. cell f g u) same ∙ row.cells u (omega (arith, u_high, sizes.1)) not_j ∙ ap (λ x. x -ℚ factor_at e k j i *ℚ cell e k u) (mine u u_high) ∙ ap (λ x. cell d i u -ℚ x *ℚ cell e k u) same_factor ∙ ap (λ x. cell d i u -ℚ factor_at d k j i *ℚ x) (source u u_high) ∙ ap (λ g. cell d g u -ℚ factor_at d k j g *ℚ cell d k u) (sym same)) (λ other. row.others h u (omega (arith, h_high, sizes.0)) (omega (arith, u_high, sizes.1)) other ∙ so_far.cells h u (omega (arith, less, other)) h_high not_k u_high not_j) (cases_eq h i);
        column = λ h less h_high not_k. ⊎_elim (λ same. ap (λ g. cell f g j) same ∙ row.column ∙ same_factor ∙ ap (factor_at d k j) (sym same)) (λ other. row.others h j (omega (arith, h_high, sizes.0)) (omega (arith, j_high, sizes.1)) other ∙ so_far.column h (omega (arith, less, other)) h_high not_k) (cases_eq h i);
        fits = λ h u less h_high not_k u_high. ⊎_elim (λ same. subst (λ g. OtherFits d k j g u) (sym same) (fits_before u u_high (row.fits u (omega (arith, u_high, sizes.1))))) (λ other. so_far.fits h u (omega (arith, less, other)) h_high not_k u_high) (cases_eq h i);
        after = λ h u low h_high u_high. row.others h u (omega (arith, h_high, sizes.0)) (omega (arith, u_high, sizes.1)) (λ e. omega (arith, e, low)) ∙ so_far.after h u (omega (arith, low)) h_high u_high;
        pivot_row = λ u u_high. row.others k u (omega (arith, k_high, sizes.0)) (omega (arith, u_high, sizes.1)) (λ e. apart (sym e)) ∙ source u u_high;
      }

-- ---- all of a pivot
module _ (d e f g : Dictionary) (k j to : ℕ) (k_high : k < height d) (j_high : j < width d) (all : height d ≤ to) (rows : AreRowsTo d k j to e) (divided : IsDivided e k j f) (exchanged : AreExchanged f k j g) where
  sizes : (height e ≡ height d) × (width e ≡ width d)
  sizes = same_sizes d e rows.names

  more_sizes : (height f ≡ height e) × (width f ≡ width e)
  more_sizes = same_sizes e f divided.names

  same_cells : (i u : ℕ) → cell g i u ≡ cell f i u
  same_cells i u = ap (λ cs. slice_index_or cs (i * width g + u) zero_ℚ) exchanged.cells ∙ ap (λ w. slice_index_or f.cells (i * w + u) zero_ℚ) exchanged.columns

  pivot_row_is : (u : ℕ) → u < width d → cell e k u ≡ cell d k u
  pivot_row_is u high = rows.pivot_row u high

  same_basics : f.basic ≡ d.basic
  same_basics = divided.names.basics ∙ rows.names.basics

  same_nonbasics : f.nonbasic ≡ d.nonbasic
  same_nonbasics = divided.names.nonbasics ∙ rows.names.nonbasics

  other_row : (i u : ℕ) → i < height d → u < width d → i ≢ k → cell g i u ≡ cell e i u
  other_row i u i_high u_high apart = same_cells i u ∙ divided.others i u (omega (arith, i_high, sizes.0)) (omega (arith, u_high, sizes.1)) apart

  pub is_pivoted : IsPivoted d k j g
  is_pivoted = record {
    rows = omega (arith, exchanged.rows, more_sizes.0, sizes.0);
    columns = omega (arith, exchanged.columns, more_sizes.1, sizes.1);
    entered = exchanged.entered ∙ ap (λ ns. slice_index_or ns j 0) same_nonbasics;
    left = exchanged.left ∙ ap (λ bs. slice_index_or bs k 0) same_basics;
    basics = λ i high apart. exchanged.basics i (omega (arith, high, more_sizes.0, sizes.0)) apart ∙ ap (λ bs. slice_index_or bs i 0) same_basics;
    nonbasics = λ t high apart. exchanged.nonbasics t (omega (arith, high, more_sizes.1, sizes.1)) apart ∙ ap (λ ns. slice_index_or ns t 0) same_nonbasics;
    corner = same_cells k j ∙ divided.corner ∙ ap inv_ℚ (pivot_row_is j j_high);
    pivot_row = λ t high apart. same_cells k t ∙ divided.cells t (omega (arith, high, sizes.1)) apart ∙ ap (λ x. divided_ℚ x (neg_ℚ (cell e k j))) (pivot_row_is t high) ∙ ap (λ x. divided_ℚ (cell d k t) (neg_ℚ x)) (pivot_row_is j j_high);
    pivot_column = λ i high apart. other_row i j high j_high apart ∙ rows.column i (omega (arith, high, all)) high apart;
    others = λ i t i_high t_high row column. other_row i t i_high t_high row ∙ rows.cells i t (omega (arith, i_high, all)) i_high row t_high column;
  }

  row_fits : (t : ℕ) → t < width d → RowFits d k j t
  row_fits t high =
      let fits = divided.fits t (omega (arith, high, sizes.1)) in (
        (λ is. subst (λ x. Fits (inv_ℚ x)) (pivot_row_is j j_high) (fits.0 is)),
        (λ apart some. subst (λ x. Fits (divided_ℚ (cell d k t) (neg_ℚ x))) (pivot_row_is j j_high) (subst (λ x. Fits (divided_ℚ x (neg_ℚ (cell e k j)))) (pivot_row_is t high) (fits.1 apart (λ zero. some (sym (pivot_row_is t high) ∙ zero))))),
      )

  pub all_fit : UpdatesFit d k j
  all_fit i t i_high t_high = ((λ is. row_fits t t_high), λ apart. rows.fits i t (omega (arith, i_high, all)) i_high apart t_high)

-- what a cell of the pivot row that doesn't fit says of the first dictionary
pub row_fits_after : (d e : Dictionary) (k j to t : ℕ) → j < width d → t < width d → AreRowsTo d k j to e → RowFits d k j t → RowFits e k j t
row_fits_after d e k j to t j_high t_high rows fits = (
  (λ is. subst (λ x. Fits (inv_ℚ x)) (sym (rows.pivot_row j j_high)) (fits.0 is)),
  (λ apart some. subst (λ x. Fits (divided_ℚ (cell e k t) (neg_ℚ x))) (sym (rows.pivot_row j j_high)) (subst (λ x. Fits (divided_ℚ x (neg_ℚ (cell d k j)))) (sym (rows.pivot_row t t_high)) (fits.1 apart (λ zero. some (rows.pivot_row t t_high ∙ zero))))),
)

pub factor_is : (d : Dictionary) (k j i : ℕ) (factor a b : ℚ) → a ≡ cell d i j → b ≡ cell d k j → factor ≡ divided_ℚ a b → factor ≡ factor_at d k j i
factor_is d k j i factor a b top bottom is = is ∙ ap (λ x. divided_ℚ x b) top ∙ ap (divided_ℚ (cell d i j)) bottom

pub corner_is : (one v p : ℚ) → one ≡ whole (pos 1) → v ≡ p → divided_ℚ one v ≡ inv_ℚ p
corner_is one v p is same = ap (λ x. divided_ℚ x v) is ∙ Q.one_mul (inv_ℚ v) ∙ ap inv_ℚ same

-- What the terms of the (l,S) row add to in fractions.
use Rattle.std.proofs.Common.{◌≡◌, ◌≢◌, ◌≤◌, ◌<◌, ◌+◌, ◌-◌, ◌*◌, ◌∙◌, ◌⊎◌, ⊎_elim, inl, inr, ℕ, zero, suc, refl, sym, ap, arith, Bool, true, false, List, [], ◌∷◌, ◌++◌}
use Rattle.std.specs.Prelude.{if◌then◌else◌, ◌==◌, ℤ, pos, negsuc}
use Rattle.algebra.proofs.Rings.{con, ◌⊕◌, ◌⊗◌, ◌⊜◌, ring1, ring2, ring4, ring5}
use Rattle.algebra.proofs.Sums.{list_sum-append, sum-add, sum-first, sum-same, sum-scale, sum-swap, sum-zero}
use Rattle.rational.specs.Rational.{ℚ, whole, ◌+ℚ◌, ◌*ℚ◌}
use Rattle.rational.proofs.Rationals as Q
use Rattle.rational.proofs.Rationals.{rational_ring, whole-mul}
use Rattle.lin_rows.specs.declared.column.Column.{Column}
use Rattle.lin_rows.specs.declared.column.Column.TheVariants.{X, Y, R}
use Rattle.lin_rows.specs.declared.row.Term.{Term}
use Rattle.lin_rows.specs.Base.{is_some_term, some_terms, term}
use Rattle.valid_inequalities.specs.Inequalities.{demand_between}
use Rattle.echelon_rows.specs.Rows.{Echelon, cells_to, owed_times, periods_to}
use Rattle.ls_cuts.specs.Rows.{Periods, backlog_times, ls_row, ls_terms, setup_times, unit_times}
use Rattle.ls_cuts.specs.Points.{Fractions, left_side, owed_part, owed_term, period_part, sum_ℚ, terms_part}

abbrev zero_ℚ : ℚ
zero_ℚ = whole (pos 0)

-- ---- lists of terms
part_append : (x : Fractions) (xs ys : List Term) → terms_part x (xs ++ ys) ≡ terms_part x xs +ℚ terms_part x ys
part_append x xs ys = list_sum-append rational_ring (λ a. whole a.times *ℚ x a.column) xs ys

none_or_some : (z : ℤ) → (is_some_term z ≡ true) ⊎ ((is_some_term z ≡ false) × (z ≡ pos 0))
none_or_some (pos zero) = inr (refl, refl)
none_or_some (pos (suc n)) = inl refl
none_or_some (negsuc n) = inl refl

part_some : (x : Fractions) (ts : List Term) → terms_part x (some_terms ts) ≡ terms_part x ts
part_some x [] = refl
part_some x (a ∷ ts) =
    ⊎_elim
    (λ some. rw some (ap (λ s. whole a.times *ℚ x a.column +ℚ s) (part_some x ts)))
    (λ none. rw none.0 (part_some x ts ∙ ring2 rational_ring (λ s v. s ⊜ con (pos 0) ⊗ v ⊕ s) refl (terms_part x ts) (x a.column) ∙ ap (λ z. whole z *ℚ x a.column +ℚ terms_part x ts) (sym none.1)))
    (none_or_some a.times)

periods_part : (x : Fractions) (n : ℕ) (c : ℕ → Column) (k : ℕ → ℕ) → terms_part x (periods_to n (λ t. term (c t) (pos (k t)))) ≡ sum_ℚ n (λ t. whole (pos (k (suc t))) *ℚ x (c (suc t)))
periods_part x zero c k = refl
periods_part x (suc n) c k =
    let f = λ (t : ℕ). term (c t) (pos (k t)) in
    let last = whole (pos (k (suc n))) *ℚ x (c (suc n)) in
    part_append x (periods_to n f) (f (suc n) ∷ [])
    ∙ ap (λ s. s +ℚ (last +ℚ zero_ℚ)) (periods_part x n c k)
    ∙ ring2 rational_ring (λ s a. s ⊕ (a ⊕ con (pos 0)) ⊜ s ⊕ a) refl (sum_ℚ n (λ t. whole (pos (k (suc t))) *ℚ x (c (suc t)))) last

cells_part : (x : Fractions) (n T : ℕ) (c : ℕ → ℕ → Column) (k : ℕ → ℕ → ℕ) → terms_part x (cells_to n T (λ j t. term (c j t) (pos (k j t)))) ≡ sum_ℚ n (λ j. sum_ℚ T (λ t. whole (pos (k (suc j) (suc t))) *ℚ x (c (suc j) (suc t))))
cells_part x zero T c k = refl
cells_part x (suc n) T c k =
    let f = λ (j t : ℕ). term (c j t) (pos (k j t)) in
    part_append x (cells_to n T f) (periods_to T (f (suc n)))
    ∙ ap (λ s. s +ℚ terms_part x (periods_to T (f (suc n)))) (cells_part x n T c k)
    ∙ ap (λ s. sum_ℚ n (λ j. sum_ℚ T (λ t. whole (pos (k (suc j) (suc t))) *ℚ x (c (suc j) (suc t)))) +ℚ s) (periods_part x T (c (suc n)) (k (suc n)))

-- ---- the backlogs that the row takes
-- what is owed before a chosen period
before : Periods → (ℕ → ℚ) → ℕ → ℚ
before chosen b t = if chosen (suc t) then b t else zero_ℚ

before_is : (c : Bool) (b : ℚ) → (if c then b else zero_ℚ) ≡ whole (pos (if c then 1 else 0)) *ℚ b
before_is true b = sym (Q.one_mul b)
before_is false b = ring1 rational_ring (λ b. con (pos 0) ⊜ con (pos 0) ⊗ b) refl b

none_first : (c : Bool) (b : ℚ) → b ≡ zero_ℚ → (if c then b else zero_ℚ) ≡ zero_ℚ
none_first true b is = is
none_first false b is = refl

times_last : (l : ℕ) (chosen : Periods) → backlog_times l chosen l ≡ 1
times_last l chosen = grind arith

times_before : (l : ℕ) (chosen : Periods) (t : ℕ) → t ≢ l → backlog_times l chosen t ≡ (if chosen (t + 1) then 1 else 0)
times_before l chosen t h = let e : (t == l) ≡ false = grind (arith, h) in ap (λ b. if b then 1 else if chosen (t + 1) then 1 else 0) e

owed_total : (l : ℕ) (chosen : Periods) (b : ℕ → ℚ) → 1 ≤ l → b 0 ≡ zero_ℚ → sum_ℚ l (λ t. whole (pos (backlog_times l chosen (suc t))) *ℚ b (suc t)) ≡ sum_ℚ l (before chosen b) +ℚ b l
unfolding before
owed_total zero chosen b low none = absurd (omega (arith, low))
owed_total (suc n) chosen b low none =
    let l = suc n in
    let rest = sum_ℚ n (λ t. before chosen b (suc t)) in
    let each : (t : ℕ) → t < n → whole (pos (backlog_times l chosen (suc t))) *ℚ b (suc t) ≡ before chosen b (suc t) = λ t less.
    let next : suc t + 1 ≡ suc (suc t) = omega arith in
    ap (λ k. whole (pos k) *ℚ b (suc t)) (times_before l chosen (suc t) (λ same. omega (arith, same, less)) ∙ ap (λ k. if chosen k then 1 else 0) next) ∙ sym (before_is (chosen (suc (suc t))) (b (suc t))) in
    let first : sum_ℚ l (before chosen b) ≡ rest = sum-first rational_ring n (before chosen b) ∙ ap (λ s. s +ℚ rest) (none_first (chosen 1) (b 0) none) ∙ Q.zero_add rest in
    ap (λ s. s +ℚ whole (pos (backlog_times l chosen l)) *ℚ b l) (sum-same rational_ring n (λ t. whole (pos (backlog_times l chosen (suc t))) *ℚ b (suc t)) (λ t. before chosen b (suc t)) each)
    ∙ ap (λ k. rest +ℚ whole (pos k) *ℚ b l) (times_last l chosen)
    ∙ ap (λ a. rest +ℚ a) (Q.one_mul (b l))
    ∙ ap (λ s. s +ℚ b l) (sym first)

-- nothing is owed before the first period
none_before : (e : Echelon) (x : Fractions) → owed_part e x 0 ≡ zero_ℚ
none_before e x = sum-zero rational_ring e.items (λ j. owed_term e x (suc j) 0) (λ j less. ring1 rational_ring (λ v. con (pos 0) ⊗ v ⊜ con (pos 0)) refl (x (R (suc j) 0)))

-- item by item and then by period, or the other way round
weighed : (e : Echelon) (x : Fractions) (l : ℕ) (c : ℕ → ℕ) → sum_ℚ e.items (λ j. sum_ℚ l (λ t. whole (pos (c (suc t) * owed_times e (suc j) (suc t))) *ℚ x (R (suc j) (suc t)))) ≡ sum_ℚ l (λ t. whole (pos (c (suc t))) *ℚ owed_part e x (suc t))
weighed e x l c =
    sum-swap rational_ring e.items l (λ j t. whole (pos (c (suc t) * owed_times e (suc j) (suc t))) *ℚ x (R (suc j) (suc t)))
    ∙ sum-same rational_ring l (λ t. sum_ℚ e.items (λ j. whole (pos (c (suc t) * owed_times e (suc j) (suc t))) *ℚ x (R (suc j) (suc t)))) (λ t. whole (pos (c (suc t))) *ℚ owed_part e x (suc t)) (λ t less.
    sum-same rational_ring e.items (λ j. whole (pos (c (suc t) * owed_times e (suc j) (suc t))) *ℚ x (R (suc j) (suc t))) (λ j. whole (pos (c (suc t))) *ℚ owed_term e x (suc j) (suc t)) (λ j j_less.
    let a = pos (c (suc t)) in
    let b = pos (owed_times e (suc j) (suc t)) in
    ap (λ k. k *ℚ x (R (suc j) (suc t))) (whole-mul a b) ∙ Q.mul_assoc (whole a) (whole b) (x (R (suc j) (suc t))))
    ∙ sum-scale rational_ring e.items (whole (pos (c (suc t)))) (λ j. owed_term e x (suc j) (suc t)))

-- ---- all terms
part_by : (c : Bool) (d : ℕ) (y o u : ℚ) → (if c then whole (pos d) *ℚ y +ℚ o else u) ≡ whole (pos (if c then 0 else 1)) *ℚ u +ℚ whole (pos (if c then d else 0)) *ℚ y +ℚ (if c then o else zero_ℚ)
part_by true d y o u = ring4 rational_ring (λ d y o u. d ⊗ y ⊕ o ⊜ con (pos 0) ⊗ u ⊕ d ⊗ y ⊕ o) refl (whole (pos d)) y o u
part_by false d y o u = ring2 rational_ring (λ y u. u ⊜ con (pos 1) ⊗ u ⊕ con (pos 0) ⊗ y ⊕ con (pos 0)) refl y u

module _ (e : Echelon) (x : Fractions) (l : ℕ) (chosen : Periods) (low : 1 ≤ l) where
  abbrev units : ℕ → ℚ
  units t = whole (pos (unit_times chosen (suc t))) *ℚ x (X e.item (suc t))

  abbrev setups : ℕ → ℚ
  setups t = whole (pos (setup_times e.asked l chosen (suc t))) *ℚ x (Y e.item (suc t))

  terms_is : terms_part x (ls_terms e l chosen) ≡ sum_ℚ l units +ℚ (sum_ℚ l setups +ℚ (sum_ℚ l (before chosen (owed_part e x)) +ℚ owed_part e x l))
  terms_is =
      let kr = λ (j t : ℕ). backlog_times l chosen t * owed_times e j t in
      let xs = periods_to l (λ t. term (X e.item t) (pos (unit_times chosen t))) in
      let ys = periods_to l (λ t. term (Y e.item t) (pos (setup_times e.asked l chosen t))) in
      let rs = cells_to e.items l (λ j t. term (R j t) (pos (kr j t))) in
      part_append x xs (ys ++ rs)
      ∙ ap (λ s. s +ℚ terms_part x (ys ++ rs)) (periods_part x l (λ t. X e.item t) (unit_times chosen))
      ∙ ap (λ s. sum_ℚ l units +ℚ s)
      (part_append x ys rs ∙ ap (λ s. s +ℚ terms_part x rs) (periods_part x l (λ t. Y e.item t) (setup_times e.asked l chosen))
      ∙ ap (λ s. sum_ℚ l setups +ℚ s) (cells_part x e.items l (λ j t. R j t) kr ∙ weighed e x l (backlog_times l chosen) ∙ owed_total l chosen (owed_part e x) low (none_before e x)))

  parts_are : sum_ℚ l (λ t. period_part e x l chosen (suc t)) ≡ sum_ℚ l units +ℚ sum_ℚ l setups +ℚ sum_ℚ l (before chosen (owed_part e x))
  unfolding before
  parts_are =
      sum-same rational_ring l (λ t. period_part e x l chosen (suc t)) (λ t. units t +ℚ setups t +ℚ before chosen (owed_part e x) t) (λ t less.
      let back : suc t - 1 ≡ t = omega arith in
      part_by (chosen (suc t)) (demand_between e.asked (suc t) l) (x (Y e.item (suc t))) (owed_part e x (suc t - 1)) (x (X e.item (suc t)))
      ∙ ap (λ k. units t +ℚ setups t +ℚ (if chosen (suc t) then owed_part e x k else zero_ℚ)) back)
      ∙ sum-add rational_ring l (λ t. units t +ℚ setups t) (before chosen (owed_part e x))
      ∙ ap (λ s. s +ℚ sum_ℚ l (before chosen (owed_part e x))) (sum-add rational_ring l units setups)

  pub left_is : left_side e x l chosen ≡ whole (pos e.asked.opening) +ℚ terms_part x (ls_row e l chosen).terms
  left_is =
      let o = whole (pos e.asked.opening) in
      let b = owed_part e x l in
      let B = sum_ℚ l (before chosen (owed_part e x)) in
      ap (λ s. o +ℚ b +ℚ s) parts_are
      ∙ ring5 rational_ring (λ o b u s r. o ⊕ b ⊕ (u ⊕ s ⊕ r) ⊜ o ⊕ (u ⊕ (s ⊕ (r ⊕ b)))) refl o b (sum_ℚ l units) (sum_ℚ l setups) B
      ∙ ap (λ s. o +ℚ s) (sym terms_is)
      ∙ ap (λ s. o +ℚ s) (sym (part_some x (ls_terms e l chosen)))

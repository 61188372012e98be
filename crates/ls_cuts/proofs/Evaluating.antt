-- The evaluation of separation, period by period.
use Rattle.std.proofs.Common.{◌≡◌, ◌≤◌, ◌+◌, ◌-◌, ◌∙◌, ⊎_elim, ℕ, suc, refl, sym, ap, subst, arith, Bool, true, false, List, [], ◌∷◌, ◌++◌, length, slice_index_or}
use Rattle.std.specs.Prelude.{if◌then◌else◌, IsTrue, ◌↔◌, pos, ◌+ℤ◌}
use Rattle.std.proofs.Math.Seq.{get_or-append_seam}
use Rattle.std.proofs.lemmas.Bool.{cases_eq}
use Rattle.std.proofs.lemmas.List.{get_or_append_left}
use Rattle.algebra.proofs.Rings.{con, ◌⊕◌, ◌⊜◌, ring1}
use Rattle.algebra.proofs.Sums.{sum-same}
use Rattle.rational.specs.Rational.{ℚ, whole, ◌+ℚ◌, ◌≤ℚ◌}
use Rattle.rational.proofs.Rationals as Q
use Rattle.rational.proofs.Rationals.{rational_ring}
use Rattle.frac128.specs.Limits.{SumFits}
use Rattle.echelon.specs.Views.{marked}
use Rattle.lin_rows.specs.declared.column.Column.TheVariants.{X}
use Rattle.valid_inequalities.specs.Inequalities.{demand_between}
use Rattle.echelon_rows.specs.Rows.{Echelon}
use Rattle.ls_cuts.specs.Rows.{Periods}
use Rattle.ls_cuts.specs.Points.{Fractions, left_side, left_to, owed_part, period_part, setup_part, sum_ℚ}
use Rattle.ls_cuts.specs.Steps.{AreLesser, IsChoice, IsEvaluatedTo, PeriodFits, SomePasses, StartFits}

same_bools : (a b : Bool) → (a ≡ true → b ≡ true) → (b ≡ true → a ≡ true) → a ≡ b
same_bools true true there back = refl
same_bools false false there back = refl
same_bools true false there back = sym (there refl)
same_bools false true there back = back refl

one_choice : (a b : Bool) (P : Type 0) → IsTrue a ↔ P → IsTrue b ↔ P → a ≡ b
one_choice a b P first second = same_bools a b (λ h. second.1 (first.0 h)) (λ h. first.1 (second.0 h))

module _ (e : Echelon) (x : Fractions) (l : ℕ) where
  pub first : (chosen : Periods) (left : ℚ) → left ≡ whole (pos e.asked.opening) +ℚ owed_part e x l → IsEvaluatedTo e x l chosen 0 left
  first chosen left is = record {
    choices = λ t low high. absurd (omega (arith, low, high));
    fits = record { parts = λ t low high. absurd (omega (arith, low, high)); sums = λ t less. absurd (omega (arith, less)) };
    value = is ∙ ring1 rational_ring (λ a. a ⊜ a ⊕ con (pos 0)) refl (whole (pos e.asked.opening) +ℚ owed_part e x l);
  }

  part_same : (c d : Periods) (t : ℕ) → c t ≡ d t → period_part e x l c t ≡ period_part e x l d t
  part_same c d t same = ap (λ b. if b then setup_part e x l t else x (X e.item t)) same

  left_same : (c d : Periods) (n : ℕ) → ((t : ℕ) → 1 ≤ t → t ≤ n → c t ≡ d t) → left_to e x l c n ≡ left_to e x l d n
  left_same c d n same = ap (λ s. whole (pos e.asked.opening) +ℚ owed_part e x l +ℚ s) (sum-same rational_ring n (λ t. period_part e x l c (suc t)) (λ t. period_part e x l d (suc t)) (λ t less. part_same c d (suc t) (same (suc t) (omega arith) (omega (arith, less)))))

  agree : (c d : Periods) (n : ℕ) (left : ℚ) → ((t : ℕ) → 1 ≤ t → t ≤ n → c t ≡ d t) → IsEvaluatedTo e x l c n left → IsEvaluatedTo e x l d n left
  agree c d n left same h = record {
    choices = λ t low high. subst (λ b. IsTrue b ↔ (x (X e.item t) ≤ℚ setup_part e x l t → ⊥)) (same t low high) (h.choices t low high);
    fits = record {
      parts = h.fits.parts;
      sums = λ t less.
          subst (λ p. SumFits ◌+ℤ◌ (left_to e x l d t) p) (part_same c d (suc t) (same (suc t) (omega arith) (omega (arith, less))))
          (subst (λ s. SumFits ◌+ℤ◌ s (period_part e x l c (suc t))) (left_same c d t (λ k low high. same k low (omega (arith, high, less)))) (h.fits.sums t less));
    };
    value = h.value ∙ left_same c d n same;
  }

  extend : (c : Periods) (n : ℕ) (left part next : ℚ) → IsEvaluatedTo e x l c n left → IsChoice e x (demand_between e.asked (suc n) l) (suc n) (c (suc n)) part → SumFits ◌+ℤ◌ left part → next ≡ left +ℚ part → IsEvaluatedTo e x l c (suc n) next
  extend c n left part next h choice fits value = record {
    choices = λ t low high. ⊎_elim
        (λ last. subst (λ k. IsTrue (c k) ↔ (x (X e.item k) ≤ℚ setup_part e x l k → ⊥)) (sym last) choice.chosen_is)
        (λ before. h.choices t low (omega (arith, high, before)))
        (cases_eq t (suc n));
    fits = record {
      parts = λ t low high. ⊎_elim
          (λ last. subst (λ k. PeriodFits e x (demand_between e.asked k l) k) (sym last) choice.fits)
          (λ before. h.fits.parts t low (omega (arith, high, before)))
          (cases_eq t (suc n));
      sums = λ t less. ⊎_elim
          (λ last. subst (λ k. SumFits ◌+ℤ◌ (left_to e x l c k) (period_part e x l c (suc k))) (sym last) (subst (λ p. SumFits ◌+ℤ◌ (left_to e x l c n) p) choice.part_is (subst (λ s. SumFits ◌+ℤ◌ s part) h.value fits)))
          (λ before. h.fits.sums t (omega (arith, less, before)))
          (cases_eq t n);
    };
    value = value ∙ ap (λ s. s +ℚ part) h.value ∙ ap (λ p. left_to e x l c n +ℚ p) choice.part_is ∙ Q.add_assoc (whole (pos e.asked.opening) +ℚ owed_part e x l) (sum_ℚ n (λ t. period_part e x l c (suc t))) (period_part e x l c (suc n));
  }

  appended : (list : List Bool) (b : Bool) (n : ℕ) (left part next : ℚ) → length list ≡ n → IsEvaluatedTo e x l (marked list) n left → IsChoice e x (demand_between e.asked (suc n) l) (suc n) b part → SumFits ◌+ℤ◌ left part → next ≡ left +ℚ part → IsEvaluatedTo e x l (marked (list ++ (b ∷ []))) (suc n) next
  appended list b n left part next size h choice fits value =
      let new = list ++ (b ∷ []) in
      let place : suc n - 1 ≡ length list = omega (arith, size) in
      let here : marked new (suc n) ≡ b = ap (λ k. slice_index_or new k false) place ∙ get_or-append_seam list b [] false in
      extend (marked new) n left part next
      (agree (marked list) (marked new) n left (λ t low high. sym (get_or_append_left list (b ∷ []) false (t - 1) (omega (arith, low, high, size)))) h)
      (subst (λ k. IsChoice e x (demand_between e.asked (suc n) l) (suc n) k part) (sym here) choice) fits value

  pub pushed : (list new : List Bool) (b : Bool) (period demand : ℕ) (left part next : ℚ) → 1 ≤ period → length list ≡ period - 1 → demand ≡ demand_between e.asked period l → IsEvaluatedTo e x l (marked list) (period - 1) left → IsChoice e x demand period b part → SumFits ◌+ℤ◌ left part → next ≡ left +ℚ part → new ≡ list ++ (b ∷ []) → IsEvaluatedTo e x l (marked new) (period + 1 - 1) next
  pushed list new b period demand left part next low size is h choice fits value new_is =
      let n = period - 1 in
      let same : period ≡ suc n = omega (arith, low) in
      let count : suc n ≡ period + 1 - 1 = omega (arith, low) in
      let exact = subst (λ k. IsChoice e x k period b part) is choice in
      subst (λ k. IsEvaluatedTo e x l (marked new) k next) count
      (subst (λ xs. IsEvaluatedTo e x l (marked xs) (suc n) next) (sym new_is)
      (appended list b n left part next size h (subst (λ k. IsChoice e x (demand_between e.asked k l) k b part) same exact) fits value))

  -- a sum that doesn't fit, whatever choice is given
  pub stuck : (c : Periods) (b : Bool) (period demand : ℕ) (left part : ℚ) → 1 ≤ period → period ≤ l → demand ≡ demand_between e.asked period l → IsEvaluatedTo e x l c (period - 1) left → IsChoice e x demand period b part → (SumFits ◌+ℤ◌ left part → ⊥) → SomePasses e x l
  stuck c b period demand left part low high is h choice lacks other chosen fits =
      let n = period - 1 in
      let same : period ≡ suc n = omega (arith, low) in
      let exact = subst (λ k. IsChoice e x (demand_between e.asked k l) k b part) same (subst (λ k. IsChoice e x k period b part) is choice) in
      let before = left_same c other n (λ t t_low t_high. one_choice (c t) (other t) _ (h.choices t t_low t_high) (chosen t t_low (omega (arith, t_high, high)))) in
      let here : b ≡ other (suc n) = one_choice b (other (suc n)) _ exact.chosen_is (chosen (suc n) (omega arith) (omega (arith, same, high))) in
      let part_is : part ≡ period_part e x l other (suc n) = exact.part_is ∙ ap (λ k. if k then setup_part e x l (suc n) else x (X e.item (suc n))) here in
      lacks (subst (λ p. SumFits ◌+ℤ◌ left p) (sym part_is) (subst (λ s. SumFits ◌+ℤ◌ s (period_part e x l other (suc n))) (sym (h.value ∙ before)) (fits.periods.sums n (omega (arith, same, high)))))

  pub evaluated : (list : List Bool) (n : ℕ) (left : ℚ) → n ≡ l → length list ≡ n → StartFits e x l → IsEvaluatedTo e x l (marked list) n left → AreLesser e x l list × (left ≡ left_side e x l (marked list))
  evaluated list n left is size start h =
      let all = subst (λ k. IsEvaluatedTo e x l (marked list) k left) is h in
      (record { size = size ∙ is; chosen = all.choices; fits = record { start = start; periods = all.fits } }, all.value)

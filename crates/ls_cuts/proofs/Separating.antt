-- The set of the lesser parts, by fractions and at the points that have them.
use Rattle.std.proofs.Common.{◌≡◌, ◌≤◌, ◌<◌, ◌+◌, ◌-◌, ◌*◌, ◌∙◌, ⊎_elim, ℕ, zero, suc, refl, sym, ap, subst, arith, Bool, true, false}
use Rattle.std.specs.Prelude.{if◌then◌else◌, IsTrue, ◌↔◌, nat_lt, ℤ, pos, neg_ℤ, ◌+ℤ◌, ◌-ℤ◌, ◌*ℤ◌, ◌≤ℤ◌}
use Rattle.std.proofs.lemmas.Bool.{cases_eq, cases_lt}
use Rattle.std.proofs.lemmas.Int.{ints}
use Rattle.algebra.proofs.Order.{linear}
use Rattle.algebra.proofs.Ordered.{mul_le}
use Rattle.algebra.proofs.Rings.{int_ring, con, ◌⊕◌, ◌⊖◌, ◌⊗◌, ◌⊜◌, ring3, ring4}
use Rattle.algebra.proofs.Sums.{sum-le, sum-same, sum-scale}
use Rattle.std.specs.declared.cmp.Ordering.{Ordering}
use Rattle.std.specs.declared.cmp.Ordering.TheVariants.{Less, Equal, Greater}
use Rattle.rational.specs.Rational.{ℚ, whole, ◌+ℚ◌, ◌*ℚ◌, ◌≤ℚ◌, IsOrder, cmp_ℚ}
use Rattle.rational.proofs.Rationals as Q
use Rattle.rational.proofs.Rationals.{rational_ring, rational_ordered, whole-add, whole-mul}
use Rattle.rational.proofs.Orders.{order_of}
use Rattle.rational.proofs.Facts.{cancel_le, le-whole, lt-le, whole-le, ◌<ℚ◌}
use Rattle.lot_sizing.specs.Sums.{sum_to}
use Rattle.lot_sizing.proofs.Sums.{sum_to-same}
use Rattle.lin_rows.specs.declared.column.Column.TheVariants.{X, Y, R}
use Rattle.lin_rows.specs.Rows.{HoldsAt, LinPoint, sum_at}
use Rattle.valid_inequalities.specs.Inequalities.{demand_between, ls_part}
use Rattle.echelon_rows.specs.Rows.{Echelon, backlog_at, owed_times, trajectory_at}
use Rattle.ls_cuts.specs.Rows.{Periods, ls_row}
use Rattle.ls_cuts.specs.Points.{AreFractionsOf, Fractions, IsChosen, asked_part, left_side, owed_part, owed_term, period_part, setup_part, sum_ℚ}
use Rattle.ls_cuts.specs.Laws.{Separates}
use Rattle.ls_cuts.proofs.Least.{cheaper, least_sum, setup_at}
use Rattle.ls_cuts.proofs.Sides.{row_sum}

-- a sum of naturals as one of fractions
sum_whole : (n : ℕ) (f : ℕ → ℕ) → whole (pos (sum_to n f)) ≡ sum_ℚ n (λ j. whole (pos (f (suc j))))
sum_whole zero f = refl
sum_whole (suc n) f = whole-add (pos (sum_to n f)) (pos (f (suc n))) ∙ ap (λ s. s +ℚ whole (pos (f (suc n)))) (sum_whole n f)

-- each part times the denominator
sum_scaled : (d : ℚ) (n : ℕ) (f : ℕ → ℕ) (g : ℕ → ℚ) → ((j : ℕ) → 1 ≤ j → j ≤ n → whole (pos (f j)) ≡ d *ℚ g j) → whole (pos (sum_to n f)) ≡ d *ℚ sum_ℚ n (λ j. g (suc j))
sum_scaled d n f g each = sum_whole n f ∙ sum-same rational_ring n (λ j. whole (pos (f (suc j)))) (λ j. d *ℚ g (suc j)) (λ j less. each (suc j) (omega arith) (omega (arith, less))) ∙ sum-scale rational_ring n d (λ j. g (suc j))

zero_or_more : (k : ℕ) (A : Type 0) → (k ≡ 0 → A) → (1 ≤ k → A) → A
zero_or_more zero A none some = none refl
zero_or_more (suc k) A none some = some (omega arith)

lt_is : (a b : ℕ) → a < b → nat_lt a b ≡ true
lt_is a b less = grind (arith, less)

lt_not : (a b : ℕ) → b ≤ a → nat_lt a b ≡ false
lt_not a b most = grind (arith, most)

not_chosen : (b : Bool) → (b ≡ true → ⊥) → b ≡ false
not_chosen true h = absurd (h refl)
not_chosen false h = refl

chosen_part : (d : ℚ) (b : Bool) (p x : ℕ) (s y : ℚ) → whole (pos p) ≡ d *ℚ s → whole (pos x) ≡ d *ℚ y → whole (pos (if b then p else x)) ≡ d *ℚ (if b then s else y)
chosen_part d true p x s y first second = first
chosen_part d false p x s y first second = second

-- an order that can't fail holds
pub stable : (a b : ℚ) → ((a ≤ℚ b → ⊥) → ⊥) → a ≤ℚ b
stable a b h = by (cmp_ℚ a b) (order_of a b)
  where
    by : (o : Ordering) → IsOrder a b o → a ≤ℚ b
    by Less less = lt-le a b less
    by Equal same = subst (λ c. a ≤ℚ c) same (Q.le_refl a)
    by Greater more = absurd (h more)

-- the lesser part is at most either
least_of : (b c : Bool) (s y : ℚ) → IsTrue b ↔ (y ≤ℚ s → ⊥) → (if b then s else y) ≤ℚ (if c then s else y)
least_of true true s y is = Q.le_refl s
least_of true false s y is = lt-le s y (is.0 refl)
least_of false true s y is = stable y s (λ more. cc (is.1 more))
least_of false false s y is = Q.le_refl y

minus : (x y : ℤ) → x -ℤ y ≡ x +ℤ neg_ℤ y
minus x y = omega (arith, ints)

product : (a o d : ℕ) → (pos a -ℤ pos o) *ℤ pos d ≡ pos (a * d) -ℤ pos (o * d)
product a o d =
    ap (λ z. z *ℤ pos d) (minus (pos a) (pos o))
    ∙ ring3 int_ring (λ a o d. (a ⊖ o) ⊗ d ⊜ a ⊗ d ⊖ o ⊗ d) refl (pos a) (pos o) (pos d)
    ∙ sym (minus (pos (a * d)) (pos (o * d)))

-- a row against its right side
less_left : (asked opening total den : ℕ) → ((pos asked -ℤ pos opening) *ℤ pos den) ≤ℤ pos total → asked * den ≤ opening * den + total
less_left asked opening total den h = omega (arith, ints, h, product asked opening den)

more_left : (asked opening total den : ℕ) (sum : ℤ) → asked * den ≤ opening * den + total → pos total ≤ℤ sum → ((pos asked -ℤ pos opening) *ℤ pos den) ≤ℤ sum
more_left asked opening total den sum h enough = omega (arith, ints, h, enough, product asked opening den)

module _ (e : Echelon) (x : Fractions) (l : ℕ) (chosen : Periods) (low : 1 ≤ l) (is : IsChosen e x l chosen) where
  -- in fractions
  least_part : (other : Periods) (t : ℕ) → 1 ≤ t → t ≤ l → period_part e x l chosen t ≤ℚ period_part e x l other t
  least_part other t t_low t_high = least_of (chosen t) (other t) (setup_part e x l t) (x (X e.item t)) (is t t_low t_high)

  least : (other : Periods) → left_side e x l chosen ≤ℚ left_side e x l other
  least other =
      let start = whole (pos e.asked.opening) +ℚ owed_part e x l in
      Q.add_le start (sum_ℚ l (λ t. period_part e x l chosen (suc t))) (sum_ℚ l (λ t. period_part e x l other (suc t)))
      (sum-le rational_ordered l (λ t. period_part e x l chosen (suc t)) (λ t. period_part e x l other (suc t)) (λ t less. least_part other (suc t) (omega arith) (omega (arith, less))))

  -- at a point
  module _ (q : LinPoint) (point : AreFractionsOf e l q x) where
    abbrev d : ℚ
    d = whole (pos q.den)

    d_above : whole (pos 0) <ℚ whole (pos q.den)
    d_above le = let h = le-whole (pos q.den) (pos 0) le in omega (arith, ints, h, q.positive)

    d_low : whole (pos 0) ≤ℚ whole (pos q.den)
    d_low = whole-le (pos 0) (pos q.den) (omega (arith, ints))

    owed_one : (j t : ℕ) → 1 ≤ j → j ≤ e.items → t ≤ l → whole (pos (owed_times e j t * q.values (R j t))) ≡ d *ℚ owed_term e x j t
    owed_one j t j_low j_high t_high =
        let o = owed_times e j t in
        whole-mul (pos o) (pos (q.values (R j t)))
        ∙ zero_or_more o (whole (pos o) *ℚ whole (pos (q.values (R j t))) ≡ d *ℚ (whole (pos o) *ℚ x (R j t)))
        (λ none.
        ap (λ k. whole (pos k) *ℚ whole (pos (q.values (R j t)))) none
        ∙ ring3 rational_ring (λ v d x. con (pos 0) ⊗ v ⊜ d ⊗ (con (pos 0) ⊗ x)) refl (whole (pos (q.values (R j t)))) d (x (R j t))
        ∙ ap (λ k. d *ℚ (whole (pos k) *ℚ x (R j t))) (sym none))
        (λ some.
        let t_low : 1 ≤ t = ⊎_elim (λ first. absurd (omega (arith, some, ap (owed_times e j) first))) (λ later. omega (arith, later)) (cases_eq t 0) in
        ap (λ v. whole (pos o) *ℚ v) (point.backlogs j t j_low j_high t_low t_high some)
        ∙ ring3 rational_ring (λ o d x. o ⊗ (d ⊗ x) ⊜ d ⊗ (o ⊗ x)) refl (whole (pos o)) d (x (R j t)))

    owed : (t : ℕ) → t ≤ l → whole (pos (backlog_at e q.values t)) ≡ d *ℚ owed_part e x t
    owed t high = sum_scaled d e.items (λ j. owed_times e j t * q.values (R j t)) (λ j. owed_term e x j t) (λ j j_low j_high. owed_one j t j_low j_high high)

    setups : (t : ℕ) → 1 ≤ t → t ≤ l → whole (pos (setup_at e q.values l t)) ≡ d *ℚ setup_part e x l t
    setups t t_low t_high =
        let k = pos (demand_between e.asked t l) in
        whole-add (pos (demand_between e.asked t l * q.values (Y e.item t))) (pos (backlog_at e q.values (t - 1)))
        ∙ ap (λ a. a +ℚ whole (pos (backlog_at e q.values (t - 1)))) (whole-mul k (pos (q.values (Y e.item t))) ∙ ap (λ v. whole k *ℚ v) (point.setups t t_low t_high))
        ∙ ap (λ a. whole k *ℚ (d *ℚ x (Y e.item t)) +ℚ a) (owed (t - 1) (omega (arith, t_high)))
        ∙ ring4 rational_ring (λ k d y o. k ⊗ (d ⊗ y) ⊕ d ⊗ o ⊜ d ⊗ (k ⊗ y ⊕ o)) refl (whole k) d (x (Y e.item t)) (owed_part e x (t - 1))

    -- both choose alike
    same_choice : (t : ℕ) → 1 ≤ t → t ≤ l → chosen t ≡ cheaper e q.values l t
    same_choice t t_low t_high =
        let makes = point.units t t_low t_high in
        let adds = setups t t_low t_high in
        let v = q.values (X e.item t) in
        let s = setup_at e q.values l t in
        ⊎_elim
        (λ less.
        (is t t_low t_high).1 (λ most.
        let h = le-whole (pos v) (pos s) (subst (λ a. a ≤ℚ whole (pos s)) (sym makes) (subst (λ a. d *ℚ x (X e.item t) ≤ℚ a) (sym adds) (mul_le rational_ordered d (x (X e.item t)) (setup_part e x l t) d_low most))) in
        omega (arith, ints, h, less))
        ∙ sym (lt_is s v less))
        (λ most.
        not_chosen (chosen t) (λ yes. (is t t_low t_high).0 yes
        (cancel_le d (x (X e.item t)) (setup_part e x l t) d_above (subst (λ a. a ≤ℚ d *ℚ setup_part e x l t) makes (subst (λ a. whole (pos v) ≤ℚ a) adds (whole-le (pos v) (pos s) (omega (arith, ints, most)))))))
        ∙ sym (lt_not s v most))
        (cases_lt s v)

    abbrev part : Periods → ℕ → ℕ
    part choice = ls_part e.asked (trajectory_at e q.values) l choice

    abbrev total : Periods → ℕ
    total choice = sum_to l (part choice) + backlog_at e q.values l

    -- the left side times the denominator
    left : whole (pos (e.asked.opening * q.den + total chosen)) ≡ d *ℚ left_side e x l chosen
    left =
        let o = e.asked.opening in
        let b = backlog_at e q.values l in
        let s = sum_to l (part chosen) in
        let parts = sum_scaled d l (part chosen) (period_part e x l chosen) (λ t t_low t_high. chosen_part d (chosen t) (setup_at e q.values l t) (q.values (X e.item t)) (setup_part e x l t) (x (X e.item t)) (setups t t_low t_high) (point.units t t_low t_high)) in
        whole-add (pos (o * q.den)) (pos (s + b))
        ∙ ap (λ a. a +ℚ whole (pos (s + b))) (whole-mul (pos o) (pos q.den))
        ∙ ap (λ a. whole (pos o) *ℚ d +ℚ a) (whole-add (pos s) (pos b))
        ∙ ap (λ a. whole (pos o) *ℚ d +ℚ (a +ℚ whole (pos b))) parts
        ∙ ap (λ a. whole (pos o) *ℚ d +ℚ (d *ℚ sum_ℚ l (λ t. period_part e x l chosen (suc t)) +ℚ a)) (owed l (omega arith))
        ∙ ring4 rational_ring (λ o d s b. o ⊗ d ⊕ (d ⊗ s ⊕ d ⊗ b) ⊜ d ⊗ (o ⊕ b ⊕ s)) refl (whole (pos o)) d (sum_ℚ l (λ t. period_part e x l chosen (suc t))) (owed_part e x l)

    most : (other : Periods) → sum_at q.values (ls_row e l chosen).terms ≤ℤ sum_at q.values (ls_row e l other).terms
    most other =
        let same = sum_to-same l (part chosen) (part (cheaper e q.values l)) (λ t t_low t_high. ap (λ c. if c then setup_at e q.values l t else q.values (X e.item t)) (same_choice t t_low t_high)) in
        omega (arith, linear, row_sum e q.values l chosen low, row_sum e q.values l (cheaper e q.values l) low, same, least_sum e q.values l other low)

    abbrev asked : ℕ
    asked = demand_between e.asked 1 l

    flat : whole (pos (asked * q.den)) ≡ d *ℚ asked_part e l
    flat = whole-mul (pos asked) (pos q.den) ∙ Q.mul_comm (whole (pos asked)) d

    met_then : HoldsAt q (ls_row e l chosen) → asked_part e l ≤ℚ left_side e x l chosen
    met_then met =
        let h : asked * q.den ≤ e.asked.opening * q.den + total chosen = less_left asked e.asked.opening (total chosen) q.den (subst (λ s. ((pos asked -ℤ pos e.asked.opening) *ℤ pos q.den) ≤ℤ s) (row_sum e q.values l chosen low) met) in
        cancel_le d (whole (pos asked)) (left_side e x l chosen) d_above
        (subst (λ a. a ≤ℚ d *ℚ left_side e x l chosen) flat (subst (λ a. whole (pos (asked * q.den)) ≤ℚ a) left (whole-le (pos (asked * q.den)) (pos (e.asked.opening * q.den + total chosen)) (omega (arith, ints, h)))))

    then_met : asked_part e l ≤ℚ left_side e x l chosen → (other : Periods) → HoldsAt q (ls_row e l other)
    then_met high other =
        let h = le-whole (pos (asked * q.den)) (pos (e.asked.opening * q.den + total chosen))
        (subst (λ a. a ≤ℚ whole (pos (e.asked.opening * q.den + total chosen))) (sym flat) (subst (λ a. d *ℚ whole (pos asked) ≤ℚ a) (sym left) (mul_le rational_ordered d (whole (pos asked)) (left_side e x l chosen) d_low high))) in
        more_left asked e.asked.opening (total chosen) q.den _ (omega (arith, ints, h)) (subst (λ s. s ≤ℤ sum_at q.values (ls_row e l other).terms) (row_sum e q.values l chosen low) (most other))

  pub separates : Separates e x l chosen
  separates = record {
    least = record { fractions = least; points = λ q point other. most q point other };
    violated = λ below. record { fractions = below; points = λ q point holds. below (met_then q point holds) };
    met = λ high. record { fractions = λ other. Q.le_trans (asked_part e l) (left_side e x l chosen) (left_side e x l other) high (least other); points = λ q point other. then_met q point high other };
  }

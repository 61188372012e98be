-- What the end of a run says of the program.
use Rattle.std.proofs.Common.{◌≡◌, ◌≢◌, ◌≤◌, ◌<◌, ◌+◌, ◌-◌, ◌∙◌, ⊎_elim, ℕ, refl, sym, ap, subst, arith}
use Rattle.std.proofs.lemmas.Bool.{cases_eq}
use Rattle.std.proofs.lemmas.Int.{ints}
use Rattle.std.specs.Prelude.{pos, negsuc, if◌then◌else◌, ◌==◌, nat_lt}
use Rattle.rational.specs.Rational.{ℚ, whole, ◌+ℚ◌, ◌*ℚ◌, ◌-ℚ◌, ◌≤ℚ◌}
use Rattle.rational.proofs.Rationals as Q
use Rattle.rational.proofs.Rationals.{rational_ring, rational_ordered}
use Rattle.rational.proofs.Facts.{whole-le}
use Rattle.algebra.proofs.Rings.{con, ◌⊕◌, ◌⊖◌, ◌⊗◌, ◌⊜◌, ring1, ring2, ring3}
use Rattle.algebra.proofs.Claims.{le2, le3, le5, same3, same4, same5, so, from, from_same}
use Rattle.algebra.proofs.Sums.{sum-add, sum-le, sum-nonneg, sum-only, sum-same, sum-scale, sum-split, sum-sub, sum-swap, sum-zero}
use Rattle.tableau.specs.Program.{Program, column_count, cost_at, entry_at, right_at, row_count, sum_ℚ, zero_ℚ}
use Rattle.tableau.specs.Dictionary.{Dictionary, Meets, Solves, basic_at, cell, cost_of, height, nonbasic_at, slack_of, width}
use Rattle.tableau.specs.Run.{IsPrimalFeasible, IsNegative}
use Rattle.tableau.specs.Meaning.{AreBest, AreEmpty, IsBasis, IsDictionaryOf, coefficient_at, column_sum, cost_sum, opposite_at, right_sum, value_at}
use Rattle.tableau.proofs.Numbers.{if_other, if_same, sum_one}

le_self : (a b : ℚ) → a ≡ b → a ≤ℚ b
le_self a b e = subst (λ x. a ≤ℚ x) e (Q.le_refl a)

if_le : (a b : ℕ) (x : ℚ) → (a ≡ b → zero_ℚ ≤ℚ x) → zero_ℚ ≤ℚ (if a == b then x else zero_ℚ)
if_le a b x le = ⊎_elim (λ is. subst (λ z. zero_ℚ ≤ℚ z) (sym (if_same a b x zero_ℚ is)) (le is)) (λ apart. le_self zero_ℚ _ (sym (if_other a b x zero_ℚ apart))) (cases_eq a b)

module _ (p : Program) (d : Dictionary) (names : IsBasis p d) where
  -- the number of variables but the cost
  abbrev all : ℕ
  all = column_count p + row_count p

  -- ---- a row by variables in place of columns
  module _ (i : ℕ) (u : ℕ → ℚ) where
    abbrev part : ℕ → ℕ → ℚ
    part t v = (if nonbasic_at d t == v + 1 then cell d i t else zero_ℚ) *ℚ u (v + 1)

    -- a column's term comes from its variable alone
    from_variable : (t : ℕ) → t < width d → sum_ℚ all (part t) ≡ (if t == 0 then zero_ℚ else cell d i t *ℚ u (nonbasic_at d t))
    from_variable t high = ⊎_elim first later (cases_eq t 0)
      where
        none : (v : ℕ) → nonbasic_at d t ≢ v + 1 → part t v ≡ zero_ℚ
        none v apart = ap (λ z. z *ℚ u (v + 1)) (if_other (nonbasic_at d t) (v + 1) (cell d i t) zero_ℚ apart) ∙ ring1 rational_ring (λ a. con (pos 0) ⊗ a ⊜ con (pos 0)) refl (u (v + 1))

        first : t ≡ 0 → sum_ℚ all (part t) ≡ (if t == 0 then zero_ℚ else cell d i t *ℚ u (nonbasic_at d t))
        first is = sum-zero rational_ring all (part t) (λ v less. none v (λ e. omega (arith, e, names.constants, ap (nonbasic_at d) is))) ∙ sym (if_same t 0 zero_ℚ (cell d i t *ℚ u (nonbasic_at d t)) is)

        later : t ≢ 0 → sum_ℚ all (part t) ≡ (if t == 0 then zero_ℚ else cell d i t *ℚ u (nonbasic_at d t))
        later some =
            let low = names.nonbasics_low t (omega (arith, some)) high in
            let v = nonbasic_at d t - 1 in
            let is : v + 1 ≡ nonbasic_at d t = omega (arith, low) in
            sum-only rational_ring all v (part t) (omega (arith, low, names.nonbasics_high t high)) (λ w less apart. none w (λ e. apart (omega (arith, e, is))))
            ∙ ap (λ z. z *ℚ u (v + 1)) (if_same (nonbasic_at d t) (v + 1) (cell d i t) zero_ℚ (sym is)) ∙ ap (λ w. cell d i t *ℚ u w) is
            ∙ sym (if_other t 0 zero_ℚ (cell d i t *ℚ u (nonbasic_at d t)) some)

    variables_sum : sum_ℚ all (λ v. coefficient_at d i (v + 1) *ℚ u (v + 1)) ≡ sum_ℚ (width d) (λ t. if t == 0 then zero_ℚ else cell d i t *ℚ u (nonbasic_at d t))
    variables_sum =
        sum-same rational_ring all (λ v. coefficient_at d i (v + 1) *ℚ u (v + 1)) (λ v. sum_ℚ (width d) (λ t. part t v)) (λ v less.
        Q.mul_comm (coefficient_at d i (v + 1)) (u (v + 1)) ∙ sym (sum-scale rational_ring (width d) (u (v + 1)) (λ t. if nonbasic_at d t == v + 1 then cell d i t else zero_ℚ))
        ∙ sum-same rational_ring (width d) (λ t. u (v + 1) *ℚ (if nonbasic_at d t == v + 1 then cell d i t else zero_ℚ)) (λ t. part t v) (λ t high. Q.mul_comm (u (v + 1)) (if nonbasic_at d t == v + 1 then cell d i t else zero_ℚ)))
        ∙ sum-swap rational_ring all (width d) (λ v t. part t v)
        ∙ sum-same rational_ring (width d) (λ t. sum_ℚ all (part t)) (λ t. if t == 0 then zero_ℚ else cell d i t *ℚ u (nonbasic_at d t)) from_variable

    row_split : sum_ℚ (width d) (λ t. cell d i t *ℚ u (nonbasic_at d t)) ≡ cell d i 0 *ℚ u 0 +ℚ sum_ℚ all (λ v. coefficient_at d i (v + 1) *ℚ u (v + 1))
    row_split =
        sum-same rational_ring (width d) (λ t. cell d i t *ℚ u (nonbasic_at d t)) (λ t. (if t == 0 then cell d i 0 *ℚ u 0 else zero_ℚ) +ℚ (if t == 0 then zero_ℚ else cell d i t *ℚ u (nonbasic_at d t))) (λ t high. ⊎_elim (first t) (later t) (cases_eq t 0))
        ∙ sum-add rational_ring (width d) (λ t. if t == 0 then cell d i 0 *ℚ u 0 else zero_ℚ) (λ t. if t == 0 then zero_ℚ else cell d i t *ℚ u (nonbasic_at d t))
        ∙ ap (λ s. s +ℚ sum_ℚ (width d) (λ t. if t == 0 then zero_ℚ else cell d i t *ℚ u (nonbasic_at d t))) (sum_one (width d) 0 (cell d i 0 *ℚ u 0) (omega (arith, names.columns)))
        ∙ ap (λ s. cell d i 0 *ℚ u 0 +ℚ s) (sym variables_sum)
      where
        first : (t : ℕ) → t ≡ 0 → cell d i t *ℚ u (nonbasic_at d t) ≡ (if t == 0 then cell d i 0 *ℚ u 0 else zero_ℚ) +ℚ (if t == 0 then zero_ℚ else cell d i t *ℚ u (nonbasic_at d t))
        first t is =
            ap (λ h. cell d i h *ℚ u (nonbasic_at d h)) is ∙ ap (λ v. cell d i 0 *ℚ u v) names.constants ∙ ring1 rational_ring (λ a. a ⊜ a ⊕ con (pos 0)) refl (cell d i 0 *ℚ u 0)
            ∙ ap (λ a. a +ℚ zero_ℚ) (sym (if_same t 0 (cell d i 0 *ℚ u 0) zero_ℚ is)) ∙ ap (λ b. (if t == 0 then cell d i 0 *ℚ u 0 else zero_ℚ) +ℚ b) (sym (if_same t 0 zero_ℚ (cell d i t *ℚ u (nonbasic_at d t)) is))

        later : (t : ℕ) → t ≢ 0 → cell d i t *ℚ u (nonbasic_at d t) ≡ (if t == 0 then cell d i 0 *ℚ u 0 else zero_ℚ) +ℚ (if t == 0 then zero_ℚ else cell d i t *ℚ u (nonbasic_at d t))
        later t some =
            sym (Q.zero_add (cell d i t *ℚ u (nonbasic_at d t)))
            ∙ ap (λ a. a +ℚ cell d i t *ℚ u (nonbasic_at d t)) (sym (if_other t 0 (cell d i 0 *ℚ u 0) zero_ℚ some)) ∙ ap (λ b. (if t == 0 then cell d i 0 *ℚ u 0 else zero_ℚ) +ℚ b) (sym (if_other t 0 zero_ℚ (cell d i t *ℚ u (nonbasic_at d t)) some))

  -- ---- the point where the nonbasic variables are 0
  basic_value : (i : ℕ) → i < height d → value_at d (basic_at d i) ≡ cell d i 0
  basic_value i high =
      sum-only rational_ring (height d) i (λ h. if basic_at d h == basic_at d i then cell d h 0 else zero_ℚ) high (λ h h_high apart. if_other (basic_at d h) (basic_at d i) (cell d h 0) zero_ℚ (λ e. apart (names.rows_apart h i h_high high e)))
      ∙ if_same (basic_at d i) (basic_at d i) (cell d i 0) zero_ℚ refl

  nonbasic_value : (t : ℕ) → t < width d → value_at d (nonbasic_at d t) ≡ zero_ℚ
  nonbasic_value t high = sum-zero rational_ring (height d) (λ h. if basic_at d h == nonbasic_at d t then cell d h 0 else zero_ℚ) (λ h h_high. if_other (basic_at d h) (nonbasic_at d t) (cell d h 0) zero_ℚ (names.apart h t h_high high))

  abbrev pub corner : ℕ → ℚ
  corner v = if v == 0 then whole (pos 1) else value_at d v

  pub corner_solves : Solves d corner
  corner_solves i high =
      if_other (basic_at d i) 0 (whole (pos 1)) (value_at d (basic_at d i)) (λ e. omega (arith, e, names.basics_low i high)) ∙ basic_value i high ∙ sym row
    where
      later : (t : ℕ) → t < width d → t ≢ 0 → cell d i t *ℚ corner (nonbasic_at d t) ≡ zero_ℚ
      later t t_high some =
          ap (λ z. cell d i t *ℚ z) (if_other (nonbasic_at d t) 0 (whole (pos 1)) (value_at d (nonbasic_at d t)) (λ e. omega (arith, e, names.nonbasics_low t (omega (arith, some)) t_high)) ∙ nonbasic_value t t_high)
          ∙ ring1 rational_ring (λ a. a ⊗ con (pos 0) ⊜ con (pos 0)) refl (cell d i t)

      row : sum_ℚ (width d) (λ t. cell d i t *ℚ corner (nonbasic_at d t)) ≡ cell d i 0
      row =
          sum-only rational_ring (width d) 0 (λ t. cell d i t *ℚ corner (nonbasic_at d t)) (omega (arith, names.columns)) later
          ∙ ap (λ v. cell d i 0 *ℚ corner v) names.constants ∙ ap (λ z. cell d i 0 *ℚ z) (if_same 0 0 (whole (pos 1)) (value_at d 0) refl)
          ∙ ring1 rational_ring (λ a. a ⊗ con (pos 1) ⊜ a) refl (cell d i 0)

-- ---- values of all variables by those of the columns and the constants
abbrev slack_value : Program → (ℕ → ℚ) → ℚ → ℕ → ℚ
slack_value p z s k = sum_ℚ (column_count p) (λ c. entry_at p k c *ℚ z c) -ℚ right_at p k *ℚ s

abbrev extend : Program → (ℕ → ℚ) → ℚ → ℕ → ℚ
extend p z s v = if v == 0 then s else (if nat_lt v (column_count p + 1) then z (v - 1) else (if nat_lt v (cost_of p) then slack_value p z s (v - (column_count p + 1)) else cost_sum p z))

if_less : (a b : ℕ) (x y : ℚ) → a < b → (if nat_lt a b then x else y) ≡ x
if_less a b x y e = grind (arith, e)

if_not_less : (a b : ℕ) (x y : ℚ) → b ≤ a → (if nat_lt a b then x else y) ≡ y
if_not_less a b x y e = grind (arith, e)

module _ (p : Program) (z : ℕ → ℚ) (s : ℚ) where
  extend_none : extend p z s 0 ≡ s
  extend_none = refl

  extend_column : (c : ℕ) → c < column_count p → extend p z s (c + 1) ≡ z c
  extend_column c less = if_other (c + 1) 0 s _ (λ e. omega (arith, e)) ∙ if_less (c + 1) (column_count p + 1) (z (c + 1 - 1)) _ (omega (arith, less)) ∙ ap z (back c)
    where
      back : (c : ℕ) → c + 1 - 1 ≡ c
      back c = omega arith

  extend_slack : (k : ℕ) → k < row_count p → extend p z s (slack_of p k) ≡ slack_value p z s k
  extend_slack k less =
      if_other (slack_of p k) 0 s _ (λ e. omega (arith, e)) ∙ if_not_less (slack_of p k) (column_count p + 1) (z (slack_of p k - 1)) _ (omega arith)
      ∙ if_less (slack_of p k) (cost_of p) (slack_value p z s (slack_of p k - (column_count p + 1))) _ (omega (arith, less)) ∙ ap (slack_value p z s) (back (column_count p) k)
    where
      back : (n k : ℕ) → n + 1 + k - (n + 1) ≡ k
      back n k = omega arith

  extend_cost : extend p z s (cost_of p) ≡ cost_sum p z
  extend_cost = if_other (cost_of p) 0 s _ (λ e. omega (arith, e)) ∙ if_not_less (cost_of p) (column_count p + 1) (z (cost_of p - 1)) _ (omega arith) ∙ if_not_less (cost_of p) (cost_of p) _ (cost_sum p z) (omega arith)

  extend_meets : Meets p (extend p z s)
  extend_meets = record {
    cost = extend_cost ∙ sum-same rational_ring (column_count p) (λ c. cost_at p c *ℚ z c) (λ c. cost_at p c *ℚ extend p z s (c + 1)) (λ c less. ap (λ x. cost_at p c *ℚ x) (sym (extend_column c less)));
    slacks = λ k less.
        extend_slack k less ∙ ap (λ t. t -ℚ right_at p k *ℚ s) (sum-same rational_ring (column_count p) (λ c. entry_at p k c *ℚ z c) (λ c. entry_at p k c *ℚ extend p z s (c + 1)) (λ c small. ap (λ x. entry_at p k c *ℚ x) (sym (extend_column c small))))
        ∙ ap (λ x. sum_ℚ (column_count p) (λ c. entry_at p k c *ℚ extend p z s (c + 1)) -ℚ right_at p k *ℚ x) (sym extend_none);
  }

  -- a sum over all variables, columns and slacks apart
  split_sum : (w : ℕ → ℚ) → sum_ℚ (column_count p + row_count p) (λ v. w (v + 1) *ℚ extend p z s (v + 1)) ≡ sum_ℚ (column_count p) (λ c. w (c + 1) *ℚ z c) +ℚ sum_ℚ (row_count p) (λ k. w (slack_of p k) *ℚ slack_value p z s k)
  split_sum w =
      sum-split rational_ring (column_count p) (row_count p) (λ v. w (v + 1) *ℚ extend p z s (v + 1))
      ∙ ap (λ t. t +ℚ sum_ℚ (row_count p) (λ k. w (column_count p + k + 1) *ℚ extend p z s (column_count p + k + 1))) (sum-same rational_ring (column_count p) (λ c. w (c + 1) *ℚ extend p z s (c + 1)) (λ c. w (c + 1) *ℚ z c) (λ c less. ap (λ x. w (c + 1) *ℚ x) (extend_column c less)))
      ∙ ap (λ t. sum_ℚ (column_count p) (λ c. w (c + 1) *ℚ z c) +ℚ t) (sum-same rational_ring (row_count p) (λ k. w (column_count p + k + 1) *ℚ extend p z s (column_count p + k + 1)) (λ k. w (slack_of p k) *ℚ slack_value p z s k) (λ k less.
      ap (λ v. w v *ℚ extend p z s v) (place (column_count p) k) ∙ ap (λ x. w (slack_of p k) *ℚ x) (extend_slack k less)))
    where
      place : (n k : ℕ) → n + k + 1 ≡ n + 1 + k
      place n k = omega arith

-- ---- weights of all variables whose sum is a multiple of the cost and of the constants
module _ (p : Program) (w : ℕ → ℚ) (a b : ℚ) (identity : (u : ℕ → ℚ) → Meets p u → sum_ℚ (column_count p + row_count p) (λ v. w (v + 1) *ℚ u (v + 1)) ≡ a *ℚ u (cost_of p) +ℚ b *ℚ u 0) where
  abbrev y : ℕ → ℚ
  y k = w (slack_of p k)

  weighed : (z : ℕ → ℚ) (s : ℚ) → sum_ℚ (column_count p) (λ c. w (c + 1) *ℚ z c) +ℚ sum_ℚ (row_count p) (λ k. y k *ℚ slack_value p z s k) ≡ a *ℚ cost_sum p z +ℚ b *ℚ s
  weighed z s = sym (split_sum p z s w) ∙ identity (extend p z s) (extend_meets p z s) ∙ ap (λ x. a *ℚ x +ℚ b *ℚ extend p z s 0) (extend_cost p z s) ∙ ap (λ x. a *ℚ cost_sum p z +ℚ b *ℚ x) (extend_none p z s)

  -- at the unit vector of a column
  abbrev unit : ℕ → ℕ → ℚ
  unit j c = if c == j then whole (pos 1) else zero_ℚ

  unit_sum : (j : ℕ) (f : ℕ → ℚ) → j < column_count p → sum_ℚ (column_count p) (λ c. f c *ℚ unit j c) ≡ f j
  unit_sum j f less =
      sum-only rational_ring (column_count p) j (λ c. f c *ℚ unit j c) less (λ c small apart. ap (λ x. f c *ℚ x) (if_other c j (whole (pos 1)) zero_ℚ apart) ∙ ring1 rational_ring (λ t. t ⊗ con (pos 0) ⊜ con (pos 0)) refl (f c))
      ∙ ap (λ x. f j *ℚ x) (if_same j j (whole (pos 1)) zero_ℚ refl) ∙ ring1 rational_ring (λ t. t ⊗ con (pos 1) ⊜ t) refl (f j)

  pub columns_le : ((v : ℕ) → 1 ≤ v → v < cost_of p → zero_ℚ ≤ℚ w v) → (j : ℕ) → j < column_count p → column_sum p y j ≤ℚ (a *ℚ cost_at p j)
  columns_le above j less =
      let slacks : sum_ℚ (row_count p) (λ k. y k *ℚ slack_value p (unit j) zero_ℚ k) ≡ column_sum p y j = sum-same rational_ring (row_count p) (λ k. y k *ℚ slack_value p (unit j) zero_ℚ k) (λ k. y k *ℚ entry_at p k j) (λ k small.
      ap (λ t. y k *ℚ (t -ℚ right_at p k *ℚ zero_ℚ)) (unit_sum j (entry_at p k) less) ∙ ring3 rational_ring (λ y e r. y ⊗ (e ⊖ r ⊗ con (pos 0)) ⊜ y ⊗ e) refl (y k) (entry_at p k j) (right_at p k)) in
      le5 rational_ordered (λ t u c d b. from 1 (con (pos 0)) t (from_same (con (pos 1)) (t ⊕ u) (c ⊗ d ⊕ b ⊗ con (pos 0)) (so u (c ⊗ d)))) refl (w (j + 1)) (column_sum p y j) a (cost_at p j) b
      (above (j + 1) (omega arith) (omega (arith, less)))
      (ap (λ t. t +ℚ column_sum p y j) (sym (unit_sum j (λ c. w (c + 1)) less)) ∙ ap (λ t. sum_ℚ (column_count p) (λ c. w (c + 1) *ℚ unit j c) +ℚ t) (sym slacks) ∙ weighed (unit j) zero_ℚ ∙ ap (λ t. a *ℚ t +ℚ b *ℚ zero_ℚ) (unit_sum j (cost_at p) less))

  -- where the columns are 0
  none_sum : (n : ℕ) (f : ℕ → ℚ) → sum_ℚ n (λ c. f c *ℚ zero_ℚ) ≡ zero_ℚ
  none_sum n f = sum-zero rational_ring n (λ c. f c *ℚ zero_ℚ) (λ c less. ring1 rational_ring (λ t. t ⊗ con (pos 0) ⊜ con (pos 0)) refl (f c))

  pub right_is : right_sum p y ≡ zero_ℚ -ℚ b
  right_is =
      let slacks : sum_ℚ (row_count p) (λ k. y k *ℚ slack_value p (λ c. zero_ℚ) (whole (pos 1)) k) ≡ whole (negsuc 0) *ℚ right_sum p y = sum-same rational_ring (row_count p) (λ k. y k *ℚ slack_value p (λ c. zero_ℚ) (whole (pos 1)) k) (λ k. whole (negsuc 0) *ℚ (y k *ℚ right_at p k)) (λ k small.
      ap (λ t. y k *ℚ (t -ℚ right_at p k *ℚ whole (pos 1))) (none_sum (column_count p) (entry_at p k)) ∙ ring2 rational_ring (λ y r. y ⊗ (con (pos 0) ⊖ r ⊗ con (pos 1)) ⊜ con (negsuc 0) ⊗ (y ⊗ r)) refl (y k) (right_at p k)) ∙ sum-scale rational_ring (row_count p) (whole (negsuc 0)) (λ k. y k *ℚ right_at p k) in
      same3 rational_ring (λ r a b. from (con (negsuc 0)) (con (pos 0) ⊕ con (negsuc 0) ⊗ r) (a ⊗ con (pos 0) ⊕ b ⊗ con (pos 1)) (so r (con (pos 0) ⊖ b))) refl (right_sum p y) a b
      (ap (λ t. t +ℚ whole (negsuc 0) *ℚ right_sum p y) (sym (none_sum (column_count p) (λ c. w (c + 1)))) ∙ ap (λ t. sum_ℚ (column_count p) (λ c. w (c + 1) *ℚ zero_ℚ) +ℚ t) (sym slacks) ∙ weighed (λ c. zero_ℚ) (whole (pos 1)) ∙ ap (λ t. a *ℚ t +ℚ b *ℚ whole (pos 1)) (none_sum (column_count p) (cost_at p)))

-- ---- the last dictionary
module _ (p : Program) (d : Dictionary) (is : IsDictionaryOf p d) where
  abbrev names : IsBasis p d
  names = is.names

  -- the values of the variables where the nonbasic ones are 0
  at_corner : Meets p (corner p d names)
  at_corner = is.same.meets (corner p d names) (corner_solves p d names)

  corner_is : (v : ℕ) → 1 ≤ v → corner p d names v ≡ value_at d v
  corner_is v low = if_other v 0 (whole (pos 1)) (value_at d v) (λ e. omega (arith, e, low))

  value_le : IsPrimalFeasible d → (v : ℕ) → v < cost_of p → zero_ℚ ≤ℚ value_at d v
  value_le last v low = sum-nonneg rational_ordered (height d) (λ i. if basic_at d i == v then cell d i 0 else zero_ℚ) (λ i high. if_le (basic_at d i) v (cell d i 0) (λ e. ⊎_elim (λ none. absurd (omega (arith, e, low, names.cost, ap (basic_at d) none))) (λ some. last i (omega (arith, some)) high) (cases_eq i 0)))

  coefficient_le : (v : ℕ) → 1 ≤ v → zero_ℚ ≤ℚ coefficient_at d 0 v
  coefficient_le v low = sum-nonneg rational_ordered (width d) (λ t. if nonbasic_at d t == v then cell d 0 t else zero_ℚ) (λ t high. if_le (nonbasic_at d t) v (cell d 0 t) (λ e. ⊎_elim (λ none. absurd (omega (arith, e, low, names.constants, ap (nonbasic_at d) none))) (λ some. is.dual t (omega (arith, some)) high) (cases_eq t 0)))

  -- the cost's row, for all values that meet the program's definitions
  cost_identity : (u : ℕ → ℚ) → Meets p u → sum_ℚ (column_count p + row_count p) (λ v. coefficient_at d 0 (v + 1) *ℚ u (v + 1)) ≡ whole (pos 1) *ℚ u (cost_of p) +ℚ (zero_ℚ -ℚ cell d 0 0) *ℚ u 0
  cost_identity u meets =
      same4 rational_ring (λ t c b a. from (con (negsuc 0)) c (b ⊗ a ⊕ t) (so t (con (pos 1) ⊗ c ⊕ (con (pos 0) ⊖ b) ⊗ a))) refl (sum_ℚ (column_count p + row_count p) (λ v. coefficient_at d 0 (v + 1) *ℚ u (v + 1))) (u (cost_of p)) (cell d 0 0) (u 0)
      (ap u (sym names.cost) ∙ is.same.solves u meets 0 (omega (arith, names.rows)) ∙ row_split p d names 0 u)

  point_rows : IsPrimalFeasible d → (k : ℕ) → k < row_count p → right_at p k ≤ℚ sum_ℚ (column_count p) (λ c. entry_at p k c *ℚ value_at d (c + 1))
  point_rows last k less =
      le3 rational_ordered (λ v s r. from 1 (con (pos 0)) v (from_same (con (pos 1)) v (s ⊖ r ⊗ con (pos 1)) (so r s))) refl (value_at d (slack_of p k)) (sum_ℚ (column_count p) (λ c. entry_at p k c *ℚ value_at d (c + 1))) (right_at p k)
      (value_le last (slack_of p k) (omega (arith, less)))
      (sym (corner_is (slack_of p k) (omega arith)) ∙ at_corner.slacks k less ∙ ap (λ t. t -ℚ right_at p k *ℚ whole (pos 1)) (sum-same rational_ring (column_count p) (λ c. entry_at p k c *ℚ corner p d names (c + 1)) (λ c. entry_at p k c *ℚ value_at d (c + 1)) (λ c small. ap (λ x. entry_at p k c *ℚ x) (corner_is (c + 1) (omega arith)))))

  point_cost : cost_sum p (λ c. value_at d (c + 1)) ≡ cell d 0 0
  point_cost =
      sum-same rational_ring (column_count p) (λ c. cost_at p c *ℚ value_at d (c + 1)) (λ c. cost_at p c *ℚ corner p d names (c + 1)) (λ c small. ap (λ x. cost_at p c *ℚ x) (sym (corner_is (c + 1) (omega arith))))
      ∙ sym at_corner.cost ∙ corner_is (cost_of p) (omega arith) ∙ ap (value_at d) (sym names.cost) ∙ basic_value p d names 0 (omega (arith, names.rows))

  pub last_is_best : IsPrimalFeasible d → AreBest p (λ c. value_at d (c + 1)) (λ k. coefficient_at d 0 (slack_of p k)) (cell d 0 0)
  last_is_best last = record {
    feasible = record { columns = λ c less. value_le last (c + 1) (omega (arith, less)); rows = point_rows last };
    cost = point_cost;
    multipliers = λ k less. coefficient_le (slack_of p k) (omega arith);
    columns = λ c less. subst (λ x. column_sum p (λ k. coefficient_at d 0 (slack_of p k)) c ≤ℚ x) (Q.one_mul (cost_at p c)) (columns_le p (coefficient_at d 0) (whole (pos 1)) (zero_ℚ -ℚ cell d 0 0) cost_identity (λ v low high. coefficient_le v low) c less);
    right = right_is p (coefficient_at d 0) (whole (pos 1)) (zero_ℚ -ℚ cell d 0 0) cost_identity ∙ ring1 rational_ring (λ b. con (pos 0) ⊖ (con (pos 0) ⊖ b) ⊜ b) refl (cell d 0 0);
  }

  -- ---- a row that can't hold
  module _ (i : ℕ) (i_low : 1 ≤ i) (i_high : i < height d) where
    -- the row's own variable among all
    own_sum : (u : ℕ → ℚ) → sum_ℚ (column_count p + row_count p) (λ v. (if basic_at d i == v + 1 then whole (pos 1) else zero_ℚ) *ℚ u (v + 1)) ≡ u (basic_at d i)
    own_sum u =
        let low = names.basics_low i i_high in
        let place = basic_at d i - 1 in
        let same : place + 1 ≡ basic_at d i = omega (arith, low) in
        sum-only rational_ring (column_count p + row_count p) place (λ v. (if basic_at d i == v + 1 then whole (pos 1) else zero_ℚ) *ℚ u (v + 1)) (omega (arith, low, names.basics_high i i_low i_high)) (λ v less apart. ap (λ x. x *ℚ u (v + 1)) (if_other (basic_at d i) (v + 1) (whole (pos 1)) zero_ℚ (λ e. apart (omega (arith, e, same)))) ∙ ring1 rational_ring (λ a. con (pos 0) ⊗ a ⊜ con (pos 0)) refl (u (v + 1)))
        ∙ ap (λ x. x *ℚ u (place + 1)) (if_same (basic_at d i) (place + 1) (whole (pos 1)) zero_ℚ (sym same)) ∙ Q.one_mul (u (place + 1)) ∙ ap u same

    row_identity : (u : ℕ → ℚ) → Meets p u → sum_ℚ (column_count p + row_count p) (λ v. opposite_at d i (v + 1) *ℚ u (v + 1)) ≡ zero_ℚ *ℚ u (cost_of p) +ℚ cell d i 0 *ℚ u 0
    row_identity u meets =
        let all = column_count p + row_count p in
        sum-same rational_ring all (λ v. opposite_at d i (v + 1) *ℚ u (v + 1)) (λ v. (if basic_at d i == v + 1 then whole (pos 1) else zero_ℚ) *ℚ u (v + 1) -ℚ coefficient_at d i (v + 1) *ℚ u (v + 1)) (λ v less. ring3 rational_ring (λ a b c. (a ⊖ b) ⊗ c ⊜ a ⊗ c ⊖ b ⊗ c) refl (if basic_at d i == v + 1 then whole (pos 1) else zero_ℚ) (coefficient_at d i (v + 1)) (u (v + 1)))
        ∙ sum-sub rational_ring all (λ v. (if basic_at d i == v + 1 then whole (pos 1) else zero_ℚ) *ℚ u (v + 1)) (λ v. coefficient_at d i (v + 1) *ℚ u (v + 1))
        ∙ ap (λ t. t -ℚ sum_ℚ all (λ v. coefficient_at d i (v + 1) *ℚ u (v + 1))) (own_sum u)
        ∙ same5 rational_ring (λ b t c a k. from (con (pos 1)) b (a ⊗ c ⊕ t) (so (b ⊖ t) (con (pos 0) ⊗ k ⊕ a ⊗ c))) refl (u (basic_at d i)) (sum_ℚ all (λ v. coefficient_at d i (v + 1) *ℚ u (v + 1))) (u 0) (cell d i 0) (u (cost_of p)) (is.same.solves u meets i i_high ∙ row_split p d names i u)

    opposite_le : ((t : ℕ) → 1 ≤ t → t < width d → cell d i t ≤ℚ zero_ℚ) → (v : ℕ) → 1 ≤ v → zero_ℚ ≤ℚ opposite_at d i v
    opposite_le none v low =
        let own : zero_ℚ ≤ℚ (if basic_at d i == v then whole (pos 1) else zero_ℚ) = if_le (basic_at d i) v (whole (pos 1)) (λ e. whole-le (pos 0) (pos 1) (omega (arith, ints))) in
        let rest : coefficient_at d i v ≤ℚ zero_ℚ = subst (λ x. coefficient_at d i v ≤ℚ x) (sum-zero rational_ring (width d) (λ t. zero_ℚ) (λ t high. refl)) (sum-le rational_ordered (width d) (λ t. if nonbasic_at d t == v then cell d i t else zero_ℚ) (λ t. zero_ℚ) (λ t high. term_le t high)) in
        le2 rational_ordered (λ a b. from 1 (con (pos 0)) a (from 1 b (con (pos 0)) (so (con (pos 0)) (a ⊖ b)))) refl (if basic_at d i == v then whole (pos 1) else zero_ℚ) (coefficient_at d i v) own rest
      where
        term_le : (t : ℕ) → t < width d → (if nonbasic_at d t == v then cell d i t else zero_ℚ) ≤ℚ zero_ℚ
        term_le t high = ⊎_elim (λ e. ⊎_elim (λ zero_column. absurd (omega (arith, e, low, names.constants, ap (nonbasic_at d) zero_column))) (λ some. subst (λ x. x ≤ℚ zero_ℚ) (sym (if_same (nonbasic_at d t) v (cell d i t) zero_ℚ e)) (none t (omega (arith, some)) high)) (cases_eq t 0)) (λ apart. le_self _ zero_ℚ (if_other (nonbasic_at d t) v (cell d i t) zero_ℚ apart)) (cases_eq (nonbasic_at d t) v)

    pub row_is_empty : IsNegative (cell d i 0) → ((t : ℕ) → 1 ≤ t → t < width d → cell d i t ≤ℚ zero_ℚ) → AreEmpty p (λ k. opposite_at d i (slack_of p k))
    row_is_empty negative none =
        let right : right_sum p (λ k. opposite_at d i (slack_of p k)) ≡ zero_ℚ -ℚ cell d i 0 = right_is p (opposite_at d i) zero_ℚ (cell d i 0) row_identity in
        record {
          multipliers = λ k less. opposite_le none (slack_of p k) (omega arith);
          columns = λ c less. subst (λ x. column_sum p (λ k. opposite_at d i (slack_of p k)) c ≤ℚ x) (ring1 rational_ring (λ a. con (pos 0) ⊗ a ⊜ con (pos 0)) refl (cost_at p c)) (columns_le p (opposite_at d i) zero_ℚ (cell d i 0) row_identity (λ v low high. opposite_le none v low) c less);
          right = λ low. negative (le2 rational_ordered (λ r b. from 1 r (con (pos 0)) (from_same (con (negsuc 0)) r (con (pos 0) ⊖ b) (so (con (pos 0)) b))) refl (right_sum p (λ k. opposite_at d i (slack_of p k))) (cell d i 0) low right);
        }

-- A pivot keeps what a dictionary says.
use Rattle.std.proofs.Common.{◌≡◌, ◌≢◌, ◌<◌, ◌∙◌, ⊎_elim, ℕ, refl, sym, ap, arith}
use Rattle.std.proofs.lemmas.Bool.{cases_eq}
use Rattle.std.specs.Prelude.{pos, negsuc, if◌then◌else◌, ◌==◌}
use Rattle.rational.specs.Rational.{ℚ, whole, inv_ℚ, neg_ℚ, ◌+ℚ◌, ◌*ℚ◌, ◌-ℚ◌}
use Rattle.frac128.specs.Limits.{divided_ℚ}
use Rattle.rational.proofs.Rationals.{rational_ring, inv-mul}
use Rattle.algebra.proofs.Rings.{con, ◌⊕◌, ◌⊖◌, ◌⊗◌, ◌⊜◌, ring3, ring4}
use Rattle.algebra.proofs.Claims.{same4, same5, so, from}
use Rattle.algebra.proofs.Sums.{sum-add, sum-same, sum-scale, sum-sub}
use Rattle.tableau.specs.Program.{sum_ℚ, zero_ℚ}
use Rattle.tableau.specs.Dictionary.{Dictionary, IsPivoted, Solves, basic_at, cell, factor_at, height, nonbasic_at, width}
use Rattle.tableau.proofs.Numbers.{if_other, if_same, inv_opposite, sum_one}

-- a term of a row
abbrev term : Dictionary → (ℕ → ℚ) → ℕ → ℕ → ℚ
term d x i t = cell d i t *ℚ x (nonbasic_at d t)

abbrev row_sum : Dictionary → (ℕ → ℚ) → ℕ → ℚ
row_sum d x i = sum_ℚ (width d) (term d x i)

-- something at one place of a sum
abbrev at_place : ℕ → ℚ → ℕ → ℚ
at_place j c t = if t == j then c else zero_ℚ

-- a pivot, and values of all variables
pub record Turn (d e : Dictionary) (k j : ℕ) : Type 0 where
  pub pivoted : IsPivoted d k j e
  pub row : k < height d
  pub column : j < width d
  pub some : cell d k j ≢ zero_ℚ
  pub other : neg_ℚ (cell d k j) ≢ zero_ℚ

module _ (d e : Dictionary) (k j : ℕ) (x : ℕ → ℚ) (turn : Turn d e k j) where
  -- one by the pivot cell, and the values of the variables that leave and enter
  abbrev q : ℚ
  q = inv_ℚ (cell d k j)

  abbrev out : ℚ
  out = x (basic_at d k)

  abbrev into : ℚ
  into = x (nonbasic_at d j)

  one : q *ℚ cell d k j ≡ whole (pos 1)
  one = inv-mul (cell d k j) turn.some

  -- a term of the pivot row
  pivot_term : (t : ℕ) → t < width d → term e x k t ≡ (zero_ℚ -ℚ q) *ℚ term d x k t +ℚ at_place j (q *ℚ out +ℚ into) t
  pivot_term t high = ⊎_elim here there (cases_eq t j)
    where
      here : t ≡ j → term e x k t ≡ (zero_ℚ -ℚ q) *ℚ term d x k t +ℚ at_place j (q *ℚ out +ℚ into) t
      here is =
          ap (λ u. term e x k u) is ∙ ap (λ c. c *ℚ x (nonbasic_at e j)) turn.pivoted.corner ∙ ap (λ v. q *ℚ x v) turn.pivoted.left
          ∙ same4 rational_ring (λ q p l e. from e (q ⊗ p) (con (pos 1)) (so (q ⊗ l) ((con (pos 0) ⊖ q) ⊗ (p ⊗ e) ⊕ (q ⊗ l ⊕ e)))) refl q (cell d k j) out into one
          ∙ ap (λ c. (zero_ℚ -ℚ q) *ℚ term d x k j +ℚ c) (sym (if_same t j (q *ℚ out +ℚ into) zero_ℚ is))
          ∙ ap (λ u. (zero_ℚ -ℚ q) *ℚ term d x k u +ℚ at_place j (q *ℚ out +ℚ into) t) (sym is)

      there : t ≢ j → term e x k t ≡ (zero_ℚ -ℚ q) *ℚ term d x k t +ℚ at_place j (q *ℚ out +ℚ into) t
      there apart =
          ap (λ c. c *ℚ x (nonbasic_at e t)) (turn.pivoted.pivot_row t high apart) ∙ ap (λ v. divided_ℚ (cell d k t) (neg_ℚ (cell d k j)) *ℚ x v) (turn.pivoted.nonbasics t high apart)
          ∙ ap (λ r. (cell d k t *ℚ r) *ℚ x (nonbasic_at d t)) (inv_opposite (cell d k j) turn.some turn.other)
          ∙ ring3 rational_ring (λ c q v. (c ⊗ (con (pos 0) ⊖ q)) ⊗ v ⊜ (con (pos 0) ⊖ q) ⊗ (c ⊗ v) ⊕ con (pos 0)) refl (cell d k t) q (x (nonbasic_at d t))
          ∙ ap (λ c. (zero_ℚ -ℚ q) *ℚ term d x k t +ℚ c) (sym (if_other t j (q *ℚ out +ℚ into) zero_ℚ apart))

  pivot_sum : row_sum e x k ≡ (zero_ℚ -ℚ q) *ℚ row_sum d x k +ℚ (q *ℚ out +ℚ into)
  pivot_sum =
      ap (λ n. sum_ℚ n (term e x k)) turn.pivoted.columns
      ∙ sum-same rational_ring (width d) (term e x k) (λ t. (zero_ℚ -ℚ q) *ℚ term d x k t +ℚ at_place j (q *ℚ out +ℚ into) t) pivot_term
      ∙ sum-add rational_ring (width d) (λ t. (zero_ℚ -ℚ q) *ℚ term d x k t) (at_place j (q *ℚ out +ℚ into))
      ∙ ap (λ s. s +ℚ sum_ℚ (width d) (at_place j (q *ℚ out +ℚ into))) (sum-scale rational_ring (width d) (zero_ℚ -ℚ q) (term d x k))
      ∙ ap (λ s. (zero_ℚ -ℚ q) *ℚ row_sum d x k +ℚ s) (sum_one (width d) j (q *ℚ out +ℚ into) turn.column)

  -- a term of another row
  module _ (i : ℕ) (i_high : i < height d) (i_apart : i ≢ k) where
    abbrev f : ℚ
    f = factor_at d k j i

    other_term : (t : ℕ) → t < width d → term e x i t ≡ (term d x i t -ℚ f *ℚ term d x k t) +ℚ at_place j (f *ℚ out) t
    other_term t high = ⊎_elim here there (cases_eq t j)
      where
        here : t ≡ j → term e x i t ≡ (term d x i t -ℚ f *ℚ term d x k t) +ℚ at_place j (f *ℚ out) t
        here is =
            ap (λ u. term e x i u) is ∙ ap (λ c. c *ℚ x (nonbasic_at e j)) (turn.pivoted.pivot_column i i_high i_apart) ∙ ap (λ v. f *ℚ x v) turn.pivoted.left
            ∙ same5 rational_ring (λ c q p l e. from (c ⊗ e) (q ⊗ p) (con (pos 1)) (so ((c ⊗ q) ⊗ l) ((c ⊗ e ⊖ (c ⊗ q) ⊗ (p ⊗ e)) ⊕ (c ⊗ q) ⊗ l))) refl (cell d i j) q (cell d k j) out into one
            ∙ ap (λ c. (term d x i j -ℚ f *ℚ term d x k j) +ℚ c) (sym (if_same t j (f *ℚ out) zero_ℚ is))
            ∙ ap (λ u. (term d x i u -ℚ f *ℚ term d x k u) +ℚ at_place j (f *ℚ out) t) (sym is)

        there : t ≢ j → term e x i t ≡ (term d x i t -ℚ f *ℚ term d x k t) +ℚ at_place j (f *ℚ out) t
        there apart =
            ap (λ c. c *ℚ x (nonbasic_at e t)) (turn.pivoted.others i t i_high high i_apart apart) ∙ ap (λ v. (cell d i t -ℚ f *ℚ cell d k t) *ℚ x v) (turn.pivoted.nonbasics t high apart)
            ∙ ring4 rational_ring (λ c f r v. (c ⊖ f ⊗ r) ⊗ v ⊜ (c ⊗ v ⊖ f ⊗ (r ⊗ v)) ⊕ con (pos 0)) refl (cell d i t) f (cell d k t) (x (nonbasic_at d t))
            ∙ ap (λ c. (term d x i t -ℚ f *ℚ term d x k t) +ℚ c) (sym (if_other t j (f *ℚ out) zero_ℚ apart))

    other_sum : row_sum e x i ≡ (row_sum d x i -ℚ f *ℚ row_sum d x k) +ℚ f *ℚ out
    other_sum =
        ap (λ n. sum_ℚ n (term e x i)) turn.pivoted.columns
        ∙ sum-same rational_ring (width d) (term e x i) (λ t. (term d x i t -ℚ f *ℚ term d x k t) +ℚ at_place j (f *ℚ out) t) other_term
        ∙ sum-add rational_ring (width d) (λ t. term d x i t -ℚ f *ℚ term d x k t) (at_place j (f *ℚ out))
        ∙ ap (λ s. s +ℚ sum_ℚ (width d) (at_place j (f *ℚ out))) (sum-sub rational_ring (width d) (term d x i) (λ t. f *ℚ term d x k t))
        ∙ ap (λ s. (row_sum d x i -ℚ s) +ℚ sum_ℚ (width d) (at_place j (f *ℚ out))) (sum-scale rational_ring (width d) f (term d x k))
        ∙ ap (λ s. (row_sum d x i -ℚ f *ℚ row_sum d x k) +ℚ s) (sum_one (width d) j (f *ℚ out) turn.column)

  -- the same values fulfil the new dictionary
  pub solves_on : Solves d x → Solves e x
  solves_on solves i high = ⊎_elim here there (cases_eq i k)
    where
      old_high : i < height d
      old_high = omega (arith, high, turn.pivoted.rows)

      here : i ≡ k → x (basic_at e i) ≡ row_sum e x i
      here is =
          ap (λ h. x (basic_at e h)) is ∙ ap x turn.pivoted.entered
          ∙ same4 rational_ring (λ q s l e. from (con (negsuc 0) ⊗ q) l s (so e ((con (pos 0) ⊖ q) ⊗ s ⊕ (q ⊗ l ⊕ e)))) refl q (row_sum d x k) out into (solves k turn.row)
          ∙ sym pivot_sum ∙ ap (row_sum e x) (sym is)

      there : i ≢ k → x (basic_at e i) ≡ row_sum e x i
      there apart =
          ap x (turn.pivoted.basics i old_high apart)
          ∙ same5 rational_ring (λ v r f s l. from (con (pos 1)) v r (from (con (negsuc 0) ⊗ f) l s (so v ((r ⊖ f ⊗ s) ⊕ f ⊗ l)))) refl (x (basic_at d i)) (row_sum d x i) (factor_at d k j i) (row_sum d x k) out (solves i old_high) (solves k turn.row)
          ∙ sym (other_sum i old_high apart)

  -- and the old one
  pub solves_back : Solves e x → Solves d x
  solves_back solves i high = ⊎_elim here there (cases_eq i k)
    where
      pivot_row : out ≡ row_sum d x k
      pivot_row =
          same5 rational_ring (λ p q s l e. from (con (negsuc 0) ⊗ p) e ((con (pos 0) ⊖ q) ⊗ s ⊕ (q ⊗ l ⊕ e)) (from (s ⊖ l) (q ⊗ p) (con (pos 1)) (so l s))) refl (cell d k j) q (row_sum d x k) out into
          (ap x (sym turn.pivoted.entered) ∙ solves k (omega (arith, turn.row, turn.pivoted.rows)) ∙ pivot_sum) one

      here : i ≡ k → x (basic_at d i) ≡ row_sum d x i
      here is = ap (λ h. x (basic_at d h)) is ∙ pivot_row ∙ ap (row_sum d x) (sym is)

      there : i ≢ k → x (basic_at d i) ≡ row_sum d x i
      there apart =
          same5 rational_ring (λ v r f s l. from (con (pos 1)) v ((r ⊖ f ⊗ s) ⊕ f ⊗ l) (from f l s (so v r))) refl (x (basic_at d i)) (row_sum d x i) (factor_at d k j i) (row_sum d x k) out
          (ap x (sym (turn.pivoted.basics i high apart)) ∙ solves i (omega (arith, high, turn.pivoted.rows)) ∙ other_sum i high apart) pivot_row

-- Echelons that agree up to l have the same (l,S) rows.
use Rattle.std.proofs.Common.{◌≡◌, ◌≤◌, ◌<◌, ◌+◌, ◌-◌, ◌*◌, ◌∙◌, ℕ, zero, suc, refl, ap, arith, ◌++◌}
use Rattle.std.specs.Prelude.{if◌then◌else◌, pos, ◌-ℤ◌}
use Rattle.lot_sizing.specs.Sums.{sum_from}
use Rattle.lin_rows.specs.declared.column.Column.TheVariants.{X, Y, R}
use Rattle.lin_rows.specs.Base.{term}
use Rattle.valid_inequalities.specs.Inequalities.{demand_between}
use Rattle.echelon_rows.specs.Rows.{Echelon, cells_to, owed_by, owed_times, periods_to, row_with}
use Rattle.echelon_rows.proofs.Lists.{cells_same, periods_same}
use Rattle.ls_cuts.specs.Rows.{AreAlike, Periods, backlog_times, ls_row, ls_terms, setup_times, unit_times}

sum_from-same : (u n : ℕ) (f g : ℕ → ℕ) → ((k : ℕ) → u ≤ k → k < u + n → f k ≡ g k) → sum_from u n f ≡ sum_from u n g
sum_from-same u zero f g same = refl
sum_from-same u (suc n) f g same = omega (arith, sum_from-same u n f g (λ k low high. same k low (omega (arith, high))), same (u + n) (omega arith) (omega arith))

module _ (l : ℕ) (e g : Echelon) (alike : AreAlike l e g) where
  demand_same : (t : ℕ) → 1 ≤ t → demand_between e.asked t l ≡ demand_between g.asked t l
  demand_same t low = sum_from-same t (suc l - t) e.asked.demand g.asked.demand (λ k k_low k_high. alike.demand k (omega (arith, low, k_low)) (omega (arith, k_low, k_high)))

  owed_same : (j t : ℕ) → 1 ≤ j → j ≤ e.items → owed_times e j t ≡ owed_times g j t
  owed_same j t low high =
      ap (λ T. owed_by T (e.back j) (e.weight j) t) alike.periods ∙ ap (λ b. owed_by g.asked.periods b (e.weight j) t) (alike.back j low high) ∙ ap (λ w. owed_by g.asked.periods (g.back j) w t) (alike.weight j low high)

  terms_same : (chosen : Periods) → ls_terms e l chosen ≡ ls_terms g l chosen
  terms_same chosen =
      let xs = λ (i : ℕ). periods_to l (λ t. term (X i t) (pos (unit_times chosen t))) in
      let ys = λ (h : Echelon). periods_to l (λ t. term (Y h.item t) (pos (setup_times h.asked l chosen t))) in
      let rs = λ (n : ℕ) (h : Echelon). cells_to n l (λ j t. term (R j t) (pos (backlog_times l chosen t * owed_times h j t))) in
      ap (λ i. xs i ++ (ys e ++ rs e.items e)) alike.item
      ∙ ap (λ ts. xs g.item ++ (ts ++ rs e.items e)) (periods_same l _ _ (λ t low high. ap (λ i. term (Y i t) (pos (setup_times e.asked l chosen t))) alike.item ∙ ap (λ d. term (Y g.item t) (pos (if chosen t then d else 0))) (demand_same t low)))
      ∙ ap (λ ts. xs g.item ++ (ys g ++ ts)) (cells_same e.items l _ _ (λ j t low high t_low t_high. ap (λ k. term (R j t) (pos (backlog_times l chosen t * k))) (owed_same j t low high)) ∙ ap (λ n. rs n g) alike.items)

  pub rows_same : (chosen : Periods) → ls_row e l chosen ≡ ls_row g l chosen
  rows_same chosen =
      ap (λ ts. row_with ts (pos (demand_between e.asked 1 l) -ℤ pos e.asked.opening)) (terms_same chosen)
      ∙ ap (λ d. row_with (ls_terms g l chosen) (pos d -ℤ pos e.asked.opening)) (demand_same 1 (omega arith))
      ∙ ap (λ o. row_with (ls_terms g l chosen) (pos (demand_between g.asked 1 l) -ℤ pos o)) alike.opening

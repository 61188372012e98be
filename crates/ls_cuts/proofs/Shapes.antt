-- The columns of the (l,S) row rise, and the model has them.
use Rattle.std.proofs.Common.{◌≡◌, ◌≤◌, ◌<◌, ◌-◌, ◌*◌, ◌^◌, ℕ, zero, suc, refl, arith, true, ◌++◌}
use Rattle.std.specs.Prelude.{length, pos}
use Rattle.std.proofs.lemmas.List.Elements.{All-append}
use Rattle.rational.specs.Rational.{whole, ◌*ℚ◌}
use Rattle.lot_sizing.specs.Problem.{Problem, item_count}
use Rattle.echelon.specs.declared.net.EchelonItem.{EchelonItem}
use Rattle.lin_rows.specs.declared.column.Column.{Column}
use Rattle.lin_rows.specs.declared.column.Column.TheVariants.{X, Y, R}
use Rattle.lin_rows.specs.Base.{is_some_term, some_terms, term}
use Rattle.lin_rows.specs.Columns.{IsColumn}
use Rattle.lin_rows.specs.Rows.{AreTerms, LinPoint}
use Rattle.lin_rows.proofs.Terms.{are_terms, rise_append}
use Rattle.echelon_rows.specs.Plans.{AreColumnsOf, IsOfItem}
use Rattle.echelon_rows.specs.Rows.{Echelon, cells_to, echelon_in, owed_times, periods_to}
use Rattle.echelon_rows.proofs.Shapes.{Counts, IsSmall, items_each, items_rise, owed_counts, periods_each, periods_rise, some_exist}
use Rattle.ls_cuts.specs.Rows.{Periods, backlog_times, ls_terms, setup_times, unit_times}
use Rattle.ls_cuts.specs.Points.{AreFractionsOf, Fractions}

pub ls_rise : (e : Echelon) → IsSmall e → (l : ℕ) (chosen : Periods) → l ≤ e.asked.periods → AreTerms 0 (some_terms (ls_terms e l chosen))
ls_rise e small l chosen high =
    let i = e.item in
    let l_small : l < 2 ^ 32 - 1 = omega (arith, high, small.periods) in
    let kx : ℕ → ℕ = unit_times chosen in
    let ky : ℕ → ℕ = setup_times e.asked l chosen in
    let kr = λ (j t : ℕ). backlog_times l chosen t * owed_times e j t in
    let xs = periods_to l (λ t. term (X i t) (pos (kx t))) in
    let ys = periods_to l (λ t. term (Y i t) (pos (ky t))) in
    let rs = cells_to e.items l (λ j t. term (R j t) (pos (kr j t))) in
    are_terms (xs ++ (ys ++ rs)) 0 (4 * 2 ^ 64)
    (rise_append xs (ys ++ rs) 0 (2 ^ 64) (4 * 2 ^ 64)
    (periods_rise 0 i l (λ t. X i t) kx 0 (2 ^ 64) l_small (λ t. refl) (omega arith) (omega (arith, small.item)))
    (rise_append ys rs (2 ^ 64) (2 * 2 ^ 64) (4 * 2 ^ 64)
    (periods_rise 1 i l (λ t. Y i t) ky (2 ^ 64) (2 * 2 ^ 64) l_small (λ t. refl) (omega arith) (omega (arith, small.item)))
    (items_rise 3 e.items l (λ j t. R j t) kr (2 * 2 ^ 64) (4 * 2 ^ 64) l_small (λ j t. refl) (omega arith) (omega (arith, small.items)))))

pub ls_exist : (e : EchelonItem) (l : ℕ) (chosen : Periods) → l ≤ length e.demand.items → AreColumnsOf e (some_terms (ls_terms (echelon_in e) l chosen))
ls_exist e l chosen l_high m weight i of =
    let E = echelon_in e in
    let is = of.echelon in
    let i_low : 1 ≤ e.item = omega (arith, is.item, of.low) in
    let i_high : e.item ≤ item_count m = omega (arith, is.item, of.high) in
    let last : l ≤ m.periods = omega (arith, l_high, is.demand.size) in
    some_exist m (ls_terms E l chosen)
    (All-append (Counts m) (periods_to l (λ t. term (X E.item t) (pos (unit_times chosen t)))) _ (periods_each (Counts m) l _ (λ t t_low t_high _. (i_low, i_high, t_low, omega (arith, t_high, last))))
    (All-append (Counts m) (periods_to l (λ t. term (Y E.item t) (pos (setup_times E.asked l chosen t)))) _ (periods_each (Counts m) l _ (λ t t_low t_high _. (i_low, i_high, t_low, omega (arith, t_high, last))))
    (items_each (Counts m) E.items l _ (λ j t j_low j_high t_low t_high. owed_counts m weight i e of j t (backlog_times l chosen t) j_low (omega (arith, j_high, is.weights.size)) t_low (omega (arith, t_high, last))))))

-- a point's fractions at the columns that the rows take
pub have_fractions : (m : Problem) (weight : ℕ → ℕ → ℕ) (i : ℕ) (e : EchelonItem) → IsOfItem m weight i e → (q : LinPoint) (x : Fractions) → ((c : Column) → IsColumn m c → whole (pos (q.values c)) ≡ whole (pos q.den) *ℚ x c) → (l : ℕ) → l ≤ length e.demand.items → AreFractionsOf (echelon_in e) l q x
have_fractions m weight i e of q x all l high =
    let is = of.echelon in
    let i_low : 1 ≤ e.item = omega (arith, is.item, of.low) in
    let i_high : e.item ≤ item_count m = omega (arith, is.item, of.high) in
    let last : l ≤ m.periods = omega (arith, high, is.demand.size) in
    record {
      units = λ t t_low t_high. all (X e.item t) (i_low, i_high, t_low, omega (arith, t_high, last));
      setups = λ t t_low t_high. all (Y e.item t) (i_low, i_high, t_low, omega (arith, t_high, last));
      backlogs = λ j t j_low j_high t_low t_high some. all (R j t) (owed_counts m weight i e of j t 1 j_low (omega (arith, j_high, is.weights.size)) t_low (omega (arith, t_high, last)) (some_counts (1 * owed_times (echelon_in e) j t) (omega (arith, some))));
    }
  where
    some_counts : (n : ℕ) → 1 ≤ n → is_some_term (pos n) ≡ true
    some_counts zero some = absurd (omega (arith, some))
    some_counts (suc n) some = refl

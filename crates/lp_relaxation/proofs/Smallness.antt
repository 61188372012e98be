-- The numbers of rows are small.
use Rattle.std.proofs.Common.{◌≤◌, ◌+◌, ◌-◌, ◌*◌, ℕ, zero, suc, arith, Bool, true, false, length}
use Rattle.std.specs.Prelude.{if◌then◌else◌, ◌==◌, pos, unsigned_abs}
use Rattle.std.specs.List.{All}
use Rattle.std.proofs.lemmas.Int.{ints}
use Rattle.std.proofs.lemmas.List.Elements.{All-append, All-filter, All-get_or, All-weaker}
use Rattle.std.proofs.Math.Nat.{mul-le-mul_right}
use Rattle.frac128.specs.Limits.{IsSmall}
use Rattle.lot_sizing.specs.Problem.{entry}
use Rattle.lot_sizing.specs.declared.limits.TheConstants.{MAX_TOTAL}
use Rattle.lot_sizing.proofs.Sums.{sum_to-front}
use Rattle.echelon.specs.declared.net.EchelonItem.{EchelonItem}
use Rattle.echelon.specs.declared.net.TheConstants.{MAX_ASKED}
use Rattle.echelon.specs.Views.{IsEchelonWithinBounds, asked_of_echelon}
use Rattle.lin_rows.specs.declared.column.Column.TheVariants.{X, Y}
use Rattle.lin_rows.specs.declared.row.Term.{Term}
use Rattle.lin_rows.specs.Base.{is_some_term, term}
use Rattle.lin_rows.specs.Rows.{IsSmallRow, LinRow}
use Rattle.valid_inequalities.specs.Inequalities.{demand_between}
use Rattle.valid_inequalities.proofs.Ls.{demand_all, demand_split}
use Rattle.echelon_rows.specs.Rows.{echelon_in, owed_times, owes, periods_to}
use Rattle.echelon_rows.proofs.Shapes.{items_each, periods_each}
use Rattle.ls_cuts.specs.Rows.{Periods, backlog_times, ls_row, ls_terms, setup_times, unit_times}
use Rattle.lp_relaxation.specs.Laws.{HasSmallNumbers}

abbrev IsSmallTerm : Term → Type 0
IsSmallTerm a = IsSmall a.times

pub base_small : (r : LinRow) → IsSmallRow r → HasSmallNumbers r
base_small r small = record {
  terms = All-weaker (λ a. unsigned_abs a.times ≤ MAX_TOTAL) IsSmallTerm (λ a most. omega (arith, most)) r.terms small.times;
  right = omega (arith, small.right);
}

-- ---- (l,S) rows
chosen_most : (b : Bool) (x y most : ℕ) → x ≤ most → y ≤ most → (if b then x else y) ≤ most
chosen_most true x y most first second = first
chosen_most false x y most first second = second

small_times : (k : ℕ) → k ≤ MAX_ASKED → IsSmall (pos k)
small_times k most = omega (arith, most)

module _ (e : EchelonItem) (within : IsEchelonWithinBounds e) (l : ℕ) (high : l ≤ length e.demand.items) where
  all_most : demand_between (asked_of_echelon e) 1 l ≤ MAX_ASKED
  all_most = omega (arith, demand_all (asked_of_echelon e) l, sum_to-front l (length e.demand.items) (entry e.demand.items) high, within.asked)

  between_most : (t : ℕ) → 1 ≤ t → t ≤ l → demand_between (asked_of_echelon e) t l ≤ MAX_ASKED
  between_most zero low t_high = absurd (omega (arith, low))
  between_most (suc t) low t_high = omega (arith, demand_split (asked_of_echelon e) t l (omega (arith, t_high)), all_most)

  owed_most : (j t : ℕ) → 1 ≤ j → j ≤ length e.weights.items → owed_times (echelon_in e) j t ≤ MAX_TOTAL
  owed_most j t low j_high =
      let weight = All-get_or (λ x. x ≤ MAX_TOTAL) e.weights.items (j - 1) 0 (omega (arith, low, j_high)) within.weights in
      chosen_most (owes (echelon_in e) j t) (entry e.weights.items j) 0 MAX_TOTAL weight (omega arith)

  backlog_most : (chosen : Periods) (j t : ℕ) → 1 ≤ j → j ≤ length e.weights.items → backlog_times l chosen t * owed_times (echelon_in e) j t ≤ MAX_ASKED
  backlog_most chosen j t low j_high =
      let owed = owed_times (echelon_in e) j t in
      let most = owed_most j t low j_high in
      let once : backlog_times l chosen t ≤ 1 = chosen_most (t == l) 1 _ 1 (omega arith) (chosen_most (chosen (t + 1)) 1 0 1 (omega arith) (omega arith)) in
      let product = mul-le-mul_right owed once in
      omega (arith, product, most)

  terms_small : (chosen : Periods) → All IsSmallTerm (ls_terms (echelon_in e) l chosen)
  terms_small chosen =
      let E = echelon_in e in
      All-append IsSmallTerm (periods_to l (λ t. term (X E.item t) (pos (unit_times chosen t)))) _ (periods_each IsSmallTerm l _ (λ t t_low t_high. small_times (unit_times chosen t) (chosen_most (chosen t) 0 1 MAX_ASKED (omega arith) (omega arith))))
      (All-append IsSmallTerm (periods_to l (λ t. term (Y E.item t) (pos (setup_times E.asked l chosen t)))) _ (periods_each IsSmallTerm l _ (λ t t_low t_high. small_times (setup_times E.asked l chosen t) (chosen_most (chosen t) (demand_between E.asked t l) 0 MAX_ASKED (between_most t t_low t_high) (omega arith))))
      (items_each IsSmallTerm E.items l _ (λ j t j_low j_high t_low t_high. small_times (backlog_times l chosen t * owed_times E j t) (backlog_most chosen j t j_low j_high))))

pub ls_small : (e : EchelonItem) → IsEchelonWithinBounds e → (l : ℕ) (chosen : Periods) → l ≤ length e.demand.items → HasSmallNumbers (ls_row (echelon_in e) l chosen)
ls_small e within l chosen high = record {
  terms = All-filter (λ a. is_some_term a.times) IsSmallTerm (ls_terms (echelon_in e) l chosen) (terms_small e within l high chosen);
  right = omega (arith, ints, all_most e within l high, within.asked);
}

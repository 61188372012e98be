-- Points that meet the program's rows meet all base rows and the bounds of the path.
use Rattle.std.proofs.Common.{◌≡◌, ◌≤◌, ◌-◌, ◌*◌, ⊎_elim, ℕ, zero, suc, sym, subst, arith, List, [], ◌∷◌, ◌++◌, length, slice_index_or}
use Rattle.std.specs.Prelude.{map, ℤ, pos, ◌*ℤ◌}
use Rattle.std.specs.List.{All}
use Rattle.std.proofs.lemmas.Bool.{cases_eq}
use Rattle.std.proofs.lemmas.Int.{ints}
use Rattle.std.proofs.lemmas.List.{get_or_default}
use Rattle.std.proofs.lemmas.List.Elements.{All-filter}
use Rattle.algebra.proofs.Integers.{mul_comm}
use Rattle.algebra.proofs.Ordered.{mul_le}
use Rattle.rational.specs.Rational.{ℚ, ceil_ℚ, whole, ◌*ℚ◌, ◌≤ℚ◌}
use Rattle.rational.proofs.Rationals.{rational_ordered, whole-mul}
use Rattle.rational.proofs.Facts.{is_ceiling, whole-le, le-whole}
use Rattle.lot_sizing.specs.Problem.{IsWithinLimits, Problem}
use Rattle.lin_rows.specs.declared.base.RowName.{RowName}
use Rattle.lin_rows.specs.declared.base.RowName.TheVariants.{Path}
use Rattle.lin_rows.specs.declared.bound.Bound.{Bound}
use Rattle.lin_rows.specs.Base.{HasRow, all_terms, is_some_term}
use Rattle.lin_rows.specs.Bounds.{MeetsBound, bound_row}
use Rattle.lin_rows.specs.Columns.{IsColumn}
use Rattle.lin_rows.specs.Combining.{AllHold}
use Rattle.lin_rows.specs.Costs.{point_cost}
use Rattle.lin_rows.specs.Rows.{HoldsAt, LinPoint, LinRow}
use Rattle.lin_rows.proofs.Columns.{base_exists}
use Rattle.cert_trees.specs.Paths.{AreChoices, no_bound}
use Rattle.cert_meaning.specs.Named.{IsNamed, row_named}
use Rattle.cert_meaning.proofs.Rows.{bound_columns}
use Rattle.lp_relaxation.specs.Relaxation.{MeetsBaseRows}
use Rattle.lp_relaxation.specs.Names.{BaseNamesAre, base_names, names_to}
use Rattle.lp_relaxation.specs.Says.{AreRowsOf, HasFractions, LeastSays}
use Rattle.lp_relaxation.proofs.Closing.{all_exist, one_holds}
use Rattle.lp_bounds.specs.Path.{IsMetBy, on_path, path_names}
use Rattle.lp_bounds.proofs.BoundRows.{bound_holds}
use Rattle.lp_bounds.proofs.Naming.{base_is_named, base_named, each_name}

-- those of two lists of names
held_apart : (q : LinPoint) (row : RowName → LinRow) (xs ys : List RowName) → AllHold q (map row (xs ++ ys)) → AllHold q (map row xs) × AllHold q (map row ys)
held_apart q row [] ys hold = (tt, hold)
held_apart q row (x ∷ xs) ys hold = let rest = held_apart q row xs ys hold.1 in ((hold.0, rest.0), rest.1)

to_holds : (q : LinPoint) (row : RowName → LinRow) (f : ℕ → RowName) (n k : ℕ) → 1 ≤ k → k ≤ n → AllHold q (map row (names_to n f)) → HoldsAt q (row (f k))
to_holds q row f zero k low high hold = absurd (omega (arith, low, high))
to_holds q row f (suc n) k low high hold =
    let (before, last) = held_apart q row (names_to n f) (f (suc n) ∷ []) hold in
    ⊎_elim
    (λ same. subst (λ j. HoldsAt q (row (f j))) (sym same) last.0)
    (λ other. to_holds q row f n k low (omega (arith, high, other)) before)
    (cases_eq k (suc n))

module _ (m : Problem) (total : ℕ → ℕ) (path : List Bound) (names : BaseNamesAre m) where
  abbrev here : RowName → LinRow
  here = row_named (on_path m total path)

  abbrev list : List RowName
  list = path_names m (length path)

  columns : IsWithinLimits m → (name : RowName) → HasRow m name → All (λ a. IsColumn m a.column) (here name).terms
  columns limits name has =
      subst (λ r. All (λ a. IsColumn m a.column) r.terms) (sym (base_named m total path name has))
      (All-filter (λ a. is_some_term a.times) (λ a. IsColumn m a.column) (all_terms m total name) (base_exists m total name limits.some_period has))

  pub are_rows : IsWithinLimits m → AreChoices m path → AreRowsOf (on_path m total path) list
  are_rows limits choices = record {
    limits = limits;
    named = each_name (IsNamed (on_path m total path)) m (length path) names (base_is_named m total path) (λ k low high. (low, high));
    columns = all_exist m here list (each_name (λ name. All (λ a. IsColumn m a.column) (here name).terms) m (length path) names (columns limits)
        (λ k low high. bound_columns m (slice_index_or path (k - 1) no_bound) (choices (k - 1) no_bound (omega (arith, low, high)))));
  }

  -- ---- a point that meets the rows
  module _ (q : LinPoint) (hold : AllHold q (map here list)) where
    base_met : MeetsBaseRows m total q
    base_met name has =
        let (k, less, at) = names.every name has in
        subst (HoldsAt q) (base_named m total path name has) (one_holds q here (base_names m) name k less at (held_apart q here (base_names m) (names_to (length path) (λ k. Path k)) hold).0)

    path_met : All (MeetsBound q) path
    path_met k d less =
        let holds = to_holds q here (λ j. Path j) (length path) (suc k) (omega arith) (omega (arith, less)) (held_apart q here (base_names m) (names_to (length path) (λ j. Path j)) hold).1 in
        let place : suc k - 1 ≡ k = omega arith in
        subst (MeetsBound q) (get_or_default path k no_bound d less) (bound_holds q (slice_index_or path k no_bound) (subst (λ j. HoldsAt q (bound_row (slice_index_or path j no_bound))) place holds))

  -- ---- a least point
  module _ (x : ℕ → ℚ) (value : ℚ) (den : ℕ) (z : ℕ → ℤ) (says : LeastSays (on_path m total path) list x value den z) where
    -- a point of these fractions costs at most a whole number that isn't below the value
    at_most : (q : LinPoint) → HasFractions m x q → (n : ℕ) → value ≤ℚ whole (pos n) → point_cost m q.values ≤ n * q.den
    at_most q point n above =
        let l = le-whole (pos (point_cost m q.values)) (pos q.den *ℤ pos n)
        (subst (λ s. s ≤ℚ whole (pos q.den *ℤ pos n)) (sym (says.cost q point)) (subst (λ s. whole (pos q.den) *ℚ value ≤ℚ s) (sym (whole-mul (pos q.den) (pos n))) (mul_le rational_ordered (whole (pos q.den)) value (whole (pos n)) (whole-le (pos 0) (pos q.den) (omega (arith, ints))) above))) in
        omega (arith, ints, l, mul_comm (pos q.den) (pos n))

    pub met_by : (n : ℕ) → pos n ≡ ceil_ℚ value → IsMetBy m total path n
    met_by n rounded =
        let (q, point) = says.point in
        record {
          point = q;
          base = base_met q (says.met q point);
          bounds = path_met q (says.met q point);
          cost = at_most q point n (subst (λ r. value ≤ℚ whole r) (sym rounded) (is_ceiling value).above);
        }

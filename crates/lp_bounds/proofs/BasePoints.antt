-- What the program of the base rows says of points.
use Rattle.std.proofs.Common.{◌≡◌, ◌≤◌, ◌<◌, ◌+◌, ◌*◌, ◌∙◌, ⊎_elim, ℕ, sym, ap, subst, arith, List, [], append-nil, refl}
use Rattle.std.specs.Prelude.{map, ℤ, pos, negsuc, ◌+ℤ◌, ◌-ℤ◌, ◌*ℤ◌, ◌≤ℤ◌, unsigned_abs}
use Rattle.std.specs.List.{All, Contains}
use Rattle.std.proofs.lemmas.Bool.{cases_lt}
use Rattle.std.proofs.lemmas.Int.{ints}
use Rattle.std.proofs.lemmas.List.Elements.{All-filter, All-weaker}
use Rattle.algebra.proofs.Integers.{add_mul, mul_comm, neg_mul, one_mul}
use Rattle.algebra.proofs.Order.{linear}
use Rattle.algebra.proofs.Ordered.{mul_le}
use Rattle.rational.specs.Rational.{ℚ, IsCeiling, ceil_ℚ, whole, ◌*ℚ◌, ◌≤ℚ◌}
use Rattle.rational.proofs.Rationals.{le_trans, rational_ordered, whole-mul}
use Rattle.rational.proofs.Facts.{cancel_le, is_ceiling, whole-le, le-whole}
use Rattle.lot_sizing.specs.Problem.{IsWithinLimits, Problem}
use Rattle.lin_rows.specs.declared.base.RowName.{RowName}
use Rattle.lin_rows.specs.declared.base.RowName.TheVariants.{Balance, Link, Capacity, EndMin, EndMax, Top, Least, Late, Path, Cut}
use Rattle.lin_rows.specs.Base.{HasRow, all_terms, is_some_term, row_of}
use Rattle.lin_rows.specs.Columns.{IsColumn}
use Rattle.lin_rows.specs.Combining.{AllHold}
use Rattle.lin_rows.specs.Costs.{point_cost}
use Rattle.lin_rows.specs.Rows.{HoldsAt, LinPoint}
use Rattle.lin_rows.proofs.Columns.{base_exists}
use Rattle.tableau.specs.Meaning.{AreEmpty}
use Rattle.tableau.specs.Program.{Program, row_count}
use Rattle.cert_meaning.specs.Named.{IsNamed, Named, row_named}
use Rattle.lp_relaxation.specs.Relaxation.{MeetsBaseRows}
use Rattle.lp_relaxation.specs.Names.{BaseNamesAre, BaseNamesAreAll, base_names, round_names}
use Rattle.lp_relaxation.specs.Rounds.{IsRoundProgram, at_root}
use Rattle.lp_relaxation.specs.Says.{AreRowsOf, EmptyIsSaid, HasFractions, LeastIsSaid, LeastSays}
use Rattle.lp_relaxation.proofs.Closing.{all_hold, all_exist, one_holds, whole_above}
use Rattle.lp_bounds.specs.Bounds.{IsBoundBy}
use Rattle.lp_bounds.specs.Solved.{IsRoundedBest}
use Rattle.lp_bounds.proofs.Denominators.{has_leaf}

-- ---- base rows by their names
module _ (m : Problem) (total : ℕ → ℕ) (names : BaseNamesAre m) where
  abbrev base : Named
  base = at_root m total []

  abbrev list : List RowName
  list = round_names m 0

  named : (name : RowName) → HasRow m name → row_named base name ≡ row_of m total name
  named (Balance i t) has = refl
  named (Link i t) has = refl
  named (Capacity k t) has = refl
  named (EndMin i) has = refl
  named (EndMax i) has = refl
  named (Top i t) has = refl
  named (Least i t) has = refl
  named (Late i t) has = refl
  named (Path n) has = absurd has
  named (Cut n) has = absurd has

  is_named : (name : RowName) → HasRow m name → IsNamed base name
  is_named (Balance i t) has = has
  is_named (Link i t) has = has
  is_named (Capacity k t) has = has
  is_named (EndMin i) has = has
  is_named (EndMax i) has = has
  is_named (Top i t) has = has
  is_named (Least i t) has = has
  is_named (Late i t) has = has
  is_named (Path n) has = absurd has
  is_named (Cut n) has = absurd has

  -- without cuts the names of the round are the base names
  all_names : (P : RowName → Type 0) → ((name : RowName) → HasRow m name → P name) → All P list
  all_names P each = subst (All P) (sym (append-nil (base_names m))) (All-weaker (HasRow m) P each (base_names m) names.each)

  columns : IsWithinLimits m → (name : RowName) → HasRow m name → All (λ a. IsColumn m a.column) (row_named base name).terms
  columns limits name has =
      subst (λ r. All (λ a. IsColumn m a.column) r.terms) (sym (named name has))
      (All-filter (λ a. is_some_term a.times) (λ a. IsColumn m a.column) (all_terms m total name) (base_exists m total name limits.some_period has))

  are_rows : IsWithinLimits m → AreRowsOf base list
  are_rows limits = record {
    limits = limits;
    named = all_names (IsNamed base) is_named;
    columns = all_exist m (row_named base) list (all_names (λ name. All (λ a. IsColumn m a.column) (row_named base name).terms) (columns limits));
  }

  all_met : (q : LinPoint) → MeetsBaseRows m total q → AllHold q (map (row_named base) list)
  all_met q meets =
      all_hold q (row_named base) list
      (all_names (λ name. HoldsAt q (row_named base name)) (λ name has. subst (HoldsAt q) (sym (named name has)) (meets name has)))

  base_met : (q : LinPoint) → AllHold q (map (row_named base) list) → MeetsBaseRows m total q
  base_met q hold name has =
      let (k, less, at) = subst (λ ns. Contains ns name) (sym (append-nil (base_names m))) (names.every name has) in
      subst (HoldsAt q) (named name has) (one_holds q (row_named base) list name k less at hold)

  -- ---- a least point
  module _ (x : ℕ → ℚ) (value : ℚ) (den : ℕ) (z : ℕ → ℤ) (says : LeastSays base list x value den z) where
    -- a point of these fractions costs at most a whole number that isn't below the value
    at_most : (q : LinPoint) → HasFractions m x q → (n : ℕ) → value ≤ℚ whole (pos n) → point_cost m q.values ≤ n * q.den
    at_most q point n above =
        let l = le-whole (pos (point_cost m q.values)) (pos q.den *ℤ pos n)
        (subst (λ s. s ≤ℚ whole (pos q.den *ℤ pos n)) (sym (says.cost q point)) (subst (λ s. whole (pos q.den) *ℚ value ≤ℚ s) (sym (whole-mul (pos q.den) (pos n))) (mul_le rational_ordered (whole (pos q.den)) value (whole (pos n)) (whole-le (pos 0) (pos q.den) (omega (arith, ints))) above))) in
        omega (arith, ints, l, mul_comm (pos q.den) (pos n))

    -- and none costs at most one less than the least such number
    none_below : (n : ℕ) → IsCeiling value (pos n) → (q : LinPoint) → MeetsBaseRows m total q → n * q.den < point_cost m q.values + q.den
    none_below n ceiling q meets = ⊎_elim (λ less. less) (λ most. absurd (below most)) (cases_lt (n * q.den) (point_cost m q.values + q.den))
      where
        minus : (a : ℤ) → a -ℤ pos 1 ≡ a +ℤ negsuc 0
        minus a = omega (arith, ints)

        below : point_cost m q.values + q.den ≤ n * q.den → ⊥
        below most =
            let v = point_cost m q.values in
            let w = pos n -ℤ pos 1 in
            let here : pos v ≤ℤ (pos q.den *ℤ w) = omega (arith, linear, most, mul_comm (pos q.den) w, add_mul (pos n) (negsuc 0) (pos q.den), minus (pos n), neg_mul (pos 1) (pos q.den), one_mul (pos q.den)) in
            let low : (whole (pos q.den) *ℚ value) ≤ℚ (whole (pos q.den) *ℚ whole w) = le_trans _ (whole (pos v)) _ (says.least q (all_met q meets)) (subst (λ s. whole (pos v) ≤ℚ s) (whole-mul (pos q.den) w) (whole-le (pos v) (pos q.den *ℤ w) here)) in
            let l = ceiling.least w (cancel_le (whole (pos q.den)) value (whole w) (whole_above q.den q.positive) low) in
            omega (arith, ints, l)

    -- so the number is the bound; it is at least 0, and so its own amount
    bound_is : (n : ℕ) (r : ℤ) → IsCeiling value r → n ≡ unsigned_abs r → IsBoundBy m total n
    bound_is n r ceiling amount =
        let (c, is) = says.rounded in
        let ceil = is_ceiling value in
        let same : pos n ≡ r = natural n c r (omega (arith, ints, ceiling.least (ceil_ℚ value) ceil.above, ceil.least r ceiling.above, is)) amount in
        let rounded = subst (IsCeiling value) (sym same) ceiling in
        let (q, point) = says.point in
        record {
          some = (q, base_met q (says.met q point), at_most q point n rounded.above);
          each = none_below n rounded;
        }
      where
        natural : (n c : ℕ) (r : ℤ) → pos c ≡ r → n ≡ unsigned_abs r → pos n ≡ r
        natural n c r is amount = ap pos (amount ∙ ap unsigned_abs (sym is)) ∙ is

-- ---- what the run comes to
pub bounds : LeastIsSaid → BaseNamesAreAll → (m : Problem) (total : ℕ → ℕ) (p : Program) → IsWithinLimits m → IsRoundProgram m total [] p → (n : ℕ) → IsRoundedBest p n → IsBoundBy m total n
bounds said names m total p limits program n best =
    let (den, z, leaf) = has_leaf (row_count p) best.multipliers in
    let says = said (at_root m total []) (round_names m 0) p best.point best.multipliers best.value den z (are_rows m total (names m) limits) program best.best leaf in
    bound_is m total (names m) best.point best.value den z says n best.amount.rounded best.amount.ceiling best.amount.amount

pub none : EmptyIsSaid → BaseNamesAreAll → (m : Problem) (total : ℕ → ℕ) (p : Program) (y : ℕ → ℚ) → IsWithinLimits m → IsRoundProgram m total [] p → AreEmpty p y → (q : LinPoint) → MeetsBaseRows m total q → ⊥
none said names m total p y limits program empty q meets =
    let (den, z, leaf) = has_leaf (row_count p) y in
    (said (at_root m total []) (round_names m 0) p y den z (are_rows m total (names m) limits) program empty leaf).none q (all_met m total (names m) q meets)

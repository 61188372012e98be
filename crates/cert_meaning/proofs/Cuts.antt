-- The rows of cuts hold at each feasible plan, and their columns are those of the problem.
use Rattle.std.proofs.Common.{◌≡◌, ◌≢◌, ◌≤◌, ◌<◌, ◌+◌, ◌*◌, ◌∙◌, ◌⊎◌, ⊎_elim, inl, inr, ℕ, zero, suc, refl, sym, ap, subst, arith, List, [], ◌∷◌, ◌++◌, length, slice_index_or}
use Rattle.std.specs.Prelude.{if◌then◌else◌, ℤ, pos, ◌+ℤ◌, ◌*ℤ◌, ◌≤ℤ◌, ◌<ℤ◌}
use Rattle.std.specs.List.{All}
use Rattle.std.proofs.lemmas.Bool.{cases_Bool}
use Rattle.std.proofs.lemmas.List.{get_or_default}
use Rattle.std.proofs.lemmas.List.Elements.{All-head, All-nil, All-tail}
use Rattle.algebra.proofs.Integers.{mul_add, mul_one, mul_zero, zero_add}
use Rattle.algebra.proofs.Order.{cancel_le, cancel_lt, le_antisym, linear}
use Rattle.lot_sizing.specs.Sums.{sum_to}
use Rattle.lot_sizing.specs.Problem.{Problem, entry}
use Rattle.lot_sizing.specs.Plan.{Plan, IsFeasible}
use Rattle.lot_sizing.specs.Bill.{AreWeights, bill_of}
use Rattle.lot_sizing.specs.Laws.{BoundsTotals, EchelonsBalance}
use Rattle.lot_sizing.specs.Net.{net_in}
use Rattle.lot_sizing.specs.Single.{net_demand, position_count, potential}
use Rattle.lot_sizing.proofs.Sums.{sum_to-same}
use Rattle.echelon.specs.Views.{marked}
use Rattle.lin_rows.specs.declared.column.Column.{Column}
use Rattle.lin_rows.specs.declared.row.Term.{Term}
use Rattle.lin_rows.specs.Columns.{IsColumn, order_of, value_in}
use Rattle.lin_rows.specs.Combining.{AllHold, AreOfProblem, AreSigned, SumsHold, column_sum, right_sum}
use Rattle.lin_rows.specs.Rows.{AreTerms, HoldsAt, HoldsIn, IsHeld, LinPoint, LinRow, Values, sum_at, whole_point}
use Rattle.lin_rows.specs.Sums.{coefficient, same_column}
use Rattle.lin_rows.proofs.Below.{one_by_parts}
use Rattle.lin_rows.proofs.Coefficients.{own_coefficient}
use Rattle.round_cuts.specs.Rounding.{IsCeiling, IsRounded}
use Rattle.valid_inequalities.specs.Inequalities.{all_gain, left_cost}
use Rattle.valid_inequalities.specs.Laws.{BlockHolds, LsHolds, PriceHolds}
use Rattle.valid_inequalities.specs.Trajectory.{IsNetOf}
use Rattle.echelon_rows.specs.Laws.{CostRowsHold, PricedIsNet}
use Rattle.echelon_rows.specs.Rows.{Echelon, priced, trajectory_at}
use Rattle.ls_cuts.proofs.Sides.{ls_row_holds}
use Rattle.facility_form.specs.PriceRow.{price_right}
use Rattle.cert_lines.specs.Shapes.{CutShape, LsCut, PriceCut, BlockCut, RoundCut, PriceLists}
use Rattle.cert_trees.specs.Ranges.{IsChoice}
use Rattle.cert_trees.specs.Paths.{IsMet}
use Rattle.cert_meaning.specs.Named.{names}
use Rattle.cert_meaning.specs.Parts.{rows_of, times_of}
use Rattle.cert_meaning.specs.CutRows.{AreCutRows, IsCutRow, echelon_at}
use Rattle.cert_meaning.proofs.Echelons.{cost_exist, echelon_goes, ls_exist}
use Rattle.cert_meaning.proofs.Rows.{hold_push, of_push, parts_signed, rounded_columns}
use Rattle.cert_meaning.proofs.Leaves.{IsKnown, parts_columns, parts_hold}

-- ---- a rounding row holds at whole values
-- a whole number that is at least b over q is at least its ceiling
ceiling_least : (q : ℕ) (b z left : ℤ) → 1 ≤ q → IsCeiling q b z → b ≤ℤ (pos q *ℤ left) → z ≤ℤ left
ceiling_least q b z left some is h =
    let next : (pos q *ℤ z) <ℤ (pos q *ℤ (left +ℤ pos 1)) = omega (arith, linear, is.least, h, mul_add (pos q) left (pos 1), mul_one (pos q)) in
    let less = cancel_lt (pos q) z (left +ℤ pos 1) (omega (arith, linear, some)) next in
    omega (arith, linear, less)

rounded_holds : SumsHold → (rows : List LinRow) (times : List ℤ) (q : ℕ) (r : LinRow) → 1 ≤ q → AreSigned rows times → IsRounded rows times q r → (v : Values) → AllHold (whole_point v) rows → HoldsAt (whole_point v) r
rounded_holds sums rows times q r some signed is v hold =
    let most = sums rows times q r.terms signed (λ c. (is.columns c).above) (whole_point v) hold in
    let enough : right_sum rows times ≤ℤ (pos q *ℤ sum_at v r.terms) = omega (arith, linear, most, mul_one (right_sum rows times)) in
    let least = ceiling_least q (right_sum rows times) r.right (sum_at v r.terms) some is.right enough in
    subst (λ b. IsHeld b (sum_at v r.terms) (r.right *ℤ pos 1)) (sym is.equal) (omega (arith, linear, least, mul_one r.right))

-- the net demands of an echelon are those of its item by itself
worth_is : (e : Echelon) (a : PriceLists) → IsNetOf e.asked e.owing (priced e [] a.unit a.hold a.back) → sum_to e.asked.periods (λ t. net_demand (priced e [] a.unit a.hold a.back) t * entry a.price t) ≡ sum_to e.asked.periods (λ t. net_in e.asked t * entry a.price t)
worth_is e a is = sum_to-same e.asked.periods _ _ (λ t low high. ap (λ n. n * entry a.price t) (is.net t low high))

-- the laws on which the rows of cuts rest
pub record Grounds : Type 0 where
  pub totals : BoundsTotals
  pub balance : EchelonsBalance
  pub ls : LsHolds
  pub price : PriceHolds
  pub block : BlockHolds
  pub net : PricedIsNet
  pub costs : CostRowsHold
  pub sums : SumsHold

module _ (by : Grounds) (m : Problem) (total : ℕ → ℕ) (weight : ℕ → ℕ → ℕ) (known : IsKnown m total) (are : AreWeights (bill_of m) weight) where
  cut_holds : (earlier : List LinRow) (c : CutShape) (r : LinRow) → IsCutRow m total weight earlier c r → (p : Plan) → IsFeasible m p → AllHold (whole_point (value_in p)) earlier → HoldsIn p r
  cut_holds earlier (LsCut item last chosen) r is p f hold =
      let E = echelon_at m weight item in
      let v = value_in p in
      let way = echelon_goes by.balance m weight known.rank are known.ranks known.some item is.0.echelon p f in
      subst (HoldsIn p) (sym is.1) (ls_row_holds E v last (marked chosen) is.0.low (by.ls E.asked E.owing (trajectory_at E v) way last (marked chosen) is.0.low is.0.high))
  cut_holds earlier (PriceCut item a) r is p f hold =
      let E = echelon_at m weight item in
      let v = value_in p in
      let s = priced E [] a.unit a.hold a.back in
      let net = by.net E [] a.unit a.hold a.back in
      let way = echelon_goes by.balance m weight known.rank are known.ranks known.some item is.0.echelon p f in
      let most = by.price E.asked E.owing (trajectory_at E v) s (entry a.price) way net in
      subst (HoldsIn p) (sym is.1)
      (by.costs E v way (all_gain E.asked s (entry a.price)) [] a.unit a.hold a.back (price_right E.asked a.price a.hold) (omega (arith, most, worth_is E a net)))
  cut_holds earlier (BlockCut item a) r is p f hold =
      let E = echelon_at m weight item in
      let v = value_in p in
      let s = priced E a.setup a.unit a.hold a.back in
      let way = echelon_goes by.balance m weight known.rank are known.ranks known.some item is.0.echelon p f in
      let right = potential a.steps (position_count s) + left_cost E.asked s in
      subst (HoldsIn p) (sym is.1)
      (by.costs E v way (entry a.setup) a.setup a.unit a.hold a.back right (by.block E.asked E.owing (trajectory_at E v) s a.steps way (by.net E a.setup a.unit a.hold a.back) is.0.potentials))
  cut_holds earlier (RoundCut divisor parts) r is p f hold =
      let n = names m total earlier [] in
      rounded_holds by.sums (rows_of n parts) (times_of parts) divisor r is.0.low (parts_signed n parts is.0.parts_exist) is.1 (value_in p)
      (parts_hold by.totals n p parts (record { known = known; feasible = f; cuts = hold; met = All-nil (IsMet (value_in p)) }) is.0.parts_exist)

  -- of all cuts, each of which names earlier ones alone
  pub cuts_hold : (earlier : List LinRow) (cuts : List CutShape) (rows : List LinRow) → AreCutRows m total weight earlier cuts rows → (p : Plan) → IsFeasible m p → AllHold (whole_point (value_in p)) earlier → AllHold (whole_point (value_in p)) rows
  cuts_hold earlier [] [] is p f hold = tt
  cuts_hold earlier [] (r ∷ rows) is p f hold = absurd is
  cuts_hold earlier (c ∷ cuts) [] is p f hold = absurd is
  cuts_hold earlier (c ∷ cuts) (r ∷ rows) is p f hold =
      let here = cut_holds earlier c r is.0 p f hold in
      (here, cuts_hold (earlier ++ (r ∷ [])) cuts rows is.1 p f (hold_push (whole_point (value_in p)) earlier r hold here))

pub cut_columns : (m : Problem) (total : ℕ → ℕ) (weight : ℕ → ℕ → ℕ) (earlier : List LinRow) (c : CutShape) (r : LinRow) → 1 ≤ m.periods → IsCutRow m total weight earlier c r → AreOfProblem m earlier → All (λ a. IsColumn m a.column) r.terms
cut_columns m total weight earlier (LsCut item last chosen) r some is of =
    let e = is.0.echelon in
    subst (λ row. All (λ a. IsColumn m a.column) row.terms) (sym is.1) (ls_exist m weight item e.low e.high last (marked chosen) is.0.high)
cut_columns m total weight earlier (PriceCut item a) r some is of =
    let e = is.0.echelon in
    let E = echelon_at m weight item in
    subst (λ row. All (λ a. IsColumn m a.column) row.terms) (sym is.1) (cost_exist m weight item e.low e.high (all_gain E.asked (priced E [] a.unit a.hold a.back) (entry a.price)) (entry a.unit) (entry a.hold) (entry a.back))
cut_columns m total weight earlier (BlockCut item a) r some is of =
    let e = is.0.echelon in
    subst (λ row. All (λ a. IsColumn m a.column) row.terms) (sym is.1) (cost_exist m weight item e.low e.high (entry a.setup) (entry a.unit) (entry a.hold) (entry a.back))
cut_columns m total weight earlier (RoundCut divisor parts) r some is of =
    let n = names m total earlier [] in
    rounded_columns m (rows_of n parts) (times_of parts) divisor r is.0.low (parts_columns n parts (record { some = some; cuts = of; path = All-nil (λ b. IsChoice m b.column) }) is.0.parts_exist) is.1

pub cuts_columns : (m : Problem) (total : ℕ → ℕ) (weight : ℕ → ℕ → ℕ) (earlier : List LinRow) (cuts : List CutShape) (rows : List LinRow) → 1 ≤ m.periods → AreCutRows m total weight earlier cuts rows → AreOfProblem m earlier → AreOfProblem m rows
cuts_columns m total weight earlier [] [] some is of = tt
cuts_columns m total weight earlier [] (r ∷ rows) some is of = absurd is
cuts_columns m total weight earlier (c ∷ cuts) [] some is of = absurd is
cuts_columns m total weight earlier (c ∷ cuts) (r ∷ rows) some is of =
    let here = cut_columns m total weight earlier c r some is.0 of in
    (here, cuts_columns m total weight (earlier ++ (r ∷ [])) cuts rows some is.1 (of_push m earlier r of here))

-- The rows of parts, their rounding, and why there is none.
use Rattle.std.proofs.Common.{◌≡◌, ◌≢◌, ◌≤◌, ◌<◌, ◌+◌, ◌-◌, ◌^◌, ◌∙◌, ◌⊎◌, ⊎_elim, inl, inr, ℕ, zero, suc, refl, sym, ap, subst, arith, List, [], ◌∷◌, ◌++◌, length, slice_index_or, take}
use Rattle.std.specs.Prelude.{if◌then◌else◌, ℤ, pos, ◌+ℤ◌, ◌*ℤ◌, ◌≤ℤ◌, ◌<ℤ◌}
use Rattle.std.specs.List.{All}
use Rattle.std.proofs.lemmas.Bool.{cases_Bool, cases_lt}
use Rattle.std.proofs.lemmas.List.{get_or_default, map_more}
use Rattle.std.proofs.lemmas.List.Elements.{All-head, All-tail, All-weaker}
use Rattle.algebra.proofs.Integers.{mul_one, mul_zero, zero_add}
use Rattle.algebra.proofs.Order.{cancel_le, cancel_lt, le_antisym, linear}
use Rattle.lot_sizing.specs.Problem.{Problem}
use Rattle.lot_sizing.specs.Plan.{Plan, IsFeasible}
use Rattle.lot_sizing.specs.Totals.{AreLargestTotals}
use Rattle.lin_rows.specs.declared.base.RowName.{RowName}
use Rattle.lin_rows.specs.declared.base.RowName.TheVariants.{Balance, Link, Capacity, EndMin, EndMax, Top, Least, Late, Path, Cut}
use Rattle.lin_rows.specs.declared.column.Column.{Column}
use Rattle.lin_rows.specs.declared.row.Term.{Term}
use Rattle.lin_rows.specs.Base.{HasRow, row_of}
use Rattle.lin_rows.specs.Columns.{IsColumn, order_of, value_in}
use Rattle.lin_rows.specs.Combining.{AllHold, AreOfProblem, AreSigned, column_sum}
use Rattle.lin_rows.specs.Rows.{AreTerms, HoldsAt, HoldsIn, LinPoint, LinRow, whole_point}
use Rattle.lin_rows.specs.Sums.{coefficient, same_column}
use Rattle.lin_rows.proofs.Below.{one_by_parts}
use Rattle.lin_rows.proofs.Coefficients.{own_coefficient}
use Rattle.round_cuts.specs.Rounding.{IsCeiling, IsRounded, IsTooLarge, column_amount, right_amount}
use Rattle.round_cuts.specs.declared.rounding.TheConstants.{MAX_DIVISOR}
use Rattle.cert_lines.specs.declared.parts.Part.{Part}
use Rattle.cert_lines.specs.Shapes.{RoundCut}
use Rattle.cert_meaning.specs.Named.{HasName, Named, names, no_row, row_named}
use Rattle.cert_meaning.specs.Parts.{AreParts, AreSmall, IsPart, rows_of, times_of}
use Rattle.cert_meaning.specs.CutRows.{IsCutRow}
use Rattle.cert_meaning.proofs.Rows.{columns_at, hold_at, hold_push, of_push, parts_signed}
use Rattle.cert_checker.specs.declared.fault.Why.{Why}
use Rattle.cert_checker.specs.declared.fault.Why.TheVariants as why
use Rattle.cert_checker.specs.Leaves.{IsFirstWrong, no_part}
use Rattle.cert_checker.specs.Cuts.{AreRowsOf, IsRoundFault, IsRowNamed}

-- ---- one row
-- the row of an earlier cut
pub earlier_named : (m : Problem) (earlier : List LinRow) (k : ℕ) (row : LinRow) → AreOfProblem m earlier → HasName m (length earlier) 0 (Cut k) → row ≡ slice_index_or earlier (k - 1) no_row → IsRowNamed m earlier (Cut k) row
earlier_named m earlier k row of has is =
    let less : k - 1 < length earlier = omega (arith, has.0, has.1) in
    record {
      one = λ total totals. is;
      columns = subst (λ r. All (λ a. IsColumn m a.column) r.terms) (sym is) (columns_at m earlier (k - 1) less of);
      holds = λ p f hold. subst (HoldsIn p) (sym is) (hold_at (whole_point (value_in p)) earlier (k - 1) less hold);
    }

-- a name of no cut is that of a row of the problem
pub has_row : (m : Problem) (cuts : ℕ) (name : RowName) → HasName m cuts 0 name → ((k : ℕ) → name ≡ Cut k → ⊥) → HasRow m name
has_row m cuts (Balance i t) has other = has
has_row m cuts (Link i t) has other = has
has_row m cuts (Capacity k t) has other = has
has_row m cuts (EndMin i) has other = has
has_row m cuts (EndMax i) has other = has
has_row m cuts (Top i t) has other = has
has_row m cuts (Least i t) has other = has
has_row m cuts (Late i t) has other = has
has_row m cuts (Path k) has other = omega (arith, has.0, has.1)
has_row m cuts (Cut k) has other = absurd (other k refl)

row_is : (m : Problem) (total : ℕ → ℕ) (cuts : List LinRow) (name : RowName) → HasRow m name → row_of m total name ≡ row_named (names m total cuts []) name
row_is m total cuts (Balance i t) has = refl
row_is m total cuts (Link i t) has = refl
row_is m total cuts (Capacity k t) has = refl
row_is m total cuts (EndMin i) has = refl
row_is m total cuts (EndMax i) has = refl
row_is m total cuts (Top i t) has = refl
row_is m total cuts (Least i t) has = refl
row_is m total cuts (Late i t) has = refl
row_is m total cuts (Path k) has = absurd has
row_is m total cuts (Cut k) has = absurd has

pub base_named : (m : Problem) (earlier : List LinRow) (name : RowName) (row : LinRow) → HasRow m name → ((total : ℕ → ℕ) → AreLargestTotals m total → row ≡ row_of m total name) → ((p : Plan) → IsFeasible m p → HoldsIn p row) → All (λ a. IsColumn m a.column) row.terms → IsRowNamed m earlier name row
base_named m earlier name row has one holds columns = record {
  one = λ total totals. one total totals ∙ row_is m total earlier name has;
  columns = columns;
  holds = λ p f hold. holds p f;
}

-- ---- rows of parts
-- one part more
pub rows_more : (m : Problem) (earlier : List LinRow) (parts : List Part) (k : ℕ) (rows : List LinRow) (row : LinRow) → k < length parts → AreRowsOf m earlier (take k parts) rows → IsRowNamed m earlier (slice_index_or parts k no_part).row row → AreRowsOf m earlier (take (k + 1) parts) (rows ++ (row ∷ []))
rows_more m earlier parts k rows row less are is = record {
  one = λ total totals.
      let n = names m total earlier [] in
      ap (λ rs. rs ++ (row ∷ [])) (are.one total totals)
      ∙ ap (λ r. rows_of n (take k parts) ++ (r ∷ [])) (is.one total totals)
      ∙ sym (map_more (λ part. row_named n part.row) parts k no_part less);
  columns = of_push m rows row are.columns is.columns;
  hold = λ p f hold. hold_push (whole_point (value_in p)) rows row (are.hold p f hold) (is.holds p f hold);
}

-- parts that may be taken have names
pub have_names : (m : Problem) (total : ℕ → ℕ) (cuts : List LinRow) (parts : List Part) → AreParts (names m total cuts []) parts → All (λ part. HasName m (length cuts) 0 part.row) parts
have_names m total cuts parts are = All-weaker (IsPart (names m total cuts [])) (λ part. HasName m (length cuts) 0 part.row) (λ part is. is.named) parts are

as_many : (n : Named) (parts : List Part) → length (rows_of n parts) ≡ length (times_of parts)
as_many n [] = refl
as_many n (a ∷ parts) = ap suc (as_many n parts)

-- ---- the rounding row of parts
module _ (m : Problem) (total : ℕ → ℕ) (totals : AreLargestTotals m total) (earlier : List LinRow) (parts : List Part) (parts_are : AreParts (names m total earlier []) parts) (rows : List LinRow) (times : List ℤ) (are : AreRowsOf m earlier parts rows) (times_are : times ≡ times_of parts) where
  -- rows and multipliers of parts that may be taken
  module _ (P : List LinRow → List ℤ → Type 0) where
    to_parts : P rows times → P (rows_of (names m total earlier []) parts) (times_of parts)
    to_parts is = subst (P (rows_of (names m total earlier []) parts)) times_are (subst (λ rs. P rs times) (are.one total totals) is)

    from_parts : P (rows_of (names m total earlier []) parts) (times_of parts) → P rows times
    from_parts is = subst (λ rs. P rs times) (sym (are.one total totals)) (subst (P (rows_of (names m total earlier []) parts)) (sym times_are) is)

  pub are_signed : AreSigned rows times
  are_signed = from_parts AreSigned (parts_signed (names m total earlier []) parts parts_are)

  pub same_length : length rows ≡ length times
  same_length = from_parts (λ rs zs. length rs ≡ length zs) (as_many (names m total earlier []) parts)

  pub rounded_is : (divisor : ℕ) (row : LinRow) (weight : ℕ → ℕ → ℕ) → 1 ≤ divisor → divisor ≤ MAX_DIVISOR → IsRounded rows times divisor row → IsCutRow m total weight earlier (RoundCut divisor parts) row
  rounded_is divisor row weight low high is = (record { low = low; high = high; parts_exist = parts_are }, to_parts (λ rs zs. IsRounded rs zs divisor row) is)

  -- the amounts stay small where the row is made
  pub are_small : (IsTooLarge rows times → ⊥) → AreSmall (names m total earlier []) parts
  are_small room =
      let n = names m total earlier [] in
      let left = to_parts (λ rs zs. IsTooLarge rs zs → ⊥) room in
      record {
        columns = λ c. ⊎_elim (λ less. less) (λ most. absurd (left (inl (c, most)))) (cases_lt (column_amount (rows_of n parts) (times_of parts) c) (2 ^ 127));
        right = ⊎_elim (λ less. less) (λ most. absurd (left (inr most))) (cases_lt (right_amount (rows_of n parts) (times_of parts)) (2 ^ 127));
      }

  pub not_small : IsTooLarge rows times → AreSmall (names m total earlier []) parts → ⊥
  not_small large small =
      ⊎_elim
      (λ column. omega (arith, column.1, small.columns column.0))
      (λ right. omega (arith, right, small.right))
      (to_parts IsTooLarge large)

-- the first part that may not be taken is why a rounding cut has no row
pub part_fault : (n : Named) (parts : List Part) (line at : ℕ) (w : Why) → IsFirstWrong n parts line at w → IsRoundFault n parts line at w
part_fault n parts line at why.Range is = is
part_fault n parts line at why.Sign is = is
part_fault n parts line at (why.Column c) is = absurd is.wrong
part_fault n parts line at (why.Short says) is = absurd is.wrong
part_fault n parts line at why.NotPoint is = absurd is.wrong
part_fault n parts line at (why.Block first last server) is = absurd is.wrong
part_fault n parts line at why.TooLarge is = absurd is.wrong
part_fault n parts line at (why.Plan broken) is = absurd is.wrong
part_fault n parts line at (why.Costs plan claim) is = absurd is.wrong
part_fault n parts line at why.PlanMissing is = absurd is.wrong
part_fault n parts line at why.Lead is = absurd is.wrong
part_fault n parts line at why.Work is = absurd is.wrong

-- The rows of the first cuts, as a loop makes them.
use Rattle.std.proofs.Common.{◌≡◌, ◌∙◌, ◌<◌, ◌≤◌, ◌+◌, ℕ, refl, sym, ap, subst, arith, List, [], ◌∷◌, ◌++◌, length, slice_index_or, take, length-append, append-nil, map}
use Rattle.std.specs.List.{All}
use Rattle.std.proofs.Math.Seq.{take-length}
use Rattle.std.proofs.lemmas.Grind.{flat_map-append}
use Rattle.std.proofs.lemmas.List.{get_or-map, length-map, take_more}
use Rattle.std.proofs.lemmas.List.Elements.{All-get_or}
use Rattle.std.proofs.lemmas.List.Folds.{length-flat_map-take}
use Rattle.lot_sizing.specs.Problem.{Problem}
use Rattle.lot_sizing.specs.Plan.{Plan, IsFeasible}
use Rattle.lin_rows.specs.Columns.{IsColumn, value_in}
use Rattle.lin_rows.specs.Combining.{AllHold, AreOfProblem}
use Rattle.lin_rows.specs.Rows.{HoldsAt, HoldsIn, LinPoint, LinRow, whole_point}
use Rattle.cert_lines.specs.declared.parts.Cut.{Cut}
use Rattle.cert_lines.specs.Shapes.{CutShape, cut_shape}
use Rattle.certificate.specs.Values.{all_cut_values, cut_values}
use Rattle.cert_trees.specs.Ranges.{WithTotals}
use Rattle.cert_meaning.specs.Accepts.{IsSmallCut}
use Rattle.cert_meaning.specs.CutRows.{IsCutRow}
use Rattle.cert_meaning.specs.Laws.{CutRowsGoOn, HoldAtPlans, SmallCutsGoOn}
use Rattle.cert_meaning.proofs.Rows.{hold_push, of_push}
use Rattle.cert_checker.specs.declared.fault.CheckFault.{CheckFault}
use Rattle.cert_checker.specs.declared.fault.Why.{Why}
use Rattle.cert_checker.specs.Leaves.{IfRejected}
use Rattle.cert_checker.specs.Cuts.{HasDivisor, IsCutFault, OfProblem}
use Rattle.cert_checker.specs.Checks.{AreGoodCuts, CutsHaveFault, HaveGoodRows, IsCutsFault, first_line, no_cut}
use Rattle.cert_checker.proofs.CheckRefusals.{rejected_weaker}

-- these are the rows of the first k cuts, and this is the line after them
pub record AreMade (m : Problem) (cuts : List CutShape) (k : ℕ) (rows : List LinRow) (line : ℕ) : Type 0 where
  pub good : HaveGoodRows m (take k cuts) rows
  pub hold : HoldAtPlans m rows
  pub columns_exist : AreOfProblem m rows
  pub after : line ≡ first_line + length (all_cut_values (take k cuts))

lines_more : (cuts : List CutShape) (k : ℕ) → k < length cuts → length (all_cut_values (take (k + 1) cuts)) ≡ length (all_cut_values (take k cuts)) + length (cut_values (slice_index_or cuts k no_cut))
lines_more cuts k less =
    let c = slice_index_or cuts k no_cut in
    ap (λ xs. length (all_cut_values xs)) (take_more cuts k no_cut less)
    ∙ ap length (flat_map-append cut_values (take k cuts) (c ∷ []) ∙ ap (λ xs. all_cut_values (take k cuts) ++ xs) (append-nil (cut_values c)))
    ∙ length-append (all_cut_values (take k cuts)) (cut_values c)

pub none_made : (m : Problem) (cuts : List CutShape) → AreMade m cuts 0 [] first_line
none_made m cuts = record {
  good = λ total weight totals weights. record { are = tt; small = tt };
  hold = λ p feasible. tt;
  columns_exist = tt;
  after = refl;
}

module _ (m : Problem) (cuts : List CutShape) (k : ℕ) (rows : List LinRow) (line : ℕ) (cut : CutShape) where
  pub cut_made : (new : List LinRow) (row : LinRow) → CutRowsGoOn → SmallCutsGoOn → k < length cuts → cut ≡ slice_index_or cuts k no_cut → new ≡ rows ++ (row ∷ []) → AreMade m cuts k rows line → OfProblem m (λ total weight. IsCutRow m total weight rows cut row) → WithTotals m (λ total. IsSmallCut m total rows cut) → ((p : Plan) → IsFeasible m p → AllHold (whole_point (value_in p)) rows → HoldsIn p row) → All (λ a. IsColumn m a.column) row.terms → AreMade m cuts (k + 1) new (line + length (cut_values cut))
  cut_made new row go_on small_go_on less is is_new made is_row small holds exist =
      let next : take (k + 1) cuts ≡ take k cuts ++ (cut ∷ []) = take_more cuts k no_cut less ∙ ap (λ c. take k cuts ++ (c ∷ [])) (sym is) in
      record {
        good = λ total weight totals weights.
            let good = made.good total weight totals weights in
            let more : AreGoodCuts m total weight (take k cuts ++ (cut ∷ [])) (rows ++ (row ∷ [])) = record {
              are = go_on m total weight (take k cuts) rows cut row good.are (is_row total weight totals weights);
              small = small_go_on m total (take k cuts) rows cut row good.small (small total totals);
            } in
            subst (λ c. AreGoodCuts m total weight c new) (sym next) (subst (AreGoodCuts m total weight (take k cuts ++ (cut ∷ []))) (sym is_new) more);
        hold = λ p feasible. subst (AllHold (whole_point (value_in p))) (sym is_new) (hold_push (whole_point (value_in p)) rows row (made.hold p feasible) (holds p feasible (made.hold p feasible)));
        columns_exist = subst (AreOfProblem m) (sym is_new) (of_push m rows row made.columns_exist exist);
        after = omega (arith, made.after, lines_more cuts k less, ap (λ c. length (cut_values c)) is);
      }

  -- the next cut has no row
  pub cut_fault : (f : CheckFault) → k < length cuts → cut ≡ slice_index_or cuts k no_cut → AreMade m cuts k rows line → IfRejected f (λ at w. OfProblem m (λ total weight. IsCutFault m total weight rows cut line at w)) → CutsHaveFault m cuts f
  cut_fault f less is made faulty =
      let P : ℕ → Why → Type 0 = λ at w. OfProblem m (λ total weight. IsCutFault m total weight rows cut line at w) in
      let Q : ℕ → Why → Type 0 = λ at w. OfProblem m (λ total weight. IsCutsFault m total weight cuts at w) in
      rejected_weaker f P Q
      (λ at w first total weight totals weights. record {
        place = k;
        exists = less;
        rows = rows;
        before = (made.good total weight totals weights).are;
        small = (made.good total weight totals weights).small;
        fault = subst (λ x. IsCutFault m total weight rows (slice_index_or cuts k no_cut) x at w) made.after (subst (λ c. IsCutFault m total weight rows c line at w) is (first total weight totals weights));
      })
      faulty

-- all cuts
pub all_made : (m : Problem) (cuts : List CutShape) (k : ℕ) (rows : List LinRow) (line : ℕ) → k ≡ length cuts → AreMade m cuts k rows line → AreMade m cuts (length cuts) rows line
all_made m cuts k rows line is made = subst (λ n. AreMade m cuts n rows line) is made

pub all_good : (m : Problem) (cuts : List CutShape) (rows : List LinRow) (line : ℕ) → AreMade m cuts (length cuts) rows line → HaveGoodRows m cuts rows
all_good m cuts rows line made = λ total weight totals weights. subst (λ c. AreGoodCuts m total weight c rows) (take-length cuts) (made.good total weight totals weights)

pub all_lines : (m : Problem) (cuts : List CutShape) (rows : List LinRow) (line : ℕ) → AreMade m cuts (length cuts) rows line → line ≡ first_line + length (all_cut_values cuts)
all_lines m cuts rows line made = made.after ∙ ap (λ c. first_line + length (all_cut_values c)) (take-length cuts)

-- a cut of a list is the shape of that of the list of cuts
pub shape_at : (cuts : List Cut) (k : ℕ) (cut : Cut) → k < length cuts → cut ≡ slice_index_or cuts k cut → cut_shape cut ≡ slice_index_or (map cut_shape cuts) k no_cut
shape_at cuts k cut less is = ap cut_shape is ∙ sym (get_or-map cut_shape cuts k cut no_cut less)

-- its lines are within those of all cuts
pub lines_within : (cuts : List CutShape) (k line : ℕ) (cut : CutShape) → k < length cuts → cut ≡ slice_index_or cuts k no_cut → line ≡ first_line + length (all_cut_values (take k cuts)) → line + length (cut_values cut) ≤ first_line + length (all_cut_values cuts)
lines_within cuts k line cut less is from =
    omega (arith, from, ap (λ c. length (cut_values c)) is, length-flat_map-take cut_values cuts k no_cut less)

pub shapes_exist : (cuts : List Cut) (k : ℕ) → k < length cuts → k < length (map cut_shape cuts)
shapes_exist cuts k less = omega (arith, less, length-map cuts cut_shape)

pub divisor_at : (cuts : List Cut) (k : ℕ) (cut : Cut) → k < length cuts → cut ≡ slice_index_or cuts k cut → All HasDivisor (map cut_shape cuts) → HasDivisor (cut_shape cut)
divisor_at cuts k cut less is all =
    subst HasDivisor (sym (shape_at cuts k cut less is)) (All-get_or HasDivisor (map cut_shape cuts) k no_cut (shapes_exist cuts k less) all)

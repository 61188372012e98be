-- The rows of the first cuts, as a loop makes them while it reads the cuts.
use Rattle.std.proofs.Common.{◌≡◌, ◌∙◌, ◌<◌, ◌+◌, ℕ, sym, ap, subst, arith, List, [], ◌∷◌, ◌++◌, length, slice_index_or, take, drop, length-append, append-nil, append_assoc, add-one}
use Rattle.std.specs.List.{All}
use Rattle.std.proofs.Math.Seq.{drop-cons, drop-length, take-length}
use Rattle.std.proofs.lemmas.Grind.{flat_map-append}
use Rattle.std.proofs.lemmas.List.{take_more}
use Rattle.lot_io.specs.Outside.{Shelved}
use Rattle.lot_sizing.specs.Problem.{Problem}
use Rattle.lot_sizing.specs.Plan.{Plan, IsFeasible}
use Rattle.lin_rows.specs.Columns.{IsColumn, value_in}
use Rattle.lin_rows.specs.Combining.{AllHold, AreOfProblem}
use Rattle.lin_rows.specs.Rows.{HoldsIn, LinRow, whole_point}
use Rattle.cert_lines.specs.Shapes.{CutShape}
use Rattle.certificate.specs.Values.{Values, all_cut_values, cut_values}
use Rattle.cert_meaning.specs.Laws.{CutRowsGoOn, HoldAtPlans, SmallCutsGoOn}
use Rattle.cert_meaning.proofs.Rows.{of_push as columns_more, hold_push as hold_more}
use Rattle.cert_checker.specs.declared.fault.Why.{Why}
use Rattle.cert_checker.specs.Cuts.{IsCutFault, OfProblem}
use Rattle.cert_checker.specs.Checks.{AreGoodCuts, IsCutsFault, first_line, no_cut}
use Rattle.cert_stream.specs.declared.lines.LineReader.{LineReader}
use Rattle.stream_check.specs.declared.fault.StreamFault.{StreamFault}
use Rattle.stream_check.specs.Passes.{Awaits, IsOn, IsRefusal}
use Rattle.stream_check.specs.Rows.{IsRowOf}
use Rattle.stream_check.proofs.Ways.{awaits_same, refusal_weaker}

-- these are the rows of the first k cuts, and the others are left
pub record AreSoFar (m : Problem) (version : ℕ) (shelf : Shelved) (name : List ℕ) (r : LineReader) (cuts : List CutShape) (ls : Values) (k : ℕ) (rows : List LinRow) : Type 0 where
  pub good : OfProblem m (λ total weight. AreGoodCuts m total weight (take k cuts) rows)
  pub number : r.number ≡ first_line + length (all_cut_values (take k cuts))
  pub awaits : Awaits shelf name r version (all_cut_values (drop k cuts) ++ ls)

-- a loop that reads cuts has come to the k-th
pub record IsReading (m : Problem) (version : ℕ) (name : List ℕ) (old new : Shelved) (a b : LineReader) (count k : ℕ) (rows : List LinRow) : Type 0 where
  pub on : IsOn name old new a b
  pub hold : HoldAtPlans m rows
  pub columns_exist : AreOfProblem m rows
  pub awaited : (cuts : List CutShape) (ls : Values) → length cuts ≡ count → Awaits old name a version (all_cut_values cuts ++ ls) → AreSoFar m version new name b cuts ls k rows

lines_more : (cuts : List CutShape) (k : ℕ) → k < length cuts → length (all_cut_values (take (k + 1) cuts)) ≡ length (all_cut_values (take k cuts)) + length (cut_values (slice_index_or cuts k no_cut))
lines_more cuts k less =
    let c = slice_index_or cuts k no_cut in
    ap (λ xs. length (all_cut_values xs)) (take_more cuts k no_cut less)
    ∙ ap length (flat_map-append cut_values (take k cuts) (c ∷ []) ∙ ap (λ xs. all_cut_values (take k cuts) ++ xs) (append-nil (cut_values c)))
    ∙ length-append (all_cut_values (take k cuts)) (cut_values c)

left_lines : (cuts : List CutShape) (k : ℕ) (ls : Values) → k < length cuts → all_cut_values (drop k cuts) ++ ls ≡ cut_values (slice_index_or cuts k no_cut) ++ (all_cut_values (drop (k + 1) cuts) ++ ls)
left_lines cuts k ls less =
    ap (λ cs. all_cut_values cs ++ ls) (drop-cons cuts k no_cut less ∙ ap (λ n. slice_index_or cuts k no_cut ∷ drop n cuts) (sym (add-one k))) ∙ append_assoc (cut_values (slice_index_or cuts k no_cut)) (all_cut_values (drop (k + 1) cuts)) ls

pub none_read : (m : Problem) (version : ℕ) (name : List ℕ) (shelf : Shelved) (a : LineReader) (count : ℕ) → IsOn name shelf shelf a a → a.number ≡ first_line → IsReading m version name shelf shelf a a count 0 []
none_read m version name shelf a count on first = record {
  on = on;
  hold = λ p feasible. tt;
  columns_exist = tt;
  awaited = λ cuts ls size awaits. record {
    good = λ total weight totals weights. record { are = tt; small = tt };
    number = omega (arith, first);
    awaits = awaits;
  };
}

module _ (m : Problem) (version : ℕ) (name : List ℕ) (shelf next : Shelved) (b d : LineReader) (cuts : List CutShape) (ls : Values) (k : ℕ) (rows : List LinRow) where
  -- the next cut is awaited
  pub next_awaits : k < length cuts → AreSoFar m version shelf name b cuts ls k rows → Awaits shelf name b version (cut_values (slice_index_or cuts k no_cut) ++ (all_cut_values (drop (k + 1) cuts) ++ ls))
  next_awaits less so_far = awaits_same (left_lines cuts k ls less) so_far.awaits

  pub cut_read : (new : List LinRow) (row : LinRow) → CutRowsGoOn → SmallCutsGoOn → k < length cuts → new ≡ rows ++ (row ∷ []) → AreSoFar m version shelf name b cuts ls k rows → IsRowOf m rows (slice_index_or cuts k no_cut) row → d.number ≡ b.number + length (cut_values (slice_index_or cuts k no_cut)) → Awaits next name d version (all_cut_values (drop (k + 1) cuts) ++ ls) → AreSoFar m version next name d cuts ls (k + 1) new
  cut_read new row go_on small_go_on less is_new so_far is_row number awaits =
      let cut = slice_index_or cuts k no_cut in
      let taken : take (k + 1) cuts ≡ take k cuts ++ (cut ∷ []) = take_more cuts k no_cut less in
      record {
        good = λ total weight totals weights.
            let good = so_far.good total weight totals weights in
            let more : AreGoodCuts m total weight (take k cuts ++ (cut ∷ [])) (rows ++ (row ∷ [])) = record {
              are = go_on m total weight (take k cuts) rows cut row good.are (is_row.0 total weight totals weights);
              small = small_go_on m total (take k cuts) rows cut row good.small (is_row.1 total totals);
            } in
            subst (λ c. AreGoodCuts m total weight c new) (sym taken) (subst (AreGoodCuts m total weight (take k cuts ++ (cut ∷ []))) (sym is_new) more);
        number = omega (arith, so_far.number, number, lines_more cuts k less);
        awaits = awaits;
      }

  -- the next cut has no row
  pub cut_refused : (f : StreamFault) → k < length cuts → AreSoFar m version shelf name b cuts ls k rows → IsRefusal (λ at w. OfProblem m (λ total weight. IsCutFault m total weight rows (slice_index_or cuts k no_cut) b.number at w)) f → IsRefusal (λ at w. OfProblem m (λ total weight. IsCutsFault m total weight cuts at w)) f
  cut_refused f less so_far refusal =
      let P : ℕ → Why → Type 0 = λ at w. OfProblem m (λ total weight. IsCutFault m total weight rows (slice_index_or cuts k no_cut) b.number at w) in
      let Q : ℕ → Why → Type 0 = λ at w. OfProblem m (λ total weight. IsCutsFault m total weight cuts at w) in
      refusal_weaker P Q
      (λ at w no total weight totals weights. record {
        place = k;
        exists = less;
        rows = rows;
        before = (so_far.good total weight totals weights).are;
        small = (so_far.good total weight totals weights).small;
        fault = subst (λ x. IsCutFault m total weight rows (slice_index_or cuts k no_cut) x at w) so_far.number (no total weight totals weights);
      })
      f refusal

  -- all cuts are read
  pub all_read : k ≡ length cuts → AreSoFar m version shelf name b cuts ls k rows → OfProblem m (λ total weight. AreGoodCuts m total weight cuts rows) × (b.number ≡ first_line + length (all_cut_values cuts)) × Awaits shelf name b version ls
  all_read is so_far =
      let all : take k cuts ≡ cuts = ap (λ n. take n cuts) is ∙ take-length cuts in (
        λ total weight totals weights. subst (λ c. AreGoodCuts m total weight c rows) all (so_far.good total weight totals weights),
        so_far.number ∙ ap (λ c. first_line + length (all_cut_values c)) all,
        awaits_same (ap (λ n. all_cut_values (drop n cuts) ++ ls) is ∙ ap (λ cs. all_cut_values cs ++ ls) (drop-length cuts)) so_far.awaits,
      )

-- the loop goes on
pub row_read : (m : Problem) (version : ℕ) (name : List ℕ) (old new next : Shelved) (a b d : LineReader) (count k : ℕ) (rows more : List LinRow) (row : LinRow) → IsReading m version name old new a b count k rows → IsOn name old next a d → more ≡ rows ++ (row ∷ []) → ((p : Plan) → IsFeasible m p → AllHold (whole_point (value_in p)) rows → HoldsIn p row) → All (λ a. IsColumn m a.column) row.terms → ((cuts : List CutShape) (ls : Values) → length cuts ≡ count → AreSoFar m version new name b cuts ls k rows → AreSoFar m version next name d cuts ls (k + 1) more) → IsReading m version name old next a d count (k + 1) more
row_read m version name old new next a b d count k rows more row reading on is_more holds exist step = record {
  on = on;
  hold = λ p feasible. subst (AllHold (whole_point (value_in p))) (sym is_more) (hold_more (whole_point (value_in p)) rows row (reading.hold p feasible) (holds p feasible (reading.hold p feasible)));
  columns_exist = subst (AreOfProblem m) (sym is_more) (columns_more m rows row reading.columns_exist exist);
  awaited = λ cuts ls size awaits. step cuts ls size (reading.awaited cuts ls size awaits);
}

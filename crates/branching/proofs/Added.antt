-- Cuts are added behind those that are there, and what was known stays known.
use Rattle.std.proofs.Common.{◌≡◌, ◌<◌, ◌∙◌, ℕ, refl, sym, ap, subst, arith, List, [], ◌∷◌, ◌++◌, length, append-nil, length-append}
use Rattle.std.specs.Prelude.{IfSome, map}
use Rattle.std.proofs.lemmas.List.{length-map, map-append}
use Rattle.lot_sizing.specs.Problem.{Problem}
use Rattle.lin_rows.specs.Rows.{LinRow}
use Rattle.cert_lines.specs.declared.parts.Cut.{Cut}
use Rattle.cert_lines.specs.declared.limits.TheConstants.{MAX_CUTS}
use Rattle.cert_lines.specs.Line.{HasForm}
use Rattle.cert_lines.specs.Shapes.{BlockCut, CutShape, LineShape, LsCut, PriceCut, RoundCut, cut_first, cut_parts, cut_shape}
use Rattle.certificate.specs.Values.{AreLines, all_cut_values, cut_values}
use Rattle.cert_meaning.specs.Laws.{CutRowsGoOn, SmallCutsGoOn}
use Rattle.cert_meaning.proofs.Rows.{of_push as columns_more}
use Rattle.cert_checker.specs.Checks.{AreGoodCuts}
use Rattle.cert_checker.specs.Cuts.{HasDivisor}
use Rattle.cert_checker.specs.Named.{IsReadyFor}
use Rattle.branching.specs.declared.knowing.Known.{Known}
use Rattle.branching.specs.declared.guiding.Model.{Model}
use Rattle.branching.specs.Adding.{IsBlockCut, IsNextRow}
use Rattle.branching.specs.Begun.{AreKnownCuts, IsBegun}
use Rattle.branching.specs.Branching.{good_stays}
use Rattle.branching.specs.Knowing.{IsKnown, ranges_in, shapes}
use Rattle.incumbent.specs.Kept.{IsMadeWithin}

-- ---- block cuts
pub block_divisor : (c : CutShape) → IsBlockCut c → HasDivisor c
block_divisor (LsCut item last chosen) is = absurd is
block_divisor (PriceCut item a) is = absurd is
block_divisor (BlockCut item a) is = tt
block_divisor (RoundCut divisor parts) is = absurd is

pub block_parts : (c : CutShape) → IsBlockCut c → length (cut_parts c) ≡ 0
block_parts (LsCut item last chosen) is = absurd is
block_parts (PriceCut item a) is = absurd is
block_parts (BlockCut item a) is = refl
block_parts (RoundCut divisor parts) is = absurd is

block_lines : (version : ℕ) (c : CutShape) → IsBlockCut c → HasForm (cut_first c) → AreLines version (cut_values c)
block_lines version (LsCut item last chosen) is form = absurd is
block_lines version (PriceCut item a) is form = absurd is
block_lines version (BlockCut item a) is form = (record { text = refl; form = form; known = tt }, tt)
block_lines version (RoundCut divisor parts) is form = absurd is

-- ---- lines
lines_append : (version : ℕ) (xs ys : List LineShape) → AreLines version xs → AreLines version ys → AreLines version (xs ++ ys)
lines_append version [] ys a b = b
lines_append version (x ∷ xs) ys a b = (a.0, lines_append version xs ys a.1 b)

lines_split : (version : ℕ) (xs ys : List LineShape) → AreLines version (xs ++ ys) → AreLines version xs × AreLines version ys
lines_split version [] ys a = (tt, a)
lines_split version (x ∷ xs) ys a = let both = lines_split version xs ys a.1 in ((a.0, both.0), both.1)

lines_more : (version : ℕ) (cuts : List CutShape) (c : CutShape) → AreLines version (all_cut_values cuts) → AreLines version (cut_values c) → AreLines version (all_cut_values (cuts ++ (c ∷ [])))
lines_more version [] c all is = subst (AreLines version) (sym (append-nil (cut_values c))) is
lines_more version (b ∷ cuts) c all is =
    let both = lines_split version (cut_values b) (all_cut_values cuts) all in
    lines_append version (cut_values b) (all_cut_values (cuts ++ (c ∷ []))) both.0 (lines_more version cuts c both.1 is)

-- ---- one cut more
cuts_more : (m : Problem) (version : ℕ) (cuts : List CutShape) (rows : List LinRow) (c : CutShape) (r : LinRow) → CutRowsGoOn → SmallCutsGoOn → length cuts < MAX_CUTS → AreLines version (cut_values c) → IsNextRow m rows c r → AreKnownCuts m version cuts rows → AreKnownCuts m version (cuts ++ (c ∷ [])) (rows ++ (r ∷ []))
cuts_more m version cuts rows c r go_on small_go_on few lines next are = record {
  good = λ total weight totals weights.
      let good = are.good total weight totals weights in
      let more : AreGoodCuts m total weight (cuts ++ (c ∷ [])) (rows ++ (r ∷ [])) = record {
        are = go_on m total weight cuts rows c r good.are (next.is_row total weight totals weights);
        small = small_go_on m total cuts rows c r good.small (next.small total totals);
      } in
      more;
  few = omega (arith, few, length-append cuts (c ∷ []));
  lines = lines_more version cuts c are.lines lines;
  columns_exist = columns_more m rows r are.columns_exist next.columns_exist;
}

begun_more : (g : Model) (rows more : List LinRow) → IsBegun g.instance.now g.version g.least g.first rows → IsBegun g.instance.now g.version g.least g.first (rows ++ more)
begun_more g rows more is = record {
  known = is.known;
  floor = is.floor;
  lasting = record {
    good = good_stays g.instance.now g.version g.least rows more [] g.first is.lasting.good;
    of_rows = is.lasting.of_rows;
  };
  amount = is.amount;
}

pub known_more : (g : Model) (old new : Known) (cut : Cut) (row : LinRow) → CutRowsGoOn → SmallCutsGoOn → length old.cuts.items < MAX_CUTS → IsBlockCut (cut_shape cut) → HasForm (cut_first (cut_shape cut)) → IsNextRow g.instance.now old.rows.items (cut_shape cut) row → new.cuts.items ≡ old.cuts.items ++ (cut ∷ []) → new.rows.items ≡ old.rows.items ++ (row ∷ []) → new.best ≡ old.best → new.sums ≡ old.sums → IsKnown g old → IsKnown g new
known_more g old new cut row go_on small_go_on few block form next cuts rows best sums is =
    let shape = cut_shape cut in
    let fewer : length (shapes old) < MAX_CUTS = omega (arith, few, length-map old.cuts.items cut_shape) in
    let here = cuts_more g.instance.now g.version (shapes old) old.rows.items shape row go_on small_go_on fewer (block_lines g.version shape block form) next is.cuts in
    let same : shapes new ≡ shapes old ++ (shape ∷ []) = ap (λ cs. map cut_shape cs) cuts ∙ map-append cut_shape old.cuts.items (cut ∷ []) in
    record {
      given = is.given;
      begun = subst (λ r. IsBegun g.instance.now g.version g.least g.first r) (sym rows) (begun_more g old.rows.items (row ∷ []) is.begun);
      cuts = subst (λ r. AreKnownCuts g.instance.now g.version (shapes new) r) (sym rows) (subst (λ s. AreKnownCuts g.instance.now g.version s (old.rows.items ++ (row ∷ []))) (sym same) here);
      best = subst (λ b. IfSome b (IsMadeWithin g.instance.now (ranges_in g))) (sym best) is.best;
      sums = subst (IsReadyFor g.instance.now) (sym sums) is.sums;
      explosion = is.explosion;
    }

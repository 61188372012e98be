use Rattle.std.proofs.Common.{rules, ◌≡◌, ◌+◌, ◌∙◌, suc, pos, ap, subst, sym, arith, slice_index_or, to_z, of_z, FitsSigned, w64}
use Rattle.std.proofs.lemmas.Int.{to_z-of_z}
use Rattle.lot_draft.specs.Refusals.{entry_fault, first_in}
use Rattle.lot_draft.proofs.Scans.{IsScan, passed}
use Rattle.lot_draft.proofs.checks.series_fault.Goals as goal

pub loop-at-preserved : goal.loop-at-preserved
loop-at-preserved c =
    let f = entry_fault c.args.place c.args.key in
    let k = c.loop-at.at in
    let e : suc k ≡ k + 1 = omega arith in
    let fits : FitsSigned w64 (slice_index_or c.args.list.now k (pos 0)) = search rules in
    let same = c.entry_fault.ensures ∙ ap (f (k + 1)) (to_z-of_z w64 (slice_index_or c.args.list.now k (pos 0)) fits) ∙ ap (λ n. f n (slice_index_or c.args.list.now k (pos 0))) (sym e) in
    subst (IsScan (first_in f 1 c.args.list.now) f c.args.list.now) e (passed (first_in f 1 c.args.list.now) c.entry_fault.result f k (pos 0) c.args.list.now c.loop-at.invariant c.loop-at-test.true same c.in_default.is)

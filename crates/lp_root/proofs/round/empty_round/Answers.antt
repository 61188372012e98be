use Rattle.std.proofs.Common.{◌∙◌, ap, length, refl, sym, subst}
use Rattle.std.proofs.lemmas.Result.{IfOk-weaker}
use Rattle.lin_rows.specs.Combining.{AreOfProblem}
use Rattle.tableau.specs.declared.outcome.Outcome.TheVariants as outcome
use Rattle.lp_relaxation.specs.Leaves.{farkas}
use Rattle.lp_root.specs.RootSteps.{IsLeafOf, shapes}
use Rattle.lp_root.proofs.RootCuts.{root_columns}
use Rattle.lp_root.proofs.RootRounds.{farkas_ends, figured, sides_long}
use Rattle.lp_root.proofs.round.empty_round.Goals as goal

pub farkas_leaf-requires-clause-columns : goal.farkas_leaf-requires-clause-columns
farkas_leaf-requires-clause-columns c =
    let list = c.args.state.now.list in
    subst (AreOfProblem c.args.instance.now) (sym c.deref.ensures.value) (root_columns c.args.instance.now (shapes list) list.rows.items c.requires.rounds.cuts)

pub farkas_leaf-requires-clause-size : goal.farkas_leaf-requires-clause-size
farkas_leaf-requires-clause-size c =
    let m = c.args.instance.now in
    let state = c.args.state.now in
    let (total, totals, small) = c.requires.explosion.instance.totals in
    let (d, reached, is) = c.requires.outcome in
    ap length c.deref-3.ensures.value ∙ is.rows
    ∙ sym (ap length c.deref-2.ensures.value ∙ sides_long m total state.list.rows.items state.program.lp state.program.sides.items (c.requires.rounds.ready.round total totals))

pub returns : goal.returns
returns c =
    let m = c.args.instance.now in
    let state = c.args.state.now in
    let sides = state.program.sides.items in
    let ys = c.args.multipliers.items in
    let (rank, ranks) = c.requires.explosion.instance.ranked in
    let (d, reached, is) = c.requires.outcome in
    IfOk-weaker c.farkas_leaf.result (IsLeafOf m state.list.rows.items sides ys farkas c.args.round) _
    (farkas_ends m c.args.round c.requires.low c.requires.high state c.requires.rounds c.requires.explosion.instance.limits rank ranks (figured m c.args.explosion.now c.requires.explosion) (outcome.Empty c.args.multipliers) c.requires.outcome ys is.rows sides refl c.rounds_refute.ensures c.requires.certain (λ weight weights. refl))
    (rw (c.deref.ensures.value, c.deref-2.ensures.value, c.deref-3.ensures.value) at c.farkas_leaf.ensures)

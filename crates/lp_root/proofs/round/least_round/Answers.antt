use Rattle.std.proofs.Common.{◌<◌, ◌≤◌, ◌∙◌, ap, arith, length, refl, subst, sym}
use Rattle.lin_rows.specs.Combining.{AreOfProblem}
use Rattle.lin_rows.specs.Points.{read_at}
use Rattle.tableau.specs.declared.outcome.Outcome.TheVariants as outcome
use Rattle.tableau.specs.Outcomes.{number_at}
use Rattle.lp_relaxation.specs.Leaves.{linear}
use Rattle.lp_root.specs.Rounds.{AreCutsFound}
use Rattle.lp_root.specs.RootSteps.{AreRootCuts, EndsRounds, IsLeafOf, IsReady, PutsAll, shapes}
use Rattle.lp_root.proofs.RootCuts.{put_all, root_columns}
use Rattle.lp_root.proofs.RootRounds.{few_rows, figured, grown, linear_ends, none_violated, nothing_more, separation_passes, sides_long}
use Rattle.lp_root.proofs.round.least_round.Goals as goal

pub returns-in-Some-clause-ends : goal.returns-in-Some-clause-ends
returns-in-Some-clause-ends c =
    let m = c.args.instance.now in
    let old = c.args.state.now in
    let list = c.separate_all.new.list in
    let read = read_at c.new-point.result in
    let end = c.in-Some.end in
    let (value, run, certain) = c.requires.least in
    let puts = subst (λ end. PutsAll m read end old.list list) c.in-Some.is c.in_ok-end.ensures in
    separation_passes m c.args.round c.requires.low c.requires.high old c.requires.rounds (outcome.Least c.args.least.point c.args.least.multipliers value) run read (λ P is. (read, c.new-point.ensures.point.value, is)) list (figured m c.args.explosion.now c.requires.explosion) c.separation_passed.result end.item end.l c.separation_passed.ensures.says c.separation_passed.ensures.leaf puts

pub push_rows-requires-clause-rows : goal.push_rows-requires-clause-rows
push_rows-requires-clause-rows c =
    let m = c.args.instance.now in
    let old = c.args.state.now in
    let list = c.separate_all.new.list in
    let puts = subst (λ end. PutsAll m (read_at c.new-point.result) end old.list list) c.in_default.is c.in_ok-end.ensures in
    (shapes list, subst (AreRootCuts m (shapes list)) (sym c.deref.ensures.value) (put_all m _ old.list list c.requires.rounds.cuts puts))

pub push_rows-requires-clause-few : goal.push_rows-requires-clause-few
push_rows-requires-clause-few c =
    let m = c.args.instance.now in
    let old = c.args.state.now in
    let list = c.separate_all.new.list in
    let read = read_at c.new-point.result in
    let (value, run, certain) = c.requires.least in
    let puts = subst (λ end. PutsAll m read end old.list list) c.in_default.is c.in_ok-end.ensures in
    let few = few_rows m c.args.round c.requires.low c.requires.high old c.requires.rounds (outcome.Least c.args.least.point c.args.least.multipliers value) run read (λ P is. (read, c.new-point.ensures.point.value, is)) list c.requires.explosion.instance.limits (figured m c.args.explosion.now c.requires.explosion) puts in
    omega (arith, few, ap length c.deref.ensures.value)

pub returns-then-len-before-clause-goes : goal.returns-then-len-before-clause-goes
returns-then-len-before-clause-goes c = λ _.
    let m = c.args.instance.now in
    let old = c.args.state.now in
    let list = c.separate_all.new.list in
    let read = read_at c.new-point.result in
    let (value, run, certain) = c.requires.least in
    let puts = subst (λ end. PutsAll m read end old.list list) c.in_default.is c.in_ok-end.ensures in
    let more : length old.list.rows.items < length list.rows.items = omega (arith, c.if-len-before.true, c.len-before.ensures, c.len.ensures) in
    let program = c.push_rows.new.program in
    grown m c.args.round c.requires.low c.requires.high old c.requires.rounds (outcome.Least c.args.least.point c.args.least.multipliers value) run read (λ P is. (read, c.new-point.ensures.point.value, is)) list puts more program (subst (λ rows. IsReady m rows program) c.deref.ensures.value c.in_ok-push_rows.ensures.ready)

pub linear_leaf-requires-clause-columns : goal.linear_leaf-requires-clause-columns
linear_leaf-requires-clause-columns c =
    let m = c.args.instance.now in
    let old = c.args.state.now in
    let list = c.separate_all.new.list in
    let puts = subst (λ end. PutsAll m (read_at c.new-point.result) end old.list list) c.in_default.is c.in_ok-end.ensures in
    subst (AreOfProblem m) (sym c.deref-2.ensures.value) (root_columns m (shapes list) list.rows.items (put_all m _ old.list list c.requires.rounds.cuts puts))

pub linear_leaf-requires-clause-size : goal.linear_leaf-requires-clause-size
linear_leaf-requires-clause-size c =
    let m = c.args.instance.now in
    let old = c.args.state.now in
    let (total, totals, small) = c.requires.explosion.instance.totals in
    let (value, run, certain) = c.requires.least in
    let (d, reached, is) = run in
    ap length c.deref-4.ensures.value ∙ is.rows
    ∙ sym (ap length c.deref-3.ensures.value ∙ sides_long m total old.list.rows.items old.program.lp old.program.sides.items (c.requires.rounds.ready.round total totals))

pub returns-clause-ends : goal.returns-clause-ends
returns-clause-ends c =
    let m = c.args.instance.now in
    let old = c.args.state.now in
    let list = c.separate_all.new.list in
    let read = read_at c.new-point.result in
    let ys = c.args.least.multipliers.items in
    let v = c.in_ok-verdict.verdict in
    let (rank, ranks) = c.requires.explosion.instance.ranked in
    let (value, run, certain) = c.requires.least in
    let (d, reached, is) = run in
    let end = outcome.Least c.args.least.point c.args.least.multipliers value in
    let puts = subst (λ end. PutsAll m read end old.list list) c.in_default.is c.in_ok-end.ensures in
    let few : length list.rows.items ≤ length old.list.rows.items = omega (arith, c.if-len-before.false, c.len-before.ensures, c.len.ensures) in
    let (none, same_cuts, same_rows) = nothing_more m c.args.round c.requires.low c.requires.high old c.requires.rounds end run read (λ P is. (read, c.new-point.ensures.point.value, is)) list _ puts few in
    let judged = subst (λ rows. IsLeafOf m rows old.program.sides.items ys linear c.args.round v) same_rows (rw (c.deref-2.ensures.value, c.deref-3.ensures.value, c.deref-4.ensures.value) at c.in_ok-verdict.ensures) in
    let ends = linear_ends m c.args.round c.requires.low c.requires.high old c.requires.rounds c.requires.explosion.instance.limits rank ranks (figured m c.args.explosion.now c.requires.explosion) end run ys is.rows old.program.sides.items refl c.rounds_close.ensures (number_at c.args.least.point.items) value certain read c.new-point.ensures.point.value
    (λ weight weights. none_violated c.lesser_separates.ensures m weight read (subst (AreCutsFound m weight read) none (puts.are weight weights)))
    (λ weight weights. ((read, c.new-point.ensures.point.value, subst (AreCutsFound m weight read) none (puts.are weight weights)), refl)) v judged in
    subst (λ cuts. EndsRounds m v cuts list.rows.items) (sym same_cuts) (subst (EndsRounds m v (shapes old.list)) (sym same_rows) ends)

use Rattle.std.proofs.Common.{◌≡◌, ◌+◌, ◌-◌, ◌∙◌, refl, sym, subst, arith, length}
use Rattle.lot_sizing.specs.Problem.{entry}
use Rattle.lot_sizing.proofs.Sums.{sum_to-front, sum_to_at}
use Rattle.backlog_dp.specs.Search.{HoldsTo, IsAfter, IsKept, serves_at}
use Rattle.backlog_dp.proofs.Starts.{after_next, after_small, breaks_at, holds_at, holds_more, kept_next, kept_small}
use Rattle.backlog_dp.proofs.rising.holds_for.Goals as goal

pub with_start-kept-requires-clause-kept : goal.with_start-kept-requires-clause-kept
with_start-kept-requires-clause-kept c =
    let may = serves_at c.args.backlogged c.args.server c.args.periods.now in
    kept_small c.args.steps.now c.args.costs.now may (c.loop-last.last - 1) c.loop-last.kept c.requires.steps c.requires.size c.requires.costs (omega arith) c.loop-last.invariant.kept

pub with_start-kept-requires-clause-other : goal.with_start-kept-requires-clause-other
with_start-kept-requires-clause-other c = after_small c.args.steps.now c.args.costs.now (c.loop-last.last - 1) c.loop-last.here c.requires.steps c.requires.size c.requires.costs (omega arith) c.loop-last.invariant.here

pub overflow_add-here : goal.overflow_add-here
overflow_add-here c =
    let f = entry c.args.costs.now in
    let t = c.loop-last.last in
    omega (arith, c.loop-last.invariant.here.spent, sum_to_at t f c.loop-last.auto.last, sum_to-front t (length c.args.costs.now) f (omega arith), c.requires.costs)

pub rises_past-requires-clause-kept : goal.rises_past-requires-clause-kept
rises_past-requires-clause-kept c =
    let g = c.args.steps.now in
    let costs = c.args.costs.now in
    let t = c.loop-last.last in
    let may = serves_at c.args.backlogged c.args.server c.args.periods.now in
    let inv = c.loop-last.invariant in
    let kept = subst (IsKept g costs may t) (sym c.with_start-kept.ensures) (kept_next g costs may t c.loop-last.kept c.loop-last.here c.may_serve-serves.result c.loop-last.auto.last c.may_serve-serves.ensures inv.here inv.kept) in
    kept_small g costs may t c.with_start-kept.result c.requires.steps c.requires.size c.requires.costs (omega arith) kept

pub rises_past-requires-clause-reached : goal.rises_past-requires-clause-reached
rises_past-requires-clause-reached c =
    let g = c.args.steps.now in
    let costs = c.args.costs.now in
    let t = c.loop-last.last in
    let after = after_next g costs t (entry g t) (c.loop-last.here.spent + entry costs t) c.loop-last.here c.loop-last.auto.last c.loop-last.invariant.here refl refl in
    after_small g costs t _ c.requires.steps c.requires.size c.requires.costs (omega arith) after

pub returns-then-rises_past : goal.returns-then-rises_past
returns-then-rises_past c =
    let g = c.args.steps.now in
    let costs = c.args.costs.now in
    let t = c.loop-last.last in
    let may = serves_at c.args.backlogged c.args.server c.args.periods.now in
    let inv = c.loop-last.invariant in
    let kept = subst (IsKept g costs may t) (sym c.with_start-kept.ensures) (kept_next g costs may t c.loop-last.kept c.loop-last.here c.may_serve-serves.result c.loop-last.auto.last c.may_serve-serves.ensures inv.here inv.kept) in
    let after = after_next g costs t (entry g t) (c.loop-last.here.spent + entry costs t) c.loop-last.here c.loop-last.auto.last inv.here refl refl in
    let at = breaks_at g costs may t c.args.setup c.with_start-kept.result _ kept after (sym c.rises_past.ensures ∙ c.if-rises_past.true) in
    (λ no. absurd (cc no), λ holds. absurd (omega (arith, at.4, holds at.0 t at.1 at.2 (omega arith) at.3)))

pub loop-last-preserved : goal.loop-last-preserved
loop-last-preserved c =
    let g = c.args.steps.now in
    let costs = c.args.costs.now in
    let t = c.loop-last.last in
    let may = serves_at c.args.backlogged c.args.server c.args.periods.now in
    let inv = c.loop-last.invariant in
    let e : t ≡ t + 1 - 1 = omega arith in
    let kept = subst (IsKept g costs may t) (sym c.with_start-kept.ensures) (kept_next g costs may t c.loop-last.kept c.loop-last.here c.may_serve-serves.result c.loop-last.auto.last c.may_serve-serves.ensures inv.here inv.kept) in
    let after = after_next g costs t (entry g t) (c.loop-last.here.spent + entry costs t) c.loop-last.here c.loop-last.auto.last inv.here refl refl in
    let here = holds_at g costs may t c.args.setup c.with_start-kept.result _ kept after (sym c.rises_past.ensures ∙ c.if-rises_past.false) in
    record {
      here = subst (λ k. IsAfter g costs k (record { potential = entry g t; spent = c.loop-last.here.spent + entry costs t })) e after;
      kept = subst (λ k. IsKept g costs may k c.with_start-kept.result) e kept;
      holds = subst (HoldsTo g costs c.args.periods.now c.args.setup c.args.backlogged c.args.server) e (holds_more g costs c.args.periods.now c.args.setup c.args.backlogged c.args.server t c.loop-last.auto.last inv.holds here);
    }

use Rattle.std.proofs.Common.{◌≡◌, ◌+◌, ◌-◌, ◌^◌, ◌∙◌, ap, subst, arith}
use Rattle.std.specs.Prelude.{min}
use Rattle.std.proofs.lemmas.Grind.{get_or_default_zero}
use Rattle.lot_sizing.specs.Problem.{entry}
use Rattle.must_start.specs.Rows.{start_in}
use Rattle.late_starts.proofs.Loading.{HasArriving, arriving_take}
use Rattle.late_starts.proofs.charging.arriving_of.Goals as goal

pub loop-period-preserved : goal.loop-period-preserved
loop-period-preserved c =
    let m = c.args.instance.now in
    let list = c.loop-period.list.items in
    let a = c.arrival_period.result in
    let near = c.arrival_period.ensures in
    let read : c.index.result.now ≡ entry list a = c.index.ensures ∙ get_or_default_zero list (a - 1) c.index.result.now (omega (arith, near.some, near.within, c.loop-period.invariant.size)) in
    arriving_take m (start_in c.args.on_time.now) (λ _. entry c.args.loads.now) c.args.item c.loop-period.period a c.saturating_add.result list c.loop-period.auto.period near.value near.some near.within
    (c.saturating_add.ensures ∙ ap (λ x. min (x + c.needed_load.result) (2 ^ 128 - 1)) read ∙ ap (λ x. min (entry list a + x) (2 ^ 128 - 1)) c.needed_load.ensures)
    c.loop-period.invariant

pub returns : goal.returns
returns c =
    let m = c.args.instance.now in
    let last : c.loop-period.period - 1 ≡ m.periods = omega (arith, c.loop-period-test.false, c.loop-period.auto.period-end, c.periods-period-end.ensures.value) in
    subst (λ n. HasArriving m (start_in c.args.on_time.now) (λ _. entry c.args.loads.now) c.args.item n c.loop-period.list.items) last c.loop-period.invariant

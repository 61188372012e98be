use Rattle.std.proofs.Common.{◌≡◌, ◌∙◌, ◌++◌, ◌∷◌, [], ◌-◌, ◌+◌, ap, arith, sym, subst}
use Rattle.plan_rules.specs.Held.{plan_of}
use Rattle.lot_schedule.specs.Lots.{AreLotsTo}
use Rattle.lot_schedule.proofs.Gathered.{gathered, passed_over}
use Rattle.lot_schedule.proofs.lots.lots_by_item.Goals as goal
use Rattle.lot_schedule.proofs.lots.lots_by_item.Goals.{then-length-gt0+in_ok-push, else-length-gt0}

pub loop-item-preserved : goal.loop-item-preserved
loop-item-preserved c =
    let m = c.args.instance.now in
    let p = plan_of c.args.plan.now in
    let k = c.args.resource in
    let t = c.args.period in
    let i = c.loop-item.item in
    let ls = c.loop-item.lots.items in
    elim c.if-length-gt0.branch [
      | then-length-gt0+in_ok-push w ↦
          let e : c.if-length-gt0.lots.items ≡ ls ++ record { item = i; length = c.length_of-length.result } ∷ [] = ap (λ v. v.items) w.lots-is ∙ w.in_ok-push.ensures.items in
          subst (AreLotsTo m p k t (i + 1 - 1)) (sym e) (gathered m p k t i ls c.length_of-length.result c.loop-item.invariant c.loop-item.auto.item c.length_of-length.ensures.value w.if-length-gt0.true)
      | else-length-gt0 w ↦
          subst (AreLotsTo m p k t (i + 1 - 1)) (sym (ap (λ v. v.items) w.lots-is)) (passed_over m p k t i ls c.loop-item.invariant c.loop-item.auto.item (omega (arith, w.if-length-gt0.false, c.length_of-length.ensures.value)))
    ]

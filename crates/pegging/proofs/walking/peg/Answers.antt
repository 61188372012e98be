use Rattle.std.proofs.Common.{◌≡◌, ◌-◌, ◌∙◌, ap, arith, sym, subst}
use Rattle.std.specs.List.{All, flat_map, range_with_len}
use Rattle.lot_sizing.specs.Problem.{item_count}
use Rattle.plan_rules.specs.Held.{plan_of}
use Rattle.pegging.specs.Pegs.{pegs_of, pegs_of_item}
use Rattle.pegging.specs.Sums.{IndicesExist, IsInTime, MeetNeeds, UseSupplies}
use Rattle.pegging.proofs.Adding.{needs_met, supplies_used}
use Rattle.pegging.proofs.Timing.{pegs_exist, pegs_in_time}
use Rattle.pegging.proofs.walking.peg.Goals as goal

pub returns : goal.returns
returns c =
    let m = c.args.instance.now in
    let p = plan_of c.args.plan.now in
    let feasible = c.requires.feasible in
    let some = c.items-item-end.ensures.instance.limits.some_period in
    let last : c.loop-item.item - 1 ≡ item_count m = omega (arith, c.loop-item-test.false, c.items-item-end.ensures.value, c.loop-item.auto.item-end) in
    let whole : c.loop-item.pegs.items ≡ pegs_of m p = c.loop-item.invariant ∙ ap (λ n. flat_map (pegs_of_item m p) (range_with_len 1 n)) last in
    record {
      pegs = whole;
      supplies = subst (λ pegs. UseSupplies m p pegs) (sym whole) (supplies_used m p feasible some);
      needs = subst (λ pegs. MeetNeeds m p pegs) (sym whole) (needs_met m p feasible some);
      in_time = subst (λ pegs. All (IsInTime m) pegs) (sym whole) (pegs_in_time m p feasible);
      exist = subst (λ pegs. All (IndicesExist m) pegs) (sym whole) (pegs_exist m p);
    }

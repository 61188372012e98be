use Rattle.std.proofs.Common.{◌≡◌, ◌≤◌, ◌+◌, ◌-◌, ◌∙◌, ap, arith, length, length-append, [], ◌∷◌}
use Rattle.std.proofs.lemmas.Grind.{get_or_default_zero}
use Rattle.echelon.specs.Views.{asked_of_echelon, marked}
use Rattle.lin_rows.specs.Points.{read_at}
use Rattle.valid_inequalities.proofs.Ls.{demand_first}
use Rattle.echelon_rows.specs.Rows.{Echelon, echelon_in}
use Rattle.ls_cuts.proofs.Evaluating.{evaluated, first, pushed, stuck}
use Rattle.ls_cuts.proofs.separation.evaluate.Goals as goal

pub loop-period-init : goal.loop-period-init
loop-period-init c = record {
  rest = c.requires.asked;
  small = c.requires.small;
  size = ap length c.in_ok-chosen.ensures.items;
  evaluated = first (echelon_in c.args.echelon.now) (read_at c.args.point.now) c.args.l (marked c.in_ok-chosen.chosen.items) c.in-Some.first c.in-Some.ensures.1;
}

pub returns-in-None-add-clause-passed : goal.returns-in-None-add-clause-passed
returns-in-None-add-clause-passed c = λ _.
    let e : Echelon = echelon_in c.args.echelon.now in
    let t = c.loop-period.period in
    stuck e (read_at c.args.point.now) c.args.l (marked c.loop-period.chosen.items) c.in-Some-choose.choice.chosen t c.loop-period.rest c.loop-period.left c.in-Some-choose.choice.part c.loop-period.auto.period (omega (arith, c.loop-period-test.true)) c.loop-period.invariant.rest c.loop-period.invariant.evaluated c.in-Some-choose.ensures c.in-None-add.ensures

pub overflow_sub-rest : goal.overflow_sub-rest
overflow_sub-rest c =
    let a = asked_of_echelon c.args.echelon.now in
    let xs = c.args.echelon.now.demand.items in
    let t = c.loop-period.period in
    let here = c.index.ensures ∙ get_or_default_zero xs (t - 1) c.index.result.now (omega (arith, c.loop-period-test.true, c.loop-period.auto.period, c.requires.high)) in
    omega (arith, here, c.loop-period.invariant.rest, demand_first a t c.args.l (omega (arith, c.loop-period-test.true)))

pub loop-period-preserved : goal.loop-period-preserved
loop-period-preserved c =
    let e : Echelon = echelon_in c.args.echelon.now in
    let a = asked_of_echelon c.args.echelon.now in
    let xs = c.args.echelon.now.demand.items in
    let t = c.loop-period.period in
    let here = c.index.ensures ∙ get_or_default_zero xs (t - 1) c.index.result.now (omega (arith, c.loop-period-test.true, c.loop-period.auto.period, c.requires.high)) in
    record {
      rest = omega (arith, here, c.loop-period.invariant.rest, demand_first a t c.args.l (omega (arith, c.loop-period-test.true)));
      small = omega (arith, c.loop-period.invariant.small);
      size = omega (arith, ap length c.in_ok-push_mark.ensures, length-append c.loop-period.chosen.items (c.in-Some-choose.choice.chosen ∷ []), c.loop-period.invariant.size, c.loop-period.auto.period);
      evaluated = pushed e (read_at c.args.point.now) c.args.l c.loop-period.chosen.items c.push_mark.new.marks.items c.in-Some-choose.choice.chosen t c.loop-period.rest c.loop-period.left c.in-Some-choose.choice.part c.in-Some-add.next c.loop-period.auto.period c.loop-period.invariant.size c.loop-period.invariant.rest c.loop-period.invariant.evaluated c.in-Some-choose.ensures c.in-Some-add.ensures.0 c.in-Some-add.ensures.1 c.in_ok-push_mark.ensures;
    }

pub returns-clause-lesser : goal.returns-clause-lesser
returns-clause-lesser c =
    let e : Echelon = echelon_in c.args.echelon.now in
    let some : 1 ≤ c.args.l + 1 = omega arith in
    let last : c.loop-period.period - 1 ≡ c.args.l = omega (arith, c.loop-period-test.false, c.loop-period.auto.period-end some) in
    (evaluated e (read_at c.args.point.now) c.args.l c.loop-period.chosen.items (c.loop-period.period - 1) c.loop-period.left last c.loop-period.invariant.size c.in-Some.ensures.0 c.loop-period.invariant.evaluated).0

pub returns-clause-left : goal.returns-clause-left
returns-clause-left c =
    let e : Echelon = echelon_in c.args.echelon.now in
    let some : 1 ≤ c.args.l + 1 = omega arith in
    let last : c.loop-period.period - 1 ≡ c.args.l = omega (arith, c.loop-period-test.false, c.loop-period.auto.period-end some) in
    (evaluated e (read_at c.args.point.now) c.args.l c.loop-period.chosen.items (c.loop-period.period - 1) c.loop-period.left last c.loop-period.invariant.size c.in-Some.ensures.0 c.loop-period.invariant.evaluated).1

use Rattle.std.proofs.Common.{◌≡◌, ◌+◌, ◌-◌, ◌∙◌, inl, inr, ap, sym, subst, arith, ℕ}
use Rattle.lot_sizing.specs.Sums.{sum_to}
use Rattle.lot_sizing.specs.Problem.{demand}
use Rattle.lot_sizing.specs.Plan.{used_up}
use Rattle.lot_sizing.specs.Net.{needed_to}
use Rattle.lot_sizing.proofs.Sums.{sum_to-same, sum_to_at}
use Rattle.plan_rules.specs.Cells.{table_of}
use Rattle.own_plan.specs.OwnPeriod.{asked_with, one_if_some}
use Rattle.own_plan.specs.Rows.{IsOwnBefore}
use Rattle.own_plan.proofs.Asked.{needed_last}
use Rattle.own_plan.proofs.Rows.{asked_more, needed_now, row_done, row_more}
use Rattle.own_plan.proofs.own_period.fill_row.Goals as goal

pub overflow_cast-lot : goal.overflow_cast-lot
overflow_cast-lot c =
    let m = c.args.instance.now in
    let i = c.args.item in
    let t = c.loop-period.period in
    let inv = c.loop-period.invariant in
    let need : c.needed_by.result ≡ needed_to (asked_with m (table_of c.args.make.now) i) t = needed_now m c.args.make.now c.loop-period.make i t c.loop-period.asked c.demand.result c.used_up.result c.needed_by.result c.requires.apart c.requires.make inv.other_makes (omega arith) (omega arith) inv.asked c.demand.ensures.value c.used_up.ensures.value c.needed_by.ensures in
    omega (arith, need, needed_last (asked_with m (table_of c.args.make.now) i) t (omega arith), c.requires.small)

pub loop-period-preserved : goal.loop-period-preserved
loop-period-preserved c =
    let m = c.args.instance.now in
    let i = c.args.item in
    let t = c.loop-period.period in
    let inv = c.loop-period.invariant in
    let next : t + 1 - 1 ≡ t = omega arith in
    let f = λ (u : ℕ). demand m i u + used_up m (table_of c.args.make.now) i u in
    let need : c.needed_by.result ≡ needed_to (asked_with m (table_of c.args.make.now) i) t = needed_now m c.args.make.now c.loop-period.make i t c.loop-period.asked c.demand.result c.used_up.result c.needed_by.result c.requires.apart c.requires.make inv.other_makes (omega arith) (omega arith) inv.asked c.demand.ensures.value c.used_up.ensures.value c.needed_by.ensures in
    let small = needed_last (asked_with m (table_of c.args.make.now) i) t (omega arith) in
    let sums = sum_to-same (t - 1) (table_of c.set.new.self i) (table_of c.loop-period.make i) (λ u low high. c.set.ensures.others i u c.requires.low (omega arith) low (omega arith) (inr (λ e. omega arith))) in
    record {
      make_fits = record { items = omega arith; periods = omega arith };
      setup_fits = record { items = omega arith; periods = omega arith };
      asked = asked_more m c.args.make.now c.loop-period.make i t c.loop-period.asked c.demand.result c.used_up.result c.requires.apart c.requires.make inv.other_makes (omega arith) (omega arith) inv.asked c.demand.ensures.value c.used_up.ensures.value ∙ sym (ap (λ n. sum_to n f) next);
      asked_small = omega arith;
      made = omega (arith, sums, sum_to_at t (table_of c.set.new.self i) (omega arith), ap (λ n. sum_to n (table_of c.set.new.self i)) next);
      made_small = omega (arith, need, small, c.requires.small);
      row = row_more m (table_of c.args.make.now) (table_of c.loop-period.make) (table_of c.set.new.self) (table_of c.loop-period.setup) (table_of c.set-in-loop-period.new.self) i t (omega arith)
          (λ u low high. c.set.ensures.others i u c.requires.low (omega arith) low (omega arith) (inr (λ e. omega arith)))
          (λ u low high. c.set-in-loop-period.ensures.others i u c.requires.low (omega arith) low (omega arith) (inr (λ e. omega arith)))
          (omega (arith, need, inv.made))
          (c.set-in-loop-period.ensures.here ∙ c.setup_of.ensures ∙ ap one_if_some (sym c.set.ensures.here))
          inv.row;
      other_makes = λ j u j_low j_high u_low u_high ne. c.set.ensures.others j u j_low (omega arith) u_low (omega arith) (inl ne) ∙ inv.other_makes j u j_low j_high u_low u_high ne;
      other_setups = λ j u j_low j_high u_low u_high ne. c.set-in-loop-period.ensures.others j u j_low (omega arith) u_low (omega arith) (inl ne) ∙ inv.other_setups j u j_low j_high u_low u_high ne;
    }

pub returns : goal.returns
returns c =
    let m = c.args.instance.now in
    let i = c.args.item in
    let inv = c.loop-period.invariant in
    let e : c.loop-period.period ≡ m.periods + 1 = omega arith in
    record {
      make_fits = inv.make_fits;
      setup_fits = inv.setup_fits;
      row = row_done m c.args.make.now c.loop-period.make c.loop-period.setup i c.requires.apart c.requires.make inv.other_makes (subst (IsOwnBefore m (table_of c.args.make.now) (table_of c.loop-period.make) (table_of c.loop-period.setup) i) e inv.row);
      other_makes = inv.other_makes;
      other_setups = inv.other_setups;
    }

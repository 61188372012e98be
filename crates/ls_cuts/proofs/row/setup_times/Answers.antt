use Rattle.std.proofs.Common.{◌≡◌, ◌+◌, ◌-◌, ◌∙◌, ℕ, suc, ap, sym, subst, arith, length}
use Rattle.std.specs.Prelude.{if◌then◌else◌}
use Rattle.std.proofs.lemmas.Grind.{get_or_default_zero}
use Rattle.echelon.specs.Views.{HasEach, asked_of_echelon, marked}
use Rattle.echelon.proofs.Nets.{each_more}
use Rattle.valid_inequalities.proofs.Ls.{demand_first}
use Rattle.ls_cuts.specs.Rows.{setup_times}
use Rattle.ls_cuts.proofs.row.setup_times.Goals as goal

pub overflow_sub-rest : goal.overflow_sub-rest
overflow_sub-rest c =
    let a = asked_of_echelon c.args.echelon.now in
    let xs = c.args.echelon.now.demand.items in
    let t = c.loop-period.period in
    let here = c.index.ensures ∙ get_or_default_zero xs (t - 1) c.index.result.now (omega arith) in
    omega (arith, here, c.loop-period.invariant.rest, demand_first a t (length c.args.chosen.now) (omega arith))

pub loop-period-preserved : goal.loop-period-preserved
loop-period-preserved c =
    let a = asked_of_echelon c.args.echelon.now in
    let xs = c.args.echelon.now.demand.items in
    let t = c.loop-period.period in
    let l = length c.args.chosen.now in
    let F : ℕ → ℕ = setup_times a l (marked c.args.chosen.now) in
    let next : t + 1 - 1 ≡ suc (t - 1) = omega (arith, c.loop-period.auto.period) in
    let same : t ≡ t + 1 - 1 = omega arith in
    let here = c.index.ensures ∙ get_or_default_zero xs (t - 1) c.index.result.now (omega arith) in
    record {
      rest = omega (arith, here, c.loop-period.invariant.rest, demand_first a t l (omega arith));
      each = subst (HasEach (t + 1 - 1) F) (sym c.in_ok-push.ensures.items) (each_more (t - 1) (t + 1 - 1) c.taken.result F c.loop-period.list.items next c.loop-period.invariant.each (c.taken.ensures ∙ ap (λ k. if marked c.args.chosen.now t then k else 0) c.loop-period.invariant.rest ∙ ap F same));
    }

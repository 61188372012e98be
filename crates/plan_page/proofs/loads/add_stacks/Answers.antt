use Rattle.std.proofs.Common.{◌∙◌, ◌+◌, ◌-◌, ℕ, List, string_bytes, refl, sym, ap, arith, append-nil}
use Rattle.plan_rules.specs.Held.{plan_of}
use Rattle.plan_page.specs.Loads.{run_time, setup_time_used, stack, time_to}
use Rattle.plan_page.proofs.Joins.{join_more}
use Rattle.plan_page.proofs.Sums.{time_to_more}
use Rattle.plan_page.proofs.loads.add_stacks.Goals as goal

pub loop-item-init : goal.loop-item-init
unfolding time_to
loop-item-init c = record { text = sym (append-nil (string_bytes c.args.text.now)); used = refl; small = omega arith }

pub loop-item-preserved : goal.loop-item-preserved
loop-item-preserved c =
    let m = c.args.instance.now in
    let p = plan_of c.args.plan.now in
    let k = c.args.resource in
    let t = c.args.period in
    let n = c.loop-item.item in
    let g : ℕ → List ℕ = λ i. stack c.args.chart m p k t i (time_to m p k t (i - 1)) in
    record {
      text = rw (c.in_ok-used.ensures.text, c.loop-item.invariant.used, c.loop-item.invariant.text) (sym (join_more (string_bytes c.args.text.now) n g c.loop-item.auto.item));
      used = c.in_ok-used.ensures.used ∙ ap (λ v. v + (run_time m p k t n + setup_time_used m p k t n)) c.loop-item.invariant.used ∙ sym (time_to_more m p k t n c.loop-item.auto.item);
      small = omega (arith, c.in_ok-used.ensures.more, c.loop-item.invariant.small, c.loop-item.auto.item);
    }

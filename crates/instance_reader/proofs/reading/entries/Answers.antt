use Rattle.std.proofs.Common.{◌≡◌, ◌+◌, ◌∙◌, Ok, rules, sym, ap, subst, arith}
use mir.Val.{SFits}
use mir.Syntax.{w64}
use mir.Facts.{to_z-of_z}
use Rattle.toml.specs.View.{view}
use Rattle.instance_reader.specs.Reading.{entry}
use Rattle.instance_reader.proofs.Lists.{IsSoFar, all_read, more_so_far, none_so_far}
use Rattle.instance_reader.proofs.reading.entries.Goals as goal

pub loop-value-init : goal.loop-value-init
loop-value-init c = (omega arith, subst (λ ns. IsSoFar (entry c.args.place c.args.key) ns 0 c.args.list.now) (sym c.new-numbers.ensures.items) (none_so_far (entry c.args.place c.args.key) c.args.list.now))

pub loop-value-preserved : goal.loop-value-preserved
loop-value-preserved c =
    let one = entry c.args.place c.args.key in
    let k = c.loop-value.value-index in
    let fits : SFits w64 c.in_ok-entry.field-0 = search rules in
    let read : one (k + 1) (view c.value-item.result) ≡ Ok c.in_ok-entry.field-0 = ap (λ n. one (n + 1) (view c.value-item.result)) (sym c.loop-value.invariant.0) ∙ c.in_ok-entry.ensures.ok in
    (omega (arith, c.loop-value.invariant.0), subst (λ ns. IsSoFar one ns (k + 1) c.args.list.now) (sym (simp (to_z-of_z fits) at c.in_ok-push.ensures.items)) (more_so_far one c.loop-value.numbers.items k c.args.list.now c.value-item.result c.in_ok-entry.field-0 c.loop-value.invariant.1 c.loop-value-test.true c.value-item.is read))

pub returns : goal.returns
returns c = record { ok = all_read (entry c.args.place c.args.key) c.loop-value.numbers.items c.loop-value.value-index c.args.list.now c.loop-value.invariant.1 c.loop-value-test.false; refused = search rules }

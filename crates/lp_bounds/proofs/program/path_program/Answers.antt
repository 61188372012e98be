use Rattle.std.proofs.Common.{◌≡◌, arith, length, subst}
use Rattle.std.proofs.lemmas.List.{get_or_default}
use Rattle.lp_bounds.specs.Steps.{IsReadyTo}
use Rattle.lp_bounds.proofs.Counting.{few_all}
use Rattle.lp_bounds.proofs.Growing.{ready_first, ready_more}
use Rattle.lp_bounds.proofs.program.path_program.Goals as goal

pub loop-index-init : goal.loop-index-init
loop-index-init c =
    let m = c.args.instance.now in
    let base = c.in_ok-program.ensures in
    ready_first m c.args.path.now c.in_ok-program.program (c.base_names_are_all.ensures m) base.round base.fits base.width

pub push_bound-requires-clause-few : goal.push_bound-requires-clause-few
push_bound-requires-clause-few c =
    let m = c.args.instance.now in
    let path = c.args.path.now in
    let k = c.loop-index.index in
    let p = c.loop-index.program in
    let (total, totals, small) = c.an_instance_breaks_no_rule.ensures.totals in
    few_all m total path k p.lp p.sides.items (c.loop-index.invariant.made total totals) c.an_instance_breaks_no_rule.ensures.limits (omega (arith, c.loop-index-test.true, c.requires.short))

pub loop-index-preserved : goal.loop-index-preserved
loop-index-preserved c =
    let m = c.args.instance.now in
    let path = c.args.path.now in
    let k = c.loop-index.index in
    let more = c.in_ok-push_bound.ensures in
    ready_more m path k _ _ c.loop-index.program c.push_bound.new.program (get_or_default path k _ _ c.loop-index-test.true) (omega arith) c.loop-index.invariant more.lp more.sides more.fits

pub returns : goal.returns
returns c =
    let m = c.args.instance.now in
    let path = c.args.path.now in
    let all : c.loop-index.index ≡ length path = omega (arith, c.loop-index-test.false, c.loop-index.auto.index-end) in
    subst (λ k. IsReadyTo m path k c.loop-index.program) all c.loop-index.invariant

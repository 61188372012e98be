use Rattle.std.proofs.Common.{inl, inr, refl, subst}
use Rattle.cert_lines.specs.Shapes.{leaf_shape}
use Rattle.lp_bounds.specs.Path.{IfAtLeast, IfExempt, IfNoPoint, IsExempt, IsMetAt, SaysAtLeast, SaysNone}
use Rattle.branching.proofs.Evidence.{marked_is_examined, examined_kept, examined_more, examined_evident, none_kept, raised_examined, raised_kept, raised_more, raised_evident}
use Rattle.branching.specs.Knowing.{ranges_in}
use Rattle.branching.proofs.asking.with_evidence.Goals as goal

pub returns-in-AtLeast : goal.returns-in-AtLeast
returns-in-AtLeast c =
    let m = c.args.model.now.instance.now in
    let path = c.args.node.now.path.items in
    let new = c.raised.result in
    let way = c.deref.result.now in
    let shape = leaf_shape c.in-AtLeast.leaf in
    let says : SaysAtLeast m path shape c.in-AtLeast.bound = subst (λ p. SaysAtLeast m p shape c.in-AtLeast.bound) c.deref.ensures.value (subst (IfAtLeast (SaysAtLeast m way)) c.in-AtLeast.is c.in_ok-leaf.ensures.bound) in
    let met : IsMetAt m path c.in-AtLeast.bound = subst (λ p. IsMetAt m p c.in-AtLeast.bound) c.deref.ensures.value (subst (IfAtLeast (λ _ bound. IsMetAt m way bound)) c.in-AtLeast.is c.in_ok-leaf.ensures.point) in
    let totals = c.an_instance_breaks_no_rule.ensures.totals in
    record {
      kept = λ least rows is. raised_kept m (ranges_in c.args.model.now) c.args.model.now.version least totals.0 rows c.args.node.now.ranges.items path c.args.proposal new c.in-AtLeast.leaf c.in-AtLeast.bound totals.1 c.requires.version says c.raised.ensures is;
      evident = raised_evident m c.args.model.now.root path c.args.proposal new c.in-AtLeast.leaf c.in-AtLeast.bound met c.raised.ensures;
      examined = raised_examined c.args.proposal new c.in-AtLeast.leaf c.in-AtLeast.bound c.raised.ensures;
      more = raised_more c.args.proposal new c.in-AtLeast.leaf c.in-AtLeast.bound c.raised.ensures;
    }

pub returns-in-NoPoint : goal.returns-in-NoPoint
returns-in-NoPoint c =
    let m = c.args.model.now.instance.now in
    let path = c.args.node.now.path.items in
    let shape = leaf_shape c.in-NoPoint.leaf in
    let says : SaysNone m path shape = subst (λ p. SaysNone m p shape) c.deref.ensures.value (subst (IfNoPoint (SaysNone m c.deref.result.now)) c.in-NoPoint.is c.in_ok-leaf.ensures.none) in
    record {
      kept = λ least rows is. none_kept m (ranges_in c.args.model.now) c.args.model.now.version least rows c.args.node.now.ranges.items path _ c.in-NoPoint.leaf c.requires.version says refl refl;
      evident = λ short. tt;
      examined = refl;
      more = tt;
    }

pub returns-in-Exempt : goal.returns-in-Exempt
returns-in-Exempt c =
    let m = c.args.model.now.instance.now in
    let path = c.args.node.now.path.items in
    let new = c.mark_examined-in-Exempt.result in
    let cause : IsExempt m path c.in-Exempt.field-0 = subst (λ p. IsExempt m p c.in-Exempt.field-0) c.deref.ensures.value (subst (IfExempt (IsExempt m c.deref.result.now)) c.in-Exempt.is c.in_ok-leaf.ensures.exempt) in
    record {
      kept = λ least rows is. examined_kept m (ranges_in c.args.model.now) c.args.model.now.version least rows c.args.node.now.ranges.items path c.args.proposal new c.mark_examined-in-Exempt.ensures is;
      evident = examined_evident m c.args.model.now.root path c.args.proposal new c.mark_examined-in-Exempt.ensures (λ amount. inr (inl (c.in-Exempt.field-0, cause)));
      examined = marked_is_examined c.args.proposal new c.mark_examined-in-Exempt.ensures;
      more = examined_more c.args.proposal new c.mark_examined-in-Exempt.ensures;
    }

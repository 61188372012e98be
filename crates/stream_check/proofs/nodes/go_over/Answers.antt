use Rattle.std.proofs.Common.{◌∙◌, ◌∷◌, ◌+◌, ap, refl, sym}
use Rattle.cert_trees.specs.Paths.{at_least}
use Rattle.stream_check.specs.Nodes.{later}
use Rattle.stream_check.proofs.Stack.{choices_over, choices_popped, later_high, later_low, small_popped}
use Rattle.stream_check.proofs.nodes.go_over.Goals as goal

pub returns-then-bound-clause-trees_due : goal.returns-then-bound-clause-trees_due
returns-then-bound-clause-trees_due c =
    ap (λ path. path ∷ later path) c.in_ok-push.ensures.items ∙ sym (later_low c.pop.new.self.items c.in-Some.bound c.if-bound.true)
    ∙ ap later (sym c.in-Some.ensures.items) ∙ c.loop-bound.invariant.later_same

pub returns-then-bound-clause-choices : goal.returns-then-bound-clause-choices
returns-then-bound-clause-choices c = λ m choices.
    let bound = c.in-Some.bound in
    choices_over m c.loop-bound.path.items c.pop.new.self.items c.push.new.self.items bound (at_least bound.column (bound.number + 1)) c.in-Some.ensures.items c.in_ok-push.ensures.items refl (c.loop-bound.invariant.choices m choices)

pub loop-bound-preserved : goal.loop-bound-preserved
loop-bound-preserved c = record {
  later_same = sym (later_high c.pop.new.self.items c.in-Some.bound c.if-bound.false) ∙ ap later (sym c.in-Some.ensures.items) ∙ c.loop-bound.invariant.later_same;
  choices = λ m choices. choices_popped m c.loop-bound.path.items c.pop.new.self.items c.in-Some.bound c.in-Some.ensures.items (c.loop-bound.invariant.choices m choices);
  small = small_popped c.loop-bound.path.items c.pop.new.self.items c.in-Some.bound c.in-Some.ensures.items c.loop-bound.invariant.small;
}

use Rattle.std.proofs.Common.{Some}
use Rattle.std.proofs.lemmas.List.Elements.{All-pop}
use Rattle.own_plan.specs.Made.{IsMade}
use Rattle.heur_plugin.proofs.starting.best_candidate.Goals as goal

pub keep_within-requires-clause-found : goal.keep_within-requires-clause-found
keep_within-requires-clause-found c = (All-pop (IsMade c.args.scope.now.instance.now) c.loop-made.list.items c.pop.new.self.items (Some c.in-Some.made) c.in-Some.ensures.items c.loop-made.invariant.each).1

pub loop-made-preserved : goal.loop-made-preserved
loop-made-preserved c = record {
  made = c.keep_within.ensures.best.made;
  each = (All-pop (IsMade c.args.scope.now.instance.now) c.loop-made.list.items c.pop.new.self.items (Some c.in-Some.made) c.in-Some.ensures.items c.loop-made.invariant.each).0;
}

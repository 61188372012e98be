use Rattle.std.proofs.Common.{rules}
use Rattle.std.proofs.lemmas.List.Sorted.{IsNonDecreasingBy-from_sort_by_key, answers_always}
use Rattle.plan_rules.specs.Held.{plan_of}
use Rattle.lot_schedule.proofs.Gathered.{sorted}
use Rattle.lot_schedule.proofs.lots.lots.Goals as goal

pub returns-clause-lots : goal.returns-clause-lots
returns-clause-lots c =
    sorted c.args.instance.now (plan_of c.args.plan.now) c.args.resource c.args.period c.in_ok-lots.lots.items c.sort_by_key.new.self.items c.in_ok-lots.ensures.lots c.sort_by_key.ensures.permutation
    (IsNonDecreasingBy-from_sort_by_key (λ a. a.length) _ c.in_ok-sort_by_key.ensures.sorted (λ a r q k. search rules))
    (c.sort_by_key.ensures.stable (λ a. a.length) (answers_always _ _ _ (λ f a r g h. search rules)))

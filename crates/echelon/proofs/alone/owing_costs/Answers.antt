use Rattle.std.proofs.Common.{◌≡◌, ◌∙◌, ◌≤◌, ◌+◌, ◌-◌, ◌∷◌, [], ◌++◌, ℕ, List, Option, Some, None, IfSome, arith, take}
use Rattle.std.proofs.lemmas.List.{take_all}
use Rattle.lot_sizing.specs.Problem.{IsSeries, item_at, backlog_price}
use Rattle.echelon.proofs.Nets.{take_next}
use Rattle.echelon.proofs.alone.owing_costs.Goals as goal

some_next : (costs : Option (List ℕ)) (periods most : ℕ) (old new : List ℕ) (t x : ℕ) → IfSome costs (IsSeries periods most) → 1 ≤ t → t ≤ periods → IfSome costs (λ all. old ≡ take (t - 1) all) → x ≡ backlog_price costs t → new ≡ old ++ x ∷ [] → IfSome costs (λ all. new ≡ take (t + 1 - 1) all)
some_next None periods most old new t x series low high so_far is made = tt
some_next (Some all) periods most old new t x series low high so_far is made = made ∙ take_next all old t x low (omega (arith, high, series.size)) so_far is

some_last : (costs : Option (List ℕ)) (periods most : ℕ) (found : List ℕ) (t : ℕ) → IfSome costs (IsSeries periods most) → periods + 1 ≤ t → IfSome costs (λ all. found ≡ take (t - 1) all) → IfSome costs (λ all. found ≡ all)
some_last None periods most found t series high so_far = tt
some_last (Some all) periods most found t series high so_far = so_far ∙ take_all (t - 1) all (omega (arith, high, series.size))

pub loop-period-preserved : goal.loop-period-preserved
loop-period-preserved c =
    let series = (c.periods-period-end.ensures.instance.limits.each_item c.args.item c.requires.low c.requires.high).lists.backlog_cost in
    some_next (item_at c.args.instance.now c.args.item).backlog_cost c.args.instance.now.periods _ c.loop-period.list.items c.push.new.self.items c.loop-period.period c.unwrap_or.result series c.loop-period.auto.period (omega (arith, c.periods-period-end.ensures.value)) c.loop-period.invariant (c.unwrap_or.ensures ∙ c.backlog_cost.ensures.price) c.in_ok-push.ensures.items

pub returns : goal.returns
returns c =
    let series = (c.periods-period-end.ensures.instance.limits.each_item c.args.item c.requires.low c.requires.high).lists.backlog_cost in
    some_last (item_at c.args.instance.now c.args.item).backlog_cost c.args.instance.now.periods _ c.loop-period.list.items c.loop-period.period series (omega (arith, c.periods-period-end.ensures.value)) c.loop-period.invariant

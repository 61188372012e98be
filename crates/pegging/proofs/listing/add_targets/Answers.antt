use Rattle.std.proofs.Common.{◌-◌, ◌++◌, ◌∷◌, [], ◌∙◌, ℕ, map, ap, sym, append_assoc}
use Rattle.std.specs.List.{range_with_len}
use Rattle.pegging.specs.declared.pegs.Target.{Target}
use Rattle.pegging.specs.declared.pegs.Target.TheVariants.{Demand, Part}
use Rattle.pegging.proofs.Ranges.{range_more}
use Rattle.pegging.proofs.listing.add_targets.Goals as goal

pub loop-item-preserved : goal.loop-item-preserved
loop-item-preserved c =
    let t = c.args.period in
    let j = c.loop-item.item in
    let part : ℕ → Target = λ k. Part k t in
    let before = c.args.list.now.items in
    c.in_ok-push-2.ensures.items
    ∙ ap (λ v. v ++ part j ∷ []) c.loop-item.invariant
    ∙ append_assoc before (Demand t ∷ map part (range_with_len 1 (j - 1))) (part j ∷ [])
    ∙ ap (λ v. before ++ (Demand t ∷ v)) (sym (range_more part j c.loop-item.auto.item))

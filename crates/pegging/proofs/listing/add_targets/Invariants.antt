use Rattle.std.proofs.Common.{◌≡◌, ◌-◌, ◌∷◌, ◌++◌, map}
use Rattle.std.specs.List.{range_with_len}
use Rattle.pegging.specs.declared.pegs.Target.TheVariants.{Demand, Part}
use Rattle.pegging.proofs.listing.add_targets.Given as goal

-- the demand, and the parts of the items so far
abbrev pub invariant-loop-item : goal.invariant-loop-item
invariant-loop-item l = l.list.items ≡ l.fn.list.items ++ (Demand l.period ∷ map (λ j. Part j l.period) (range_with_len 1 (l.item - 1)))

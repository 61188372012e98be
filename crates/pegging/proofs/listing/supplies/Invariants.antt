use Rattle.std.proofs.Common.{◌≡◌, ◌-◌, ◌∷◌, map}
use Rattle.std.specs.List.{range_with_len}
use Rattle.pegging.specs.declared.pegs.Supply.TheVariants.{Opening, Lot}
use Rattle.pegging.proofs.listing.supplies.Given as goal

-- the opening stock, and the lots of the periods so far
abbrev pub invariant-loop-period : goal.invariant-loop-period
invariant-loop-period l = l.list.items ≡ Opening ∷ map (λ t. Lot t) (range_with_len 1 (l.period - 1))

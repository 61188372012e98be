use Rattle.std.proofs.Common.{◌+◌, ◌-◌, ◌++◌, length}
use Rattle.plan_rules.specs.Held.{plan_of}
use Rattle.pegging.specs.Pegs.{needed, pegs_of_item, supplied}
use Rattle.pegging.proofs.Walk.{IsWalked}
use Rattle.pegging.proofs.walking.add_pegs.Given as goal

-- with the pegs of what lies ahead, those of the item are added
abbrev pub invariant-loop-supply : goal.invariant-loop-supply
invariant-loop-supply l =
    let m = l.instance in
    let p = plan_of l.plan in
    IsWalked l.item (supplied m p l.item) (needed m p l.item) l.supplies l.targets (l.fn.pegs.items ++ pegs_of_item m p l.item) l.supply l.target l.used l.met l.pegs.items

abbrev pub decreases-loop-supply : goal.decreases-loop-supply
decreases-loop-supply l = (length l.supplies - l.supply) + (length l.targets - l.target)

use Rattle.std.proofs.Common.{◌≡◌, ◌≤◌, ◌-◌}
use Rattle.std.specs.Prelude.{if◌then◌else◌}
use Rattle.lot_sizing.specs.Sums.{sum_to}
use Rattle.bill.specs.Sets.{has, set_of}
use Rattle.bill.proofs.ranking.Reach.others.Given as goal

abbrev pub invariant-loop-one : goal.invariant-loop-one
invariant-loop-one l = record {
  count : l.count ≡ sum_to (l.one - 1) (λ i. if has (set_of l.self l.item) i then 0 else 1);
  small : l.count ≤ l.one - 1;
}

use Rattle.std.proofs.Common.{◌≡◌, ◌≤◌, ◌<◌, ◌+◌, ℕ, length, map}
use Rattle.bill.specs.Lines.{bill_of_lines}
use Rattle.bill.specs.Sets.{AreComponents, set_of}
use Rattle.bill.proofs.ranking.Reach.of.Given as goal

abbrev pub invariant-loop-item : goal.invariant-loop-item
invariant-loop-item l = record {
  size : length l.sets.items + 1 ≡ l.item;
  each : (j : ℕ) → 1 ≤ j → j < l.item → AreComponents (bill_of_lines l.lines) j (set_of (map (λ v. v.items) l.sets.items) j);
}

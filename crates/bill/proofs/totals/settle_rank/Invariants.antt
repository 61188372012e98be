use Rattle.std.proofs.Common.{◌≡◌, ◌≤◌, ◌<◌, ℕ, length}
use Rattle.lot_sizing.specs.Problem.{entry}
use Rattle.bill.specs.Steps.{AreSettled, HasTables, IsProgress, IsSettledIn}
use Rattle.bill.proofs.totals.settle_rank.Given as goal

abbrev pub invariant-loop-item : goal.invariant-loop-item
invariant-loop-item l = record {
  tables : HasTables (length l.lines) l.known;
  progress : IsProgress l.lines l.asked l.there l.known;
  before : AreSettled l.lines l.asked l.there l.known.done.items l.ranks l.rank;
  same : (j : ℕ) → 1 ≤ j → j < l.item → entry l.ranks j ≡ l.rank → IsSettledIn l.lines l.asked l.there l.known.done.items j;
}

use Rattle.std.proofs.Common.{length}
use Rattle.bill.specs.Steps.{AreSettled, HasTables, IsProgress}
use Rattle.bill.proofs.totals.Totals.of.Given as goal

abbrev pub invariant-loop-rank : goal.invariant-loop-rank
invariant-loop-rank l = record {
  tables : HasTables (length l.lines) l.known;
  progress : IsProgress l.lines l.asked l.there l.known;
  before : AreSettled l.lines l.asked l.there l.known.done.items l.ranks l.rank;
}

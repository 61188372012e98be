use Rattle.std.proofs.Common.{◌≡◌, length}
use Rattle.bill.proofs.ranking.no_ranks.Given as goal

abbrev pub invariant-loop : goal.invariant-loop
invariant-loop l = length l.room.items ≡ l.counter

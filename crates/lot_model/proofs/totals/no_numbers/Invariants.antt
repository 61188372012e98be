use Rattle.std.proofs.Common.{◌≡◌, length}
use Rattle.lot_model.proofs.totals.no_numbers.Given as goal

abbrev pub invariant-loop : goal.invariant-loop
invariant-loop l = length l.list.items ≡ l.counter

use Rattle.std.proofs.Common.{◌≡◌, length, map}
use Rattle.late_starts.proofs.Loading.{AreRowsTo}
use Rattle.late_starts.proofs.charging.Arriving.none_yet.Given as goal

abbrev pub invariant-loop : goal.invariant-loop
invariant-loop l = AreRowsTo l.counter (λ i xs. length xs ≡ l.instance.periods) (map (λ v. v.items) l.rows.items)

use Rattle.std.proofs.Common.{◌≡◌, ◌-◌}
use Rattle.late_starts.specs.Rows.{capped}
use Rattle.late_starts.specs.Pricing.{IsNextRowTo, late_lots_of, owing_from}
use Rattle.late_starts.proofs.pricing.next_row.Given as goal

abbrev pub invariant-loop-server : goal.invariant-loop-server
invariant-loop-server l = record {
  owing : l.owing ≡ capped (owing_from l.lots l.period (l.server - 1));
  next : IsNextRowTo (late_lots_of l.lots l.settled) l.period l.row l.least (l.server - 1) l.next.items;
}

use Rattle.std.proofs.Common.{◌≡◌, ◌+◌, ◌++◌, drop}
use Rattle.lot_schedule.specs.Lots.{laid, total_of}
use Rattle.lot_schedule.proofs.laying.lay.Given as goal

abbrev pub invariant-loop-lot : goal.invariant-loop-lot
invariant-loop-lot l = record {
  slots : l.slots.items ++ laid l.resource l.period l.start (drop l.lot-index l.lots) ≡ l.fn.slots.items ++ laid l.resource l.period 0 l.lots;
  total : l.start + total_of (drop l.lot-index l.lots) ≡ total_of l.lots;
}

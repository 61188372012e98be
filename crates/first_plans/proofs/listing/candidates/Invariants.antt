use Rattle.std.proofs.Common.{All}
use Rattle.first_plans.specs.Made.{HasOwn, IsMade}
use Rattle.first_plans.proofs.listing.candidates.Given as goal

abbrev pub invariant-loop-pattern : goal.invariant-loop-pattern
invariant-loop-pattern l = record {
  each : All (IsMade l.instance) l.list.items;
  own : HasOwn l.instance l.list.items;
}

use Rattle.std.specs.Prelude.{map, take}
use Rattle.std.specs.List.{All}
use Rattle.must_start.specs.Rows.{start_in}
use Rattle.reduced_groups.specs.Prices.{price_in}
use Rattle.reduced_groups.specs.Floors.{IsWithinWork, shape_of}
use Rattle.reduced_leaf.specs.Found.{IsSumOfFloors}
use Rattle.reduced_leaf.proofs.floors.floors_of.Given as goal

abbrev pub invariant-loop-place : goal.invariant-loop-place
invariant-loop-place l = record {
  floor : IsSumOfFloors l.instance (price_in l.prices) (map shape_of (take l.place l.groups)) l.floor;
  within : All (IsWithinWork l.instance (start_in l.started) (start_in l.on_time) (price_in l.prices)) (map shape_of (take l.place l.groups));
}

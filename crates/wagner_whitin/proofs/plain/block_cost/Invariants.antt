use Rattle.std.proofs.Common.{◌≡◌, ◌≤◌, ◌+◌, ◌-◌, ◌*◌, ◌^◌}
use Rattle.lot_sizing.specs.Sums.{sum_from}
use Rattle.lot_sizing.specs.Problem.{entry}
use Rattle.lot_sizing.specs.Single.{serving_cost}
use Rattle.echelon.specs.Views.{single_of_item}
use Rattle.wagner_whitin.proofs.plain.block_cost.Given as goal

abbrev pub invariant-loop-place : goal.invariant-loop-place
invariant-loop-place l =
    let s = single_of_item l.single in
    record {
      sum : l.cost ≡ entry s.setup l.block.server + sum_from l.block.first (l.place - l.block.first) (serving_cost s l.block.server);
      small : l.cost ≤ 10 ^ 9 + (l.place - l.block.first) * (121 * 10 ^ 21);
    }

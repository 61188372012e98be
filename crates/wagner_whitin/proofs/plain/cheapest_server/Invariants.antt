use Rattle.std.proofs.Common.{◌≡◌, ◌≤◌, ◌<◌, ◌+◌, ◌-◌, ◌*◌, ℕ}
use Rattle.lot_sizing.specs.Single.{IsBlock, block_cost}
use Rattle.echelon.specs.Views.{single_of_item}
use Rattle.wagner_whitin.specs.Tables.{most_for_one}
use Rattle.wagner_whitin.proofs.plain.cheapest_server.Given as goal

abbrev pub invariant-loop-server : goal.invariant-loop-server
invariant-loop-server l =
    let s = single_of_item l.single in
    record {
      block : IsBlock s l.best.block;
      begins : l.best.block.first ≡ l.first;
      ends : l.best.block.last ≡ l.last;
      cost : l.best.cost ≡ l.before + block_cost s l.best.block;
      least : (u : ℕ) → 1 ≤ u → u < l.server → l.best.cost ≤ l.before + block_cost s (record { first = l.first; last = l.last; server = u });
      small : l.best.cost ≤ l.before + (l.last + 1 - l.first) * most_for_one;
    }

use Rattle.std.proofs.Common.{◌≡◌, ◌≤◌, ◌<◌, ◌+◌, ◌-◌, ◌*◌, ◌⊎◌}
use Rattle.lot_sizing.specs.declared.Block.{Block}
use Rattle.lot_sizing.specs.Single.{IsBlock, block_cost, potential}
use Rattle.echelon.specs.Views.{single_of_item}
use Rattle.wagner_whitin.specs.Tables.{most_for_one}
use Rattle.wagner_whitin.proofs.plain.cheapest_last.Given as goal

abbrev pub invariant-loop-first : goal.invariant-loop-first
invariant-loop-first l =
    let s = single_of_item l.single in
    record {
      block : IsBlock s l.best.block;
      ends : l.best.block.last ≡ l.last;
      cost : l.best.cost ≡ potential l.potentials (l.best.block.first - 1) + block_cost s l.best.block;
      least : (b : Block) → IsBlock s b → b.last ≡ l.last → ((b.first < l.first) ⊎ (b.first ≡ l.last)) → l.best.cost ≤ potential l.potentials (b.first - 1) + block_cost s b;
      small : l.best.cost ≤ l.last * most_for_one;
    }

use Rattle.std.proofs.Common.{◌≡◌, ◌+◌, map, arith}
use Rattle.lot_sizing.specs.Problem.{entry, item_count}
use Rattle.must_start.specs.Rows.{start_in}
use Rattle.late_starts.specs.Rows.{cell_in}
use Rattle.late_starts.proofs.Loading.{loaded_end}
use Rattle.late_starts.proofs.charging.Arriving.of.Goals as goal

pub returns : goal.returns
returns c =
    let all : c.loop-depth.depth ≡ item_count c.args.instance.now + 1 = omega (arith, c.loop-depth-test.false, c.loop-depth.auto.depth-end, c.items-depth-end.ensures.value) in
    loaded_end c.args.instance.now (start_in c.args.on_time.now) (cell_in (map (λ v. v.items) c.args.shares.now)) (entry c.ranks-ranks.result.now) c.loop-depth.depth c.loop-depth.arriving all c.ranks-ranks.ensures.ranks c.loop-depth.invariant

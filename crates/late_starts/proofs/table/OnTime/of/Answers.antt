use Rattle.std.proofs.Common.{◌≡◌, ◌+◌, arith}
use Rattle.lot_sizing.specs.Problem.{entry, item_count}
use Rattle.must_start.specs.Rows.{start_in}
use Rattle.late_starts.proofs.Filling.{filled_end}
use Rattle.late_starts.proofs.table.OnTime.of.Goals as goal

pub returns-clause-starts : goal.returns-clause-starts
returns-clause-starts c =
    let all : c.loop-rank.rank ≡ item_count c.args.instance.now + 1 = omega (arith, c.loop-rank-test.false, c.loop-rank.auto.rank-end, c.items-rank-end.ensures.value) in
    filled_end c.args.instance.now (entry c.ranks-ranks.result.now) c.loop-rank.rank c.loop-rank.table all c.items-rank-end.ensures.instance c.ranks-ranks.ensures.small c.loop-rank.invariant

pub returns-clause-holds : goal.returns-clause-holds
returns-clause-holds c =
    let all : c.loop-rank.rank ≡ item_count c.args.instance.now + 1 = omega (arith, c.loop-rank-test.false, c.loop-rank.auto.rank-end, c.items-rank-end.ensures.value) in
    let made = filled_end c.args.instance.now (entry c.ranks-ranks.result.now) c.loop-rank.rank c.loop-rank.table all c.items-rank-end.ensures.instance c.ranks-ranks.ensures.small c.loop-rank.invariant in
    λ p f short are. c.late_starts_hold.ensures.holds c.args.instance.now (entry c.ranks-ranks.result.now) (start_in c.loop-rank.table) short c.ranks-ranks.ensures.ranks made.starts p f are

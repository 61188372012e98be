use Rattle.std.proofs.Common.{arith}
use Rattle.bill.proofs.totals.settle_of_rank.Goals as goal

pub settle-requires-clause-users : goal.settle-requires-clause-users
settle-requires-clause-users c = λ k low high some.
    c.requires.before k low high (omega (arith, c.requires.ranks c.args.item k c.requires.low c.requires.high low high some, c.if-ranks-item.true))

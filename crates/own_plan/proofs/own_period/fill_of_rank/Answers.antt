use Rattle.lot_sizing.specs.Problem.{entry}
use Rattle.own_plan.proofs.Rows.{next_small, none_in_itself, rows_more, rows_skip}
use Rattle.own_plan.proofs.own_period.fill_of_rank.Goals as goal

pub fill_row-requires-clause-small : goal.fill_row-requires-clause-small
fill_row-requires-clause-small c = next_small c.args.instance.now (entry c.args.ranks.now) c.args.rank c.args.item c.args.make.now c.args.setup.now c.requires.within c.requires.ranks c.requires.before c.if-ranks-item.true c.requires.low c.requires.high

pub fill_row-requires-clause-apart : goal.fill_row-requires-clause-apart
fill_row-requires-clause-apart c = none_in_itself c.args.instance.now (entry c.args.ranks.now) c.args.item c.requires.ranks c.requires.low c.requires.high

pub returns-then-ranks-item : goal.returns-then-ranks-item
returns-then-ranks-item c = rows_more c.args.instance.now (entry c.args.ranks.now) c.args.rank c.args.item c.args.make.now c.args.setup.now c.fill_row.new.make c.fill_row.new.setup c.requires.ranks c.requires.before c.fill_row.ensures c.if-ranks-item.true c.requires.low c.requires.high

pub returns-else-ranks-item : goal.returns-else-ranks-item
returns-else-ranks-item c = rows_skip c.args.instance.now (entry c.args.ranks.now) c.args.rank c.args.item c.args.make.now c.args.setup.now c.requires.before c.if-ranks-item.false

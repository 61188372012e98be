use Rattle.std.proofs.lemmas.Result.{MatchResult-weaker}
use Rattle.must_start.specs.Rows.{start_in}
use Rattle.reduced_groups.proofs.Limits.{past_limits}
use Rattle.reduced_groups.proofs.floors.group_floor.Goals as goal

pub returns-clause-past : goal.returns-clause-past
returns-clause-past c =
    MatchResult-weaker c.floor_in.result c.floor_in.ensures.fault (λ floor h. h)
    (λ e is. past_limits c.args.instance.now (start_in c.args.started.now) (start_in c.args.on_time.now) c.args.prices.now c.args.group.now e is)

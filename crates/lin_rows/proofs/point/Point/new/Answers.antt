use Rattle.std.proofs.Common.{refl}
use Rattle.lin_rows.proofs.Pointing.{is_point}
use Rattle.lin_rows.proofs.point.Point.new.Goals as goal

pub returns-clause-point : goal.returns-clause-point
returns-clause-point c =
    is_point c.args.instance.now _ (record { items = c.items-items.ensures.value; periods = c.periods-periods.ensures.value; owing = c.owing_counts.ensures.counts }) c.args.values.items refl

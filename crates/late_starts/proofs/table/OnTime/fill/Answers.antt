use Rattle.std.proofs.Common.{◌+◌, sym, subst}
use Rattle.lot_sizing.specs.Problem.{entry}
use Rattle.late_starts.specs.Steps.{IsFilledTo}
use Rattle.late_starts.proofs.Filling.{filled_more}
use Rattle.late_starts.proofs.table.OnTime.fill.Goals as goal

pub returns : goal.returns
returns c =
    let rank = entry c.args.ranks.now in
    let j = c.args.item in
    subst (IsFilledTo c.args.instance.now rank (rank j) (j + 1)) (sym c.put.ensures)
    (filled_more c.args.instance.now rank j c.args.self.now c.in_ok-row.row.items c.an_instance_breaks_no_rule.ensures c.requires.ranks c.requires.low c.requires.high c.requires.before c.in_ok-row.ensures)

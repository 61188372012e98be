use Rattle.lp_root.proofs.RootCuts.{root_cut, set_has_row}
use Rattle.lp_root.proofs.separation.row_of_set.Goals as goal

pub unreachable-requires : goal.unreachable-requires
unreachable-requires c =
    let e = c.args.echelon.now in
    c.in-Err-NoSuchRow.ensures.none c.in-Err-NoSuchRow.field-0-is (set_has_row c.args.instance.now e.item e c.requires.echelon c.args.l c.args.chosen.now c.requires.low c.requires.high c.requires.size)

pub returns-in-Ok : goal.returns-in-Ok
returns-in-Ok c =
    let e = c.args.echelon.now in
    let is = c.in-Ok.ensures in
    root_cut c.args.instance.now e.item e c.requires.echelon c.echelon_rows_are_one.ensures c.rows_are_small.ensures.ls c.args.l c.args.chosen.now c.in-Ok.row c.requires.low c.requires.high c.requires.size is.row is.holds is.columns

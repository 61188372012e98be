use Rattle.plan_rules.specs.Cells.{table_of}
use Rattle.lotplan.proofs.Completed.{says_broken, says_put}
use Rattle.std.proofs.Common.{[], ◌∷◌, refl}
use Rattle.lotplan.proofs.Readings.{same_reads}
use Rattle.lotplan.proofs.Appended.{put_appends, reads_append}
use Rattle.lotplan.proofs.commands.complete.complete_grids.Goals as goal

pub returns-in-Ok-Ok-clause-said : goal.returns-in-Ok-Ok-clause-said
returns-in-Ok-Ok-clause-said g c =
    let planned = c.in-Ok-Ok.planned in
    let chosen = rw (c.in-Ok-Ok.field-0-is) at c.in-Ok-Ok.ensures.choice in
    let feasible = rw (c.in-Ok-Ok.field-0-is) at c.in-Ok-Ok.ensures.feasible in
    let least = rw (c.in-Ok-Ok.field-0-is) at c.in-Ok-Ok.ensures.least in
    let costs = rw (c.in-Ok-Ok.field-0-is) at c.in-Ok-Ok.ensures.cost in
    says_put c.args.instance.now c.args.table.make c.args.table.setup planned.plan planned.cost c.args.file.now (g.S.Shelf.shown c.args.shelf.now) (g.S.Shelf.shown c.write_completed.new.shelf) c.write_completed.result (record { chosen = chosen; feasible = feasible; least = least; costs = costs }) c.write_completed.ensures.said

pub returns-in-Ok-Err-clause-said : goal.returns-in-Ok-Err-clause-said
returns-in-Ok-Err-clause-said g c =
    let none = rw (c.in-Ok-Err.field-0-is) at c.in-Ok-Err.ensures.none in
    let breaks = rw (c.in-Ok-Err.field-0-is) at c.in-Ok-Err.ensures.broken in
    says_broken c.args.instance.now (table_of c.args.table.make) (table_of c.args.table.setup) c.in-Ok-Err.rule c.args.file.now (g.S.Shelf.shown c.args.shelf.now) c.answer_line.result none breaks c.answer_line.ensures

pub returns-in-Ok-Ok-clause-appended : goal.returns-in-Ok-Ok-clause-appended
returns-in-Ok-Ok-clause-appended g c =
    let planned = c.in-Ok-Ok.planned in
    put_appends c.args.instance.now planned.plan planned.cost c.args.file.now (g.S.Shelf.shown c.args.shelf.now) (g.S.Shelf.shown c.write_completed.new.shelf) c.write_completed.result c.write_completed.ensures.said

pub returns-in-Ok-Err-clause-appended : goal.returns-in-Ok-Err-clause-appended
returns-in-Ok-Err-clause-appended g c = reads_append (c.args.file.now ∷ []) (g.S.Shelf.shown c.args.shelf.now) (g.S.Shelf.shown c.args.shelf.now) c.answer_line.result (same_reads (g.S.Shelf.shown c.args.shelf.now) (g.S.Shelf.shown c.args.shelf.now) refl)

use Rattle.lotplan.specs.Completing.{table_meant, table_line, table_status}
use Rattle.lotplan.proofs.Completed.{says_grids, says_no_table}
use Rattle.lotplan.proofs.Writings.{memory_after}
use Rattle.lot_io.proofs.Frames.{finds_on}
use Rattle.plan_rules.specs.Cells.{table_of}
use Rattle.lotplan.proofs.Fetched.{fetches_said, grids_fetch}
use Rattle.std.proofs.Common.{[], ◌∷◌}
use Rattle.lotplan.proofs.Appended.{appends_after, reads_append}
use Rattle.lotplan.proofs.commands.complete.complete_files.Goals as goal

pub returns-in-Ok-clause-said : goal.returns-in-Ok-clause-said
returns-in-Ok-clause-said g c =
    let read = c.in-Ok.read in
    says_grids c.args.model.now c.args.table.now c.args.file.now read.instance read.table (g.S.Shelf.shown c.args.shelf.now) (g.S.Shelf.shown c.read_tables.new.shelf) (g.S.Shelf.shown c.complete_grids.new.shelf) c.complete_grids.result c.in-Ok.ensures.holds c.read_tables.ensures.reads c.complete_grids.ensures.said

pub returns-in-Ok-clause-memory : goal.returns-in-Ok-clause-memory
returns-in-Ok-clause-memory g c = memory_after (g.S.Shelf.shown c.args.shelf.now) (g.S.Shelf.shown c.read_tables.new.shelf) (g.S.Shelf.shown c.complete_grids.new.shelf) c.complete_grids.result c.read_tables.ensures.reads c.complete_grids.ensures.memory

pub returns-in-Err-Answered-clause-said : goal.returns-in-Err-Answered-clause-said
returns-in-Err-Answered-clause-said g c =
    let stop = rw (c.in-Err-Answered.field-0-is) at c.in-Err-Answered.ensures.stop in
    says_no_table c.args.model.now c.args.table.now c.args.file.now (g.S.Shelf.shown c.args.shelf.now) (g.S.Shelf.shown c.read_tables.new.shelf) (table_meant c.in-Err-Answered.answer) c.answer_line.result stop c.read_tables.ensures.reads c.answer_line.ensures

pub returns-in-Ok-clause-found : goal.returns-in-Ok-clause-found
returns-in-Ok-clause-found g c =
    let read = c.in-Ok.read in
    grids_fetch (g.S.Shelf.shown c.args.shelf.now) (g.S.Shelf.shown c.complete_grids.new.shelf) (g.S.Shelf.shown c.read_tables.new.shelf) (g.S.Shelf.shown c.complete_grids.new.shelf) read.instance (table_of read.table.make) (table_of read.table.setup) c.args.file.now c.complete_grids.result c.complete_grids.ensures.said (finds_on c.in-Ok.ensures.found c.complete_grids.ensures.found)

pub returns-in-Err-Answered-clause-found : goal.returns-in-Err-Answered-clause-found
returns-in-Err-Answered-clause-found g c =
    let answer = table_meant c.in-Err-Answered.answer in
    fetches_said (g.S.Shelf.shown c.args.shelf.now) (g.S.Shelf.shown c.read_tables.new.shelf) (table_line answer) (table_status answer) c.answer_line.result c.answer_line.ensures (rw (c.in-Err-Answered.field-0-is) at c.in-Err-Answered.ensures.stopped)

pub returns-in-Ok-clause-appended : goal.returns-in-Ok-clause-appended
returns-in-Ok-clause-appended g c = appends_after (c.args.file.now ∷ []) (g.S.Shelf.shown c.args.shelf.now) (g.S.Shelf.shown c.read_tables.new.shelf) (g.S.Shelf.shown c.complete_grids.new.shelf) c.complete_grids.result c.read_tables.ensures.reads c.complete_grids.ensures.appended

pub returns-in-Err-Answered-clause-appended : goal.returns-in-Err-Answered-clause-appended
returns-in-Err-Answered-clause-appended g c = reads_append (c.args.file.now ∷ []) (g.S.Shelf.shown c.args.shelf.now) (g.S.Shelf.shown c.read_tables.new.shelf) c.answer_line.result c.read_tables.ensures.reads

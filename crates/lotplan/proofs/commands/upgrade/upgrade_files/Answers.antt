use Rattle.lotplan.specs.Reading.{read_meant, read_line, read_status}
use Rattle.lotplan.proofs.Writings.{memory_after}
use Rattle.lotplan.proofs.Upgraded.{says_stop, says_upgraded}
use Rattle.lot_io.proofs.Frames.{finds_on}
use Rattle.lotplan.proofs.Fetched.{fetches_said, rewritten_fetch}
use Rattle.std.proofs.Common.{[], ◌∷◌}
use Rattle.lotplan.proofs.Appended.{appends_after, reads_append}
use Rattle.lotplan.proofs.commands.upgrade.upgrade_files.Goals as goal

pub returns-in-Ok-clause-said : goal.returns-in-Ok-clause-said
returns-in-Ok-clause-said g c = says_upgraded c.args.model.now c.args.upgraded.now c.in-Ok.instance (g.S.Shelf.shown c.args.shelf.now) (g.S.Shelf.shown c.read_first_model.new.shelf) (g.S.Shelf.shown c.write_upgraded.new.shelf) c.write_upgraded.result c.in-Ok.ensures.ok c.read_first_model.ensures.reads c.write_upgraded.ensures.said

pub returns-in-Ok-clause-memory : goal.returns-in-Ok-clause-memory
returns-in-Ok-clause-memory g c = memory_after (g.S.Shelf.shown c.args.shelf.now) (g.S.Shelf.shown c.read_first_model.new.shelf) (g.S.Shelf.shown c.write_upgraded.new.shelf) c.write_upgraded.result c.read_first_model.ensures.reads c.write_upgraded.ensures.memory

pub returns-in-Err-Answered-clause-said : goal.returns-in-Err-Answered-clause-said
returns-in-Err-Answered-clause-said g c = says_stop c.args.model.now c.args.upgraded.now (g.S.Shelf.shown c.args.shelf.now) (g.S.Shelf.shown c.read_first_model.new.shelf) (read_meant c.in-Err-Answered.why) c.answer_line.result (rw (c.in-Err-Answered.field-0-is) at c.in-Err-Answered.ensures.stop) c.read_first_model.ensures.reads c.answer_line.ensures

pub returns-in-Ok-clause-found : goal.returns-in-Ok-clause-found
returns-in-Ok-clause-found g c = rewritten_fetch (g.S.Shelf.shown c.args.shelf.now) (g.S.Shelf.shown c.write_upgraded.new.shelf) (g.S.Shelf.shown c.read_first_model.new.shelf) (g.S.Shelf.shown c.write_upgraded.new.shelf) c.in-Ok.instance c.args.upgraded.now c.write_upgraded.result c.write_upgraded.ensures.said (finds_on c.in-Ok.ensures.found c.write_upgraded.ensures.found)

pub returns-in-Err-Answered-clause-found : goal.returns-in-Err-Answered-clause-found
returns-in-Err-Answered-clause-found g c =
    let why = read_meant c.in-Err-Answered.why in
    fetches_said (g.S.Shelf.shown c.args.shelf.now) (g.S.Shelf.shown c.read_first_model.new.shelf) (read_line why) (read_status why) c.answer_line.result c.answer_line.ensures (rw (c.in-Err-Answered.field-0-is) at c.in-Err-Answered.ensures.stopped)

pub returns-in-Ok-clause-appended : goal.returns-in-Ok-clause-appended
returns-in-Ok-clause-appended g c = appends_after (c.args.upgraded.now ∷ []) (g.S.Shelf.shown c.args.shelf.now) (g.S.Shelf.shown c.read_first_model.new.shelf) (g.S.Shelf.shown c.write_upgraded.new.shelf) c.write_upgraded.result c.read_first_model.ensures.reads c.write_upgraded.ensures.appended

pub returns-in-Err-Answered-clause-appended : goal.returns-in-Err-Answered-clause-appended
returns-in-Err-Answered-clause-appended g c = reads_append (c.args.upgraded.now ∷ []) (g.S.Shelf.shown c.args.shelf.now) (g.S.Shelf.shown c.read_first_model.new.shelf) c.answer_line.result c.read_first_model.ensures.reads

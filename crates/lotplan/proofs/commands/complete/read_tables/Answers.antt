use Rattle.lotplan.proofs.Completed.{no_table_after}
use Rattle.lotplan.proofs.Fetched.{no_table_on}
use Rattle.lotplan.proofs.commands.complete.read_tables.Goals as goal

pub returns-clause-stop : goal.returns-clause-stop
returns-clause-stop g c = no_table_after c.args.model.now c.args.table.now c.in-Ok.instance (g.S.Shelf.shown c.args.shelf.now) (g.S.Shelf.shown c.read_model.new.shelf) (g.S.Shelf.shown c.read_table.new.shelf) c.in-Err.stop c.in-Ok.ensures.ok c.read_model.ensures.reads c.in-Err.ensures.stop

pub returns-clause-stopped : goal.returns-clause-stopped
returns-clause-stopped g c = no_table_on (g.S.Shelf.shown c.args.shelf.now) (g.S.Shelf.shown c.read_model.new.shelf) (g.S.Shelf.shown c.read_table.new.shelf) c.in-Ok.ensures.found c.in-Err.stop c.in-Err.ensures.stopped

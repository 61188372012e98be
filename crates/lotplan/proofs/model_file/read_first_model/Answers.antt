use Rattle.lotplan.proofs.Readings.{stop_of_first}
use Rattle.lotplan.proofs.model_file.read_first_model.Goals as goal

pub returns-in-Err-clause-stop : goal.returns-in-Err-clause-stop
returns-in-Err-clause-stop g c = stop_of_first c.args.model.now (g.S.Shelf.shown c.args.shelf.now) (g.S.Shelf.shown c.read_bytes.new.shelf) c.in-Err.stop c.in-Err.ensures.stop

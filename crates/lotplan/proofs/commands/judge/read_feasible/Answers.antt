use Rattle.lotplan.proofs.Judged.{none_after}
use Rattle.lotplan.proofs.Fetched.{not_feasible_on}
use Rattle.lotplan.proofs.commands.judge.read_feasible.Goals as goal

pub returns-clause-stop : goal.returns-clause-stop
returns-clause-stop g c = none_after c.args.model.now c.args.plan.now c.in-Ok.instance (g.S.Shelf.shown c.args.shelf.now) (g.S.Shelf.shown c.read_model.new.shelf) (g.S.Shelf.shown c.read_judged.new.shelf) c.in-Err.stop c.in-Ok.ensures.ok c.read_model.ensures.reads c.in-Err.ensures.stop

pub returns-clause-stopped : goal.returns-clause-stopped
returns-clause-stopped g c = not_feasible_on (g.S.Shelf.shown c.args.shelf.now) (g.S.Shelf.shown c.read_model.new.shelf) (g.S.Shelf.shown c.read_judged.new.shelf) c.in-Ok.ensures.found c.in-Err.stop c.in-Err.ensures.stopped

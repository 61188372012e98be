use Rattle.std.specs.Prelude.{option_map}
use Rattle.lotplan.proofs.Paged.{none_after}
use Rattle.lotplan.proofs.Fetched.{not_drawn_on}
use Rattle.lotplan.proofs.commands.draw.read_drawing.Goals as goal

pub returns-clause-stop : goal.returns-clause-stop
returns-clause-stop g c =
    let read = c.in-Ok.read in
    none_after c.args.model.now c.args.plan.now (option_map (λ n. n.now) c.args.certificate) read.instance read.plan (g.S.Shelf.shown c.args.shelf.now) (g.S.Shelf.shown c.read_feasible.new.shelf) (g.S.Shelf.shown c.read_proved.new.shelf) c.in-Ok.ensures.holds c.in-Ok.ensures.feasible.feasible c.read_feasible.ensures.reads c.in-Err.stop c.in-Err.ensures.stop

pub returns-clause-stopped : goal.returns-clause-stopped
returns-clause-stopped g c = not_drawn_on (g.S.Shelf.shown c.args.shelf.now) (g.S.Shelf.shown c.read_feasible.new.shelf) (g.S.Shelf.shown c.read_proved.new.shelf) c.in-Ok.ensures.found c.in-Err.stop c.in-Err.ensures.stopped

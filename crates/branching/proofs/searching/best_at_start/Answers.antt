use Rattle.incumbent.proofs.Best.{first_on}
use Rattle.branching.proofs.searching.best_at_start.Goals as goal

pub returns : goal.returns
returns ghosts c = first_on c.args.instance.now c.args.ranges.now c.args.first c.in_ok-best.best c.at_start.new.best c.in_ok-at_start.ensures c.in_ok-best.ensures

use Rattle.wagner_whitin.proofs.hull.+insert.Given as goal

abbrev pub decreases-insert : goal.decreases-insert
decreases-insert g l = l.stretch.level

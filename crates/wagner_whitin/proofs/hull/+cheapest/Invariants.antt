use Rattle.wagner_whitin.proofs.hull.+cheapest.Given as goal

abbrev pub decreases-cheapest : goal.decreases-cheapest
decreases-cheapest g l = l.stretch.level

use Rattle.std.specs.Prelude.{IfSome}
use Rattle.heur_setup_lps.specs.Within.{IsCheaper}
use Rattle.heur_setup_lps.proofs.walking.walked_on.Given as goal

abbrev pub invariant-loop-try : goal.invariant-loop-try
invariant-loop-try l = IfSome l.best (IsCheaper l.instance l.fn.planned.cost)

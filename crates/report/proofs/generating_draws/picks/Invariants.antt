use Rattle.std.proofs.Common.{◌≡◌}
use Rattle.report.specs.Draws.{picks}
use Rattle.report.proofs.generating_draws.picks.Given as goal

abbrev pub invariant-loop-done : goal.invariant-loop-done
invariant-loop-done l = (l.list.items, l.rng) ≡ picks l.low l.high l._done l.fn.rng

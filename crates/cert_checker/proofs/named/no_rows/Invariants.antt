use Rattle.std.specs.List.{All}
use Rattle.lot_sizing.specs.Problem.{Problem}
use Rattle.cert_checker.specs.Named.{IsMade}
use Rattle.cert_checker.proofs.named.no_rows.Given as goal

abbrev pub invariant-loop : goal.invariant-loop
invariant-loop l = (m : Problem) → All (IsMade m) l.made.items

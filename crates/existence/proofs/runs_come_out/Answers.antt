use Rattle.std.proofs.Common.{◌^◌}
use Rattle.least_index.specs.Basis.{variable_count}
use Rattle.existence.proofs.Runs.{runs_out}
use Rattle.existence.proofs.runs_come_out.Goals as goal

pub returns : goal.returns
returns c = runs_out (λ p. 2 ^ variable_count p) c.runs_are_short.ensures

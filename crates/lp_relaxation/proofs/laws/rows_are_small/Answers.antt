use Rattle.lp_relaxation.proofs.Smallness.{base_small, ls_small}
use Rattle.lp_relaxation.proofs.laws.rows_are_small.Goals as goal

pub returns : goal.returns
returns c = record { base = base_small; ls = ls_small }

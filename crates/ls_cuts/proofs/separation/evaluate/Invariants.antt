use Rattle.std.proofs.Common.{◌≡◌, ◌≤◌, ◌-◌, length}
use Rattle.echelon.specs.declared.net.TheConstants.{MAX_ASKED}
use Rattle.echelon.specs.Views.{asked_of_echelon, marked}
use Rattle.lin_rows.specs.Points.{read_at}
use Rattle.valid_inequalities.specs.Inequalities.{demand_between}
use Rattle.echelon_rows.specs.Rows.{echelon_in}
use Rattle.ls_cuts.specs.Steps.{IsEvaluatedTo}
use Rattle.ls_cuts.proofs.separation.evaluate.Given as goal

abbrev pub invariant-loop-period : goal.invariant-loop-period
invariant-loop-period l = record {
  rest : l.rest ≡ demand_between (asked_of_echelon l.echelon) l.period l.l;
  small : l.rest ≤ MAX_ASKED;
  size : length l.chosen.items ≡ l.period - 1;
  evaluated : IsEvaluatedTo (echelon_in l.echelon) (read_at l.point) l.l (marked l.chosen.items) (l.period - 1) l.left;
}

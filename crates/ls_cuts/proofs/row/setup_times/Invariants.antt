use Rattle.std.proofs.Common.{◌≡◌, ◌-◌, length}
use Rattle.echelon.specs.Views.{HasEach, asked_of_echelon, marked}
use Rattle.valid_inequalities.specs.Inequalities.{demand_between}
use Rattle.ls_cuts.specs.Rows.{setup_times}
use Rattle.ls_cuts.proofs.row.setup_times.Given as goal

abbrev pub invariant-loop-period : goal.invariant-loop-period
invariant-loop-period l =
    let a = asked_of_echelon l.echelon in
    record {
      rest : l.rest ≡ demand_between a l.period (length l.chosen);
      each : HasEach (l.period - 1) (setup_times a (length l.chosen) (marked l.chosen)) l.list.items;
    }

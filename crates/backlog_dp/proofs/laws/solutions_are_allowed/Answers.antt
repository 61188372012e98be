use Rattle.std.proofs.Common.{sym, subst, arith}
use Rattle.lot_sizing.specs.Problem.{AllAtMost}
use Rattle.lot_sizing.specs.Single.{ArePotentials}
use Rattle.echelon_rows.specs.declared.limits.TheConstants.{MAX_STEP}
use Rattle.backlog_dp.specs.BlockRow.{priced_by}
use Rattle.backlog_dp.proofs.laws.solutions_are_allowed.Goals as goal

pub returns : goal.returns
returns c = λ e p found prices small is same.
    let rise = subst (ArePotentials (priced_by e p)) (sym same) is.potentials in
    let low : AllAtMost MAX_STEP found.potentials.items = λ k d less. omega (arith, is.bounded k d less) in
    record {
      lengths = record { prices = prices; steps = rise.size };
      small = record { prices = small; steps = subst (AllAtMost MAX_STEP) (sym same) low };
      blocks = rise;
    }

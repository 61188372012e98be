-- What a plan has of an item over all periods, as the code holds it.
use Rattle.std.specs.Prelude.{◌≡◌, ℕ}
use Rattle.lot_sizing.specs.Problem.{Problem}
use Rattle.lot_sizing.specs.Plan.{Plan}
use Rattle.report.specs.Summary.{backlog_part, hold_part, made_total, setup_count, setup_part, unit_part}
use Rattle.report.specs.declared.summing.ItemTotals.{ItemTotals}

pub record AreTotals (m : Problem) (p : Plan) (i : ℕ) (x : ItemTotals) : Type 0 where
  pub backlog : x.backlog ≡ backlog_part m p i
  pub hold : x.hold ≡ hold_part m p i
  pub made : x.made ≡ made_total m p i
  pub setup : x.setup ≡ setup_part m p i
  pub setups : x.setups ≡ setup_count m p i
  pub unit : x.unit ≡ unit_part m p i

use Rattle.plan_page.proofs.Heights.{scaled_full, scaled_order, scaled_shown, scaled_within}
use Rattle.plan_page.proofs.laws.heights_fit.Goals as goal

pub returns : goal.returns
returns c = record { within = scaled_within; shown = scaled_shown; order = scaled_order; full = scaled_full }

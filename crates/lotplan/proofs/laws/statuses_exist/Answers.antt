use Rattle.lotplan.proofs.Statuses.{call_some}
use Rattle.lotplan.proofs.laws.statuses_exist.Goals as goal

pub returns : goal.returns
returns c =
    call_some (record { totals = c.totals_exist.ensures.totals; weights = c.totals_exist.ensures.weights; bytes = c.bytes_mean_something.ensures; records = c.records_mean_something.ensures; judged = c.plans_are_judged.ensures.plans; decided = c.plans_are_decided.ensures; bounds = c.bounds_come_out.ensures; texts = c.texts_come_out.ensures; certificates = c.certificates_come_out.ensures; held = c.plans_are_held.ensures; schedules = c.schedules_are_decided.ensures; models = c.a_model_means_something.ensures })

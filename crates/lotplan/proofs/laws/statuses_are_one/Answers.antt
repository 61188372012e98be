use Rattle.lotplan.proofs.Statuses.{call_one}
use Rattle.lotplan.proofs.laws.statuses_are_one.Goals as goal

pub returns : goal.returns
returns c =
    call_one (record { totals = c.totals_exist.ensures.totals; weights = c.totals_exist.ensures.weights; texts = c.texts_mean_one_thing.ensures; checks = c.certified_is_not_refused.ensures; bounds = c.base_bounds_are_one.ensures.bound; cells = c.base_bounds_are_one.ensures.cells; schedules = c.same_plans_same_schedules.ensures; rests = c.rests_decide.ensures.one; models = c.a_model_means_one_thing.ensures })

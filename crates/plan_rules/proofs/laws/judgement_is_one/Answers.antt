use Rattle.plan_rules.proofs.Judgements.{judgement_is_one}
use Rattle.plan_rules.proofs.laws.judgement_is_one.Goals as goal

pub returns : goal.returns
returns c = judgement_is_one

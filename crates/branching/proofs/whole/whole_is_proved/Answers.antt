use Rattle.branching.proofs.Overall.{proved_whole}
use Rattle.branching.proofs.whole.whole_is_proved.Goals as goal

pub returns : goal.returns
returns c = proved_whole c.args.instance.now c.an_instance_breaks_no_rule.ensures c.requires c.acceptance_is_one.ensures.accepted c.cut_rows_are_one.ensures c.accepted_is_true.ensures

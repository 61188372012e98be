use Rattle.node_domains.proofs.InWhole.{lie_whole}
use Rattle.node_domains.proofs.whole.lie_in_whole.Goals as goal

pub returns : goal.returns
returns c = lie_whole c.args.instance.now c.an_instance_breaks_no_rule.ensures c.plans_are_within.ensures

use Rattle.uncoupled.proofs.Proving.{best_proved}
use Rattle.uncoupled.proofs.uncoupled_plans.best_found.Goals as goal

pub returns-clause-proved : goal.returns-clause-proved
returns-clause-proved c =
    best_proved c.args.instance.now c.args.plans c.in_ok-blocks_certificate.field-0 c.block_leaves_are_certified.ensures c.requires.uncoupled c.an_instance_breaks_no_rule.ensures.limits c.requires.best c.in_ok-blocks_certificate.ensures

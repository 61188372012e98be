use Rattle.uncoupled.proofs.Proving.{none_proved}
use Rattle.uncoupled.proofs.uncoupled_plans.none_found.Goals as goal

pub returns-clause-proved : goal.returns-clause-proved
returns-clause-proved c =
    none_proved c.args.instance.now c.args.item c.in_ok-no_room_certificate.field-0 c.no_room_is_certified.ensures c.room_decides.ensures.plans c.requires.uncoupled c.an_instance_breaks_no_rule.ensures.limits c.requires.no_room c.in_ok-no_room_certificate.ensures

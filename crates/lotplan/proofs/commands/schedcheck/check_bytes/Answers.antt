use Rattle.std.proofs.Common.{◌≢◌, rules, subst}
use Rattle.lot_schedule.specs.declared.fault.SlotFault.TheVariants.{Memory}
use Rattle.plan_file.specs.Records.{records_of}
use Rattle.plan_rules.specs.Held.{plan_of}
use Rattle.lot_schedule.specs.Faults.{IsSlotBroken}
use Rattle.lot_schedule.specs.Slots.{IsSchedule}
use Rattle.lotplan.proofs.Schedchecked.{says_no_slots, says_rejected}
use Rattle.lotplan.proofs.commands.schedcheck.check_bytes.Goals as goal

pub returns-in-Ok : goal.returns-in-Ok
returns-in-Ok c =
    let problem = c.args.instance.now in
    let plan = plan_of c.args.given.now in
    let known = c.an_instance_breaks_no_rule.ensures in
    let one = c.records_mean_one_thing.ensures problem (records_of c.args.bytes.now) (record { limits = known.limits; names = known.names; resource_names = known.resource_names }) in
    let breaks = subst (λ xs. IsSlotBroken problem plan xs c.in-Err-check_schedule.broken) c.deref.ensures.value c.in-Err-check_schedule.ensures.broken in
    let none = subst (λ xs. IsSchedule problem plan xs → ⊥) c.deref.ensures.value c.in-Err-check_schedule.ensures.refused in
    says_rejected problem plan c.args.bytes.now c.in-Ok.slots.items c.in-Err-check_schedule.broken c.answer_line-in-Err-check_schedule.result one c.in-Ok.ensures.slots breaks none c.answer_line-in-Err-check_schedule.ensures

pub returns : goal.returns
returns c =
    let problem = c.args.instance.now in
    let known = c.an_instance_breaks_no_rule.ensures in
    let one = c.records_mean_one_thing.ensures problem (records_of c.args.bytes.now) (record { limits = known.limits; names = known.names; resource_names = known.resource_names }) in
    let cause : c.in-Err.fault ≢ Memory = search rules in
    says_no_slots problem (plan_of c.args.given.now) c.args.bytes.now c.in-Err.fault c.answer_line-in-Err.result one cause c.in-Err.ensures.refused c.answer_line-in-Err.ensures

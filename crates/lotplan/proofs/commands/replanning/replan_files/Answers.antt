use Rattle.lotplan.specs.Reading.{read_meant}
use Rattle.lotplan.specs.Replanning.{no_input, no_plan, replan_line, replan_status}
use Rattle.lotplan.proofs.Replanned.{says_other, says_start}
use Rattle.lotplan.proofs.Writings.{memory_after}
use Rattle.lot_io.proofs.Frames.{finds_on}
use Rattle.plan_rules.specs.Held.{plan_of}
use Rattle.lotplan.proofs.Fetched.{fetches_said, started_fetch}
use Rattle.std.proofs.Common.{[], ◌∷◌}
use Rattle.lotplan.proofs.Appended.{appends_after, reads_append}
use Rattle.lotplan.proofs.commands.replanning.replan_files.Goals as goal

pub returns-in-Ok-clause-said : goal.returns-in-Ok-clause-said
returns-in-Ok-clause-said g c =
    let names = c.args.names in
    let read = c.in-Ok.read in
    says_start names.model.now names.plan.now c.args.first names.next_model.now names.next_plan.now names.certificate.now c.args.budget read.instance read.plan (g.S.Shelf.shown c.args.shelf.now) (g.S.Shelf.shown c.read_given.new.shelf) (g.S.Shelf.shown c.replan_instance.new.shelf) c.in-Ok.ensures.holds c.read_given.ensures.reads c.replan_instance.result c.replan_instance.ensures.said

pub returns-in-Ok-clause-memory : goal.returns-in-Ok-clause-memory
returns-in-Ok-clause-memory g c = memory_after (g.S.Shelf.shown c.args.shelf.now) (g.S.Shelf.shown c.read_given.new.shelf) (g.S.Shelf.shown c.replan_instance.new.shelf) c.replan_instance.result c.read_given.ensures.reads c.replan_instance.ensures.memory

pub returns-in-Err-NoPlan-clause-said : goal.returns-in-Err-NoPlan-clause-said
returns-in-Err-NoPlan-clause-said g c =
    let names = c.args.names in
    let stop = rw (c.in-Err-NoPlan.field-0-is) at c.in-Err-NoPlan.ensures.stop in
    says_other names.model.now names.plan.now c.args.first names.next_model.now names.next_plan.now names.certificate.now c.args.budget (g.S.Shelf.shown c.args.shelf.now) (g.S.Shelf.shown c.read_given.new.shelf) (no_plan c.in-Err-NoPlan.fault) c.answer_line.result (stop, c.read_given.ensures.reads) c.answer_line.ensures

pub returns-in-Err-Answered-clause-said : goal.returns-in-Err-Answered-clause-said
returns-in-Err-Answered-clause-said g c =
    let names = c.args.names in
    let stop = rw (c.in-Err-Answered.field-0-is) at c.in-Err-Answered.ensures.stop in
    says_other names.model.now names.plan.now c.args.first names.next_model.now names.next_plan.now names.certificate.now c.args.budget (g.S.Shelf.shown c.args.shelf.now) (g.S.Shelf.shown c.read_given.new.shelf) (no_input (read_meant c.in-Err-Answered.why)) c.answer_line-in-Err-Answered.result (stop, c.read_given.ensures.reads) c.answer_line-in-Err-Answered.ensures

pub returns-in-Ok-clause-found : goal.returns-in-Ok-clause-found
returns-in-Ok-clause-found g c =
    let names = c.args.names in
    let read = c.in-Ok.read in
    started_fetch (g.S.Shelf.shown c.args.shelf.now) (g.S.Shelf.shown c.replan_instance.new.shelf) (g.S.Shelf.shown c.read_given.new.shelf) (g.S.Shelf.shown c.replan_instance.new.shelf) read.instance (plan_of read.plan) c.args.first names.next_model.now names.next_plan.now names.certificate.now c.args.budget c.replan_instance.result c.replan_instance.ensures.said (finds_on c.in-Ok.ensures.found c.replan_instance.ensures.found)

pub returns-in-Err-NoPlan-clause-found : goal.returns-in-Err-NoPlan-clause-found
returns-in-Err-NoPlan-clause-found g c =
    let answer = no_plan c.in-Err-NoPlan.fault in
    fetches_said (g.S.Shelf.shown c.args.shelf.now) (g.S.Shelf.shown c.read_given.new.shelf) (replan_line answer) (replan_status answer) c.answer_line.result c.answer_line.ensures (rw (c.in-Err-NoPlan.field-0-is) at c.in-Err-NoPlan.ensures.stopped)

pub returns-in-Err-Answered-clause-found : goal.returns-in-Err-Answered-clause-found
returns-in-Err-Answered-clause-found g c =
    let answer = no_input (read_meant c.in-Err-Answered.why) in
    fetches_said (g.S.Shelf.shown c.args.shelf.now) (g.S.Shelf.shown c.read_given.new.shelf) (replan_line answer) (replan_status answer) c.answer_line-in-Err-Answered.result c.answer_line-in-Err-Answered.ensures (rw (c.in-Err-Answered.field-0-is) at c.in-Err-Answered.ensures.stopped)

pub returns-in-Ok-clause-appended : goal.returns-in-Ok-clause-appended
returns-in-Ok-clause-appended g c = appends_after (c.args.names.next_model.now ∷ c.args.names.next_plan.now ∷ c.args.names.certificate.now ∷ []) (g.S.Shelf.shown c.args.shelf.now) (g.S.Shelf.shown c.read_given.new.shelf) (g.S.Shelf.shown c.replan_instance.new.shelf) c.replan_instance.result c.read_given.ensures.reads c.replan_instance.ensures.appended

pub returns-in-Err-NoPlan-clause-appended : goal.returns-in-Err-NoPlan-clause-appended
returns-in-Err-NoPlan-clause-appended g c = reads_append (c.args.names.next_model.now ∷ c.args.names.next_plan.now ∷ c.args.names.certificate.now ∷ []) (g.S.Shelf.shown c.args.shelf.now) (g.S.Shelf.shown c.read_given.new.shelf) c.answer_line.result c.read_given.ensures.reads

pub returns-in-Err-Answered-clause-appended : goal.returns-in-Err-Answered-clause-appended
returns-in-Err-Answered-clause-appended g c = reads_append (c.args.names.next_model.now ∷ c.args.names.next_plan.now ∷ c.args.names.certificate.now ∷ []) (g.S.Shelf.shown c.args.shelf.now) (g.S.Shelf.shown c.read_given.new.shelf) c.answer_line-in-Err-Answered.result c.read_given.ensures.reads

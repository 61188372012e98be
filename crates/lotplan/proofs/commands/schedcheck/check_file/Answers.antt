use Rattle.std.proofs.Common.{◌≤◌, ◌∙◌, ap, length, Some, sym, subst}
use Rattle.plan_rules.specs.Held.{plan_of}
use Rattle.lotplan.specs.Reading.{file_limit, read_meant}
use Rattle.lotplan.proofs.Schedchecked.{says_bytes, says_unread}
use Rattle.lotplan.specs.Scheduling.{schedcheck_line, schedcheck_status, no_input}
use Rattle.lotplan.proofs.Fetched.{fetches_said, slots_fetch}
use Rattle.lotplan.proofs.commands.schedcheck.check_file.Goals as goal

pub returns-in-Ok-clause-said : goal.returns-in-Ok-clause-said
returns-in-Ok-clause-said g c =
    let bytes = c.as_slice.result.now in
    says_bytes c.args.instance.now (plan_of c.args.given.now) c.args.file.now bytes (g.S.Shelf.shown c.args.shelf.now) (g.S.Shelf.shown c.read_bytes.new.shelf) c.check_bytes.result
    (λ t. c.in-Ok.ensures.bytes t ∙ ap Some (sym c.as_slice.ensures.value))
    (subst (λ bs. length bs ≤ file_limit) (sym c.as_slice.ensures.value) c.in-Ok.ensures.short)
    c.check_bytes.ensures

pub returns-in-Err-Answered-clause-said : goal.returns-in-Err-Answered-clause-said
returns-in-Err-Answered-clause-said g c = says_unread c.args.instance.now (plan_of c.args.given.now) c.args.file.now (g.S.Shelf.shown c.args.shelf.now) (g.S.Shelf.shown c.read_bytes.new.shelf) (read_meant c.in-Err-Answered.why) c.answer_line.result (rw (c.in-Err-Answered.field-0-is) at c.in-Err-Answered.ensures.stop) c.answer_line.ensures

pub returns-in-Ok-clause-found : goal.returns-in-Ok-clause-found
returns-in-Ok-clause-found g c = slots_fetch (g.S.Shelf.shown c.args.shelf.now) (g.S.Shelf.shown c.read_bytes.new.shelf) c.args.instance.now (plan_of c.args.given.now) c.as_slice.result.now c.check_bytes.result c.check_bytes.ensures c.in-Ok.ensures.found

pub returns-in-Err-Answered-clause-found : goal.returns-in-Err-Answered-clause-found
returns-in-Err-Answered-clause-found g c =
    let answer = no_input (read_meant c.in-Err-Answered.why) in
    fetches_said (g.S.Shelf.shown c.args.shelf.now) (g.S.Shelf.shown c.read_bytes.new.shelf) (schedcheck_line answer) (schedcheck_status answer) c.answer_line.result c.answer_line.ensures (rw (c.in-Err-Answered.field-0-is) at c.in-Err-Answered.ensures.stopped)

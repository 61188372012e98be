use Rattle.lotplan.specs.Checking.{check_meant, check_line, check_status}
use Rattle.lotplan.specs.Reading.{read_meant, read_line, read_status}
use Rattle.lotplan.proofs.Checked.{says_checked, says_stop}
use Rattle.lotplan.proofs.Fetched.{fetches_on, fetches_said}
use Rattle.lotplan.proofs.commands.check.check_files.Goals as goal

pub returns-in_ok-answer-in-Ok-clause-said : goal.returns-in_ok-answer-in-Ok-clause-said
returns-in_ok-answer-in-Ok-clause-said g c =
    says_checked c.args.model.now c.args.plan.now c.args.certificate.now c.in-Ok.instance (g.S.Shelf.shown c.args.shelf.now) (g.S.Shelf.shown c.read_model.new.shelf) (g.S.Shelf.shown c.check_claim.new.shelf) (check_meant c.in_ok-answer-in-Ok.answer) c.answer_line.result c.in-Ok.ensures.ok c.read_model.ensures.reads c.in_ok-answer-in-Ok.ensures.answer c.check_claim.ensures.reads c.answer_line.ensures

pub returns-in-Err-Answered-clause-said : goal.returns-in-Err-Answered-clause-said
returns-in-Err-Answered-clause-said g c =
    says_stop c.args.model.now c.args.plan.now c.args.certificate.now (g.S.Shelf.shown c.args.shelf.now) (g.S.Shelf.shown c.read_model.new.shelf) (read_meant c.in-Err-Answered.why) c.answer_line-in-Err-Answered.result (rw (c.in-Err-Answered.field-0-is) at c.in-Err-Answered.ensures.stop) c.read_model.ensures.reads c.answer_line-in-Err-Answered.ensures

pub returns-in_ok-answer-in-Ok-clause-found : goal.returns-in_ok-answer-in-Ok-clause-found
returns-in_ok-answer-in-Ok-clause-found g c =
    let answer = check_meant c.in_ok-answer-in-Ok.answer in
    fetches_said (g.S.Shelf.shown c.args.shelf.now) (g.S.Shelf.shown c.check_claim.new.shelf) (check_line answer) (check_status answer) c.answer_line.result c.answer_line.ensures (fetches_on (g.S.Shelf.shown c.args.shelf.now) (g.S.Shelf.shown c.read_model.new.shelf) (g.S.Shelf.shown c.check_claim.new.shelf) c.in-Ok.ensures.found (check_status answer) c.in_ok-answer-in-Ok.ensures.found)

pub returns-in-Err-Answered-clause-found : goal.returns-in-Err-Answered-clause-found
returns-in-Err-Answered-clause-found g c =
    let why = read_meant c.in-Err-Answered.why in
    fetches_said (g.S.Shelf.shown c.args.shelf.now) (g.S.Shelf.shown c.read_model.new.shelf) (read_line why) (read_status why) c.answer_line-in-Err-Answered.result c.answer_line-in-Err-Answered.ensures (rw (c.in-Err-Answered.field-0-is) at c.in-Err-Answered.ensures.stopped)

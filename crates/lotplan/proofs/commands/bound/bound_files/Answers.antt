use Rattle.lotplan.specs.Bounding.{bound_meant, bound_line, bound_status}
use Rattle.lotplan.specs.Reading.{read_meant, read_line, read_status}
use Rattle.lotplan.proofs.Bounded.{says_bounded, says_stop}
use Rattle.lotplan.proofs.Fetched.{bound_fetches, fetches_said}
use Rattle.lotplan.proofs.commands.bound.bound_files.Goals as goal

pub returns-in_ok-answer-in-Ok-clause-said : goal.returns-in_ok-answer-in-Ok-clause-said
returns-in_ok-answer-in-Ok-clause-said g c =
    says_bounded c.args.model.now c.in-Ok.instance (g.S.Shelf.shown c.args.shelf.now) (g.S.Shelf.shown c.read_model.new.shelf) (bound_meant c.in_ok-answer-in-Ok.answer) c.answer_line.result c.in-Ok.ensures.ok c.in_ok-answer-in-Ok.ensures c.read_model.ensures.reads c.answer_line.ensures

pub returns-in-Err-Answered-clause-said : goal.returns-in-Err-Answered-clause-said
returns-in-Err-Answered-clause-said g c =
    says_stop c.args.model.now (g.S.Shelf.shown c.args.shelf.now) (g.S.Shelf.shown c.read_model.new.shelf) (read_meant c.in-Err-Answered.why) c.answer_line-in-Err-Answered.result (rw (c.in-Err-Answered.field-0-is) at c.in-Err-Answered.ensures.stop) c.read_model.ensures.reads c.answer_line-in-Err-Answered.ensures

pub returns-in_ok-answer-in-Ok-clause-found : goal.returns-in_ok-answer-in-Ok-clause-found
returns-in_ok-answer-in-Ok-clause-found g c =
    let answer = bound_meant c.in_ok-answer-in-Ok.answer in
    fetches_said (g.S.Shelf.shown c.args.shelf.now) (g.S.Shelf.shown c.read_model.new.shelf) (bound_line answer) (bound_status answer) c.answer_line.result c.answer_line.ensures (bound_fetches (g.S.Shelf.shown c.args.shelf.now) (g.S.Shelf.shown c.read_model.new.shelf) c.in-Ok.instance answer c.in_ok-answer-in-Ok.ensures c.in-Ok.ensures.found)

pub returns-in-Err-Answered-clause-found : goal.returns-in-Err-Answered-clause-found
returns-in-Err-Answered-clause-found g c =
    let why = read_meant c.in-Err-Answered.why in
    fetches_said (g.S.Shelf.shown c.args.shelf.now) (g.S.Shelf.shown c.read_model.new.shelf) (read_line why) (read_status why) c.answer_line-in-Err-Answered.result c.answer_line-in-Err-Answered.ensures (rw (c.in-Err-Answered.field-0-is) at c.in-Err-Answered.ensures.stopped)

use Rattle.lotplan.specs.Judging.{feasible, judge_meant, judge_line, judge_status}
use Rattle.lotplan.proofs.Judged.{feasible_in_files, says_judged}
use Rattle.lotplan.proofs.Fetched.{fetches_said}
use Rattle.lotplan.proofs.commands.judge.judge_files.Goals as goal

pub returns-in-Ok-clause-said : goal.returns-in-Ok-clause-said
returns-in-Ok-clause-said g c =
    let read = c.in-Ok.read in
    says_judged c.args.model.now c.args.plan.now (g.S.Shelf.shown c.args.shelf.now) (g.S.Shelf.shown c.read_feasible.new.shelf) (feasible read.cost) c.answer_line.result (feasible_in_files c.args.model.now c.args.plan.now read.instance read.plan read.cost (g.S.Shelf.shown c.args.shelf.now) (g.S.Shelf.shown c.read_feasible.new.shelf) c.in-Ok.ensures.holds c.in-Ok.ensures.feasible) c.read_feasible.ensures.reads c.answer_line.ensures

pub returns-in-Err-Judged-clause-said : goal.returns-in-Err-Judged-clause-said
returns-in-Err-Judged-clause-said g c =
    let none = rw (c.in-Err-Judged.field-0-is) at c.in-Err-Judged.ensures.stop in
    says_judged c.args.model.now c.args.plan.now (g.S.Shelf.shown c.args.shelf.now) (g.S.Shelf.shown c.read_feasible.new.shelf) (judge_meant c.in-Err-Judged.answer) c.answer_line-in-Err-Judged.result none.1 c.read_feasible.ensures.reads c.answer_line-in-Err-Judged.ensures

pub returns-in-Ok-clause-found : goal.returns-in-Ok-clause-found
returns-in-Ok-clause-found g c =
    let answer = feasible c.in-Ok.read.cost in
    fetches_said (g.S.Shelf.shown c.args.shelf.now) (g.S.Shelf.shown c.read_feasible.new.shelf) (judge_line answer) (judge_status answer) c.answer_line.result c.answer_line.ensures c.in-Ok.ensures.found

pub returns-in-Err-Judged-clause-found : goal.returns-in-Err-Judged-clause-found
returns-in-Err-Judged-clause-found g c =
    let answer = judge_meant c.in-Err-Judged.answer in
    fetches_said (g.S.Shelf.shown c.args.shelf.now) (g.S.Shelf.shown c.read_feasible.new.shelf) (judge_line answer) (judge_status answer) c.answer_line-in-Err-Judged.result c.answer_line-in-Err-Judged.ensures (rw (c.in-Err-Judged.field-0-is) at c.in-Err-Judged.ensures.stopped)

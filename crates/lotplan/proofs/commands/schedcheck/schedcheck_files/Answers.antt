use Rattle.lot_io.proofs.Frames.{reads_on}
use Rattle.lotplan.specs.Judging.{judge_meant, judge_line, judge_status}
use Rattle.lotplan.proofs.Schedchecked.{says_given, says_none}
use Rattle.lotplan.proofs.Fetched.{fetches_said, said_on}
use Rattle.lotplan.proofs.commands.schedcheck.schedcheck_files.Goals as goal

pub returns-in-Ok-clause-said : goal.returns-in-Ok-clause-said
returns-in-Ok-clause-said g c =
    let read = c.in-Ok.read in
    says_given c.args.model.now c.args.plan.now c.args.file.now read.instance read.plan read.cost (g.S.Shelf.shown c.args.shelf.now) (g.S.Shelf.shown c.read_feasible.new.shelf) (g.S.Shelf.shown c.check_file.new.shelf) c.check_file.result c.in-Ok.ensures.holds c.in-Ok.ensures.feasible c.read_feasible.ensures.reads c.check_file.ensures.reads c.check_file.ensures.said

pub returns-in-Ok-clause-reads : goal.returns-in-Ok-clause-reads
returns-in-Ok-clause-reads g c = reads_on c.read_feasible.ensures.reads c.check_file.ensures.reads

pub returns-in-Err-Judged-clause-said : goal.returns-in-Err-Judged-clause-said
returns-in-Err-Judged-clause-said g c =
    let none = rw (c.in-Err-Judged.field-0-is) at c.in-Err-Judged.ensures.stop in
    says_none c.args.model.now c.args.plan.now c.args.file.now (g.S.Shelf.shown c.args.shelf.now) (g.S.Shelf.shown c.read_feasible.new.shelf) (judge_meant c.in-Err-Judged.answer) c.answer_line.result none c.read_feasible.ensures.reads c.answer_line.ensures

pub returns-in-Ok-clause-found : goal.returns-in-Ok-clause-found
returns-in-Ok-clause-found g c = said_on (g.S.Shelf.shown c.args.shelf.now) (g.S.Shelf.shown c.read_feasible.new.shelf) (g.S.Shelf.shown c.check_file.new.shelf) c.in-Ok.ensures.found c.check_file.result c.check_file.ensures.found

pub returns-in-Err-Judged-clause-found : goal.returns-in-Err-Judged-clause-found
returns-in-Err-Judged-clause-found g c =
    let answer = judge_meant c.in-Err-Judged.answer in
    fetches_said (g.S.Shelf.shown c.args.shelf.now) (g.S.Shelf.shown c.read_feasible.new.shelf) (judge_line answer) (judge_status answer) c.answer_line.result c.answer_line.ensures (rw (c.in-Err-Judged.field-0-is) at c.in-Err-Judged.ensures.stopped)

use Rattle.lotplan.specs.Judging.{judge_meant, judge_line, judge_status}
use Rattle.lotplan.proofs.Reported.{says_none, says_summed}
use Rattle.plan_rules.specs.Held.{plan_of}
use Rattle.lotplan.specs.Reporting.{report_text}
use Rattle.lotplan.specs.declared.status.Status.TheVariants.{Done}
use Rattle.lotplan.proofs.Fetched.{fetches_said}
use Rattle.lotplan.proofs.commands.reporting.report_files.Goals as goal

pub returns-in-Ok-clause-said : goal.returns-in-Ok-clause-said
returns-in-Ok-clause-said g c =
    let read = c.in-Ok.read in
    says_summed c.args.model.now c.args.plan.now c.args.form read.instance read.plan read.cost (g.S.Shelf.shown c.args.shelf.now) (g.S.Shelf.shown c.read_feasible.new.shelf) c.report_given.result c.in-Ok.ensures.holds c.in-Ok.ensures.feasible c.read_feasible.ensures.reads c.report_given.ensures

pub returns-in-Err-Judged-clause-said : goal.returns-in-Err-Judged-clause-said
returns-in-Err-Judged-clause-said g c =
    let none = rw (c.in-Err-Judged.field-0-is) at c.in-Err-Judged.ensures.stop in
    let says = rw (c.in-Err-Judged.field-0-is) at c.answer_line.ensures in
    says_none c.args.model.now c.args.plan.now c.args.form (g.S.Shelf.shown c.args.shelf.now) (g.S.Shelf.shown c.read_feasible.new.shelf) (judge_meant c.in-Err-Judged.answer) c.answer_line.result none c.read_feasible.ensures.reads says

pub returns-in-Ok-clause-found : goal.returns-in-Ok-clause-found
returns-in-Ok-clause-found g c =
    let read = c.in-Ok.read in
    fetches_said (g.S.Shelf.shown c.args.shelf.now) (g.S.Shelf.shown c.read_feasible.new.shelf) (report_text c.args.form read.instance (plan_of read.plan)) Done c.report_given.result c.report_given.ensures c.in-Ok.ensures.found

pub returns-in-Err-Judged-clause-found : goal.returns-in-Err-Judged-clause-found
returns-in-Err-Judged-clause-found g c =
    let answer = judge_meant c.in-Err-Judged.answer in
    let says = rw (c.in-Err-Judged.field-0-is) at c.answer_line.ensures in
    fetches_said (g.S.Shelf.shown c.args.shelf.now) (g.S.Shelf.shown c.read_feasible.new.shelf) (judge_line answer) (judge_status answer) c.answer_line.result says (rw (c.in-Err-Judged.field-0-is) at c.in-Err-Judged.ensures.stopped)

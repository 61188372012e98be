use Rattle.std.proofs.Common.{Some, refl, sym, subst, IfOk, []}
use Rattle.std.proofs.lemmas.Result.{IfOk-weaker}
use Rattle.command_line.specs.Meant.{request_by}
use Rattle.command_line.specs.Words.{version, demonstrating}
use Rattle.lotplan.specs.Run.{SaysFor, version_line, writes_of}
use Rattle.lotplan.specs.Saying.{IsSaid}
use Rattle.lotplan.specs.Showing.{DemoSays}
use Rattle.lotplan.specs.declared.status.Status.TheVariants.{Done}
use Rattle.lotplan.proofs.Fetched.{demo_fetches, fetches_said, still}
use Rattle.lotplan.specs.Writing.{AppendsAs}
use Rattle.lotplan.proofs.Readings.{same_reads}
use Rattle.lotplan.proofs.Appended.{reads_append}
use Rattle.lotplan.proofs.running.said_of.Goals as goal

pub returns-in-Name-clause-said : goal.returns-in-Name-clause-said
returns-in-Name-clause-said g c =
    let old = g.S.Shelf.shown c.args.shelf.now in
    subst (λ k. IfOk c.new.result (SaysFor (Some (request_by k)) old old)) (sym c.in-Name.is)
    (IfOk-weaker c.new.result (IsSaid version_line Done) (SaysFor (Some version) old old) (λ said is. record { same = refl; says = is.line; ends = is.status }) c.new.ensures)

pub returns-in-Plan-clause-said : goal.returns-in-Plan-clause-said
returns-in-Plan-clause-said g c =
    subst (λ k. IfOk c.plan_files.result (SaysFor (Some (request_by k)) (g.S.Shelf.shown c.args.shelf.now) (g.S.Shelf.shown c.plan_files.new.shelf))) (sym c.in-Plan.is) c.plan_files.ensures.said

pub returns-in-Judge-clause-said : goal.returns-in-Judge-clause-said
returns-in-Judge-clause-said g c =
    subst (λ k. IfOk c.judge_files.result (SaysFor (Some (request_by k)) (g.S.Shelf.shown c.args.shelf.now) (g.S.Shelf.shown c.judge_files.new.shelf))) (sym c.in-Judge.is) c.judge_files.ensures.said

pub returns-in-Check-clause-said : goal.returns-in-Check-clause-said
returns-in-Check-clause-said g c =
    subst (λ k. IfOk c.check_files.result (SaysFor (Some (request_by k)) (g.S.Shelf.shown c.args.shelf.now) (g.S.Shelf.shown c.check_files.new.shelf))) (sym c.in-Check.is) c.check_files.ensures.said

pub returns-in-Report-clause-said : goal.returns-in-Report-clause-said
returns-in-Report-clause-said g c =
    subst (λ k. IfOk c.report_files.result (SaysFor (Some (request_by k)) (g.S.Shelf.shown c.args.shelf.now) (g.S.Shelf.shown c.report_files.new.shelf))) (sym c.in-Report.is) c.report_files.ensures.said

pub returns-in-Generate-clause-said : goal.returns-in-Generate-clause-said
returns-in-Generate-clause-said g c =
    subst (λ k. IfOk c.generate_file.result (SaysFor (Some (request_by k)) (g.S.Shelf.shown c.args.shelf.now) (g.S.Shelf.shown c.generate_file.new.shelf))) (sym c.in-Generate.is) c.generate_file.ensures.said

pub returns-in-Upgrade-clause-said : goal.returns-in-Upgrade-clause-said
returns-in-Upgrade-clause-said g c =
    subst (λ k. IfOk c.upgrade_files.result (SaysFor (Some (request_by k)) (g.S.Shelf.shown c.args.shelf.now) (g.S.Shelf.shown c.upgrade_files.new.shelf))) (sym c.in-Upgrade.is) c.upgrade_files.ensures.said

pub returns-in-Bound-clause-said : goal.returns-in-Bound-clause-said
returns-in-Bound-clause-said g c =
    subst (λ k. IfOk c.bound_files.result (SaysFor (Some (request_by k)) (g.S.Shelf.shown c.args.shelf.now) (g.S.Shelf.shown c.bound_files.new.shelf))) (sym c.in-Bound.is) c.bound_files.ensures.said

pub returns-in-Demo-clause-said : goal.returns-in-Demo-clause-said
returns-in-Demo-clause-said g c =
    let old = g.S.Shelf.shown c.args.shelf.now in
    let seed = c.in-Demo.seed in
    subst (λ k. IfOk c.show_plans.result (SaysFor (Some (request_by k)) old old)) (sym c.in-Demo.is)
    (IfOk-weaker c.show_plans.result (DemoSays seed) (SaysFor (Some (demonstrating seed)) old old) (λ said says. says old) c.show_plans.ensures)

pub returns-in-Schedule-clause-said : goal.returns-in-Schedule-clause-said
returns-in-Schedule-clause-said g c =
    subst (λ k. IfOk c.schedule_files.result (SaysFor (Some (request_by k)) (g.S.Shelf.shown c.args.shelf.now) (g.S.Shelf.shown c.schedule_files.new.shelf))) (sym c.in-Schedule.is) c.schedule_files.ensures.said

pub returns-in-CheckSchedule-clause-said : goal.returns-in-CheckSchedule-clause-said
returns-in-CheckSchedule-clause-said g c =
    subst (λ k. IfOk c.schedcheck_files.result (SaysFor (Some (request_by k)) (g.S.Shelf.shown c.args.shelf.now) (g.S.Shelf.shown c.schedcheck_files.new.shelf))) (sym c.in-CheckSchedule.is) c.schedcheck_files.ensures.said

pub returns-in-Peg-clause-said : goal.returns-in-Peg-clause-said
returns-in-Peg-clause-said g c =
    subst (λ k. IfOk c.peg_files.result (SaysFor (Some (request_by k)) (g.S.Shelf.shown c.args.shelf.now) (g.S.Shelf.shown c.peg_files.new.shelf))) (sym c.in-Peg.is) c.peg_files.ensures.said

pub returns-in-Complete-clause-said : goal.returns-in-Complete-clause-said
returns-in-Complete-clause-said g c =
    subst (λ k. IfOk c.complete_files.result (SaysFor (Some (request_by k)) (g.S.Shelf.shown c.args.shelf.now) (g.S.Shelf.shown c.complete_files.new.shelf))) (sym c.in-Complete.is) c.complete_files.ensures.said

pub returns-in-Replan-clause-said : goal.returns-in-Replan-clause-said
returns-in-Replan-clause-said g c =
    subst (λ k. IfOk c.replan_files.result (SaysFor (Some (request_by k)) (g.S.Shelf.shown c.args.shelf.now) (g.S.Shelf.shown c.replan_files.new.shelf))) (sym c.in-Replan.is) c.replan_files.ensures.said

pub returns-in-Draw-clause-said : goal.returns-in-Draw-clause-said
returns-in-Draw-clause-said g c =
    subst (λ k. IfOk c.draw_files.result (SaysFor (Some (request_by k)) (g.S.Shelf.shown c.args.shelf.now) (g.S.Shelf.shown c.draw_files.new.shelf))) (sym c.in-Draw.is) c.draw_files.ensures.said

pub returns-in-Name-clause-found : goal.returns-in-Name-clause-found
returns-in-Name-clause-found g c =
    let old = g.S.Shelf.shown c.args.shelf.now in
    fetches_said old old version_line Done c.new.result c.new.ensures (still old)

pub returns-in-Demo-clause-found : goal.returns-in-Demo-clause-found
returns-in-Demo-clause-found g c =
    let old = g.S.Shelf.shown c.args.shelf.now in
    demo_fetches old old c.in-Demo.seed c.show_plans.result c.show_plans.ensures (still old)

pub returns-in-Name-clause-appended : goal.returns-in-Name-clause-appended
returns-in-Name-clause-appended g c =
    let old = g.S.Shelf.shown c.args.shelf.now in
    let new = g.S.Shelf.shown c.args.shelf.now in
    subst (λ k. IfOk c.new.result (λ said. AppendsAs (writes_of (Some (request_by k))) said.status old new)) (sym c.in-Name.is) (reads_append [] old old c.new.result (same_reads old old refl))

pub returns-in-Demo-clause-appended : goal.returns-in-Demo-clause-appended
returns-in-Demo-clause-appended g c =
    let old = g.S.Shelf.shown c.args.shelf.now in
    let new = g.S.Shelf.shown c.args.shelf.now in
    subst (λ k. IfOk c.show_plans.result (λ said. AppendsAs (writes_of (Some (request_by k))) said.status old new)) (sym c.in-Demo.is) (reads_append [] old old c.show_plans.result (same_reads old old refl))

pub returns-in-Judge-clause-appended : goal.returns-in-Judge-clause-appended
returns-in-Judge-clause-appended g c =
    let old = g.S.Shelf.shown c.args.shelf.now in
    let new = g.S.Shelf.shown c.judge_files.new.shelf in
    subst (λ k. IfOk c.judge_files.result (λ said. AppendsAs (writes_of (Some (request_by k))) said.status old new)) (sym c.in-Judge.is) (reads_append [] old new c.judge_files.result c.judge_files.ensures.reads)

pub returns-in-Check-clause-appended : goal.returns-in-Check-clause-appended
returns-in-Check-clause-appended g c =
    let old = g.S.Shelf.shown c.args.shelf.now in
    let new = g.S.Shelf.shown c.check_files.new.shelf in
    subst (λ k. IfOk c.check_files.result (λ said. AppendsAs (writes_of (Some (request_by k))) said.status old new)) (sym c.in-Check.is) (reads_append [] old new c.check_files.result c.check_files.ensures.reads)

pub returns-in-Report-clause-appended : goal.returns-in-Report-clause-appended
returns-in-Report-clause-appended g c =
    let old = g.S.Shelf.shown c.args.shelf.now in
    let new = g.S.Shelf.shown c.report_files.new.shelf in
    subst (λ k. IfOk c.report_files.result (λ said. AppendsAs (writes_of (Some (request_by k))) said.status old new)) (sym c.in-Report.is) (reads_append [] old new c.report_files.result c.report_files.ensures.reads)

pub returns-in-Bound-clause-appended : goal.returns-in-Bound-clause-appended
returns-in-Bound-clause-appended g c =
    let old = g.S.Shelf.shown c.args.shelf.now in
    let new = g.S.Shelf.shown c.bound_files.new.shelf in
    subst (λ k. IfOk c.bound_files.result (λ said. AppendsAs (writes_of (Some (request_by k))) said.status old new)) (sym c.in-Bound.is) (reads_append [] old new c.bound_files.result c.bound_files.ensures.reads)

pub returns-in-CheckSchedule-clause-appended : goal.returns-in-CheckSchedule-clause-appended
returns-in-CheckSchedule-clause-appended g c =
    let old = g.S.Shelf.shown c.args.shelf.now in
    let new = g.S.Shelf.shown c.schedcheck_files.new.shelf in
    subst (λ k. IfOk c.schedcheck_files.result (λ said. AppendsAs (writes_of (Some (request_by k))) said.status old new)) (sym c.in-CheckSchedule.is) (reads_append [] old new c.schedcheck_files.result c.schedcheck_files.ensures.reads)

pub returns-in-Plan-clause-appended : goal.returns-in-Plan-clause-appended
returns-in-Plan-clause-appended g c =
    let old = g.S.Shelf.shown c.args.shelf.now in
    let new = g.S.Shelf.shown c.plan_files.new.shelf in
    subst (λ k. IfOk c.plan_files.result (λ said. AppendsAs (writes_of (Some (request_by k))) said.status old new)) (sym c.in-Plan.is) c.plan_files.ensures.appended

pub returns-in-Generate-clause-appended : goal.returns-in-Generate-clause-appended
returns-in-Generate-clause-appended g c =
    let old = g.S.Shelf.shown c.args.shelf.now in
    let new = g.S.Shelf.shown c.generate_file.new.shelf in
    subst (λ k. IfOk c.generate_file.result (λ said. AppendsAs (writes_of (Some (request_by k))) said.status old new)) (sym c.in-Generate.is) c.generate_file.ensures.appended

pub returns-in-Upgrade-clause-appended : goal.returns-in-Upgrade-clause-appended
returns-in-Upgrade-clause-appended g c =
    let old = g.S.Shelf.shown c.args.shelf.now in
    let new = g.S.Shelf.shown c.upgrade_files.new.shelf in
    subst (λ k. IfOk c.upgrade_files.result (λ said. AppendsAs (writes_of (Some (request_by k))) said.status old new)) (sym c.in-Upgrade.is) c.upgrade_files.ensures.appended

pub returns-in-Schedule-clause-appended : goal.returns-in-Schedule-clause-appended
returns-in-Schedule-clause-appended g c =
    let old = g.S.Shelf.shown c.args.shelf.now in
    let new = g.S.Shelf.shown c.schedule_files.new.shelf in
    subst (λ k. IfOk c.schedule_files.result (λ said. AppendsAs (writes_of (Some (request_by k))) said.status old new)) (sym c.in-Schedule.is) c.schedule_files.ensures.appended

pub returns-in-Peg-clause-appended : goal.returns-in-Peg-clause-appended
returns-in-Peg-clause-appended g c =
    let old = g.S.Shelf.shown c.args.shelf.now in
    let new = g.S.Shelf.shown c.peg_files.new.shelf in
    subst (λ k. IfOk c.peg_files.result (λ said. AppendsAs (writes_of (Some (request_by k))) said.status old new)) (sym c.in-Peg.is) c.peg_files.ensures.appended

pub returns-in-Complete-clause-appended : goal.returns-in-Complete-clause-appended
returns-in-Complete-clause-appended g c =
    let old = g.S.Shelf.shown c.args.shelf.now in
    let new = g.S.Shelf.shown c.complete_files.new.shelf in
    subst (λ k. IfOk c.complete_files.result (λ said. AppendsAs (writes_of (Some (request_by k))) said.status old new)) (sym c.in-Complete.is) c.complete_files.ensures.appended

pub returns-in-Replan-clause-appended : goal.returns-in-Replan-clause-appended
returns-in-Replan-clause-appended g c =
    let old = g.S.Shelf.shown c.args.shelf.now in
    let new = g.S.Shelf.shown c.replan_files.new.shelf in
    subst (λ k. IfOk c.replan_files.result (λ said. AppendsAs (writes_of (Some (request_by k))) said.status old new)) (sym c.in-Replan.is) c.replan_files.ensures.appended

pub returns-in-Draw-clause-appended : goal.returns-in-Draw-clause-appended
returns-in-Draw-clause-appended g c =
    let old = g.S.Shelf.shown c.args.shelf.now in
    let new = g.S.Shelf.shown c.draw_files.new.shelf in
    subst (λ k. IfOk c.draw_files.result (λ said. AppendsAs (writes_of (Some (request_by k))) said.status old new)) (sym c.in-Draw.is) c.draw_files.ensures.appended

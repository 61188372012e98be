use Rattle.std.proofs.Common.{IfOk, subst, [], ◌∷◌}
use Rattle.lotplan.specs.Planning.{WriteSays}
use Rattle.command_line.specs.Meant.{search_by}
use Rattle.lotplan.specs.Judging.{judge_meant, judge_line, judge_status}
use Rattle.lotplan.proofs.Writings.{memory_after}
use Rattle.lotplan.proofs.Planned.{says_from, says_unstarted}
use Rattle.lot_io.proofs.Frames.{finds_on}
use Rattle.lotplan.proofs.Fetched.{fetches_said, written_fetch}
use Rattle.lotplan.proofs.Appended.{appends_after, reads_append}
use Rattle.lotplan.proofs.commands.plan.plan_from.Goals as goal

pub returns-in-Ok-clause-said : goal.returns-in-Ok-clause-said
returns-in-Ok-clause-said g c =
    let names = c.args.names in
    let read = c.in-Ok.read in
    let mid = g.S.Shelf.shown c.read_feasible.new.shelf in
    let new = g.S.Shelf.shown c.plan_instance.new.shelf in
    let says = subst (λ k. IfOk c.plan_instance.result (WriteSays read.instance k names.plan.now names.certificate.now mid new)) c.sought_by-sought.ensures c.plan_instance.ensures.said in
    says_from names.model.now names.plan.now names.certificate.now (search_by c.args.search) c.args.start.now read.instance read.plan read.cost (g.S.Shelf.shown c.args.shelf.now) (g.S.Shelf.shown c.read_feasible.new.shelf) (g.S.Shelf.shown c.plan_instance.new.shelf) c.requires.start c.in-Ok.ensures.holds c.in-Ok.ensures.feasible c.read_feasible.ensures.reads c.plan_instance.result says

pub returns-in-Ok-clause-memory : goal.returns-in-Ok-clause-memory
returns-in-Ok-clause-memory g c = memory_after (g.S.Shelf.shown c.args.shelf.now) (g.S.Shelf.shown c.read_feasible.new.shelf) (g.S.Shelf.shown c.plan_instance.new.shelf) c.plan_instance.result c.read_feasible.ensures.reads c.plan_instance.ensures.memory

pub returns-in-Err-Judged-clause-said : goal.returns-in-Err-Judged-clause-said
returns-in-Err-Judged-clause-said g c =
    let names = c.args.names in
    let none = rw (c.in-Err-Judged.field-0-is) at c.in-Err-Judged.ensures.stop in
    says_unstarted names.model.now names.plan.now names.certificate.now (search_by c.args.search) c.args.start.now (g.S.Shelf.shown c.args.shelf.now) (g.S.Shelf.shown c.read_feasible.new.shelf) (judge_meant c.in-Err-Judged.answer) c.answer_line.result c.requires.start none c.read_feasible.ensures.reads c.answer_line.ensures

pub returns-in-Ok-clause-found : goal.returns-in-Ok-clause-found
returns-in-Ok-clause-found g c =
    let names = c.args.names in
    written_fetch (g.S.Shelf.shown c.args.shelf.now) (g.S.Shelf.shown c.plan_instance.new.shelf) (g.S.Shelf.shown c.read_feasible.new.shelf) (g.S.Shelf.shown c.plan_instance.new.shelf) c.in-Ok.read.instance c.sought_by-sought.result names.plan.now names.certificate.now c.plan_instance.result c.plan_instance.ensures.said (finds_on c.in-Ok.ensures.found c.plan_instance.ensures.found)

pub returns-in-Err-Judged-clause-found : goal.returns-in-Err-Judged-clause-found
returns-in-Err-Judged-clause-found g c =
    let answer = judge_meant c.in-Err-Judged.answer in
    fetches_said (g.S.Shelf.shown c.args.shelf.now) (g.S.Shelf.shown c.read_feasible.new.shelf) (judge_line answer) (judge_status answer) c.answer_line.result c.answer_line.ensures (rw (c.in-Err-Judged.field-0-is) at c.in-Err-Judged.ensures.stopped)

pub returns-in-Ok-clause-appended : goal.returns-in-Ok-clause-appended
returns-in-Ok-clause-appended g c = appends_after (c.args.names.plan.now ∷ c.args.names.certificate.now ∷ []) (g.S.Shelf.shown c.args.shelf.now) (g.S.Shelf.shown c.read_feasible.new.shelf) (g.S.Shelf.shown c.plan_instance.new.shelf) c.plan_instance.result c.read_feasible.ensures.reads c.plan_instance.ensures.appended

pub returns-in-Err-Judged-clause-appended : goal.returns-in-Err-Judged-clause-appended
returns-in-Err-Judged-clause-appended g c = reads_append (c.args.names.plan.now ∷ c.args.names.certificate.now ∷ []) (g.S.Shelf.shown c.args.shelf.now) (g.S.Shelf.shown c.read_feasible.new.shelf) c.answer_line.result c.read_feasible.ensures.reads

use Rattle.std.specs.Prelude.{option_map}
use Rattle.lotplan.specs.Checking.{check_meant, check_line, check_status}
use Rattle.lotplan.specs.Judging.{judge_meant, judge_line, judge_status}
use Rattle.lotplan.proofs.Paged.{says_judged, says_page, says_unproved}
use Rattle.lot_io.proofs.Frames.{finds_on}
use Rattle.plan_rules.specs.Held.{plan_of}
use Rattle.lotplan.proofs.Fetched.{fetches_said, page_fetch}
use Rattle.std.proofs.Common.{[], ◌∷◌}
use Rattle.lotplan.proofs.Appended.{appends_after, page_appends, reads_append}
use Rattle.lotplan.proofs.commands.draw.draw_files.Goals as goal

pub returns-in-Ok-clause-said : goal.returns-in-Ok-clause-said
returns-in-Ok-clause-said g c =
    let names = c.args.names in
    let read = c.in-Ok.read in
    let is = c.in-Ok.ensures in
    says_page names.model.now names.plan.now names.page.now (option_map (λ n. n.now) c.args.certificate) read.instance read.plan read.proved (g.S.Shelf.shown c.args.shelf.now) (g.S.Shelf.shown c.read_drawing.new.shelf) (g.S.Shelf.shown c.write_page.new.shelf) c.write_page.result is.files is.feasible is.shown is.so c.read_drawing.ensures.reads c.write_page.ensures.said

pub returns-in-Err-Judged-clause-said : goal.returns-in-Err-Judged-clause-said
returns-in-Err-Judged-clause-said g c =
    let names = c.args.names in
    let none = rw (c.in-Err-Judged.field-0-is) at c.in-Err-Judged.ensures.stop in
    says_judged names.model.now names.plan.now names.page.now (option_map (λ n. n.now) c.args.certificate) (g.S.Shelf.shown c.args.shelf.now) (g.S.Shelf.shown c.read_drawing.new.shelf) (judge_meant c.in-Err-Judged.answer) c.answer_line.result none c.read_drawing.ensures.reads c.answer_line.ensures

pub returns-in-Err-Unproved-clause-said : goal.returns-in-Err-Unproved-clause-said
returns-in-Err-Unproved-clause-said g c =
    let names = c.args.names in
    let none = rw (c.in-Err-Unproved.field-0-is) at c.in-Err-Unproved.ensures.stop in
    says_unproved names.model.now names.plan.now names.page.now (option_map (λ n. n.now) c.args.certificate) (g.S.Shelf.shown c.args.shelf.now) (g.S.Shelf.shown c.read_drawing.new.shelf) (check_meant c.in-Err-Unproved.answer) c.answer_line-in-Err-Unproved.result none c.read_drawing.ensures.reads c.answer_line-in-Err-Unproved.ensures

pub returns-in-Ok-clause-found : goal.returns-in-Ok-clause-found
returns-in-Ok-clause-found g c =
    let read = c.in-Ok.read in
    page_fetch (g.S.Shelf.shown c.args.shelf.now) (g.S.Shelf.shown c.write_page.new.shelf) (g.S.Shelf.shown c.read_drawing.new.shelf) (g.S.Shelf.shown c.write_page.new.shelf) read.instance (plan_of read.plan) read.proved c.args.names.page.now c.write_page.result c.write_page.ensures.said (finds_on c.in-Ok.ensures.found c.write_page.ensures.found)

pub returns-in-Err-Judged-clause-found : goal.returns-in-Err-Judged-clause-found
returns-in-Err-Judged-clause-found g c =
    let answer = judge_meant c.in-Err-Judged.answer in
    fetches_said (g.S.Shelf.shown c.args.shelf.now) (g.S.Shelf.shown c.read_drawing.new.shelf) (judge_line answer) (judge_status answer) c.answer_line.result c.answer_line.ensures (rw (c.in-Err-Judged.field-0-is) at c.in-Err-Judged.ensures.stopped)

pub returns-in-Err-Unproved-clause-found : goal.returns-in-Err-Unproved-clause-found
returns-in-Err-Unproved-clause-found g c =
    let answer = check_meant c.in-Err-Unproved.answer in
    fetches_said (g.S.Shelf.shown c.args.shelf.now) (g.S.Shelf.shown c.read_drawing.new.shelf) (check_line answer) (check_status answer) c.answer_line-in-Err-Unproved.result c.answer_line-in-Err-Unproved.ensures (rw (c.in-Err-Unproved.field-0-is) at c.in-Err-Unproved.ensures.stopped)

pub returns-in-Ok-clause-appended : goal.returns-in-Ok-clause-appended
returns-in-Ok-clause-appended g c =
    let read = c.in-Ok.read in
    appends_after (c.args.names.page.now ∷ []) (g.S.Shelf.shown c.args.shelf.now) (g.S.Shelf.shown c.read_drawing.new.shelf) (g.S.Shelf.shown c.write_page.new.shelf) c.write_page.result c.read_drawing.ensures.reads (page_appends read.instance (plan_of read.plan) read.proved c.args.names.page.now (g.S.Shelf.shown c.read_drawing.new.shelf) (g.S.Shelf.shown c.write_page.new.shelf) c.write_page.result c.write_page.ensures.said)

pub returns-in-Err-Judged-clause-appended : goal.returns-in-Err-Judged-clause-appended
returns-in-Err-Judged-clause-appended g c = reads_append (c.args.names.page.now ∷ []) (g.S.Shelf.shown c.args.shelf.now) (g.S.Shelf.shown c.read_drawing.new.shelf) c.answer_line.result c.read_drawing.ensures.reads

pub returns-in-Err-Unproved-clause-appended : goal.returns-in-Err-Unproved-clause-appended
returns-in-Err-Unproved-clause-appended g c = reads_append (c.args.names.page.now ∷ []) (g.S.Shelf.shown c.args.shelf.now) (g.S.Shelf.shown c.read_drawing.new.shelf) c.answer_line-in-Err-Unproved.result c.read_drawing.ensures.reads

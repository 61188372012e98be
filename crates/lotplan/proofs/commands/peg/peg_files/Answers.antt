use Rattle.lotplan.specs.Judging.{judge_meant, judge_line, judge_status}
use Rattle.lotplan.specs.Pegging.{Pegged, pegged_word}
use Rattle.lotplan.proofs.Extracted.{says_given, says_none}
use Rattle.lotplan.proofs.Writings.{memory_after}
use Rattle.lot_io.proofs.Frames.{finds_on}
use Rattle.plan_rules.specs.Held.{plan_of}
use Rattle.lotplan.proofs.Fetched.{extract_fetch, fetches_said}
use Rattle.std.proofs.Common.{[], ◌∷◌}
use Rattle.lotplan.proofs.Appended.{appends_after, reads_append}
use Rattle.lotplan.proofs.commands.peg.peg_files.Goals as goal

pub returns-in-Ok-clause-said : goal.returns-in-Ok-clause-said
returns-in-Ok-clause-said g c =
    let read = c.in-Ok.read in
    says_given (Pegged c.args.file.now) pegged_word c.args.model.now c.args.plan.now c.args.file.now read.instance read.plan read.cost (g.S.Shelf.shown c.args.shelf.now) (g.S.Shelf.shown c.read_feasible.new.shelf) (g.S.Shelf.shown c.write_pegged.new.shelf) c.write_pegged.result c.in-Ok.ensures.holds c.in-Ok.ensures.feasible c.read_feasible.ensures.reads c.write_pegged.ensures.said

pub returns-in-Ok-clause-memory : goal.returns-in-Ok-clause-memory
returns-in-Ok-clause-memory g c = memory_after (g.S.Shelf.shown c.args.shelf.now) (g.S.Shelf.shown c.read_feasible.new.shelf) (g.S.Shelf.shown c.write_pegged.new.shelf) c.write_pegged.result c.read_feasible.ensures.reads c.write_pegged.ensures.memory

pub returns-in-Err-Judged-clause-said : goal.returns-in-Err-Judged-clause-said
returns-in-Err-Judged-clause-said g c =
    let none = rw (c.in-Err-Judged.field-0-is) at c.in-Err-Judged.ensures.stop in
    says_none (Pegged c.args.file.now) pegged_word c.args.model.now c.args.plan.now c.args.file.now (g.S.Shelf.shown c.args.shelf.now) (g.S.Shelf.shown c.read_feasible.new.shelf) (judge_meant c.in-Err-Judged.answer) c.answer_line.result none c.read_feasible.ensures.reads c.answer_line.ensures

pub returns-in-Ok-clause-found : goal.returns-in-Ok-clause-found
returns-in-Ok-clause-found g c =
    let read = c.in-Ok.read in
    extract_fetch (g.S.Shelf.shown c.args.shelf.now) (g.S.Shelf.shown c.write_pegged.new.shelf) (g.S.Shelf.shown c.read_feasible.new.shelf) (g.S.Shelf.shown c.write_pegged.new.shelf) (Pegged c.args.file.now) pegged_word read.instance (plan_of read.plan) c.args.file.now c.write_pegged.result c.write_pegged.ensures.said (finds_on c.in-Ok.ensures.found c.write_pegged.ensures.found)

pub returns-in-Err-Judged-clause-found : goal.returns-in-Err-Judged-clause-found
returns-in-Err-Judged-clause-found g c =
    let answer = judge_meant c.in-Err-Judged.answer in
    fetches_said (g.S.Shelf.shown c.args.shelf.now) (g.S.Shelf.shown c.read_feasible.new.shelf) (judge_line answer) (judge_status answer) c.answer_line.result c.answer_line.ensures (rw (c.in-Err-Judged.field-0-is) at c.in-Err-Judged.ensures.stopped)

pub returns-in-Ok-clause-appended : goal.returns-in-Ok-clause-appended
returns-in-Ok-clause-appended g c = appends_after (c.args.file.now ∷ []) (g.S.Shelf.shown c.args.shelf.now) (g.S.Shelf.shown c.read_feasible.new.shelf) (g.S.Shelf.shown c.write_pegged.new.shelf) c.write_pegged.result c.read_feasible.ensures.reads c.write_pegged.ensures.appended

pub returns-in-Err-Judged-clause-appended : goal.returns-in-Err-Judged-clause-appended
returns-in-Err-Judged-clause-appended g c = reads_append (c.args.file.now ∷ []) (g.S.Shelf.shown c.args.shelf.now) (g.S.Shelf.shown c.read_feasible.new.shelf) c.answer_line.result c.read_feasible.ensures.reads

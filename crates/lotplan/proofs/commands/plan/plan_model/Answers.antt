use Rattle.std.proofs.Common.{IfOk, ap, option_map, subst, [], ◌∷◌}
use Rattle.lotplan.specs.Planning.{WriteSays}
use Rattle.command_line.specs.Meant.{search_by}
use Rattle.lotplan.specs.Reading.{read_meant, read_line, read_status}
use Rattle.lotplan.proofs.Writings.{memory_after}
use Rattle.lotplan.proofs.Planned.{says_model, says_stop}
use Rattle.lot_io.proofs.Frames.{finds_on}
use Rattle.lotplan.proofs.Fetched.{fetches_said, written_fetch}
use Rattle.lotplan.proofs.Appended.{appends_after, reads_append}
use Rattle.lotplan.proofs.commands.plan.plan_model.Goals as goal

pub returns-in-Ok-clause-said : goal.returns-in-Ok-clause-said
returns-in-Ok-clause-said g c =
    let names = c.args.names in
    let none = ap (λ s. option_map (λ f. f.now) s) c.requires.start in
    let mid = g.S.Shelf.shown c.read_model.new.shelf in
    let new = g.S.Shelf.shown c.plan_instance.new.shelf in
    let says = subst (λ k. IfOk c.plan_instance.result (WriteSays c.in-Ok.instance k names.plan.now names.certificate.now mid new)) c.sought_by.ensures c.plan_instance.ensures.said in
    says_model names.model.now names.plan.now names.certificate.now (search_by c.args.search) c.in-Ok.instance (g.S.Shelf.shown c.args.shelf.now) (g.S.Shelf.shown c.read_model.new.shelf) (g.S.Shelf.shown c.plan_instance.new.shelf) none c.in-Ok.ensures.ok c.read_model.ensures.reads c.plan_instance.result says

pub returns-in-Ok-clause-memory : goal.returns-in-Ok-clause-memory
returns-in-Ok-clause-memory g c = memory_after (g.S.Shelf.shown c.args.shelf.now) (g.S.Shelf.shown c.read_model.new.shelf) (g.S.Shelf.shown c.plan_instance.new.shelf) c.plan_instance.result c.read_model.ensures.reads c.plan_instance.ensures.memory

pub returns-in-Err-Answered-clause-said : goal.returns-in-Err-Answered-clause-said
returns-in-Err-Answered-clause-said g c =
    let names = c.args.names in
    let none = ap (λ s. option_map (λ f. f.now) s) c.requires.start in
    says_stop names.model.now names.plan.now names.certificate.now (search_by c.args.search) (g.S.Shelf.shown c.args.shelf.now) (g.S.Shelf.shown c.read_model.new.shelf) (read_meant c.in-Err-Answered.why) c.answer_line.result none (rw (c.in-Err-Answered.field-0-is) at c.in-Err-Answered.ensures.stop) c.read_model.ensures.reads c.answer_line.ensures

pub returns-in-Ok-clause-found : goal.returns-in-Ok-clause-found
returns-in-Ok-clause-found g c =
    let names = c.args.names in
    written_fetch (g.S.Shelf.shown c.args.shelf.now) (g.S.Shelf.shown c.plan_instance.new.shelf) (g.S.Shelf.shown c.read_model.new.shelf) (g.S.Shelf.shown c.plan_instance.new.shelf) c.in-Ok.instance c.sought_by.result names.plan.now names.certificate.now c.plan_instance.result c.plan_instance.ensures.said (finds_on c.in-Ok.ensures.found c.plan_instance.ensures.found)

pub returns-in-Err-Answered-clause-found : goal.returns-in-Err-Answered-clause-found
returns-in-Err-Answered-clause-found g c =
    let why = read_meant c.in-Err-Answered.why in
    fetches_said (g.S.Shelf.shown c.args.shelf.now) (g.S.Shelf.shown c.read_model.new.shelf) (read_line why) (read_status why) c.answer_line.result c.answer_line.ensures (rw (c.in-Err-Answered.field-0-is) at c.in-Err-Answered.ensures.stopped)

pub returns-in-Ok-clause-appended : goal.returns-in-Ok-clause-appended
returns-in-Ok-clause-appended g c = appends_after (c.args.names.plan.now ∷ c.args.names.certificate.now ∷ []) (g.S.Shelf.shown c.args.shelf.now) (g.S.Shelf.shown c.read_model.new.shelf) (g.S.Shelf.shown c.plan_instance.new.shelf) c.plan_instance.result c.read_model.ensures.reads c.plan_instance.ensures.appended

pub returns-in-Err-Answered-clause-appended : goal.returns-in-Err-Answered-clause-appended
returns-in-Err-Answered-clause-appended g c = reads_append (c.args.names.plan.now ∷ c.args.names.certificate.now ∷ []) (g.S.Shelf.shown c.args.shelf.now) (g.S.Shelf.shown c.read_model.new.shelf) c.answer_line.result c.read_model.ensures.reads

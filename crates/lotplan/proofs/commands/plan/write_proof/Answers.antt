use Rattle.std.proofs.Common.{◌<◌, length, sym, subst, arith, [], ◌∷◌}
use Rattle.certificate.specs.Limits.{IsTextOf}
use Rattle.certificate.specs.Shapes.{shape_of}
use Rattle.stream_check.specs.Streams.{too_many}
use Rattle.lotplan.specs.Planning.{plan_meant, plan_line, unwritten}
use Rattle.lotplan.proofs.Proved.{says_proved, says_unproved}
use Rattle.lotplan.proofs.Writings.{stopped_one, written_one}
use Rattle.lotplan.proofs.Appended.{second_appends, unwritten_appends}
use Rattle.lotplan.proofs.commands.plan.write_proof.Goals as goal

pub returns-in-Ok-clause-said : goal.returns-in-Ok-clause-said
returns-in-Ok-clause-said g c =
    let found = c.args.found.now in
    let is = c.requires.found in
    let bytes = c.as_slice.result.now in
    let old = g.S.Shelf.shown c.args.shelf.now in
    let new = g.S.Shelf.shown c.write_all.new.shelf in
    let text = subst (λ b. IsTextOf b (shape_of found.certificate)) (sym c.as_slice.ensures.value) (c.in_ok-proof.ensures.means is.proved.writable) in
    let short : length bytes < too_many = omega arith in
    says_proved c.args.instance.now c.args.sought found is c.args.plan.now c.args.certificate.now c.requires.apart bytes text short c.requires.none old new (plan_meant c.answer_of.result) c.in_ok-written.written c.answer_of.ensures c.in_ok-written.ensures (written_one c.args.certificate.now bytes old new c.in-Ok.ensures.all)

pub returns-clause-said : goal.returns-clause-said
returns-clause-said g c =
    let found = c.args.found.now in
    let is = c.requires.found in
    let bytes = c.as_slice.result.now in
    let old = g.S.Shelf.shown c.args.shelf.now in
    let new = g.S.Shelf.shown c.write_all.new.shelf in
    let text = subst (λ b. IsTextOf b (shape_of found.certificate)) (sym c.as_slice.ensures.value) (c.in_ok-proof.ensures.means is.proved.writable) in
    let short : length bytes < too_many = omega arith in
    says_unproved c.args.instance.now c.args.sought found is c.args.plan.now c.args.certificate.now c.requires.apart bytes text short c.requires.none old new c.in_ok-unproved.unproved c.in_ok-unproved.ensures (stopped_one c.in-Err.field-0 c.args.certificate.now bytes old new c.in-Err.ensures.stops)

pub returns-in-Ok-clause-appended : goal.returns-in-Ok-clause-appended
returns-in-Ok-clause-appended g c = second_appends c.args.plan.now c.args.certificate.now c.as_slice.result.now (g.S.Shelf.shown c.args.shelf.now) (g.S.Shelf.shown c.write_all.new.shelf) c.in_ok-written.written.status c.in-Ok.ensures.all

pub returns-clause-appended : goal.returns-clause-appended
returns-clause-appended g c = unwritten_appends (c.args.plan.now ∷ c.args.certificate.now ∷ []) (g.S.Shelf.shown c.args.shelf.now) (g.S.Shelf.shown c.write_all.new.shelf) (plan_line (unwritten c.args.certificate.now)) c.in_ok-unproved.unproved c.in_ok-unproved.ensures

use Rattle.std.proofs.Common.{◌<◌, [], ◌∷◌, length, sym, subst, arith}
use Rattle.instance_reader.specs.Written.{IsModelText}
use Rattle.certificate.specs.Limits.{IsTextOf}
use Rattle.certificate.specs.Shapes.{shape_of}
use Rattle.stream_check.specs.Streams.{too_many}
use Rattle.lotplan.proofs.Continued.{model_lost, proof_lost, two_written}
use Rattle.lotplan.proofs.Writings.{stops_first}
use Rattle.lotplan.specs.Planning.{plan_line, unwritten}
use Rattle.lotplan.proofs.Appended.{ends_append, unwritten_appends}
use Rattle.lotplan.proofs.commands.replanning.write_two.Goals as goal

pub returns-in-Ok-clause-said : goal.returns-in-Ok-clause-said
returns-in-Ok-clause-said g c =
    let rest = c.args.rest.now in
    let names = c.args.names in
    let found = c.args.found.now in
    let is = c.requires.found in
    let model = c.as_slice.result.now in
    let proof = c.as_slice-2.result.now in
    let old = g.S.Shelf.shown c.args.shelf.now in
    let new = g.S.Shelf.shown c.write_all.new.shelf in
    let written = subst (λ b. IsModelText rest.instance b) (sym c.as_slice.ensures.value) c.in_ok-model.ensures in
    let text = subst (λ b. IsTextOf b (shape_of found.certificate)) (sym c.as_slice-2.ensures.value) (c.in_ok-proof.ensures.means is.proved.writable) in
    let short : length proof < too_many = omega arith in
    two_written rest c.args.budget found is names.next_model.now names.next_plan.now names.certificate.now c.requires.apart model written (c.texts_mean_it.ensures model written) proof text short old new c.requires.none c.in_ok-written.written c.in_ok-written.ensures c.in-Ok.ensures.all

pub returns-in-Err-eq0-clause-said : goal.returns-in-Err-eq0-clause-said
returns-in-Err-eq0-clause-said g c =
    let rest = c.args.rest.now in
    let names = c.args.names in
    let found = c.args.found.now in
    let is = c.requires.found in
    let model = c.as_slice.result.now in
    let proof = c.as_slice-2.result.now in
    let old = g.S.Shelf.shown c.args.shelf.now in
    let new = g.S.Shelf.shown c.write_all.new.shelf in
    let written = subst (λ b. IsModelText rest.instance b) (sym c.as_slice.ensures.value) c.in_ok-model.ensures in
    let text = subst (λ b. IsTextOf b (shape_of found.certificate)) (sym c.as_slice-2.ensures.value) (c.in_ok-proof.ensures.means is.proved.writable) in
    let short : length proof < too_many = omega arith in
    let lost = stops_first c.in-Err-eq0.field-0 names.next_model.now model ((names.certificate.now, proof) ∷ []) old new (omega arith) c.in-Err-eq0.ensures.stops in
    model_lost rest c.args.budget found is names.next_model.now names.next_plan.now names.certificate.now c.requires.apart model written (c.texts_mean_it.ensures model written) proof text short old new c.in_ok-unmodelled.unmodelled c.in_ok-unmodelled.ensures lost

pub returns-clause-said : goal.returns-clause-said
returns-clause-said g c =
    let rest = c.args.rest.now in
    let names = c.args.names in
    let found = c.args.found.now in
    let is = c.requires.found in
    let model = c.as_slice.result.now in
    let proof = c.as_slice-2.result.now in
    let old = g.S.Shelf.shown c.args.shelf.now in
    let new = g.S.Shelf.shown c.write_all.new.shelf in
    let written = subst (λ b. IsModelText rest.instance b) (sym c.as_slice.ensures.value) c.in_ok-model.ensures in
    let text = subst (λ b. IsTextOf b (shape_of found.certificate)) (sym c.as_slice-2.ensures.value) (c.in_ok-proof.ensures.means is.proved.writable) in
    let short : length proof < too_many = omega arith in
    proof_lost rest c.args.budget found is names.next_model.now names.next_plan.now names.certificate.now c.requires.apart model written (c.texts_mean_it.ensures model written) proof text short old new c.requires.none c.in-Err.field-0 c.in_ok-unproved.unproved c.in_ok-unproved.ensures (λ e. omega (arith, e)) c.in-Err.ensures.stops

pub returns-in-Ok-clause-appended : goal.returns-in-Ok-clause-appended
returns-in-Ok-clause-appended g c = ends_append c.args.names.next_model.now c.as_slice.result.now c.args.names.next_plan.now c.args.names.certificate.now c.as_slice-2.result.now (g.S.Shelf.shown c.args.shelf.now) (g.S.Shelf.shown c.write_all.new.shelf) c.in_ok-written.written.status c.requires.apart c.in-Ok.ensures.all

pub returns-in-Err-eq0-clause-appended : goal.returns-in-Err-eq0-clause-appended
returns-in-Err-eq0-clause-appended g c = unwritten_appends (c.args.names.next_model.now ∷ c.args.names.next_plan.now ∷ c.args.names.certificate.now ∷ []) (g.S.Shelf.shown c.args.shelf.now) (g.S.Shelf.shown c.write_all.new.shelf) (plan_line (unwritten c.args.names.next_model.now)) c.in_ok-unmodelled.unmodelled c.in_ok-unmodelled.ensures

pub returns-clause-appended : goal.returns-clause-appended
returns-clause-appended g c = unwritten_appends (c.args.names.next_model.now ∷ c.args.names.next_plan.now ∷ c.args.names.certificate.now ∷ []) (g.S.Shelf.shown c.args.shelf.now) (g.S.Shelf.shown c.write_all.new.shelf) (plan_line (unwritten c.args.names.certificate.now)) c.in_ok-unproved.unproved c.in_ok-unproved.ensures

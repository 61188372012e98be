use Rattle.std.proofs.Common.{◌<◌, ◌≤◌, ◌∙◌, length, sym, subst, arith, [], ◌∷◌}
use Rattle.plan_rules.specs.Held.{plan_of}
use Rattle.plan_file.specs.Records.{IsPlanOf, records_of}
use Rattle.certificate.specs.Limits.{IsTextOf}
use Rattle.certificate.specs.Shapes.{shape_of}
use Rattle.stream_check.specs.Streams.{too_many}
use Rattle.lotplan.specs.Planning.{plan_meant, plan_line, unwritten}
use Rattle.lotplan.specs.Reading.{file_limit}
use Rattle.lotplan.proofs.Proved.{says_planned, says_uncertified, says_unplanned}
use Rattle.lotplan.proofs.Writings.{stopped_first, stopped_second, written_two}
use Rattle.lotplan.proofs.Appended.{both_append, unwritten_appends}
use Rattle.lotplan.proofs.commands.plan.write_both.Goals as goal

pub returns-in-Ok-clause-said : goal.returns-in-Ok-clause-said
returns-in-Ok-clause-said g c =
    let m = c.args.instance.now in
    let found = c.args.found.now in
    let is = c.requires.found in
    let plan = c.args.chosen.now in
    let p = c.args.plan.now in
    let name = c.args.certificate.now in
    let records = c.as_slice.result.now in
    let bytes = c.as_slice-2.result.now in
    let value = c.as_slice.ensures.value in
    let old = g.S.Shelf.shown c.args.shelf.now in
    let new = g.S.Shelf.shown c.write_all.new.shelf in
    let text = subst (λ b. IsTextOf b (shape_of found.certificate)) (sym c.as_slice-2.ensures.value) (c.in_ok-proof.ensures.means is.proved.writable) in
    let short : length bytes < too_many = omega arith in
    let are = value ∙ c.in_ok-bytes.ensures.text in
    let read = subst (λ b. IsPlanOf m (records_of b) (plan_of plan)) (sym value) c.in_ok-bytes.ensures.read in
    let few = subst (λ b. length b ≤ file_limit) (sym value) c.in_ok-bytes.ensures.short in
    let (mid, first, second) = written_two p records name bytes old new c.in-Ok.ensures.all in
    says_planned m c.args.sought found is p name c.requires.apart bytes text short plan c.requires.chosen records are read few old mid new first (plan_meant c.answer_of.result) c.in_ok-written.written c.answer_of.ensures c.in_ok-written.ensures second

pub returns-in-Err-eq0-clause-said : goal.returns-in-Err-eq0-clause-said
returns-in-Err-eq0-clause-said g c =
    let m = c.args.instance.now in
    let found = c.args.found.now in
    let is = c.requires.found in
    let plan = c.args.chosen.now in
    let p = c.args.plan.now in
    let name = c.args.certificate.now in
    let records = c.as_slice.result.now in
    let bytes = c.as_slice-2.result.now in
    let value = c.as_slice.ensures.value in
    let old = g.S.Shelf.shown c.args.shelf.now in
    let new = g.S.Shelf.shown c.write_all.new.shelf in
    let text = subst (λ b. IsTextOf b (shape_of found.certificate)) (sym c.as_slice-2.ensures.value) (c.in_ok-proof.ensures.means is.proved.writable) in
    let short : length bytes < too_many = omega arith in
    let are = value ∙ c.in_ok-bytes.ensures.text in
    let read = subst (λ b. IsPlanOf m (records_of b) (plan_of plan)) (sym value) c.in_ok-bytes.ensures.read in
    let few = subst (λ b. length b ≤ file_limit) (sym value) c.in_ok-bytes.ensures.short in
    says_unplanned m c.args.sought found is p name c.requires.apart bytes text short plan c.requires.chosen records are read few old new c.in_ok-unplanned.unplanned c.in_ok-unplanned.ensures (stopped_first c.in-Err-eq0.field-0 p records name bytes old new (omega arith) c.in-Err-eq0.ensures.stops)

pub returns-clause-said : goal.returns-clause-said
returns-clause-said g c =
    let m = c.args.instance.now in
    let found = c.args.found.now in
    let is = c.requires.found in
    let plan = c.args.chosen.now in
    let p = c.args.plan.now in
    let name = c.args.certificate.now in
    let records = c.as_slice.result.now in
    let bytes = c.as_slice-2.result.now in
    let value = c.as_slice.ensures.value in
    let old = g.S.Shelf.shown c.args.shelf.now in
    let new = g.S.Shelf.shown c.write_all.new.shelf in
    let text = subst (λ b. IsTextOf b (shape_of found.certificate)) (sym c.as_slice-2.ensures.value) (c.in_ok-proof.ensures.means is.proved.writable) in
    let short : length bytes < too_many = omega arith in
    let are = value ∙ c.in_ok-bytes.ensures.text in
    let read = subst (λ b. IsPlanOf m (records_of b) (plan_of plan)) (sym value) c.in_ok-bytes.ensures.read in
    let few = subst (λ b. length b ≤ file_limit) (sym value) c.in_ok-bytes.ensures.short in
    let (mid, first, lost) = stopped_second c.in-Err.field-0 p records name bytes old new (λ e. omega (arith, e)) c.in-Err.ensures.stops in
    says_uncertified m c.args.sought found is p name c.requires.apart bytes text short plan c.requires.chosen records are read few old mid new first c.in_ok-unproved.unproved c.in_ok-unproved.ensures lost

pub returns-in-Ok-clause-appended : goal.returns-in-Ok-clause-appended
returns-in-Ok-clause-appended g c = both_append c.args.plan.now c.as_slice.result.now c.args.certificate.now c.as_slice-2.result.now (g.S.Shelf.shown c.args.shelf.now) (g.S.Shelf.shown c.write_all.new.shelf) c.in_ok-written.written.status c.requires.apart c.in-Ok.ensures.all

pub returns-in-Err-eq0-clause-appended : goal.returns-in-Err-eq0-clause-appended
returns-in-Err-eq0-clause-appended g c = unwritten_appends (c.args.plan.now ∷ c.args.certificate.now ∷ []) (g.S.Shelf.shown c.args.shelf.now) (g.S.Shelf.shown c.write_all.new.shelf) (plan_line (unwritten c.args.plan.now)) c.in_ok-unplanned.unplanned c.in_ok-unplanned.ensures

pub returns-clause-appended : goal.returns-clause-appended
returns-clause-appended g c = unwritten_appends (c.args.plan.now ∷ c.args.certificate.now ∷ []) (g.S.Shelf.shown c.args.shelf.now) (g.S.Shelf.shown c.write_all.new.shelf) (plan_line (unwritten c.args.certificate.now)) c.in_ok-unproved.unproved c.in_ok-unproved.ensures

use Rattle.std.proofs.Common.{◌≡◌, ◌+◌, arith, map, subst, sym}
use Rattle.std.proofs.lemmas.List.{length-map}
use Rattle.csv.specs.Records.{fields_of}
use Rattle.csv_records.specs.Records.{record_at}
use Rattle.lot_schedule.specs.Records.{IsRow, IsRowOf}
use Rattle.csv_records.proofs.Rows.{record_is}
use Rattle.lot_schedule.proofs.Rowed.{AreReadTo, first_bad, read_all, read_more}
use Rattle.lot_schedule.proofs.reading.read_rows.Goals as goal

pub loop-place-preserved : goal.loop-place-preserved
loop-place-preserved c =
    let m = c.args.instance.now in
    let rs = map fields_of c.args.rows.now in
    let n = c.loop-place.place in
    let e : record_at rs n ≡ fields_of c.index-rows-place.result = record_is c.args.rows.now n c.index-rows-place.result c.loop-place-test.true c.index-rows-place.is in
    subst (λ xs. AreReadTo m rs xs (n + 1)) (sym c.in_ok-push-in-Some.ensures.items) (read_more m rs c.loop-place.slots.items n c.in-Some.slot c.loop-place.invariant (subst (IsRowOf m c.in-Some.slot) (sym e) c.in-Some.ensures.found))

pub returns-in-None-clause-refused : goal.returns-in-None-clause-refused
returns-in-None-clause-refused c =
    let m = c.args.instance.now in
    let rs = map fields_of c.args.rows.now in
    let n = c.loop-place.place in
    let e : record_at rs n ≡ fields_of c.index-rows-place.result = record_is c.args.rows.now n c.index-rows-place.result c.loop-place-test.true c.index-rows-place.is in
    (c.requires, first_bad m rs c.loop-place.slots.items n c.loop-place.invariant (omega (arith, length-map c.args.rows.now fields_of, c.loop-place-test.true)) (λ bad. c.in-None.ensures.none (subst (IsRow m) e bad)))

pub returns-clause-slots : goal.returns-clause-slots
returns-clause-slots c =
    let m = c.args.instance.now in
    let rs = map fields_of c.args.rows.now in
    read_all m rs c.loop-place.slots.items c.loop-place.place c.requires c.loop-place.invariant (omega (arith, length-map c.args.rows.now fields_of, c.requires.there, c.loop-place-test.false, c.loop-place.auto.place-end))

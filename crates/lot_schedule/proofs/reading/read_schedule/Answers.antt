use Rattle.std.proofs.Common.{◌≡◌, ◌∙◌, ap, map, refl, rules, subst, sym}
use Rattle.csv.specs.Records.{fields_of}
use Rattle.csv_records.specs.Records.{records_of}
use Rattle.lot_schedule.specs.Records.{AreRowsOf, HasHeader}
use Rattle.lot_schedule.specs.Faults.{IsSlotFault}
use Rattle.lot_schedule.proofs.reading.read_schedule.Goals as goal

pub read_rows-requires : goal.read_rows-requires
read_rows-requires c = subst (λ rows. HasHeader (map fields_of rows)) (c.deref.ensures.value ∙ sym c.deref-2.ensures.value) (c.if-not-has_header.ensures.0 refl)

pub returns-clause-slots : goal.returns-clause-slots
returns-clause-slots c =
    let e : map fields_of c.deref-2.result.now ≡ records_of c.args.bytes.now = ap (map fields_of) c.deref-2.ensures.value ∙ c.in_ok-rows.ensures in
    subst (λ rs. AreRowsOf c.args.instance.now rs c.in_ok-slots.slots.items) e c.in_ok-slots.ensures.slots

pub returns-clause-exist : goal.returns-clause-exist
returns-clause-exist c = λ n less. (c.in_ok-slots.ensures.slots.each n less).exists

pub returns-in_err-slots-clause-refused : goal.returns-in_err-slots-clause-refused
returns-in_err-slots-clause-refused c =
    let e : map fields_of c.deref-2.result.now ≡ records_of c.args.bytes.now = ap (map fields_of) c.deref-2.ensures.value ∙ c.in_ok-rows.ensures in
    let why : IsSlotFault c.args.instance.now (records_of c.args.bytes.now) c.in_err-slots.field-0.0 = subst (λ rs. IsSlotFault c.args.instance.now rs c.in_err-slots.field-0.0) e c.in_err-slots.ensures.refused in
    search (rules, why)

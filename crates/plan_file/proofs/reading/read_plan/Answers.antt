use Rattle.std.proofs.Common.{◌≡◌, ◌+◌, ◌*◌, ◌∙◌, ap, arith, map, rules, sym, subst, length, refl, take}
use Rattle.std.proofs.lemmas.List.{length-map}
use Rattle.csv.specs.Records.{fields_of}
use Rattle.lot_sizing.specs.Problem.{item_count}
use Rattle.plan_rules.specs.Held.{plan_of}
use Rattle.csv_records.specs.Records.{records_of}
use Rattle.plan_file.specs.Records.{HasHeader}
use Rattle.plan_file.specs.Faults.{IsPlanFault}
use Rattle.plan_file.proofs.Fronts.{more_fault, plan_read, rows_fault}
use Rattle.plan_file.proofs.reading.read_plan.Goals as goal

pub returns-in_err-read_records-clause-refused : goal.returns-in_err-read_records-clause-refused
returns-in_err-read_records-clause-refused c =
    let m = c.args.instance.now in
    let n = c.items-items.result * c.periods-periods.result + 2 in
    let rs = map fields_of c.deref-2.result.now in
    let front : rs ≡ take n (records_of c.args.bytes.now) = ap (map fields_of) c.deref-2.ensures.value ∙ c.in_ok-rows.ensures in
    let size : n ≡ item_count m * m.periods + 2 = rw (c.items-items.ensures.value, c.periods-periods.ensures.value) refl in
    let header : HasHeader rs = subst (λ rows. HasHeader (map fields_of rows)) (c.deref.ensures.value ∙ sym c.deref-2.ensures.value) (c.if-not-has_header.ensures.0 refl) in
    let why : IsPlanFault m (records_of c.args.bytes.now) c.in_err-read_records.field-0.0 = rows_fault m n rs (records_of c.args.bytes.now) front size header c.in_err-read_records.field-0.0 c.in_err-read_records.ensures.refused in
    search (rules, why)

pub returns-then-len-count-clause-refused : goal.returns-then-len-count-clause-refused
returns-then-len-count-clause-refused c =
    let m = c.args.instance.now in
    let n = c.items-items.result * c.periods-periods.result + 2 in
    let rs = map fields_of c.deref-2.result.now in
    let front : rs ≡ take n (records_of c.args.bytes.now) = ap (map fields_of) c.deref-2.ensures.value ∙ c.in_ok-rows.ensures in
    let size : n ≡ item_count m * m.periods + 2 = rw (c.items-items.ensures.value, c.periods-periods.ensures.value) refl in
    let header : HasHeader rs = subst (λ rows. HasHeader (map fields_of rows)) (c.deref.ensures.value ∙ sym c.deref-2.ensures.value) (c.if-not-has_header.ensures.0 refl) in
    more_fault m n rs (records_of c.args.bytes.now) (plan_of c.read_records.new.plan) front size header c.in_ok-read_records.ensures.read (λ count. c.if-len-count.true (omega (arith, count, size, length-map c.deref-2.result.now fields_of, ap length c.deref-2.ensures.value, c.len.ensures)))

pub returns-clause-plan : goal.returns-clause-plan
returns-clause-plan c =
    let m = c.args.instance.now in
    let n = c.items-items.result * c.periods-periods.result + 2 in
    let rs = map fields_of c.deref-2.result.now in
    let front : rs ≡ take n (records_of c.args.bytes.now) = ap (map fields_of) c.deref-2.ensures.value ∙ c.in_ok-rows.ensures in
    let size : n ≡ item_count m * m.periods + 2 = rw (c.items-items.ensures.value, c.periods-periods.ensures.value) refl in
    let header : HasHeader rs = subst (λ rows. HasHeader (map fields_of rows)) (c.deref.ensures.value ∙ sym c.deref-2.ensures.value) (c.if-not-has_header.ensures.0 refl) in
    plan_read m n rs (records_of c.args.bytes.now) (plan_of c.read_records.new.plan) front size header c.in_ok-read_records.ensures.read (omega (arith, c.if-len-count.false, size, length-map c.deref-2.result.now fields_of, ap length c.deref-2.ensures.value, c.len.ensures))

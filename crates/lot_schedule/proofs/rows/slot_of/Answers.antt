use Rattle.std.proofs.Common.{◌≡◌, ◌∙◌, arith, rules, length, sym}
use Rattle.csv.specs.Records.{fields_of}
use Rattle.lot_schedule.specs.Records.{IsRow}
use Rattle.lot_schedule.proofs.Fields.{no_end, no_item, no_period, no_resource, no_start, row_is}
use Rattle.lot_schedule.proofs.rows.slot_of.Goals as goal

pub returns-in_err-resource-clause-none : goal.returns-in_err-resource-clause-none
returns-in_err-resource-clause-none c =
    let why : IsRow c.args.instance.now (fields_of c.args.row.now) → ⊥ = no_resource c.args.instance.now (fields_of c.args.row.now) c.field.result.now c.field.ensures c.in_err-resource.ensures.none in
    search (rules, why)

pub returns-in_err-period-clause-none : goal.returns-in_err-period-clause-none
returns-in_err-period-clause-none c =
    let why : IsRow c.args.instance.now (fields_of c.args.row.now) → ⊥ = no_period c.args.instance.now (fields_of c.args.row.now) c.field-2.result.now c.field-2.ensures c.in_err-period.ensures.none in
    search (rules, why)

pub returns-in_err-item-clause-none : goal.returns-in_err-item-clause-none
returns-in_err-item-clause-none c =
    let why : IsRow c.args.instance.now (fields_of c.args.row.now) → ⊥ = no_item c.args.instance.now (fields_of c.args.row.now) c.field-3.result.now c.field-3.ensures c.in_err-item.ensures.none in
    search (rules, why)

pub returns-in_err-start-clause-none : goal.returns-in_err-start-clause-none
returns-in_err-start-clause-none c =
    let why : IsRow c.args.instance.now (fields_of c.args.row.now) → ⊥ = no_start c.args.instance.now (fields_of c.args.row.now) c.field-4.result.now c.field-4.ensures c.in_err-start.ensures.unwritten in
    search (rules, why)

pub returns-in_err-end-clause-none : goal.returns-in_err-end-clause-none
returns-in_err-end-clause-none c =
    let why : IsRow c.args.instance.now (fields_of c.args.row.now) → ⊥ = no_end c.args.instance.now (fields_of c.args.row.now) c.field-5.result.now c.field-5.ensures c.in_err-end.ensures.unwritten in
    search (rules, why)

pub returns-clause-found : goal.returns-clause-found
returns-clause-found c =
    let size : length (fields_of c.args.row.now) ≡ 5 = omega (arith, c.if-len-ne5.false, c.len.ensures) in
    record {
      exists = record {
        resource_low = c.in_ok-resource.ensures.found.0;
        resource_high = c.in_ok-resource.ensures.found.1;
        period_low = c.in_ok-period.ensures.found.0;
        period_high = c.in_ok-period.ensures.found.1;
        item_low = c.in_ok-item.ensures.found.0;
        item_high = c.in_ok-item.ensures.found.1;
      };
      start = omega (arith, c.in_ok-start.ensures.some.0.fits, c.in_ok-start.ensures.some.1);
      end = omega (arith, c.in_ok-end.ensures.some.0.fits, c.in_ok-end.ensures.some.1);
      row = row_is c.args.instance.now (record { resource = c.in_ok-resource.resource; period = c.in_ok-period.period; item = c.in_ok-item.item; start = c.in_ok-start.start; end = c.in_ok-end.end }) (fields_of c.args.row.now) (record {
        size = size;
        resource = sym c.field.ensures ∙ c.in_ok-resource.ensures.found.2;
        period = sym c.field-2.ensures ∙ c.in_ok-period.ensures.found.2;
        item = sym c.field-3.ensures ∙ c.in_ok-item.ensures.found.2;
        start = sym c.field-4.ensures ∙ c.in_ok-start.ensures.written;
        end = sym c.field-5.ensures ∙ c.in_ok-end.ensures.written;
      });
    }

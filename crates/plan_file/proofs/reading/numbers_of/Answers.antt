use Rattle.std.proofs.Common.{◌∙◌, ap, subst}
use Rattle.std.specs.Str.Parse.{digits_value}
use Rattle.csv.specs.Records.{fields_of}
use Rattle.csv_records.specs.Records.{IsNumber}
use Rattle.plan_file.proofs.Fields.{four}
use Rattle.plan_file.proofs.reading.numbers_of.Goals as goal

pub returns-clause-ok : goal.returns-clause-ok
returns-clause-ok c =
    let make = c.in-Some.ensures.some in
    let setup = c.in-Some-number.ensures.some in
    let stock = c.in-Some-number-2.ensures.some in
    let backlog = c.in-Some-number-3.ensures.some in
    record {
      all = four (fields_of c.args.row.now) (subst IsNumber c.field.ensures make.0) (subst IsNumber c.field-2.ensures setup.0) (subst IsNumber c.field-3.ensures stock.0) (subst IsNumber c.field-4.ensures backlog.0);
      is_make = make.1 ∙ ap (digits_value 10) c.field.ensures;
      is_setup = setup.1 ∙ ap (digits_value 10) c.field-2.ensures;
      is_stock = stock.1 ∙ ap (digits_value 10) c.field-3.ensures;
      is_backlog = backlog.1 ∙ ap (digits_value 10) c.field-4.ensures;
    }

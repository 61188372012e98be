use Rattle.std.proofs.Common.{◌+◌, ◌-◌, ◌*◌, ◌∙◌, refl, sym, subst, IsTrue, map}
use Rattle.csv.specs.Records.{fields_of}
use Rattle.plan_file.proofs.Places.{IsHere, here}
use Rattle.lot_quantities.specs.Tables.{is_row}
use Rattle.lot_quantities.specs.Faults.{IsFirstBad}
use Rattle.lot_quantities.proofs.Places.{not_row, put_from}
use Rattle.lot_quantities.proofs.reading.read_record.Goals as goal

pub returns-then-not-is_row-clause-refused : goal.returns-then-not-is_row-clause-refused
returns-then-not-is_row-clause-refused c =
    let m = c.args.instance.now in
    let k = c.args.columns in
    let n = (c.args.item - 1) * c.periods.result + c.args.period in
    let r = fields_of c.index-rows-number.result in
    let at : IsHere m (map fields_of c.args.rows.now) c.args.item c.args.period n r = here m c.args.rows.now c.args.item c.args.period c.periods.result n c.index-rows-number.result c.periods.ensures.value refl c.requires.low c.if-number-rows.false c.index-rows-number.is in
    (at.number, at.there, λ yes. not_row m k c.args.item c.args.period r (sym c.is_row.ensures ∙ c.if-not-is_row.true) (subst (λ a. IsTrue (is_row m k c.args.item c.args.period a)) at.same yes))

pub returns-in-Ok-clause-read : goal.returns-in-Ok-clause-read
returns-in-Ok-clause-read c =
    let m = c.args.instance.now in
    let n = (c.args.item - 1) * c.periods.result + c.args.period in
    let r = fields_of c.index-rows-number.result in
    let at : IsHere m (map fields_of c.args.rows.now) c.args.item c.args.period n r = here m c.args.rows.now c.args.item c.args.period c.periods.result n c.index-rows-number.result c.periods.ensures.value refl c.requires.low c.if-number-rows.false c.index-rows-number.is in
    put_from m (map fields_of c.args.rows.now) c.args.columns c.args.item c.args.period n r c.args.into.now c.put.new.into c.in-Ok.lot at (sym c.is_row.ensures ∙ c.if-not-is_row.false) c.in-Ok.ensures.ok c.put.ensures.put

pub returns-in-Err-clause-refused : goal.returns-in-Err-clause-refused
returns-in-Err-clause-refused c =
    let m = c.args.instance.now in
    let k = c.args.columns in
    let n = (c.args.item - 1) * c.periods.result + c.args.period in
    let r = fields_of c.index-rows-number.result in
    let at : IsHere m (map fields_of c.args.rows.now) c.args.item c.args.period n r = here m c.args.rows.now c.args.item c.args.period c.periods.result n c.index-rows-number.result c.periods.ensures.value refl c.requires.low c.if-number-rows.false c.index-rows-number.is in
    (at.number, at.there, subst (λ a. IsTrue (is_row m k c.args.item c.args.period a)) (sym at.same) (sym c.is_row.ensures ∙ c.if-not-is_row.false), subst (λ a. IsFirstBad a k.make k.setup c.in-Err.column) (sym at.same) c.in-Err.ensures.bad)

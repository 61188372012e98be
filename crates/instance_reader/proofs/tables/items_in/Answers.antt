use Rattle.std.proofs.Common.{◌≡◌, ◌+◌, ◌∙◌, Ok, map, rules, sym, ap, subst, arith}
use Rattle.toml.specs.View.{items_view, view}
use Rattle.lot_draft.specs.Raw.{raw_item}
use Rattle.lot_draft.specs.declared.fault.Place.TheVariants.{Root}
use Rattle.lot_draft.specs.declared.fault.Key.TheVariants as key
use Rattle.instance_reader.specs.Tables.{item_read, no_tables, table_read, tables_in}
use Rattle.instance_reader.specs.Reading.{IsWhyNot}
use Rattle.instance_reader.proofs.Lists.{IsSoFar, all_read, more_mapped, none_so_far, why_not}
use Rattle.instance_reader.proofs.tables.items_in.Goals as goal

pub loop-value-init : goal.loop-value-init
loop-value-init c =
    let one = table_read (item_read c.args.version c.args.periods) (no_tables Root key.Item) in
    (omega arith, subst (λ ns. IsSoFar one (map raw_item ns) 0 c.args.list.now) (sym c.new-items.ensures.items) (none_so_far one c.args.list.now))

pub loop-value-preserved : goal.loop-value-preserved
loop-value-preserved c =
    let one = table_read (item_read c.args.version c.args.periods) (no_tables Root key.Item) in
    let k = c.loop-value.value-index in
    let at : c.in_ok-number.number ≡ k + 1 = omega (arith, c.in_ok-number.ensures, c.loop-value.invariant.0) in
    let read : one (k + 1) (view c.value-item.result) ≡ Ok (raw_item c.in_ok-item_in.field-0) = ap (λ n. one n (view c.value-item.result)) (sym at) ∙ c.in_ok-item_in.ensures.ok in
    (omega (arith, at), subst (λ ns. IsSoFar one (map raw_item ns) (k + 1) c.args.list.now) (sym c.in_ok-push.ensures.items) (more_mapped raw_item one c.loop-value.items.items k c.args.list.now c.value-item.result c.in_ok-item_in.field-0 c.loop-value.invariant.1 c.loop-value-test.true c.value-item.is read))

pub returns : goal.returns
returns c = record { ok = all_read (table_read (item_read c.args.version c.args.periods) (no_tables Root key.Item)) (map raw_item c.loop-value.items.items) c.loop-value.value-index c.args.list.now c.loop-value.invariant.1 c.loop-value-test.false; refused = search rules }

pub returns-in_err-item_in-clause-refused : goal.returns-in_err-item_in-clause-refused
returns-in_err-item_in-clause-refused c =
    let one = table_read (item_read c.args.version c.args.periods) (no_tables Root key.Item) in
    let k = c.loop-value.value-index in
    let at : c.in_ok-number.number ≡ k + 1 = omega (arith, c.in_ok-number.ensures, c.loop-value.invariant.0) in
    let why : IsWhyNot (tables_in (item_read c.args.version c.args.periods) (no_tables Root key.Item) (items_view c.args.list.now)) c.in_err-item_in.field-0.0 = why_not one (map raw_item c.loop-value.items.items) k c.in_ok-number.number c.args.list.now c.value-item.result c.in_err-item_in.field-0.0 c.loop-value.invariant.1 c.loop-value-test.true c.value-item.is at c.in_err-item_in.ensures.refused in
    search (rules, why)

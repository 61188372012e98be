use Rattle.std.proofs.Common.{List, ◌++◌, rules}
use Rattle.std.specs.Prelude.{map}
use Rattle.cert_lines.specs.Shapes.{list_shape}
use Rattle.certificate.specs.Dues.{IsFaultFrom, Due, row_dues}
use Rattle.certificate.proofs.Needed.{row_groups_fault, row_lists_fault, row_parts_fault, rows_read}
use Rattle.certificate.proofs.reading.read_reduced.Goals as goal

pub returns-in_err-parts-clause-refused : goal.returns-in_err-parts-clause-refused
returns-in_err-parts-clause-refused c =
    let n = c.args.counts in
    let why : (later : List Due) → IsFaultFrom c.args.version (row_dues n.0 n.1 n.2 ++ later) c.args.rest.now.text.now c.args.rest.now.line c.in_err-parts.field-0.0 = row_parts_fault c.args.rest.now n.0 n.1 n.2 c.in_err-parts.field-0.0 c.in_err-parts.ensures.refused in
    search (rules, why)

pub returns-in_err-lists-clause-refused : goal.returns-in_err-lists-clause-refused
returns-in_err-lists-clause-refused c =
    let n = c.args.counts in
    let why : (later : List Due) → IsFaultFrom c.args.version (row_dues n.0 n.1 n.2 ++ later) c.args.rest.now.text.now c.args.rest.now.line c.in_err-lists.field-0.0 = row_lists_fault c.args.rest.now c.read_parts.new.rest c.in_ok-parts.parts.items n.0 n.1 n.2 c.in_err-lists.field-0.0 c.in_ok-parts.ensures.parts c.in_ok-parts.ensures.count c.in_err-lists.ensures.refused in
    search (rules, why)

pub returns-in_err-groups-clause-refused : goal.returns-in_err-groups-clause-refused
returns-in_err-groups-clause-refused c =
    let n = c.args.counts in
    let why : (later : List Due) → IsFaultFrom c.args.version (row_dues n.0 n.1 n.2 ++ later) c.args.rest.now.text.now c.args.rest.now.line c.in_err-groups.field-0.0 = row_groups_fault c.args.rest.now c.read_parts.new.rest c.read_lists.new.rest c.in_ok-parts.parts.items c.in_ok-lists.lists.items n.0 n.1 n.2 c.in_err-groups.field-0.0 c.in_ok-parts.ensures.parts c.in_ok-parts.ensures.count c.in_ok-lists.ensures.lists c.in_ok-lists.ensures.count c.in_err-groups.ensures.refused in
    search (rules, why)

pub returns-clause-rows : goal.returns-clause-rows
returns-clause-rows c = rows_read c.args.rest.now c.read_parts.new.rest c.read_lists.new.rest c.read_groups.new.rest c.in_ok-parts.parts.items (map list_shape c.in_ok-lists.lists.items) c.in_ok-groups.groups.items c.in_ok-parts.ensures.parts c.in_ok-lists.ensures.lists c.in_ok-groups.ensures.groups

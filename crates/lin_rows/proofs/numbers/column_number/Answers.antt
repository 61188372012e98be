use Rattle.std.proofs.Common.{arith, rules}
use Rattle.lin_rows.specs.Columns.{IsColumn}
use Rattle.lin_rows.proofs.Ranks.{among, numbers_rise}
use Rattle.lin_rows.proofs.numbers.column_number.Goals as goal

pub returns-then-is_column-clause-among : goal.returns-then-is_column-clause-among
returns-then-is_column-clause-among c =
    let is : IsColumn c.args.instance.now c.args.column = search rules in
    let n = among c.args.instance.now c.args.column is in
    (omega (arith, n.0, c.number_of.ensures), omega (arith, n.1, c.number_of.ensures))

pub returns-then-is_column-clause-rising : goal.returns-then-is_column-clause-rising
returns-then-is_column-clause-rising c d is other less = numbers_rise c.args.instance.now c.args.column d c.is_column.ensures.instance.limits is other less

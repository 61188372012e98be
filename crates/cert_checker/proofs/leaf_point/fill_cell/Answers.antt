use Rattle.std.proofs.Common.{refl}
use Rattle.lin_rows.specs.declared.column.Column.TheVariants.{X, Y}
use Rattle.cert_checker.proofs.leaf_point.fill_cell.Goals as goal

pub returns-in_default-clause-open : goal.returns-in_default-clause-open
returns-in_default-clause-open c = λ _. (X c.args.item c.args.period, c.requires.cell, c.in_default.ensures.none refl)

pub returns-in_default-one_value-clause-open : goal.returns-in_default-one_value-clause-open
returns-in_default-one_value-clause-open c = λ _. (Y c.args.item c.args.period, c.requires.cell, c.in_default-one_value.ensures.none refl)

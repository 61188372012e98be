use Rattle.std.proofs.Common.{subst, sym}
use Rattle.lin_rows.specs.declared.column.Column.TheVariants.{Y}
use Rattle.node_setups.specs.Holding.{IsPutOver, held_by}
use Rattle.node_setups.proofs.fixed.Fixed.take.Goals as goal

pub returns-in-Y : goal.returns-in-Y
returns-in-Y c =
    subst (λ column. IsPutOver column (held_by c.args.bound.now.most c.args.bound.now.number c.args.number) c.args.self.now c.put.new.self) (sym c.in-Y.is)
    (subst (λ held. IsPutOver (Y c.in-Y.item c.in-Y.period) held c.args.self.now c.put.new.self) c.held_by-held.ensures c.put.ensures)

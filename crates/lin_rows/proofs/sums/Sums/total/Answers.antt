use Rattle.std.proofs.Common.{◌∙◌, refl, sym, ap, subst}
use Rattle.lin_rows.specs.Sums.{IsTotal, cell_of, sums_in, total_of}
use Rattle.lin_rows.proofs.Cells.{is_in, place_small, read_total}
use Rattle.lin_rows.proofs.sums.Sums.total.Goals as goal

pub index-requires : goal.index-requires
index-requires c =
    let a = c.self.inside in
    let place = c.cell.ensures.value ∙ ap (λ s. cell_of s.items s.periods c.args.column) (sym c.self.view_is) in
    place_small (sums_in a) a.cells.len a.cells.items c.args.column c.cell.result c.self.invariant.size (is_in a.items a.periods c.args.column (sym c.if-has_column_for.ensures)) place a.cells.ok.0

pub returns-then-has_column_for-clause-value : goal.returns-then-has_column_for-clause-value
returns-then-has_column_for-clause-value c =
    let a = c.self.inside in
    let place = c.cell.ensures.value ∙ ap (λ s. cell_of s.items s.periods c.args.column) (sym c.self.view_is) in
    read_total (sums_in a) c.args.column c.cell.result c.index.result.now c.self.invariant.size (is_in a.items a.periods c.args.column (sym c.if-has_column_for.ensures)) place c.index.ensures ∙ ap (λ s. total_of s c.args.column) c.self.view_is

pub returns-then-has_column_for-clause-total : goal.returns-then-has_column_for-clause-total
returns-then-has_column_for-clause-total c =
    let a = c.self.inside in
    let place = c.cell.ensures.value ∙ ap (λ s. cell_of s.items s.periods c.args.column) (sym c.self.view_is) in
    subst IsTotal (sym c.index.ensures) (c.self.invariant.cells c.cell.result c.index.result.now (place_small (sums_in a) _ a.cells.items c.args.column c.cell.result c.self.invariant.size (is_in a.items a.periods c.args.column (sym c.if-has_column_for.ensures)) place refl))

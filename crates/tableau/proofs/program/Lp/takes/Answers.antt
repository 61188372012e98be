use Rattle.std.proofs.Common.{◌≡◌, ◌≤◌, ◌+◌, ap, arith, subst, sym}
use Rattle.std.proofs.lemmas.List.{length-map}
use Rattle.tableau.specs.declared.limits.TheConstants.{MAX_PROGRAM_SIZE}
use Rattle.tableau.specs.Held.{inequality_of}
use Rattle.tableau.specs.Program.{IsProgram, IsRow, column_count, row_count}
use Rattle.tableau.proofs.More.{row_of, row_taken}
use Rattle.tableau.proofs.program.Lp.takes.Goals as goal

pub returns-then-len : goal.returns-then-len
returns-then-len c =
    let p = c.args.self.now in
    let row = inequality_of c.args.row.now in
    let is : IsProgram p = subst IsProgram c.self.view_is c.self.invariant in
    let columns : c.len-then-len.result ≡ column_count p = omega (arith, c.len-then-len.ensures, c.self.inside.costs.ok.0, ap column_count c.self.view_is) in
    let few : column_count p + row_count p + 1 ≤ MAX_PROGRAM_SIZE = omega (arith, c.if-len.true, c.len.ensures, c.len-2.ensures, c.self.inside.costs.ok.0, c.self.inside.rows.ok.0, length-map c.self.inside.rows.items inequality_of, ap column_count c.self.view_is, ap row_count c.self.view_is) in
    (λ yes. row_taken p row is few (subst (λ n. IsRow n row) columns (c.is_row.ensures.0 yes)), λ more. c.is_row.ensures.1 (subst (λ n. IsRow n row) (sym columns) (row_of p row more)))

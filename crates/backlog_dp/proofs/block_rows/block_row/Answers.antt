use Rattle.std.proofs.Common.{rules}
use Rattle.std.specs.Prelude.{IfErr}
use Rattle.echelon_rows.specs.Rows.{echelon_in}
use Rattle.backlog_dp.specs.BlockRow.{IsBlockFault}
use Rattle.backlog_dp.proofs.Testing.{memory_for}
use Rattle.backlog_dp.proofs.block_rows.block_row.Goals as goal

pub returns-in_err-test_blocks-clause-allowed_is_made : goal.returns-in_err-test_blocks-clause-allowed_is_made
returns-in_err-test_blocks-clause-allowed_is_made c =
    let e = c.args.echelon.now in
    let p = c.args.potentials.now in
    let why : IfErr c.from_residual-in_err-test_blocks.result (IsBlockFault (echelon_in e) p) = search rules in
    memory_for (echelon_in e) p c.from_residual-in_err-test_blocks.result why

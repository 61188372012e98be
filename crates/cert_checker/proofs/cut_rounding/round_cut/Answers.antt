use Rattle.std.proofs.Common.{[]}
use Rattle.cert_meaning.specs.Named.{names}
use Rattle.cert_checker.proofs.CutParts.{part_fault}
use Rattle.cert_checker.proofs.cut_rounding.round_cut.Goals as goal

pub returns-in-Err-clause-fault : goal.returns-in-Err-clause-fault
returns-in-Err-clause-fault c = λ total weight totals weights.
    part_fault (names c.args.instance.now total c.args.earlier.now []) c.args.parts.now c.args.line c.in-Err.rejected.line c.in-Err.rejected.why (c.in-Err.ensures.fault total)

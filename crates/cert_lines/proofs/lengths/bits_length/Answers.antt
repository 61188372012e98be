use Rattle.std.proofs.Common.{sym}
use Rattle.cert_lines.proofs.Joins.{bits_length}
use Rattle.cert_lines.proofs.lengths.bits_length.Goals as goal

pub returns-clause-value : goal.returns-clause-value
returns-clause-value c = sym (bits_length c.args.bits.now)

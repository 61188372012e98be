use Rattle.std.proofs.Common.{rules}
use Rattle.certificate.proofs.Counting.{same_longest}
use Rattle.certificate.proofs.limits.has_short_paths.Goals as goal

pub returns : goal.returns
returns c = rw (same_longest c.args.tree.now) (search rules)

use Rattle.std.proofs.Common.{◌-◌}
use Rattle.cert_lines.specs.declared.limits.TheConstants.{MAX_BRANCHES}
use Rattle.certificate.proofs.reading.+read_tree.Given as goal

abbrev pub decreases-read_tree : goal.decreases-read_tree
decreases-read_tree l = MAX_BRANCHES - l.above

use Rattle.std.proofs.Common.{take}
use Rattle.std.specs.List.{All}
use Rattle.cert_lines.specs.Shapes.{GroupLine}
use Rattle.cert_lines.specs.Line.{HasLine}
use Rattle.certificate.proofs.limits.have_group_lines.Given as goal

abbrev pub invariant-loop-group : goal.invariant-loop-group
invariant-loop-group l = All (λ g. HasLine l.version (GroupLine g)) (take l.group-index l.groups)

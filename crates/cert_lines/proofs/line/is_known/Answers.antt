use Rattle.std.proofs.Common.{refl}
use Rattle.cert_lines.proofs.Alike.{others_known}
use Rattle.cert_lines.proofs.line.is_known.Goals as goal

pub returns-in_default : goal.returns-in_default
returns-in_default c = (λ _. others_known c.args.version c.args.line.now c.in_default.not-Part c.in_default.not-Reduced c.in_default.not-List c.in_default.not-Group, λ _. refl)

use Rattle.std.proofs.Common.{refl}
use Rattle.cert_lines.proofs.Alike.{other_first}
use Rattle.cert_lines.proofs.fitting.is_first_name.Goals as goal

pub returns-in_default : goal.returns-in_default
returns-in_default c = (λ _. other_first c.args.row c.in_default.not-Least c.in_default.not-Late, λ _. refl)

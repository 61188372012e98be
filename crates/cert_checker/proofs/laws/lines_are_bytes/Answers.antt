use Rattle.cert_checker.proofs.CheckLines.{lines_in_text}
use Rattle.cert_checker.proofs.laws.lines_are_bytes.Goals as goal

pub returns : goal.returns
returns c = λ bytes s is. lines_in_text bytes s is.text

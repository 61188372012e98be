use Rattle.certificate.proofs.Counting.{same_longest, same_nodes}
use Rattle.certificate.proofs.laws.shapes_are_counted.Goals as goal

pub returns : goal.returns
returns c = λ t. (same_nodes t, same_longest t)

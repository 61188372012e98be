use Rattle.certificate.proofs.Same.{from_shapes, to_shapes}
use Rattle.certificate.proofs.laws.shapes_are_same.Goals as goal

pub returns : goal.returns
returns c = λ a b. (λ same. to_shapes a b same, λ same. from_shapes a b same)

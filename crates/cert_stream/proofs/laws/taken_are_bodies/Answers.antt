use Rattle.cert_stream.proofs.Bodies.{body_of}
use Rattle.cert_stream.proofs.laws.taken_are_bodies.Goals as goal

pub returns : goal.returns
returns c = λ version count ls lines taken. body_of version count ls lines taken

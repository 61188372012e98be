use Rattle.frozen_start.proofs.Signs.{one_zero, signed, uncoupled_back, uncoupled_there, whole_rest}
use Rattle.frozen_start.proofs.laws.rests_keep.Goals as goal

pub returns-clause-signed : goal.returns-clause-signed
returns-clause-signed c = λ m make leadless i low high t. (signed m make i t (leadless i low high), one_zero m make i t)

pub returns-clause-uncoupled : goal.returns-clause-uncoupled
returns-clause-uncoupled c = λ m p first rest r. (uncoupled_there m p first rest r, uncoupled_back m p first rest r)

pub returns-clause-whole : goal.returns-clause-whole
returns-clause-whole c = λ m p limits. whole_rest m p limits

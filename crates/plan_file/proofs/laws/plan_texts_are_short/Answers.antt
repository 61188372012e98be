use Rattle.plan_file.proofs.Lengths.{texts_are_short}
use Rattle.plan_file.proofs.laws.plan_texts_are_short.Goals as goal

pub returns : goal.returns
returns c = texts_are_short

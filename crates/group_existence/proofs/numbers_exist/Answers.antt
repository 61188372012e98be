use Rattle.group_existence.proofs.Numbers.{numbers_exist}
use Rattle.group_existence.proofs.numbers_exist.Goals as goal

pub returns : goal.returns
returns c = numbers_exist

use Rattle.command_line.proofs.Allowed.{commands_are_allowed}
use Rattle.command_line.proofs.laws.commands_are_allowed.Goals as goal

pub returns : goal.returns
returns c = commands_are_allowed

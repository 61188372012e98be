use Rattle.uncoupled.proofs.NoRoom.{no_room_certified}
use Rattle.uncoupled.proofs.no_room.no_room_is_certified.Goals as goal

pub returns : goal.returns
returns c = no_room_certified

use Rattle.lot_sizing.proofs.Reduction.{items_feasible, room}
use Rattle.lot_sizing.proofs.laws.room_decides.Goals as goal

pub returns-clause-plans : goal.returns-clause-plans
returns-clause-plans c = λ m p free some f i low high. room m p free f some i low high

pub returns-clause-room : goal.returns-clause-room
returns-clause-room c = λ m make setup single free some ends serves rooms. items_feasible m make setup single free some ends serves rooms

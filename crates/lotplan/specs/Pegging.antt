-- What `peg` writes.
use Rattle.std.specs.Prelude.{◌≡◌, ℕ, List, length, codes, Some}
use Rattle.std.specs.List.{All}
use Rattle.lot_sizing.specs.Problem.{Problem}
use Rattle.lot_sizing.specs.Plan.{Plan}
use Rattle.lot_io.specs.Outside.{Files}
use Rattle.pegging.specs.Pegs.{pegs_of}
use Rattle.pegging.specs.Sums.{IsInTime, MeetNeeds, UseSupplies}
use Rattle.pegging.specs.Texts.{pegs_text}
use Rattle.lotplan.specs.Extracting.{Extract, extract_meaning}
use Rattle.lotplan.specs.Meaning.{Meaning}

-- the file holds the text of exactly the pegs of the plan, which are this many; they use up each supply, meet each need, and come in time where an item has no backlog cost
pub record WritesPegs (after : Files) (problem : Problem) (plan : Plan) (pegs_file : List ℕ) (count : ℕ) : Type 0 where
  pub written : after pegs_file ≡ Some (pegs_text problem (pegs_of problem plan))
  pub supplies : UseSupplies problem plan (pegs_of problem plan)
  pub needs : MeetNeeds problem plan (pegs_of problem plan)
  pub in_time : All (IsInTime problem) (pegs_of problem plan)
  pub counted : count ≡ length (pegs_of problem plan)

-- what `peg` writes
abbrev pub Pegged : List ℕ → Extract
Pegged q after problem plan count = WritesPegs after problem plan q count

abbrev pub pegged_word : List ℕ
pegged_word = codes "pegged"

abbrev pub peg_meaning : (model_file plan_file pegs_file : List ℕ) → Meaning
peg_meaning m p q = extract_meaning (Pegged q) pegged_word m p q

-- The text of pegs: CSV as in RFC 4180, with line feeds.
use Rattle.std.specs.Prelude.{ℕ, List, [], ◌∷◌, ◌++◌, codes, decimal}
use Rattle.std.specs.List.{flat_map}
use Rattle.lot_sizing.specs.Problem.{Problem, item_at}
use Rattle.csv_records.specs.Records.{Record}
use Rattle.pegging.specs.declared.pegs.Peg.{Peg}
use Rattle.pegging.specs.declared.pegs.Supply.{Supply}
use Rattle.pegging.specs.declared.pegs.Supply.TheVariants.{Opening, Lot}
use Rattle.pegging.specs.declared.pegs.Target.{Target}
use Rattle.pegging.specs.declared.pegs.Target.TheVariants.{Demand, Part, End}

-- the names of the columns
abbrev pub header : Record
header = codes "item" ∷ codes "from" ∷ codes "to" ∷ codes "quantity" ∷ []

-- the first record of a file of pegs
abbrev pub pegs_header : List ℕ
pegs_header = codes "item,from,to,quantity\n"

abbrev pub supply_text : Supply → List ℕ
supply_text Opening = codes "opening"
supply_text (Lot t) = codes "lot " ++ decimal t

abbrev pub target_text : Problem → Target → List ℕ
target_text m (Demand t) = codes "demand " ++ decimal t
target_text m (Part j t) = codes "use " ++ ((item_at m j).name ++ (codes " " ++ decimal t))
target_text m End = codes "end"

-- the fields of a peg
abbrev pub peg_fields : Problem → Peg → Record
peg_fields m peg = (item_at m peg.item).name ∷ supply_text peg.from ∷ target_text m peg.to ∷ decimal peg.quantity ∷ []

-- the record of a peg
abbrev pub peg_record : Problem → Peg → List ℕ
peg_record m peg = (item_at m peg.item).name ++ (codes "," ++ (supply_text peg.from ++ (codes "," ++ (target_text m peg.to ++ (codes "," ++ (decimal peg.quantity ++ codes "\n"))))))

-- the header, and a record for each peg
abbrev pub pegs_text : Problem → List Peg → List ℕ
pegs_text m pegs = pegs_header ++ flat_map (peg_record m) pegs

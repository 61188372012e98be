-- How the refusal of a model is written.
use Rattle.std.specs.Prelude.{ℕ, List, [], ◌++◌, Option, Some, None, codes, decimal}
use Rattle.lot_draft.specs.declared.fault.ModelCode.{ModelCode}
use Rattle.lot_draft.specs.declared.fault.ModelCode.TheVariants as code
use Rattle.lot_draft.specs.declared.fault.Place.{Place}
use Rattle.lot_draft.specs.declared.fault.Place.TheVariants as place
use Rattle.lot_draft.specs.declared.fault.Key.{Key}
use Rattle.lot_draft.specs.declared.fault.Key.TheVariants as key
use Rattle.lot_draft.specs.declared.fault.ModelFault.{ModelFault}

abbrev pub code_text : ModelCode → List ℕ
code_text code.NotToml = codes "M1"
code_text code.UnknownKey = codes "M2"
code_text code.MissingKey = codes "M3"
code_text code.WrongKind = codes "M4"
code_text code.OutOfRange = codes "M5"
code_text code.WrongLength = codes "M6"
code_text code.BadName = codes "M7"
code_text code.RepeatedName = codes "M8"
code_text code.UnknownName = codes "M9"
code_text code.Cycle = codes "M10"
code_text code.BacklogOnComponent = codes "M11"
code_text code.QuantityBound = codes "M12"
code_text code.EndsCrossed = codes "M13"
code_text code.Version = codes "M14"
code_text code.LotsCrossed = codes "M15"

abbrev pub place_text : Place → List ℕ
place_text place.Root = codes "root"
place_text (place.Resource k) = codes "resource " ++ decimal k
place_text (place.Item i) = codes "item " ++ decimal i
place_text (place.Need i n) = codes "item " ++ (decimal i ++ (codes " needs " ++ decimal n))
place_text (place.Usage i n) = codes "item " ++ (decimal i ++ (codes " uses " ++ decimal n))

abbrev pub key_text : Key → List ℕ
key_text key.Version = codes "version"
key_text key.Periods = codes "periods"
key_text key.Resource = codes "resource"
key_text key.Item = codes "item"
key_text key.Name = codes "name"
key_text key.Capacity = codes "capacity"
key_text key.Demand = codes "demand"
key_text key.UnitCost = codes "unit_cost"
key_text key.SetupCost = codes "setup_cost"
key_text key.HoldCost = codes "hold_cost"
key_text key.BacklogCost = codes "backlog_cost"
key_text key.Opening = codes "opening"
key_text key.EndMin = codes "end_min"
key_text key.EndMax = codes "end_max"
key_text key.Lead = codes "lead"
key_text key.MinLot = codes "min_lot"
key_text key.MaxLot = codes "max_lot"
key_text key.Needs = codes "needs"
key_text key.Uses = codes "uses"
key_text key.Quantity = codes "quantity"
key_text key.Unit = codes "unit"
key_text key.Setup = codes "setup"

-- a space and the key, where there is one
abbrev pub key_part : Option Key → List ℕ
key_part None = []
key_part (Some k) = codes " " ++ key_text k

-- the period, where there is one
abbrev pub period_part : Option ℕ → List ℕ
period_part None = []
period_part (Some t) = codes " period " ++ decimal t

-- the code, the place, and the key and the period where there are any
abbrev pub fault_text : ModelFault → List ℕ
fault_text f = code_text f.code ++ (codes " " ++ (place_text f.place ++ (key_part f.key ++ period_part f.period)))

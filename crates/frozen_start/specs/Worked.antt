-- Starts that were worked out by hand.
use Rattle.std.specs.Prelude.{◌≡◌, [], ◌∷◌, Some, None, if◌then◌else◌, ◌==◌}
use Rattle.lot_sizing.specs.Problem.{Item, Problem}
use Rattle.lot_sizing.specs.Plan.{Plan, cost}
use Rattle.frozen_start.specs.Starts.{StartStands, spent}
use Rattle.frozen_start.specs.Rests.{join, rest_of}

-- one item over two periods, which may be late: of 5 that are asked for first, 2 are made, so 3 are owed
abbrev pub late_problem : Problem
late_problem = record {
  periods = 2;
  resources = [];
  items = record { name = 65 ∷ []; demand = 5 ∷ 4 ∷ []; unit_cost = 1 ∷ 1 ∷ []; setup_cost = 10 ∷ 10 ∷ []; hold_cost = 1 ∷ 1 ∷ []; backlog_cost = Some (2 ∷ 3 ∷ []); opening = 0; end_min = 0; end_max = 0; lead = 0; min_lot = 0; max_lot = None; needs = []; uses = [] } ∷ [];
}

abbrev pub late_start : Plan
late_start = record { make = λ i t. if t == 1 then 2 else 0; setup = λ i t. if t == 1 then 1 else 0; stock = λ i t. 0; backlog = λ i t. 0 }

abbrev pub late_end : Plan
late_end = record { make = λ i t. 7; setup = λ i t. 1; stock = λ i t. 0; backlog = λ i t. 0 }

abbrev pub late_rest : Problem
late_rest = record {
  periods = 1;
  resources = [];
  items = record { name = 65 ∷ []; demand = 7 ∷ []; unit_cost = 1 ∷ []; setup_cost = 10 ∷ []; hold_cost = 1 ∷ []; backlog_cost = Some (3 ∷ []); opening = 0; end_min = 0; end_max = 0; lead = 0; min_lot = 0; max_lot = None; needs = []; uses = [] } ∷ [];
}

-- the start costs 2 + 10 and 3 owed at 2, the later period 7 + 10; a start of no period leaves the whole problem
pub record IsLateWorked : Type 0 where
  pub stands : StartStands late_problem late_start 1
  pub rest : rest_of late_problem late_start 1 ≡ late_rest
  pub spent : spent late_problem late_start 1 ≡ 18
  pub total : cost late_problem (join late_problem late_start 1 late_end) ≡ 35
  pub whole : rest_of late_problem late_start 0 ≡ late_problem

-- two items, 2 of B in one A, on one resource: A is set up without a lot, B makes 6; 1 of A and 7 of B are left
abbrev pub set_item : Item
set_item = record { name = 65 ∷ []; demand = 1 ∷ 2 ∷ 3 ∷ []; unit_cost = 0 ∷ 0 ∷ 0 ∷ []; setup_cost = 3 ∷ 3 ∷ 3 ∷ []; hold_cost = 5 ∷ 5 ∷ 5 ∷ []; backlog_cost = None; opening = 2; end_min = 0; end_max = 2; lead = 0; min_lot = 0; max_lot = Some 5; needs = record { item = 2; quantity = 2 } ∷ []; uses = record { resource = 1; unit = 1; setup = 2 } ∷ [] }

abbrev pub made_item : Item
made_item = record { name = 66 ∷ []; demand = 0 ∷ 0 ∷ 1 ∷ []; unit_cost = 1 ∷ 2 ∷ 3 ∷ []; setup_cost = 4 ∷ 4 ∷ 4 ∷ []; hold_cost = 1 ∷ 1 ∷ 1 ∷ []; backlog_cost = None; opening = 1; end_min = 0; end_max = 1; lead = 0; min_lot = 3; max_lot = None; needs = []; uses = record { resource = 1; unit = 1; setup = 1 } ∷ [] }

abbrev pub set_problem : Problem
set_problem = record { periods = 3; resources = record { name = 109 ∷ []; capacity = 9 ∷ 8 ∷ 7 ∷ [] } ∷ []; items = set_item ∷ made_item ∷ [] }

abbrev pub set_start : Plan
set_start = record { make = λ i t. if t == 1 then (if i == 2 then 6 else 0) else 0; setup = λ i t. if t == 1 then 1 else 0; stock = λ i t. 0; backlog = λ i t. 0 }

abbrev pub set_rest : Problem
set_rest = record {
  periods = 2;
  resources = record { name = 109 ∷ []; capacity = 8 ∷ 7 ∷ [] } ∷ [];
  items = record { name = 65 ∷ []; demand = 2 ∷ 3 ∷ []; unit_cost = 0 ∷ 0 ∷ []; setup_cost = 3 ∷ 3 ∷ []; hold_cost = 5 ∷ 5 ∷ []; backlog_cost = None; opening = 1; end_min = 0; end_max = 2; lead = 0; min_lot = 0; max_lot = Some 5; needs = record { item = 2; quantity = 2 } ∷ []; uses = record { resource = 1; unit = 1; setup = 2 } ∷ [] }
      ∷ record { name = 66 ∷ []; demand = 0 ∷ 1 ∷ []; unit_cost = 2 ∷ 3 ∷ []; setup_cost = 4 ∷ 4 ∷ []; hold_cost = 1 ∷ 1 ∷ []; backlog_cost = None; opening = 7; end_min = 0; end_max = 1; lead = 0; min_lot = 3; max_lot = None; needs = []; uses = record { resource = 1; unit = 1; setup = 1 } ∷ [] } ∷ [];
}

-- the same with one time unit less than the start takes
abbrev pub tight_problem : Problem
tight_problem = record { periods = 3; resources = record { name = 109 ∷ []; capacity = 8 ∷ 8 ∷ 7 ∷ [] } ∷ []; items = set_problem.items }

-- one of A is made, which takes 2 of B where there is 1: a component can't be late
abbrev pub short_start : Plan
short_start = record { make = λ i t. if t == 1 then (if i == 2 then 0 else 1) else 0; setup = λ i t. if t == 1 then 1 else 0; stock = λ i t. 0; backlog = λ i t. 0 }

-- A costs 3 and 5 for one kept, B 6 and 4 and 7 kept
pub record IsSetWorked : Type 0 where
  pub stands : StartStands set_problem set_start 1
  pub rest : rest_of set_problem set_start 1 ≡ set_rest
  pub spent : spent set_problem set_start 1 ≡ 25
  pub tight : StartStands tight_problem set_start 1 → ⊥
  pub short : StartStands set_problem short_start 1 → ⊥

-- one item that takes all of a resource: 5 are made of 2 that are asked for, so 3 are kept
abbrev pub row_problem : Problem
row_problem = record {
  periods = 2;
  resources = record { name = 109 ∷ []; capacity = 6 ∷ 6 ∷ [] } ∷ [];
  items = record { name = 65 ∷ []; demand = 2 ∷ 8 ∷ []; unit_cost = 0 ∷ 0 ∷ []; setup_cost = 10 ∷ 10 ∷ []; hold_cost = 1 ∷ 1 ∷ []; backlog_cost = None; opening = 0; end_min = 0; end_max = 0; lead = 0; min_lot = 0; max_lot = None; needs = []; uses = record { resource = 1; unit = 1; setup = 1 } ∷ [] } ∷ [];
}

abbrev pub row_plan : Plan
row_plan = record { make = λ i t. 5; setup = λ i t. 1; stock = λ i t. if t == 1 then 3 else 0; backlog = λ i t. 0 }

abbrev pub row_later : Plan
row_later = record { make = λ i t. 5; setup = λ i t. 1; stock = λ i t. 0; backlog = λ i t. 0 }

abbrev pub row_rest : Problem
row_rest = record {
  periods = 1;
  resources = record { name = 109 ∷ []; capacity = 6 ∷ [] } ∷ [];
  items = record { name = 65 ∷ []; demand = 8 ∷ []; unit_cost = 0 ∷ []; setup_cost = 10 ∷ []; hold_cost = 1 ∷ []; backlog_cost = None; opening = 3; end_min = 0; end_max = 0; lead = 0; min_lot = 0; max_lot = None; needs = []; uses = record { resource = 1; unit = 1; setup = 1 } ∷ [] } ∷ [];
}

-- the start costs 10 and 3 kept, the later period 10
pub record IsRowWorked : Type 0 where
  pub rest : rest_of row_problem row_plan 1 ≡ row_rest
  pub spent : spent row_problem row_plan 1 ≡ 13
  pub total : cost row_problem (join row_problem row_plan 1 row_later) ≡ 23

abbrev pub AreWorked : Type 0
AreWorked = IsLateWorked × IsSetWorked × IsRowWorked

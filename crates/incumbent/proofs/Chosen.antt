-- A cheapest plan that has the least numbers of a list of ranges.
use Rattle.std.proofs.Common.{◌≡◌, ◌≤◌, ◌<◌, ◌+◌, ◌^◌, ◌∙◌, ℕ, sym, ap, arith, List, length, zero-add, Option, Some, None, Ok, Err}
use Rattle.std.specs.Prelude.{Result}
use Rattle.std.specs.declared.alloc.AllocError.{AllocError}
use Rattle.lot_sizing.specs.Least.{HasChoice, SameCells}
use Rattle.lot_sizing.specs.Problem.{Problem}
use Rattle.lot_sizing.specs.Plan.{IsFeasible, Table}
use Rattle.lot_sizing.specs.Plan as terms
use Rattle.plan_rules.specs.Cells.{Cells, table_of}
use Rattle.plan_rules.specs.Held.{AllFit, plan_of}
use Rattle.plan_rules.specs.Rows.{HasChosen, HasNoPlan, IfFound, IfNoneFound, IsLeastWith}
use Rattle.plan_rules.specs.declared.plan.Planned.{Planned}
use Rattle.lin_rows.specs.Columns.{cell_count}
use Rattle.cert_meaning.specs.Says.{HasNone, IsLeastCost}
use Rattle.own_plan.specs.Made.{IsMade}
use Rattle.tree_search.specs.declared.node.Range.{Range}
use Rattle.tree_search.specs.Ranges.{range_at}
use Rattle.node_domains.specs.Nodes.{cell_place, least_make, least_setup}

-- ---- tables with the same numbers
choice_on : (m : Problem) (a b c d : Table) (p : terms.Plan) → SameCells m a b → SameCells m c d → HasChoice m a c p → HasChoice m b d p
choice_on m a b c d p first next has = record {
  make = λ i t low high t_low t_high. has.make i t low high t_low t_high ∙ first i t low high t_low t_high;
  setup = λ i t low high t_low t_high. has.setup i t low high t_low t_high ∙ next i t low high t_low t_high;
}

turned : (m : Problem) (a b : Table) → SameCells m a b → SameCells m b a
turned m a b same = λ i t low high t_low t_high. sym (same i t low high t_low t_high)

pub least_on : (m : Problem) (a b c d : Table) (n : ℕ) → SameCells m a b → SameCells m c d → IsLeastCost m a c n → IsLeastCost m b d n
least_on m a b c d n first next is = record {
  plan = is.plan;
  feasible = is.feasible;
  chosen = choice_on m a b c d is.plan first next is.chosen;
  costs = is.costs;
  least = λ p feasible has. is.least p feasible (choice_on m b a d c p (turned m a b first) (turned m c d next) has);
}

pub none_on : (m : Problem) (a b c d : Table) → SameCells m a b → SameCells m c d → HasNone m a c → HasNone m b d
none_on m a b c d first next none = λ p feasible has. none p feasible (choice_on m b a d c p (turned m a b first) (turned m c d next) has)

-- ---- a cheapest plan
pub least_found : (m : Problem) (rs : List Range) (make setup : Cells) (made : Planned) → HasChosen make setup made.plan → IsMade m made → IsLeastWith m (table_of make) (table_of setup) (plan_of made.plan) → SameCells m (table_of make) (least_make m rs) → SameCells m (table_of setup) (least_setup m rs) → IsLeastCost m (least_make m rs) (least_setup m rs) made.cost
least_found m rs make setup made chosen is least first next =
    least_on m (table_of make) (least_make m rs) (table_of setup) (least_setup m rs) made.cost first next (record {
      plan = plan_of made.plan;
      feasible = is.feasible;
      chosen = record {
        make = λ i t low high t_low t_high. ap (λ (g : Cells). table_of g i t) chosen.make;
        setup = λ i t low high t_low t_high. ap (λ (g : Cells). table_of g i t) chosen.setup;
      };
      costs = sym is.cost;
      least = λ p feasible has. omega (arith, is.cost, least.spent p feasible has);
    })

pub none_found : (m : Problem) (rs : List Range) (make setup : Cells) → HasNoPlan m (table_of make) (table_of setup) → SameCells m (table_of make) (least_make m rs) → SameCells m (table_of setup) (least_setup m rs) → HasNone m (least_make m rs) (least_setup m rs)
none_found m rs make setup none first next = none_on m (table_of make) (least_make m rs) (table_of setup) (least_setup m rs) first next none

pub from_first : (m : Problem) (rs : List Range) (g : Cells) → ((i t : ℕ) → 1 ≤ i → i ≤ length m.items → 1 ≤ t → t ≤ m.periods → table_of g i t ≡ (range_at rs (0 + cell_place m i t)).low) → SameCells m (table_of g) (least_make m rs)
from_first m rs g is = λ i t low high t_low t_high. is i t low high t_low t_high ∙ ap (λ k. (range_at rs k).low) (zero-add (cell_place m i t))

pub from_cells : (m : Problem) (rs : List Range) (g : Cells) (first : ℕ) → first ≡ cell_count m → ((i t : ℕ) → 1 ≤ i → i ≤ length m.items → 1 ≤ t → t ≤ m.periods → table_of g i t ≡ (range_at rs (first + cell_place m i t)).low) → SameCells m (table_of g) (least_setup m rs)
from_cells m rs g first same is = λ i t low high t_low t_high. is i t low high t_low t_high ∙ ap (λ k. (range_at rs (k + cell_place m i t)).low) same

-- ---- what was found, if memory was there
pub found_made : (m : Problem) (r : Result (Option Planned) AllocError) → IfFound r (λ p. AllFit m p.plan) → IfFound r (λ p. IsFeasible m (plan_of p.plan)) → IfFound r (λ p. p.cost ≡ terms.cost m (plan_of p.plan)) → IfFound r (λ p. p.cost < 2 ^ 127) → IfFound r (IsMade m)
found_made m (Ok (Some p)) fits feasible cost small = record { fits = fits; feasible = feasible; cost = cost; small = small }
found_made m (Ok None) fits feasible cost small = tt
found_made m (Err e) fits feasible cost small = tt

pub found_least : (m : Problem) (rs : List Range) (make setup : Cells) (r : Result (Option Planned) AllocError) → IfFound r (λ p. HasChosen make setup p.plan) → IfFound r (IsMade m) → IfFound r (λ p. IsLeastWith m (table_of make) (table_of setup) (plan_of p.plan)) → SameCells m (table_of make) (least_make m rs) → SameCells m (table_of setup) (least_setup m rs) → IfFound r (λ made. IsLeastCost m (least_make m rs) (least_setup m rs) made.cost)
found_least m rs make setup (Ok (Some p)) chosen made least first next = least_found m rs make setup p chosen made least first next
found_least m rs make setup (Ok None) chosen made least first next = tt
found_least m rs make setup (Err e) chosen made least first next = tt

pub found_none : (m : Problem) (rs : List Range) (make setup : Cells) (r : Result (Option Planned) AllocError) → IfNoneFound r (HasNoPlan m (table_of make) (table_of setup)) → SameCells m (table_of make) (least_make m rs) → SameCells m (table_of setup) (least_setup m rs) → IfNoneFound r (HasNone m (least_make m rs) (least_setup m rs))
found_none m rs make setup (Ok (Some p)) none first next = tt
found_none m rs make setup (Ok None) none first next = none_found m rs make setup none first next
found_none m rs make setup (Err e) none first next = tt

-- what was found has the numbers
chosen_of : (m : Problem) (rs : List Range) (make setup : Cells) (made : Planned) → HasChosen make setup made.plan → SameCells m (table_of make) (least_make m rs) → SameCells m (table_of setup) (least_setup m rs) → HasChoice m (least_make m rs) (least_setup m rs) (plan_of made.plan)
chosen_of m rs make setup made chosen first next =
    let here : HasChoice m (table_of make) (table_of setup) (plan_of made.plan) = record {
      make = λ i t low high t_low t_high. ap (λ (g : Cells). table_of g i t) chosen.make;
      setup = λ i t low high t_low t_high. ap (λ (g : Cells). table_of g i t) chosen.setup;
    } in
    choice_on m (table_of make) (least_make m rs) (table_of setup) (least_setup m rs) (plan_of made.plan) first next here

pub found_choice : (m : Problem) (rs : List Range) (make setup : Cells) (r : Result (Option Planned) AllocError) → IfFound r (λ p. HasChosen make setup p.plan) → SameCells m (table_of make) (least_make m rs) → SameCells m (table_of setup) (least_setup m rs) → IfFound r (λ made. HasChoice m (least_make m rs) (least_setup m rs) (plan_of made.plan))
found_choice m rs make setup (Ok (Some p)) chosen first next = chosen_of m rs make setup p chosen first next
found_choice m rs make setup (Ok None) chosen first next = tt
found_choice m rs make setup (Err e) chosen first next = tt

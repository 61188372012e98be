-- What the problem of the later periods has at its places.
use Rattle.std.proofs.Common.{◌≡◌, ◌≤◌, ◌+◌, ◌-◌, ◌∙◌, ℕ, zero, suc, refl, sym, ap, subst, arith, List, [], ◌∷◌}
use Rattle.std.specs.Prelude.{Option, Some, None, IsNone, drop, option_map, if◌then◌else◌, ◌==◌}
use Rattle.std.specs.List.{sum_by}
use Rattle.std.proofs.lemmas.List.{get_or-drop}
use Rattle.std.proofs.Math.ListN.{get_or}
use Rattle.lot_sizing.specs.declared.Need.{Need}
use Rattle.lot_sizing.specs.declared.Usage.{Usage}
use Rattle.lot_sizing.specs.Problem.{Problem, backlog_cost, backlog_price, capacity, demand, entry, hold_cost, item_at, item_count, per_unit, resource_count, setup_cost, setup_time, unit_cost, unit_time}
use Rattle.lot_sizing.specs.Plan.{Plan}
use Rattle.lot_sizing.specs.Least.{least_backlog}
use Rattle.frozen_start.specs.Rests.{IsRestOf, more_in_front}

pub entry_cut : (first : ℕ) (xs : List ℕ) (u : ℕ) → 1 ≤ u → entry (drop first xs) u ≡ entry xs (first + u)
entry_cut first xs u low =
    let e : first + (u - 1) ≡ first + u - 1 = omega (arith, low) in
    get_or-drop first xs (u - 1) 0 ∙ ap (λ k. get_or xs k 0) e

front_first : (owed : ℕ) (xs : List ℕ) → entry (more_in_front owed xs) 1 ≡ entry xs 1 + owed
front_first owed [] = omega arith
front_first owed (x ∷ xs) = refl

front_later : (owed : ℕ) (xs : List ℕ) (u : ℕ) → 2 ≤ u → entry (more_in_front owed xs) u ≡ entry xs u
front_later owed xs zero low = absurd (omega (arith, low))
front_later owed xs (suc zero) low = absurd (omega (arith, low))
front_later owed [] (suc (suc u)) low = let e : suc (suc u) - 1 ≡ suc u = omega arith in rw e refl
front_later owed (x ∷ xs) (suc (suc u)) low = let e : suc (suc u) - 1 ≡ suc u = omega arith in rw e refl

price_cut : (first : ℕ) (prices : Option (List ℕ)) (u : ℕ) → 1 ≤ u → backlog_price (option_map (drop first) prices) u ≡ backlog_price prices (first + u)
price_cut first None u low = refl
price_cut first (Some prices) u low = entry_cut first prices u low

none_cut : (first : ℕ) (prices : Option (List ℕ)) → IsNone (option_map (drop first) prices) → IsNone prices
none_cut first None none = search
none_cut first (Some prices) none = absurd (cc none)

none_whole : (first : ℕ) (prices : Option (List ℕ)) → IsNone prices → IsNone (option_map (drop first) prices)
none_whole first None none = search
none_whole first (Some prices) none = absurd (cc none)

pub record IsAt (m : Problem) (p : Plan) (first : ℕ) (rest : Problem) (i u : ℕ) : Type 0 where
  pub unit_cost : unit_cost rest i u ≡ unit_cost m i (first + u)
  pub setup_cost : setup_cost rest i u ≡ setup_cost m i (first + u)
  pub hold_cost : hold_cost rest i u ≡ hold_cost m i (first + u)
  pub backlog_cost : backlog_cost rest i u ≡ backlog_cost m i (first + u)
  pub demand_first : u ≡ 1 → demand rest i u ≡ demand m i (first + u) + least_backlog m p.make i first
  pub demand_later : 2 ≤ u → demand rest i u ≡ demand m i (first + u)

pub at_place : (m : Problem) (p : Plan) (first : ℕ) (rest : Problem) → IsRestOf m p first rest → (i u : ℕ) → 1 ≤ i → i ≤ item_count m → 1 ≤ u → IsAt m p first rest i u
at_place m p first rest r i u low high u_low =
    let a = item_at m i in
    let is = r.items i low high in
    let owed = least_backlog m p.make i first in
    record {
      unit_cost = ap (λ xs. entry xs u) is.unit_cost ∙ entry_cut first a.unit_cost u u_low;
      setup_cost = ap (λ xs. entry xs u) is.setup_cost ∙ entry_cut first a.setup_cost u u_low;
      hold_cost = ap (λ xs. entry xs u) is.hold_cost ∙ entry_cut first a.hold_cost u u_low;
      backlog_cost = ap (λ o. backlog_price o u) is.backlog_cost ∙ price_cut first a.backlog_cost u u_low;
      demand_first = λ one. ap (λ xs. entry xs u) is.demand ∙ (ap (entry (more_in_front owed (drop first a.demand))) one ∙ (front_first owed (drop first a.demand) ∙ ap (λ n. n + owed) (ap (entry (drop first a.demand)) (sym one) ∙ entry_cut first a.demand u u_low)));
      demand_later = λ late. ap (λ xs. entry xs u) is.demand ∙ (front_later owed (drop first a.demand) u late ∙ entry_cut first a.demand u u_low);
    }

pub capacity_at : (m : Problem) (p : Plan) (first : ℕ) (rest : Problem) → IsRestOf m p first rest → (k u : ℕ) → 1 ≤ k → k ≤ resource_count m → 1 ≤ u → capacity rest k u ≡ capacity m k (first + u)
capacity_at m p first rest r k u low high u_low = ap (λ xs. entry xs u) (r.resources k low high).capacity ∙ entry_cut first _ u u_low

pub per_unit_at : (m : Problem) (p : Plan) (first : ℕ) (rest : Problem) → IsRestOf m p first rest → (i j : ℕ) → 1 ≤ j → j ≤ item_count m → per_unit rest i j ≡ per_unit m i j
per_unit_at m p first rest r i j low high = ap (sum_by (λ (need : Need). if need.item == i then need.quantity else 0)) (r.items j low high).needs

pub unit_time_at : (m : Problem) (p : Plan) (first : ℕ) (rest : Problem) → IsRestOf m p first rest → (i k : ℕ) → 1 ≤ i → i ≤ item_count m → unit_time rest i k ≡ unit_time m i k
unit_time_at m p first rest r i k low high = ap (sum_by (λ (usage : Usage). if usage.resource == k then usage.unit else 0)) (r.items i low high).uses

pub setup_time_at : (m : Problem) (p : Plan) (first : ℕ) (rest : Problem) → IsRestOf m p first rest → (i k : ℕ) → 1 ≤ i → i ≤ item_count m → setup_time rest i k ≡ setup_time m i k
setup_time_at m p first rest r i k low high = ap (sum_by (λ (usage : Usage). if usage.resource == k then usage.setup else 0)) (r.items i low high).uses

-- an item may be late in the rest where it may be late
pub may_be_late : (m : Problem) (p : Plan) (first : ℕ) (rest : Problem) → IsRestOf m p first rest → (i : ℕ) → 1 ≤ i → i ≤ item_count m → IsNone (item_at rest i).backlog_cost → IsNone (item_at m i).backlog_cost
may_be_late m p first rest r i low high none = none_cut first (item_at m i).backlog_cost (subst (λ o. IsNone o) (r.items i low high).backlog_cost none)

pub may_be_late_there : (m : Problem) (p : Plan) (first : ℕ) (rest : Problem) → IsRestOf m p first rest → (i : ℕ) → 1 ≤ i → i ≤ item_count m → IsNone (item_at m i).backlog_cost → IsNone (item_at rest i).backlog_cost
may_be_late_there m p first rest r i low high none = subst (λ o. IsNone o) (sym (r.items i low high).backlog_cost) (none_whole first (item_at m i).backlog_cost none)

-- An item of an instance by itself.
use Rattle.std.proofs.Common.{◌≡◌, ◌≤◌, ◌+◌, ◌-◌, ◌∙◌, ℕ, zero, suc, refl, sym, ap, subst, arith, List, length, slice_index_or, IfSome}
use Rattle.std.proofs.lemmas.Grind.{same_number_lists}
use Rattle.lot_sizing.specs.Sums.{sum_to}
use Rattle.lot_sizing.specs.Problem.{IsSeries, IsWithinLimits, Problem, demand, entry, item_at, item_count}
use Rattle.lot_sizing.specs.Single.{IsWithinBounds, net_demand}
use Rattle.lot_sizing.specs.declared.limits.TheConstants.{MAX_AMOUNT, MAX_TOTAL}
use Rattle.lot_sizing.specs.Net.{Asked, IsSingleOf, asked_of, asked_to, net_in}
use Rattle.lot_sizing.proofs.Bounds.{demand_small}
use Rattle.lot_sizing.proofs.Reduction.{net_so_far}
use Rattle.lot_sizing.proofs.Sums.{sum_to-bound, sum_to-same}
use Rattle.echelon.specs.declared.net.TheConstants.{MAX_ASKED}
use Rattle.echelon.specs.Views.{HasEach, asked_in, list_to, single_in}
use Rattle.echelon.proofs.Nets.{each_more}

pub list_each : (f : ℕ → ℕ) (n : ℕ) → HasEach n f (list_to n f)
list_each f zero = record { size = refl; each = λ t low high. absurd (omega (arith, low, high)) }
list_each f (suc n) = each_more n (suc n) (f (suc n)) f (list_to n f) refl (list_each f n) refl

-- a list with a number for each period is that of these numbers
pub same_numbers : (n : ℕ) (f : ℕ → ℕ) (xs ys : List ℕ) → HasEach n f xs → HasEach n f ys → xs ≡ ys
same_numbers n f xs ys one other = same_number_lists xs ys (one.size ∙ sym other.size) (λ k h.
    let e : k + 1 - 1 ≡ k = omega arith in
    let low : 1 ≤ k + 1 = omega arith in
    let high : k + 1 ≤ n = omega (arith, h, one.size) in
    subst (λ j. slice_index_or xs j 0 ≡ slice_index_or ys j 0) e (one.each (k + 1) low high ∙ sym (other.each (k + 1) low high)))

pub net_is : (m : Problem) (i : ℕ) (demands net : List ℕ) (opening end_min : ℕ) → IsWithinLimits m → 1 ≤ i → i ≤ item_count m → demands ≡ (item_at m i).demand → opening ≡ (item_at m i).opening → end_min ≡ (item_at m i).end_min → HasEach (length demands) (net_in (asked_in demands opening end_min)) net → net ≡ list_to m.periods (net_in (asked_of m i))
net_is m i demands net opening end_min within low high is_demand is_opening is_end each =
    let size = (within.each_item i low high).lists.demand.size in
    same_numbers m.periods (net_in (asked_of m i)) net (list_to m.periods (net_in (asked_of m i))) (rw (is_demand, is_opening, is_end, size) at each) (list_each (net_in (asked_of m i)) m.periods)

most_asked : (a : Asked) (t : ℕ) → asked_to a t ≤ sum_to t a.demand + a.end_min
most_asked a t = grind arith

-- all net demands of an item within the limits
net_small : (m : Problem) (i : ℕ) → IsWithinLimits m → 1 ≤ i → i ≤ item_count m → sum_to m.periods (net_in (asked_of m i)) ≤ MAX_TOTAL
net_small m i within low high =
    let a = asked_of m i in
    let each = sum_to-bound m.periods MAX_AMOUNT (demand m i) (λ t t_low t_high. demand_small m within i t low high t_low t_high) in
    omega (arith, net_so_far a within.some_period m.periods (omega arith), most_asked a m.periods, each, within.periods, (within.each_item i low high).end_min)

pub is_single : (m : Problem) (i : ℕ) → IsSingleOf m i (single_in m i)
is_single m i =
    let nets = list_each (net_in (asked_of m i)) m.periods in
    record { periods = nets.size; net = nets.each; setup = refl; unit = refl; hold = refl; back = refl }

pub within_bounds : (m : Problem) (i : ℕ) → IsWithinLimits m → 1 ≤ i → i ≤ item_count m → IsWithinBounds (single_in m i)
within_bounds m i within low high =
    let f = net_in (asked_of m i) in
    let nets = list_each f m.periods in
    let lists = (within.each_item i low high).lists in
    let n = sym nets.size in
    record {
      periods = omega (arith, nets.size, within.periods);
      setup = subst (λ k. IsSeries k MAX_AMOUNT (item_at m i).setup_cost) n lists.setup_cost;
      unit = subst (λ k. IsSeries k MAX_AMOUNT (item_at m i).unit_cost) n lists.unit_cost;
      hold = subst (λ k. IsSeries k MAX_AMOUNT (item_at m i).hold_cost) n lists.hold_cost;
      back = subst (λ k. IfSome (item_at m i).backlog_cost (IsSeries k MAX_AMOUNT)) n lists.backlog_cost;
      net = omega (arith, ap (λ k. sum_to k (net_demand (single_in m i))) nets.size, sum_to-same m.periods (net_demand (single_in m i)) f nets.each, net_small m i within low high);
    }

-- what is asked for is far below the limit of an echelon
pub asked_small : (m : Problem) (i opening end_min : ℕ) (demands : List ℕ) → IsWithinLimits m → 1 ≤ i → i ≤ item_count m → demands ≡ (item_at m i).demand → opening ≤ MAX_AMOUNT → end_min ≤ MAX_AMOUNT → sum_to (length demands) (entry demands) + opening + end_min ≤ MAX_ASKED
asked_small m i opening end_min demands within low high is opening_small end_small =
    let size = (within.each_item i low high).lists.demand.size in
    let each = sum_to-bound m.periods MAX_AMOUNT (demand m i) (λ t t_low t_high. demand_small m within i t low high t_low t_high) in
    let same : sum_to (length demands) (entry demands) ≡ sum_to m.periods (demand m i) = rw (is, size) refl in
    omega (arith, same, each, within.periods, opening_small, end_small)

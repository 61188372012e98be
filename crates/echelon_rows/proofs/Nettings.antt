-- The net demands of an echelon within the bounds, and what is left of its opening stock.
use Rattle.std.proofs.Common.{◌≡◌, ◌≤◌, ◌+◌, ℕ, zero, suc, refl, ap, arith, List, length}
use Rattle.lot_sizing.specs.Sums.{sum_to}
use Rattle.lot_sizing.specs.Problem.{AllAtMost, entry}
use Rattle.lot_sizing.specs.Net.{Asked, asked_to, left_after, net_in}
use Rattle.lot_sizing.proofs.Sums.{sum_to-same}
use Rattle.lot_sizing.proofs.Reduction.{net_so_far}
use Rattle.echelon.specs.declared.net.EchelonItem.{EchelonItem}
use Rattle.echelon.specs.declared.net.TheConstants.{MAX_ASKED}
use Rattle.echelon.specs.Views.{HasEach, IsEchelonWithinBounds, asked_of_echelon}
use Rattle.echelon_rows.proofs.Lists.{each_at_most}

most_asked : (a : Asked) (t : ℕ) → asked_to a t ≤ sum_to t a.demand + a.end_min
most_asked a t = grind arith

most_left : (a : Asked) (t : ℕ) → left_after a t ≤ a.opening + a.end_min
most_left a t = grind arith

net_most : (e : EchelonItem) → IsEchelonWithinBounds e → (T : ℕ) → length e.demand.items ≡ T → sum_to T (net_in (asked_of_echelon e)) ≤ MAX_ASKED
net_most e within zero size = omega arith
net_most e within (suc n) size =
    let a = asked_of_echelon e in
    let some : 1 ≤ a.periods = omega (arith, size) in
    omega (arith, net_so_far a some (suc n) (omega (arith, size)), most_asked a (suc n), within.asked, ap (λ k. sum_to k (entry e.demand.items)) size)

-- all net demands are small
pub net_total : (e : EchelonItem) → IsEchelonWithinBounds e → (net : List ℕ) → HasEach (length e.demand.items) (net_in (asked_of_echelon e)) net → sum_to (length net) (entry net) ≤ MAX_ASKED
net_total e within net has =
    let T = length e.demand.items in
    let f = net_in (asked_of_echelon e) in
    omega (arith, net_most e within T refl, sum_to-same T (entry net) f has.each, ap (λ k. sum_to k (entry net)) has.size)

-- and what is left
pub left_small : (e : EchelonItem) → IsEchelonWithinBounds e → (left : List ℕ) → HasEach (length e.demand.items) (left_after (asked_of_echelon e)) left → AllAtMost MAX_ASKED left
left_small e within left has = each_at_most (length e.demand.items) MAX_ASKED (left_after (asked_of_echelon e)) left has (λ t low high. omega (arith, most_left (asked_of_echelon e) t, within.asked))

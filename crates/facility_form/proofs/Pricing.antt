-- What setups gain, from lists to the definition.
use Rattle.std.proofs.Common.{◌≡◌, ◌≤◌, ◌+◌, ◌-◌, ◌*◌, ◌∙◌, ℕ, refl, sym, ap, arith, Bool, true, false, List, [], length}
use Rattle.std.specs.Prelude.{Some, None, is_some, nat_le, ◌||◌, if◌then◌else◌}
use Rattle.lot_sizing.specs.Sums.{sum_to}
use Rattle.lot_sizing.specs.Problem.{entry}
use Rattle.lot_sizing.specs.Single.{net_demand, unit_price}
use Rattle.lot_sizing.specs.Net.{net_in}
use Rattle.lot_sizing.proofs.Sums.{sum_to-same}
use Rattle.echelon.specs.Views.{HasEach}
use Rattle.valid_inequalities.specs.Trajectory.{IsNetOf}
use Rattle.valid_inequalities.specs.Inequalities.{all_gain, gain, left_cost, may_serve}
use Rattle.echelon_rows.specs.Rows.{Echelon, priced, single_with}
use Rattle.facility_form.specs.PriceRow.{price_right}

some_if : (b : Bool) (xs : List ℕ) → b ≡ is_some (if b then Some xs else None)
some_if true xs = refl
some_if false xs = refl

-- a gain by what a unit costs
gain_is : (net unit hold back costs : List ℕ) (owing : Bool) (worth : ℕ → ℕ) (u t : ℕ) → entry costs t ≡ unit_price (single_with net [] unit hold back owing) u t → (if owing || nat_le u t then entry net t * (worth t - entry costs t) else 0) ≡ gain (single_with net [] unit hold back owing) worth u t
gain_is net unit hold back costs owing worth u t is =
    ap (λ k. if owing || nat_le u t then entry net t * (worth t - k) else 0) is
    ∙ ap (λ b. if b || nat_le u t then entry net t * (worth t - unit_price (single_with net [] unit hold back owing) u t) else 0) (some_if owing back)

-- and all gains of a setup
pub gains_are : (net unit hold back costs : List ℕ) (owing : Bool) (worth : ℕ → ℕ) (u T : ℕ) → HasEach T (unit_price (single_with net [] unit hold back owing) u) costs → sum_to T (λ t. if owing || nat_le u t then entry net t * (worth t - entry costs t) else 0) ≡ sum_to T (gain (single_with net [] unit hold back owing) worth u)
gains_are net unit hold back costs owing worth u T has = sum_to-same T (λ t. if owing || nat_le u t then entry net t * (worth t - entry costs t) else 0) (gain (single_with net [] unit hold back owing) worth u) (λ t low high. gain_is net unit hold back costs owing worth u t (has.each t low high))

-- the gains over listed net demands are those of the echelon
pub all_gains : (e : Echelon) (net unit hold back gains : List ℕ) (worth : ℕ → ℕ) → IsNetOf e.asked e.owing (priced e [] unit hold back) → HasEach e.asked.periods (net_in e.asked) net → HasEach (length net) (λ u. sum_to (length net) (gain (single_with net [] unit hold back e.owing) worth u)) gains → HasEach e.asked.periods (all_gain e.asked (priced e [] unit hold back) worth) gains
all_gains e net unit hold back gains worth is has found =
    let T = e.asked.periods in
    let s = priced e [] unit hold back in
    let n = single_with net [] unit hold back e.owing in
    record {
      size = found.size ∙ has.size;
      each = λ u low high.
          found.each u low (omega (arith, high, has.size))
          ∙ ap (λ k. sum_to k (gain n worth u)) has.size
          ∙ sum_to-same T (gain n worth u) (gain s worth u) (λ t t_low t_high. ap (λ k. if may_serve s u t then k * (worth t - unit_price s u t) else 0) (has.each t t_low t_high ∙ sym (is.net t t_low t_high)));
    }

-- what listed net demands are worth
pub worth_is : (T : ℕ) (f : ℕ → ℕ) (net price list : List ℕ) → price ≡ list → HasEach T f net → sum_to (length net) (λ t. entry net t * entry price t) ≡ sum_to T (λ t. f t * entry list t)
worth_is T f net price list is has =
    ap (λ k. sum_to k (λ t. entry net t * entry price t)) has.size
    ∙ ap (λ xs. sum_to T (λ t. entry net t * entry xs t)) is
    ∙ sum_to-same T (λ t. entry net t * entry list t) (λ t. f t * entry list t) (λ t low high. ap (λ k. k * entry list t) (has.each t low high))

-- and what holding listed leftovers costs
pub held_is : (T : ℕ) (f : ℕ → ℕ) (left hold list : List ℕ) → hold ≡ list → HasEach T f left → sum_to (length left) (λ t. entry hold t * entry left t) ≡ sum_to T (λ t. entry list t * f t)
held_is T f left hold list is has =
    ap (λ k. sum_to k (λ t. entry hold t * entry left t)) has.size
    ∙ ap (λ xs. sum_to T (λ t. entry xs t * entry left t)) is
    ∙ sum_to-same T (λ t. entry list t * entry left t) (λ t. entry list t * f t) (λ t low high. ap (λ k. entry list t * k) (has.each t low high))

-- the worth of the echelon's net demands is that of the item by itself
pub at_most_worth : (e : Echelon) (price unit hold back : List ℕ) → IsNetOf e.asked e.owing (priced e [] unit hold back) → (most : ℕ) → sum_to e.asked.periods (λ t. net_demand (priced e [] unit hold back) t * entry price t) + left_cost e.asked (priced e [] unit hold back) ≤ most → price_right e.asked price hold ≤ most
at_most_worth e price unit hold back is most h =
    let s = priced e [] unit hold back in
    omega (arith, h, sum_to-same e.asked.periods (λ t. net_demand s t * entry price t) (λ t. net_in e.asked t * entry price t) (λ t low high. ap (λ k. k * entry price t) (is.net t low high)))

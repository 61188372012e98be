-- The price inequality is a block inequality: a setup that costs what it gains meets the block condition for potentials that rise by what the net demands are worth.
use Rattle.std.proofs.Common.{◌≡◌, ◌≤◌, ◌<◌, ◌+◌, ◌-◌, ◌*◌, ◌∙◌, ⊎_elim, ℕ, zero, suc, refl, sym, ap, arith, Bool, true, false, List}
use Rattle.std.specs.Prelude.{is_some, nat_le, ◌||◌, if◌then◌else◌}
use Rattle.std.proofs.lemmas.Bool.{cases_lt, cases_eq, cases_Bool}
use Rattle.std.proofs.Math.Nat.{mul-le-mul_left}
use Rattle.lot_sizing.specs.Sums.{sum_to, sum_from}
use Rattle.lot_sizing.specs.Problem.{entry}
use Rattle.lot_sizing.specs.declared.Block.{Block}
use Rattle.lot_sizing.specs.Single.{ArePotentials, IsBlock, Single, net_demand, period_count, period_of, position_count, potential, serving_cost, unit_price}
use Rattle.lot_sizing.specs.Net.{Asked}
use Rattle.lot_sizing.specs.Laws.{LastPotentialIsFloor}
use Rattle.lot_sizing.proofs.Sums.{sum_to-front, sum_to-same}
use Rattle.lot_sizing.proofs.Positions.{count, count_idle, count_next, later, period_of_count, place}
use Rattle.echelon.specs.Views.{list_to}
use Rattle.echelon.proofs.Singles.{list_each}
use Rattle.valid_inequalities.specs.Trajectory.{IsNetOf, IsTrajectory, Trajectory}
use Rattle.valid_inequalities.specs.Inequalities.{HoldsPrice, all_gain, gain, kept_cost, may_serve}
use Rattle.valid_inequalities.proofs.Ls.{sum_to-split}
use Rattle.valid_inequalities.proofs.Nets.{block_holds}

-- a sum over positions is one over periods, where a period without a net demand adds nothing
pub by_periods : (s : Single) (f : ℕ → ℕ) → ((t : ℕ) → net_demand s t ≡ 0 → f t ≡ 0) → (n : ℕ) → n ≤ period_count s → sum_to (count s n) (λ p. f (period_of s p)) ≡ sum_to n f
by_periods s f none zero h = refl
by_periods s f none (suc n) h =
    let F = λ (p : ℕ). f (period_of s p) in
    let before = by_periods s f none n (omega (arith, h)) in
    ⊎_elim
    (λ some.
    let next = count_next s n some in
    let here : period_of s (suc (count s n)) ≡ suc n = ap (period_of s) (sym next) ∙ period_of_count s n h some in
    omega (arith, before, ap (λ k. sum_to k F) next, ap f here))
    (λ idle.
    let free : net_demand s (suc n) ≡ 0 = omega (arith, idle) in
    omega (arith, before, ap (λ k. sum_to k F) (count_idle s n free), none (suc n) free))
    (cases_lt 0 (net_demand s (suc n)))

-- sums over a stretch
stretch_le : (u n : ℕ) (f g h : ℕ → ℕ) → ((k : ℕ) → u ≤ k → k < u + n → f k ≤ g k + h k) → sum_from u n f ≤ sum_from u n g + sum_from u n h
stretch_le u zero f g h each = omega arith
stretch_le u (suc n) f g h each = omega (arith, stretch_le u n f g h (λ k low high. each k low (omega (arith, high))), each (u + n) (omega arith) (omega arith))

-- a later position has no earlier period
periods_rise : (s : Single) (p q : ℕ) → 1 ≤ p → p ≤ q → q ≤ position_count s → period_of s p ≤ period_of s q
periods_rise s p q low order high =
    ⊎_elim
    (λ same. omega (arith, ap (period_of s) same))
    (λ apart.
    let found = place s p low (omega (arith, order, high)) in
    let after = later s (suc found.0) q (omega (arith, found.2.count, order, apart)) high in
    omega (arith, found.3, after))
    (cases_eq p q)

serves_or : (none : Bool) (u t : ℕ) → (none ≡ false → u ≤ t) → (none || nat_le u t) ≡ true
serves_or none u t h = ⊎_elim (λ yes. rw yes refl) (λ no. grind (arith, no, h no)) (cases_Bool none)

-- where a period may serve another, its net demand is worth at most its cost and the gain
worth_at : (s : Single) (worth : ℕ → ℕ) (u t : ℕ) → may_serve s u t ≡ true → net_demand s t * worth t ≤ gain s worth u t + net_demand s t * unit_price s u t
worth_at s worth u t serves =
    let is : gain s worth u t ≡ net_demand s t * (worth t - unit_price s u t) = ap (λ b. if b then net_demand s t * (worth t - unit_price s u t) else 0) serves in
    let h : worth t ≤ (worth t - unit_price s u t) + unit_price s u t = omega arith in
    omega (arith, is, mul-le-mul_left (net_demand s t) h)

no_gain : (s : Single) (worth : ℕ → ℕ) (u t : ℕ) → net_demand s t ≡ 0 → gain s worth u t ≡ 0
no_gain s worth u t none =
    ⊎_elim
    (λ yes. ap (λ b. if b then net_demand s t * (worth t - unit_price s u t) else 0) yes ∙ omega (arith, ap (λ k. k * (worth t - unit_price s u t)) none))
    (λ no. ap (λ b. if b then net_demand s t * (worth t - unit_price s u t) else 0) no)
    (cases_Bool (may_serve s u t))

-- the item with setups that cost what they gain
abbrev gaining : Asked → Single → (ℕ → ℕ) → Single
gaining a s worth = record { net = s.net; setup = list_to a.periods (all_gain a s worth); unit = s.unit; hold = s.hold; back = s.back }

-- what the net demand of a position is worth
abbrev worth_of : Single → (ℕ → ℕ) → ℕ → ℕ
worth_of s worth p = net_demand s (period_of s p) * worth (period_of s p)

-- what the net demands of the first positions are worth
abbrev worths : Single → (ℕ → ℕ) → List ℕ
worths s worth = list_to (position_count s) (λ p. sum_to p (worth_of s worth))

potential_is : (s : Single) (worth : ℕ → ℕ) (p : ℕ) → p ≤ position_count s → potential (worths s worth) p ≡ sum_to p (worth_of s worth)
potential_is s worth zero h = refl
potential_is s worth (suc p) h = (list_each (λ p. sum_to p (worth_of s worth)) (position_count s)).each (suc p) (omega arith) h

block_gains : (a : Asked) (s : Single) (worth : ℕ → ℕ) → period_count s ≡ a.periods → (b : Block) → IsBlock s b → potential (worths s worth) b.last ≤ potential (worths s worth) (b.first - 1) + (entry (list_to a.periods (all_gain a s worth)) b.server + sum_from b.first (suc b.last - b.first) (serving_cost s b.server))
block_gains a s worth size b block =
    let u = b.server in
    let h = worth_of s worth in
    let G = λ (p : ℕ). gain s worth u (period_of s p) in
    let n = suc b.last - b.first in
    let m = position_count s in
    let e : suc (b.first - 1) ≡ b.first = omega (arith, block.low) in
    let i : (b.first - 1) + n ≡ b.last = omega (arith, block.low, block.order) in
    let cut = λ (f : ℕ → ℕ). sum_to-split (b.first - 1) n f in
    let in_block : (p : ℕ) → b.first ≤ p → p < b.first + n → h p ≤ G p + serving_cost s u p = λ p low high.
    let rise = periods_rise s b.first p block.low low (omega (arith, high, block.order, block.high)) in
    worth_at s worth u (period_of s p) (serves_or (is_some s.back) u (period_of s p) (λ none. omega (arith, rise, block.server.in_time none))) in
    let each = stretch_le b.first n h G (serving_cost s u) in_block in
    let gains = by_periods s (gain s worth u) (no_gain s worth u) (period_count s) (omega arith) in
    omega (
      arith,
      potential_is s worth b.last block.high,
      potential_is s worth (b.first - 1) (omega (arith, block.order, block.high)),
      cut h,
      cut G,
      ap (λ k. sum_to k h) i,
      ap (λ k. sum_to k G) i,
      ap (λ k. sum_from k n h) e,
      ap (λ k. sum_from k n G) e,
      each,
      sum_to-front b.last m G block.high,
      gains,
      ap (λ k. sum_to k (gain s worth u)) size,
      (list_each (all_gain a s worth) a.periods).each u block.server.low (omega (arith, block.server.high, size)),
    )

gains_are_potentials : (a : Asked) (s : Single) (worth : ℕ → ℕ) → period_count s ≡ a.periods → ArePotentials (gaining a s worth) (worths s worth)
gains_are_potentials a s worth size = record {
  size = (list_each (λ p. sum_to p (worth_of s worth)) (position_count s)).size;
  blocks = λ b block. block_gains a s worth size b (record { low = block.low; order = block.order; high = block.high; server = record { low = block.server.low; high = block.server.high; in_time = block.server.in_time } });
}

no_worth : (s : Single) (worth : ℕ → ℕ) (t : ℕ) → net_demand s t ≡ 0 → net_demand s t * worth t ≡ 0
no_worth s worth t none = omega (arith, ap (λ k. k * worth t) none)

pub price_holds : LastPotentialIsFloor → (a : Asked) (owing : Bool) (f : Trajectory) (s : Single) (worth : ℕ → ℕ) → IsTrajectory a owing f → IsNetOf a owing s → HoldsPrice a s worth f
price_holds floor a owing f s worth is net =
    let T = a.periods in
    let m = position_count s in
    let block = block_holds floor a owing f (gaining a s worth) (worths s worth) is (record { periods = net.periods; net = net.net; back = net.back }) (gains_are_potentials a s worth net.periods) in
    let setups = sum_to-same T (λ t. entry (list_to T (all_gain a s worth)) t * f.setup t + kept_cost s f t) (λ t. all_gain a s worth t * f.setup t + kept_cost s f t) (λ t low high. omega (arith, ap (λ k. k * f.setup t) ((list_each (all_gain a s worth) T).each t low high))) in
    omega (
      arith,
      block,
      setups,
      potential_is s worth m (omega arith),
      by_periods s (λ t. net_demand s t * worth t) (no_worth s worth) (period_count s) (omega arith),
      ap (λ k. sum_to k (λ t. net_demand s t * worth t)) net.periods,
    )

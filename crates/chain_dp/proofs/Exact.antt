-- A least cost that fits is the least cost.
use Rattle.std.proofs.Common.{◌≡◌, ◌≤◌, ◌<◌, ◌+◌, ◌-◌, ◌*◌, ℕ, zero, suc, refl, ap, arith, List, [], ◌∷◌, min}
use Rattle.lot_sizing.specs.Sums.{sum_to}
use Rattle.lot_sizing.proofs.Sums.{sum_to-front}
use Rattle.chain_dp.specs.Chains.{IsChainMade, IsLeastChainCost, IsMade, Level, Lots, chain_cost, lots_cost, opening_cost, used_by_next}
use Rattle.chain_dp.specs.Numbers.{IsCapped, most}
use Rattle.chain_dp.proofs.Leads.{IsCappedCost}
use Rattle.chain_dp.proofs.Leasts.{capped_sum}

-- all of a level from lot 0
abbrev first_only : ℕ → ℕ → ℕ
first_only units zero = units
first_only units (suc t) = 0

none_at : (t units : ℕ) → 1 ≤ t → first_only units t ≡ 0
none_at zero units low = absurd (omega (arith, low))
none_at (suc t) units low = refl

abbrev from_opening : ℕ → Level → Lots
from_opening periods l = record { make = first_only (sum_to periods l.need); setup = λ t. 0 }

abbrev all_from_opening : ℕ → List Level → List Lots
all_from_opening periods [] = []
all_from_opening periods (l ∷ ls) = from_opening periods l ∷ all_from_opening periods ls

none_made : (n units : ℕ) → sum_to n (first_only units) ≡ 0
none_made zero units = refl
none_made (suc n) units = omega (arith, none_made n units)

opening_lots : (n periods : ℕ) (l : Level) → lots_cost n l (from_opening periods l) ≡ l.opening_price * sum_to periods l.need
opening_lots zero periods l = omega arith
opening_lots (suc n) periods l = omega (arith, opening_lots n periods l)

none_used : (units periods t : ℕ) (ls : List Level) → used_by_next units (all_from_opening periods ls) t ≡ 0
none_used units periods t [] = refl
none_used units periods t (l ∷ ls) = omega (arith, ap (λ k. units * k) (none_made t (sum_to periods l.need)))

opening_made : (periods : ℕ) (levels : List Level) → IsChainMade periods levels (all_from_opening periods levels)
opening_made periods [] = tt
opening_made periods (l ∷ ls) =
    let here : IsMade periods l (used_by_next l.per_next (all_from_opening periods ls)) (from_opening periods l) = record {
      once = λ t low high. omega arith;
      setup = λ t low high some. absurd (omega (arith, some, none_at t (sum_to periods l.need) low));
      served = λ t h. omega (arith, none_used l.per_next periods t ls, sum_to-front t periods l.need h, none_made (t - l.lead) (sum_to periods l.need));
    } in
    (here, opening_made periods ls)

all_cost : (periods : ℕ) (levels : List Level) → chain_cost periods levels (all_from_opening periods levels) ≡ opening_cost periods levels
all_cost periods [] = refl
all_cost periods (l ∷ ls) = omega (arith, opening_lots periods periods l, all_cost periods ls)

pub exact : (periods : ℕ) (levels : List Level) (cost : ℕ) → IsCappedCost periods levels cost → opening_cost periods levels < most → IsLeastChainCost periods levels cost
exact periods levels cost is small =
    let below : cost < most = omega (arith, is.least (all_from_opening periods levels) (opening_made periods levels), all_cost periods levels, small) in
    let found = is.some below in
    record {
      some = (found.0, found.1, omega (arith, found.2, is.least found.0 found.1));
      least = is.least;
    }

-- what fits is below the limit
pub fits_one : (a x : ℕ) → IsCapped a x → x < most → a + 0 < most
fits_one a x is small = omega (arith, is.fits small, small)

pub fits_two : (a b x y s : ℕ) → IsCapped a x → IsCapped b y → s ≡ min (x + y) most → s < most → a + (b + 0) < most
fits_two a b x y s first second sum small = let both = capped_sum a b x y s first second sum in omega (arith, both.fits small, small)

pub fits_three : (a b d x y z r s : ℕ) → IsCapped a x → IsCapped b y → IsCapped d z → r ≡ min (x + y) most → s ≡ min (r + z) most → s < most → a + (b + (d + 0)) < most
fits_three a b d x y z r s first second third part sum small =
    let all = capped_sum (a + b) d r z s (capped_sum a b x y r first second part) third sum in
    omega (arith, all.fits small, small)

-- The price row of an echelon, and which lists of prices make one.
use Rattle.std.specs.Prelude.{◌≡◌, ℕ, ◌+◌, ◌-◌, ◌*◌, Bool, nat_le, ◌||◌, if◌then◌else◌, List, [], length, pos}
use Rattle.lot_sizing.specs.Sums.{sum_to}
use Rattle.lot_sizing.specs.Problem.{AllAtMost, entry}
use Rattle.lot_sizing.specs.Single.{Single}
use Rattle.lot_sizing.specs.Net.{Asked, left_after, net_in}
use Rattle.lin_rows.specs.declared.row.Term.{Term}
use Rattle.lin_rows.specs.declared.prices.Prices.{Prices}
use Rattle.lin_rows.specs.declared.fault.CutFault.{CutFault}
use Rattle.lin_rows.specs.declared.fault.CutFault.TheVariants.{Length, TooLarge, Potential, Sign, Memory}
use Rattle.lin_rows.specs.Rows.{LinRow}
use Rattle.valid_inequalities.specs.Inequalities.{all_gain, gain}
use Rattle.echelon_rows.specs.Rows.{Echelon, cost_terms, priced, row_with, single_with}
use Rattle.echelon_rows.specs.declared.limits.TheConstants.{MAX_PRICE}

-- what units, stocks and backlogs cost and what setups gain
abbrev pub price_terms : Echelon → List ℕ → List ℕ → List ℕ → List ℕ → List Term
price_terms e price unit hold back = cost_terms e (all_gain e.asked (priced e [] unit hold back) (entry price)) (entry unit) (entry hold) (entry back)

-- what the net demands are worth, and the holding of what is left of the opening stock
abbrev pub price_right : Asked → List ℕ → List ℕ → ℕ
price_right a price hold = sum_to a.periods (λ t. net_in a t * entry price t) + sum_to a.periods (λ t. entry hold t * left_after a t)

-- the price row: the former is at least the latter
abbrev pub price_row : Echelon → List ℕ → List ℕ → List ℕ → List ℕ → LinRow
price_row e price unit hold back = row_with (price_terms e price unit hold back) (pos (price_right e.asked price hold))

-- the same of lists of prices
abbrev pub price_row_of : Echelon → Prices → LinRow
price_row_of e p = price_row e p.price.items p.unit.items p.hold.items p.back.items

-- each list has an entry for each period
pub record HaveLengths (periods : ℕ) (p : Prices) : Type 0 where
  pub price : length p.price.items ≡ periods
  pub unit : length p.unit.items ≡ periods
  pub hold : length p.hold.items ≡ periods
  pub back : length p.back.items ≡ periods

-- no entry is past the largest price
pub record AreSmall (p : Prices) : Type 0 where
  pub price : AllAtMost MAX_PRICE p.price.items
  pub unit : AllAtMost MAX_PRICE p.unit.items
  pub hold : AllAtMost MAX_PRICE p.hold.items
  pub back : AllAtMost MAX_PRICE p.back.items

-- why there is no row: a list has another length; else an entry is too large; else memory ran out
abbrev pub IsPriceFault : ℕ → Prices → CutFault → Type 0
IsPriceFault periods p Length = HaveLengths periods p → ⊥
IsPriceFault periods p TooLarge = HaveLengths periods p × (AreSmall p → ⊥)
IsPriceFault periods p Memory = HaveLengths periods p × AreSmall p
IsPriceFault periods p (Potential first last server) = ⊥
IsPriceFault periods p Sign = ⊥

-- an item by itself with listed net demands and prices
abbrev pub single_of : List ℕ → Prices → Bool → Single
single_of net p owing = single_with net [] p.unit.items p.hold.items p.back.items owing

-- what a setup can gain over all of them
abbrev pub gain_over : List ℕ → Prices → Bool → ℕ → ℕ
gain_over net p owing u = sum_to (length net) (gain (single_of net p owing) (entry p.price.items) u)

-- how much more a net demand is worth than it costs, where it may be served
abbrev pub gain_by : List ℕ → List ℕ → List ℕ → Bool → ℕ → ℕ → ℕ
gain_by net price costs owing u t = if owing || nat_le u t then entry net t * (entry price t - entry costs t) else 0

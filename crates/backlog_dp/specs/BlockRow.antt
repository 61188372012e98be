-- The block row of an echelon, and which prices and potentials make one.
use Rattle.std.specs.Prelude.{◌≡◌, ℕ, ◌+◌, ⊤, Bool, List, length, pos}
use Rattle.lot_sizing.specs.Problem.{AllAtMost, entry}
use Rattle.lot_sizing.specs.Single.{ArePotentials, Single, position_count, potential}
use Rattle.lin_rows.specs.declared.prices.Potentials.{Potentials}
use Rattle.lin_rows.specs.declared.fault.CutFault.{CutFault}
use Rattle.lin_rows.specs.declared.fault.CutFault.TheVariants.{Length, TooLarge, Potential, Sign, Memory}
use Rattle.lin_rows.specs.declared.row.Term.{Term}
use Rattle.lin_rows.specs.Base.{some_terms}
use Rattle.lin_rows.specs.Rows.{LinRow}
use Rattle.valid_inequalities.specs.Inequalities.{left_cost}
use Rattle.echelon_rows.specs.Rows.{Echelon, cost_terms, priced, row_with, single_with}
use Rattle.echelon_rows.specs.declared.limits.TheConstants.{MAX_PRICE, MAX_STEP}
use Rattle.backlog_dp.specs.Broken.{IsFirstBroken}

-- net demands with these prices
abbrev pub single_by : List ℕ → Potentials → Bool → Single
single_by net p owing = single_with net p.setup.items p.unit.items p.hold.items p.back.items owing

-- what setups, units, stocks and backlogs cost by these prices
abbrev pub block_terms : Echelon → Potentials → List Term
block_terms e p = some_terms (cost_terms e (entry p.setup.items) (entry p.unit.items) (entry p.hold.items) (entry p.back.items))

-- what setups, units, stocks and backlogs cost is at least the last potential and the holding of what is left of the opening stock
abbrev pub block_row : Echelon → List ℕ → List ℕ → List ℕ → List ℕ → List ℕ → LinRow
block_row e setup unit hold back steps =
    let s = priced e setup unit hold back in
    row_with (cost_terms e (entry setup) (entry unit) (entry hold) (entry back)) (pos (potential steps (position_count s) + left_cost e.asked s))

-- the same of lists of prices and potentials
abbrev pub block_row_of : Echelon → Potentials → LinRow
block_row_of e p = block_row e p.setup.items p.unit.items p.hold.items p.back.items p.steps.items

-- the echelon's item by itself with these prices
abbrev pub priced_by : Echelon → Potentials → Single
priced_by e p = priced e p.setup.items p.unit.items p.hold.items p.back.items

-- the last potential, and the holding of what is left of the opening stock
abbrev pub block_right : Echelon → Potentials → ℕ
block_right e p = potential p.steps.items (position_count (priced_by e p)) + left_cost e.asked (priced_by e p)

-- each list of prices has an entry for each period
pub record HavePrices (periods : ℕ) (p : Potentials) : Type 0 where
  pub setup : length p.setup.items ≡ periods
  pub unit : length p.unit.items ≡ periods
  pub hold : length p.hold.items ≡ periods
  pub back : length p.back.items ≡ periods

-- and there is a potential for each position
pub record HaveLengths (e : Echelon) (p : Potentials) : Type 0 where
  pub prices : HavePrices e.asked.periods p
  pub steps : length p.steps.items ≡ position_count (priced_by e p)

-- no price is past the largest one
pub record ArePricesSmall (p : Potentials) : Type 0 where
  pub setup : AllAtMost MAX_PRICE p.setup.items
  pub unit : AllAtMost MAX_PRICE p.unit.items
  pub hold : AllAtMost MAX_PRICE p.hold.items
  pub back : AllAtMost MAX_PRICE p.back.items

-- nor is a potential past the largest one
pub record AreSmall (p : Potentials) : Type 0 where
  pub prices : ArePricesSmall p
  pub steps : AllAtMost MAX_STEP p.steps.items

-- they make a row: the lists have their lengths, no number is too large, and the potentials rise over no block by more than it costs
pub record IsAllowed (e : Echelon) (p : Potentials) : Type 0 where
  pub lengths : HaveLengths e p
  pub small : AreSmall p
  pub blocks : ArePotentials (priced_by e p) p.steps.items

-- why there is no row: a list has another length; else a number is too large; else potentials rise over a block by more than it costs, of which this is the first; or memory ran out
abbrev pub IsBlockFault : Echelon → Potentials → CutFault → Type 0
IsBlockFault e p Length = HaveLengths e p → ⊥
IsBlockFault e p TooLarge = HaveLengths e p × (AreSmall p → ⊥)
IsBlockFault e p (Potential first last server) = HaveLengths e p × AreSmall p × IsFirstBroken (priced_by e p) p.steps.items (record { first = first; last = last; server = server })
IsBlockFault e p Sign = ⊥
IsBlockFault e p Memory = ⊤

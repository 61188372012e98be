-- Which groups are past the limits of work.
use Rattle.std.proofs.Common.{◌≡◌, ◌≢◌, ◌≤◌, ◌<◌, ⊎_elim, ℕ, refl, ap, subst, arith, List, [], ◌∷◌}
use Rattle.std.proofs.lemmas.Bool.{cases_eq}
use Rattle.lot_sizing.specs.Bill.{one_if_same}
use Rattle.lot_sizing.specs.Problem.{Problem}
use Rattle.lot_sizing.specs.Plan.{Table}
use Rattle.lin_rows.specs.declared.column.Column.{Column}
use Rattle.chain_dp.specs.Chains.{Level, opening_cost}
use Rattle.chain_dp.specs.Numbers.{most}
use Rattle.item_groups.specs.declared.group.Group.{Group}
use Rattle.item_groups.specs.declared.group.Group.TheVariants as group
use Rattle.reduced_groups.specs.declared.floors.FloorFault.{FloorFault}
use Rattle.reduced_groups.specs.declared.floors.FloorFault.TheVariants.{Entries, Horizon, Memory, Price, TooDear}
use Rattle.reduced_groups.specs.Apart.{IsItem, items_in, times_of}
use Rattle.reduced_groups.specs.Levels.{AreAlikeLevels}
use Rattle.reduced_groups.specs.Prices.{ArePricesFor, PriceLists, price_in}
use Rattle.reduced_groups.specs.Floors.{HasLargePrice, HasSmallPrices, HasSmallPricesOf, HaveSmallPrices, IsFloorFaultOf, IsPastLimits, IsWithinWork, shape_of}
use Rattle.reduced_groups.proofs.AlikeLevels.{opening_same}

-- what lists say of the prices of columns
pub small_of : (m : Problem) (prices : PriceLists) (i : ℕ) → ArePricesFor m prices → IsItem m i → HasSmallPrices prices i → HasSmallPricesOf m (price_in prices) i
small_of m prices i are item small = λ t low high.
    let rows = are.rows i item.0 item.1 in
    (small.0 t low (omega (arith, high, rows.0)), small.1 t low (omega (arith, high, rows.1)))

-- an item of a list whose prices are small
other_item : (i k : ℕ) → i ≢ k → one_if_same i k ≡ 0
other_item i k h = grind (arith, h)

small_at : (m : Problem) (price : Column → ℕ) (items : List ℕ) (k : ℕ) → 1 ≤ times_of items k → HaveSmallPrices m price items → HasSmallPricesOf m price k
small_at m price [] k some are = absurd (omega (arith, some))
small_at m price (i ∷ items) k some are =
    ⊎_elim
    (λ same. subst (HasSmallPricesOf m price) same are.0)
    (λ other. small_at m price items k (omega (arith, some, other_item i k other)) are.1)
    (cases_eq i k)

large_small : (m : Problem) (prices : PriceLists) (i t : ℕ) → HasLargePrice m prices i t → HasSmallPricesOf m (price_in prices) i → ⊥
large_small m prices i t large small =
    let s = small t large.0 large.1 in
    ⊎_elim (λ setup. omega (arith, setup, s.0)) (λ unit. omega (arith, unit, s.1)) large.2

small_in : (m : Problem) (start on_time : Table) (price : Column → ℕ) (g : Group) → IsWithinWork m start on_time price (shape_of g) → HaveSmallPrices m price (items_in (shape_of g))
small_in m start on_time price (group.Item i) is = (is, tt)
small_in m start on_time price (group.Late i shares) is = (is, tt)
small_in m start on_time price (group.Quantities i) is = (is.0, tt)
small_in m start on_time price (group.LateQuantities i shares) is = (is.0, tt)
small_in m start on_time price (group.Pair low top) is = is.0
small_in m start on_time price (group.Triple low mid top) is = is.0

entries_past : (m : Problem) (start on_time : Table) (prices : PriceLists) (g : Group) → IsFloorFaultOf m start on_time prices (shape_of g) Entries → IsWithinWork m start on_time (price_in prices) (shape_of g) → ⊥
entries_past m start on_time prices (group.Item i) is within = is
entries_past m start on_time prices (group.Late i shares) is within = is
entries_past m start on_time prices (group.Quantities i) is within = let (t, low, high, many) = is in omega (arith, many, within.1 t low high)
entries_past m start on_time prices (group.LateQuantities i shares) is within = let (t, low, high, many) = is in omega (arith, many, within.1 t low high)
entries_past m start on_time prices (group.Pair low top) is within = is
entries_past m start on_time prices (group.Triple low mid top) is within = is

horizon_past : (m : Problem) (start on_time : Table) (prices : PriceLists) (g : Group) → IsFloorFaultOf m start on_time prices (shape_of g) Horizon → IsWithinWork m start on_time (price_in prices) (shape_of g) → ⊥
horizon_past m start on_time prices (group.Item i) is within = is
horizon_past m start on_time prices (group.Late i shares) is within = is
horizon_past m start on_time prices (group.Quantities i) is within = is
horizon_past m start on_time prices (group.LateQuantities i shares) is within = is
horizon_past m start on_time prices (group.Pair low top) is within = is
horizon_past m start on_time prices (group.Triple low mid top) is within = omega (arith, is, within.1)

dear_past : (m : Problem) (start on_time : Table) (prices : PriceLists) (g : Group) → IsFloorFaultOf m start on_time prices (shape_of g) TooDear → IsWithinWork m start on_time (price_in prices) (shape_of g) → ⊥
dear_past m start on_time prices (group.Item i) is within = is
dear_past m start on_time prices (group.Late i shares) is within = is
dear_past m start on_time prices (group.Quantities i) is within = is
dear_past m start on_time prices (group.LateQuantities i shares) is within = is
dear_past m start on_time prices (group.Pair low top) is within = omega (arith, is, within.2)
dear_past m start on_time prices (group.Triple low mid top) is within = omega (arith, is, within.2)

-- each fault but want of memory is past the limits
pub past_limits : (m : Problem) (start on_time : Table) (prices : PriceLists) (g : Group) (e : FloorFault) → IsFloorFaultOf m start on_time prices (shape_of g) e → IsPastLimits m start on_time prices (shape_of g) e
past_limits m start on_time prices g (Price i t) is = λ told within. large_small m prices i t is.1 (small_at m (price_in prices) (items_in (shape_of g)) i is.0 (small_in m start on_time (price_in prices) g within))
past_limits m start on_time prices g Entries is = λ told within. entries_past m start on_time prices g is within
past_limits m start on_time prices g Horizon is = λ told within. horizon_past m start on_time prices g is within
past_limits m start on_time prices g TooDear is = λ told within. dear_past m start on_time prices g is within
past_limits m start on_time prices g Memory is = λ told within. absurd (told refl)

-- levels that are the same are within the limits together
pub fits_same : (periods n : ℕ) (ks ls : List Level) → n ≡ periods → AreAlikeLevels periods ks ls → (most ≤ opening_cost n ks → ⊥) → opening_cost periods ls < most
fits_same periods n ks ls size same fits = omega (arith, fits, ap (λ j. opening_cost j ks) size, opening_same periods ks ls same)

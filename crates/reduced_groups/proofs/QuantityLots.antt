-- The numbers of items in whole quantities.
use Rattle.std.proofs.Common.{◌≡◌, ◌≤◌, ◌+◌, ◌-◌, ◌*◌, ◌∙◌, ⊎_elim, ℕ, refl, sym, ap, subst, arith, List, [], ◌∷◌, ◌++◌}
use Rattle.std.specs.Prelude.{if◌then◌else◌, max, nat_le}
use Rattle.std.proofs.lemmas.Bool.{cases_lt}
use Rattle.std.proofs.lemmas.List.{length_push, get_or_append_left, get_or_push}
use Rattle.lot_sizing.specs.Problem.{Problem, entry, item_at}
use Rattle.lot_sizing.specs.Plan.{Table}
use Rattle.lot_sizing.specs.Totals.{AreLargestTotals, IsRanking}
use Rattle.lot_sizing.specs.declared.limits.TheConstants.{MAX_PERIODS}
use Rattle.lin_rows.specs.declared.column.Column.{Column}
use Rattle.lin_rows.specs.declared.column.Column.TheVariants.{X, Y}
use Rattle.must_start.specs.MustStart.{MustStartIsOne}
use Rattle.must_start.specs.Lots.{IsLargestLot, LotsAreOne}
use Rattle.must_start.specs.Rows.{IsMustStartOf, start_in}
use Rattle.late_starts.specs.OnTime.{OnTimeIsOne}
use Rattle.late_starts.specs.Rows.{IsOnTimeOf}
use Rattle.quantity_dp.specs.declared.lots.LotPeriod.{LotPeriod}
use Rattle.quantity_dp.specs.declared.limits.LotsFault.{LotsFault}
use Rattle.quantity_dp.specs.declared.limits.LotsFault.TheVariants.{Need, Periods, Price}
use Rattle.quantity_dp.specs.Limits.{IsFaultOf, IsWithinLimits}
use Rattle.quantity_dp.specs.Lots.{Lots, lot_at, lots_of, no_lot}
use Rattle.reduced_groups.specs.declared.floors.Floor.{Floor}
use Rattle.reduced_groups.specs.declared.floors.Floor.TheVariants.{Least, NoChoice}
use Rattle.reduced_groups.specs.declared.floors.FloorFault.{FloorFault}
use Rattle.reduced_groups.specs.declared.floors.FloorFault.TheVariants.{Entries, Horizon, Memory, TooDear}
use Rattle.reduced_groups.specs.declared.floors.FloorFault.TheVariants as floors
use Rattle.reduced_groups.specs.Groups.{AreKnown, Known, LateQuantityGroup, QuantityGroup, lots_in, short_lots_in}
use Rattle.reduced_groups.specs.Apart.{IsItem}
use Rattle.reduced_groups.specs.Prices.{ArePricesFor, PriceLists, price_in}
use Rattle.reduced_groups.specs.Floors.{AreLotsFor, HasFewEntries, HasManyEntriesOf, HasSmallPrices, IsFloorFaultOf, IsFloorOf, IsFoundOf, IsLotFor, IsLotsFault, settled_start}
use Rattle.reduced_groups.proofs.AlikeLots.{HaveSameChoices, HaveSamePrices, least_price_same, none_same}
use Rattle.reduced_groups.proofs.Limits.{small_of}

-- the lots of the next period
pub lots_next : (m : Problem) (start on_time cost : ℕ → ℕ) (price : Column → ℕ) (i n k : ℕ) (x : LotPeriod) (xs : List LotPeriod) → k ≡ n + 1 → AreLotsFor m start on_time cost price i n xs → IsLotFor m (start k) (on_time k) (cost k) price i k x → AreLotsFor m start on_time cost price i k (xs ++ x ∷ [])
lots_next m start on_time cost price i n k x xs next has is =
    let P = λ (t : ℕ) (lot : LotPeriod). IsLotFor m (start t) (on_time t) (cost t) price i t lot in
    record {
      size = omega (arith, length_push xs x, has.size, next);
      each = λ t low high. ⊎_elim
          (λ before. subst (P t) (sym (get_or_append_left xs (x ∷ []) no_lot (t - 1) (omega (arith, before, low, has.size, next)))) (has.each t low (omega (arith, before, next))))
          (λ last.
          let e : t ≡ k = omega (arith, last, high) in
          subst (P t) (sym (get_or_push xs x no_lot (t - 1) (omega (arith, e, low, has.size, next)))) (subst (λ u. P u x) (sym e) is))
          (cases_lt t k);
    }

-- the lots that a recursion is given are those of an item, whatever is known
module _ (m : Problem) (start on_time cost : ℕ → ℕ) (price : Column → ℕ) (i : ℕ) (xs : List LotPeriod) (are : AreLotsFor m start on_time cost price i m.periods xs) (total : ℕ → ℕ) (totals : AreLargestTotals m total) (one : LotsAreOne) (item : IsItem m i) where
  same_choices : (b : Lots) → m.periods ≡ b.periods → ((t : ℕ) → 1 ≤ t → t ≤ m.periods → start t ≡ b.need t) → ((t : ℕ) → 1 ≤ t → t ≤ m.periods → IsLargestLot m total i t (b.largest t)) → HaveSameChoices (lots_of xs) b
  same_choices b periods starts largest = record {
    periods = are.size ∙ periods;
    need = λ t low high. let h : t ≤ m.periods = omega (arith, high, are.size) in (are.each t low h).need ∙ starts t low h;
    largest = λ t low high. let h : t ≤ m.periods = omega (arith, high, are.size) in one m total i t (lot_at xs t).largest (b.largest t) ((are.each t low h).largest total totals) (largest t low h);
  }

  same_prices : (b : Lots) → ((t : ℕ) → price (Y i t) ≡ b.setup t) → ((t : ℕ) → price (X i t) ≡ b.unit t) → ((t : ℕ) → 1 ≤ t → t ≤ m.periods → on_time t ≡ b.asked t) → ((t : ℕ) → cost t ≡ b.share t) → HaveSamePrices (lots_of xs) b
  same_prices b setups units asked shares = record {
    setup = λ t low high. (are.each t low (omega (arith, high, are.size))).setup ∙ setups t;
    unit = λ t low high. (are.each t low (omega (arith, high, are.size))).unit ∙ units t;
    asked = λ t low high. let h : t ≤ m.periods = omega (arith, high, are.size) in (are.each t low h).asked ∙ asked t low h;
    share = λ t low high. (are.each t low (omega (arith, high, are.size))).share ∙ shares t;
  }

module _ (m : Problem) (rank : ℕ → ℕ) (rows : List (List ℕ)) (prices : PriceLists) (i : ℕ) (xs : List LotPeriod) (one : MustStartIsOne) (lot_one : LotsAreOne) (ranks : IsRanking m rank) (starts : IsMustStartOf m rows) (item : IsItem m i) where
  must_same : (total : ℕ → ℕ) (known : Known) → AreKnown m total known → (t : ℕ) → 1 ≤ t → t ≤ m.periods → start_in rows i t ≡ known.start i t
  must_same total known are t low high = one m rank (start_in rows) known.start ranks starts.starts are.start i t item.0 item.1 low high

  pub quantities_known : (floor : Floor) → AreLotsFor m (start_in rows i) (λ t. 0) (λ t. 0) (price_in prices) i m.periods xs → IsFoundOf xs floor → IsFloorOf m prices (QuantityGroup i) floor
  quantities_known (Least a) are is = λ total known totals known_are.
      let b = lots_in m known (price_in prices) i in
      least_price_same (lots_of xs) b a
      (same_choices m (start_in rows i) (λ t. 0) (λ t. 0) (price_in prices) i xs are total totals lot_one item b refl (must_same total known known_are) (λ t low high. known_are.lot i t item.0 item.1 low high))
      (same_prices m (start_in rows i) (λ t. 0) (λ t. 0) (price_in prices) i xs are total totals lot_one item b (λ t. refl) (λ t. refl) (λ t low high. refl) (λ t. refl))
      is
  quantities_known NoChoice are is = λ total known totals known_are.
      let b = lots_in m known (price_in prices) i in
      none_same (lots_of xs) b
      (same_choices m (start_in rows i) (λ t. 0) (λ t. 0) (price_in prices) i xs are total totals lot_one item b refl (must_same total known known_are) (λ t low high. known_are.lot i t item.0 item.1 low high))
      is

  module _ (times : List (List ℕ)) (timely : OnTimeIsOne) (timed : IsOnTimeOf m times) (shares : List ℕ) where
    times_same : (total : ℕ → ℕ) (known : Known) → AreKnown m total known → (t : ℕ) → 1 ≤ t → t ≤ m.periods → start_in times i t ≡ known.on_time i t
    times_same total known are t low high = timely m rank (start_in times) known.on_time ranks timed.starts are.on_time i t item.0 item.1 low high

    settled_same : (total : ℕ → ℕ) (known : Known) → AreKnown m total known → (t : ℕ) → 1 ≤ t → t ≤ m.periods → settled_start m (start_in rows) (start_in times) i t ≡ settled_start m known.start known.on_time i t
    settled_same total known are t low high =
        ap (λ k. if nat_le (m.periods - (item_at m i).lead) t then k else start_in rows i t) (times_same total known are t low high)
        ∙ ap (λ k. if nat_le (m.periods - (item_at m i).lead) t then known.on_time i t else k) (must_same total known are t low high)

    pub short_known : (floor : Floor) → AreLotsFor m (settled_start m (start_in rows) (start_in times) i) (start_in times i) (entry shares) (price_in prices) i m.periods xs → IsFoundOf xs floor → IsFloorOf m prices (LateQuantityGroup i shares) floor
    short_known (Least a) are is = λ total known totals known_are.
        let b = short_lots_in m known (price_in prices) i shares in
        least_price_same (lots_of xs) b a
        (same_choices m (settled_start m (start_in rows) (start_in times) i) (start_in times i) (entry shares) (price_in prices) i xs are total totals lot_one item b refl (settled_same total known known_are) (λ t low high. known_are.lot i t item.0 item.1 low high))
        (same_prices m (settled_start m (start_in rows) (start_in times) i) (start_in times i) (entry shares) (price_in prices) i xs are total totals lot_one item b (λ t. refl) (λ t. refl) (times_same total known known_are) (λ t. refl))
        is
    short_known NoChoice are is = λ total known totals known_are.
        let b = short_lots_in m known (price_in prices) i shares in
        none_same (lots_of xs) b
        (same_choices m (settled_start m (start_in rows) (start_in times) i) (start_in times i) (entry shares) (price_in prices) i xs are total totals lot_one item b refl (settled_same total known known_are) (λ t low high. known_are.lot i t item.0 item.1 low high))
        is

greatest_same : (a b x y : ℕ) → a ≡ x → b ≡ y → max a b ≡ max x y
greatest_same a b x y first second = ap (λ k. max k b) first ∙ ap (λ k. max x k) second

-- lots within the limits have few entries, by the greater of what must have been started and what is asked
pub few_entries : (m : Problem) (asked : Table) (start on_time cost : ℕ → ℕ) (price : Column → ℕ) (i : ℕ) (lots : List LotPeriod) → ((t : ℕ) → 1 ≤ t → t ≤ m.periods → max (start t) (on_time t) ≡ asked i t) → AreLotsFor m start on_time cost price i m.periods lots → IsWithinLimits lots → HasFewEntries m asked i
few_entries m asked start on_time cost price i lots greatest are within = λ t low high.
    let lot = are.each t low high in
    omega (
      arith,
      (within.each).small t low (omega (arith, high, are.size)),
      ap (λ n. n * (max (lot_at lots t).need (lot_at lots t).asked + 1)) are.size,
      ap (λ n. m.periods * (n + 1)) (greatest_same (lot_at lots t).need (lot_at lots t).asked (start t) (on_time t) lot.need lot.asked ∙ greatest t low high),
    )

-- past the limits there are too many
pub entries_fault : (m : Problem) (asked : Table) (start on_time cost : ℕ → ℕ) (prices : PriceLists) (i : ℕ) (lots : List LotPeriod) (fault : LotsFault) → m.periods ≤ MAX_PERIODS → IsItem m i → ArePricesFor m prices → HasSmallPrices prices i → ((t : ℕ) → 1 ≤ t → t ≤ m.periods → max (start t) (on_time t) ≡ asked i t) → AreLotsFor m start on_time cost (price_in prices) i m.periods lots → IsFaultOf lots fault → HasManyEntriesOf m asked i
entries_fault m asked start on_time cost prices i lots Periods few item sizes small greatest are is = absurd (omega (arith, few, is, are.size))
entries_fault m asked start on_time cost prices i lots (Price t) few item sizes small greatest are is =
    let high : t ≤ m.periods = omega (arith, (is.0).high, are.size) in
    let lot = are.each t (is.0).low high in
    let prices_small = small_of m prices i sizes item small t (is.0).low high in
    absurd (is.1 (record {
      setup = omega (arith, lot.setup, prices_small.0);
      unit = omega (arith, lot.unit, prices_small.1);
      share = lot.small;
    }))
entries_fault m asked start on_time cost prices i lots (Need t) few item sizes small greatest are is =
    let high : t ≤ m.periods = omega (arith, (is.0).high, are.size) in
    let lot = are.each t (is.0).low high in (
      t,
      (is.0).low,
      high,
      omega (
        arith,
        is.2,
        ap (λ n. n * (max (lot_at lots t).need (lot_at lots t).asked + 1)) are.size,
        ap (λ n. m.periods * (n + 1)) (greatest_same (lot_at lots t).need (lot_at lots t).asked (start t) (on_time t) lot.need lot.asked ∙ greatest t (is.0).low high),
      ),
    )

-- where nothing is asked it is what must have been started
pub none_asked : (start : ℕ) → max start 0 ≡ start
none_asked start = omega arith

-- and what is on time, of which what must have been started is no more
pub on_time_most : (m : Problem) (start on_time : Table) (i t : ℕ) → start i t ≤ on_time i t → max (settled_start m start on_time i t) (on_time i t) ≡ on_time i t
on_time_most m start on_time i t within =
    ⊎_elim
    (λ before. grind (arith, before, within))
    (λ from. grind (arith, from))
    (cases_lt t (m.periods - (item_at m i).lead))

-- so nothing is found of whole quantities where their table is too large, or memory ran out
pub quantities_fault : (m : Problem) (start other : Table) (prices : PriceLists) (i : ℕ) (xs : List LotPeriod) → m.periods ≤ MAX_PERIODS → IsItem m i → ArePricesFor m prices → HasSmallPrices prices i → AreLotsFor m (start i) (λ t. 0) (λ t. 0) (price_in prices) i m.periods xs → (e : FloorFault) → IsLotsFault xs e → IsFloorFaultOf m start other prices (QuantityGroup i) e
quantities_fault m start other prices i xs few item sizes small are (floors.Price j t) is = absurd is
quantities_fault m start other prices i xs few item sizes small are Entries is = let (fault, found) = is in entries_fault m start (start i) (λ t. 0) (λ t. 0) prices i xs fault few item sizes small (λ t low high. none_asked (start i t)) are found
quantities_fault m start other prices i xs few item sizes small are Horizon is = absurd is
quantities_fault m start other prices i xs few item sizes small are TooDear is = absurd is
quantities_fault m start other prices i xs few item sizes small are Memory is = tt

pub short_fault : (m : Problem) (start on_time : Table) (prices : PriceLists) (i : ℕ) (shares : List ℕ) (xs : List LotPeriod) → m.periods ≤ MAX_PERIODS → IsItem m i → ArePricesFor m prices → HasSmallPrices prices i → ((t : ℕ) → 1 ≤ t → t ≤ m.periods → start i t ≤ on_time i t) → AreLotsFor m (settled_start m start on_time i) (on_time i) (entry shares) (price_in prices) i m.periods xs → (e : FloorFault) → IsLotsFault xs e → IsFloorFaultOf m start on_time prices (LateQuantityGroup i shares) e
short_fault m start on_time prices i shares xs few item sizes small within are (floors.Price j t) is = absurd is
short_fault m start on_time prices i shares xs few item sizes small within are Entries is = let (fault, found) = is in entries_fault m on_time (settled_start m start on_time i) (on_time i) (entry shares) prices i xs fault few item sizes small (λ t low high. on_time_most m start on_time i t (within t low high)) are found
short_fault m start on_time prices i shares xs few item sizes small within are Horizon is = absurd is
short_fault m start on_time prices i shares xs few item sizes small within are TooDear is = absurd is
short_fault m start on_time prices i shares xs few item sizes small within are Memory is = tt

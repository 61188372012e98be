-- Groups have the same numbers whichever starts, on time or not, and lots are taken of a problem.
use Rattle.std.proofs.Common.{◌≡◌, ◌≤◌, ◌+◌, ◌-◌, ◌*◌, ◌∙◌, ⊎_elim, inl, inr, ℕ, zero, suc, refl, sym, ap, arith, List, [], ◌∷◌}
use Rattle.std.specs.Prelude.{if◌then◌else◌, ◌==◌, nat_le}
use Rattle.std.specs.List.{All}
use Rattle.std.proofs.lemmas.List.Elements.{All-head, All-tail}
use Rattle.lot_sizing.specs.Problem.{Problem, item_at, item_count, per_unit}
use Rattle.lot_sizing.specs.Single.{NetPlan}
use Rattle.lot_sizing.specs.Totals.{AreLargestTotals, IsRanking}
use Rattle.lot_sizing.proofs.Ones.{one_total}
use Rattle.lot_sizing.proofs.Sums.{sum_to-same}
use Rattle.lin_rows.specs.declared.column.Column.{Column}
use Rattle.lin_rows.specs.declared.column.Column.TheVariants.{X, Y, R}
use Rattle.lin_rows.specs.Columns.{IsColumn}
use Rattle.must_start.specs.MustStart.{MustStartIsOne}
use Rattle.must_start.specs.Lots.{IsLargestLot}
use Rattle.late_starts.specs.OnTime.{OnTimeIsOne}
use Rattle.late_starts.specs.Charges.{ChargesAgree}
use Rattle.late_starts.specs.Choices.{AreSameLots}
use Rattle.item_groups.specs.declared.group.ChainLink.{ChainLink}
use Rattle.reduced_groups.specs.Groups.{AreKnown, ChainGroup, GroupShape, IsItemChoice, ItemGroup, Known, LateGroup, LateQuantityGroup, QuantityGroup, asked_besides, chain_levels, last_level, late_lots_in, lots_in, lower_level, made_cost, short_lots_in}
use Rattle.reduced_groups.specs.Numbers.{AreNumbersOf, IsNumberOf, LacksChoice, SomeLacksChoice}
use Rattle.reduced_groups.specs.Apart.{AreApart, IsGroupOf, IsItem, items_of, share_in}
use Rattle.reduced_groups.specs.Laws.{AreAlike, AreSamePrices}
use Rattle.reduced_groups.specs.Floors.{HasSmallPricesOf, HaveSmallPrices, IsWithinWork}
use Rattle.reduced_groups.specs.Levels.{AreAlikeLevels, IsAlikeLevel}
use Rattle.reduced_groups.proofs.AlikeLevels.{least_same, opening_same}
use Rattle.reduced_groups.proofs.AlikeLots.{HaveSameChoices, HaveSamePrices, least_price_same, none_same}
use Rattle.reduced_groups.proofs.LateLots.{least_late_same}

-- lots that are the largest by totals that are the same
lot_below : (m : Problem) (total more : ℕ → ℕ) (i t a b : ℕ) → total i ≡ more i → IsLargestLot m total i t a → IsLargestLot m more i t b → a ≤ b
lot_below m total more i t a b same is_a is_b =
    ⊎_elim
    (λ can. is_b.largest a (record { in_all = omega (arith, can.in_all, same); most = can.most; time = can.time }))
    (λ none. omega (arith, none))
    is_a.possible

pub known_alike : (m : Problem) (rank total more : ℕ → ℕ) (a b : Known) → MustStartIsOne → OnTimeIsOne → IsRanking m rank → AreLargestTotals m total → AreLargestTotals m more → AreKnown m total a → AreKnown m more b → AreAlike m a b
known_alike m rank total more a b one timely ranks totals others is_a is_b = record {
  start = λ i low high t t_high. starts i low high t t_high;
  on_time = λ i low high t t_high. times i low high t t_high;
  lot = λ i t low high t_low t_high.
      let same = one_total m rank total more ranks totals others i low high in
      let up = lot_below m total more i t (a.lot i t) (b.lot i t) same (is_a.lot i t low high t_low t_high) (is_b.lot i t low high t_low t_high) in
      let down = lot_below m more total i t (b.lot i t) (a.lot i t) (sym same) (is_b.lot i t low high t_low t_high) (is_a.lot i t low high t_low t_high) in
      omega (arith, up, down);
}
  where
    starts : (i : ℕ) → 1 ≤ i → i ≤ item_count m → (t : ℕ) → t ≤ m.periods → a.start i t ≡ b.start i t
    starts i low high zero t_high = is_a.start.none i low high ∙ sym (is_b.start.none i low high)
    starts i low high (suc t) t_high = one m rank a.start b.start ranks is_a.start is_b.start i (suc t) low high (omega arith) t_high

    times : (i : ℕ) → 1 ≤ i → i ≤ item_count m → (t : ℕ) → t ≤ m.periods → a.on_time i t ≡ b.on_time i t
    times i low high zero t_high = is_a.on_time.none i low high ∙ sym (is_b.on_time.none i low high)
    times i low high (suc t) t_high = timely m rank a.on_time b.on_time ranks is_a.on_time is_b.on_time i (suc t) low high (omega arith) t_high

alike_turned : (m : Problem) (a b : Known) → AreAlike m a b → AreAlike m b a
alike_turned m a b same = record {
  start = λ i low high t t_high. sym (same.start i low high t t_high);
  on_time = λ i low high t t_high. sym (same.on_time i low high t t_high);
  lot = λ i t low high t_low t_high. sym (same.lot i t low high t_low t_high);
}

module _ (m : Problem) (a b : Known) (same : AreAlike m a b) where
  item_same : (i : ℕ) (q : NetPlan) → IsItem m i → IsItemChoice m a.start i q → IsItemChoice m b.start i q
  item_same i q item is = record {
    setup = is.setup;
    made = is.made;
    started = λ t low high. omega (arith, is.started t low high, same.start i item.0 item.1 t high);
  }

  lots_alike : (price other : Column → ℕ) (i : ℕ) → IsItem m i → HaveSameChoices (lots_in m a price i) (lots_in m b other i)
  lots_alike price other i item = record {
    periods = refl;
    need = λ t low high. same.start i item.0 item.1 t high;
    largest = λ t low high. same.lot i t item.0 item.1 low high;
  }

  short_alike : (price other : Column → ℕ) (i : ℕ) (shares : List ℕ) → IsItem m i → HaveSameChoices (short_lots_in m a price i shares) (short_lots_in m b other i shares)
  short_alike price other i shares item = record {
    periods = refl;
    need = λ t low high.
        ap (λ k. if nat_le (m.periods - (item_at m i).lead) t then k else a.start i t) (same.on_time i item.0 item.1 t high)
        ∙ ap (λ k. if nat_le (m.periods - (item_at m i).lead) t then b.on_time i t else k) (same.start i item.0 item.1 t high);
    largest = λ t low high. same.lot i t item.0 item.1 low high;
  }

  asked_same : (i next t : ℕ) → t ≤ m.periods → asked_besides m a.start i next t ≡ asked_besides m b.start i next t
  asked_same i next t high =
      omega (
        arith,
        sum_to-same (item_count m) (λ j. per_unit m i j * (if j == next then 0 else a.start j t)) (λ j. per_unit m i j * (if j == next then 0 else b.start j t)) (λ j j_low j_high.
            ap (λ k. per_unit m i j * (if j == next then 0 else k)) (same.start j j_low j_high t high)),
      )

  pub apart_same : (price other : Column → ℕ) (shapes : List GroupShape) → ChargesAgree → ((j t : ℕ) → IsColumn m (R j t) → price (R j t) ≡ other (R j t)) → AreApart m a price shapes → AreApart m b other shapes
  apart_same price other shapes agree prices is = record {
    lie = is.lie;
    charged = record {
      charge = is.charged.charge;
      charges = agree m a.on_time b.on_time (share_in shapes) is.charged.charge (λ i t low high t_low t_high. same.on_time i low high t t_high) is.charged.charges;
      within = λ j t has. omega (arith, is.charged.within j t has, prices j t has);
    };
  }

module _ (m : Problem) (a b : Known) (price other : Column → ℕ) (same : AreAlike m a b) (prices : AreSamePrices m price other) where
  cost_same : (i : ℕ) (q : NetPlan) → IsItem m i → made_cost m price i q ≡ made_cost m other i q
  cost_same i q item =
      sum_to-same m.periods (λ t. price (Y i t) * q.setup t + price (X i t) * q.make t) (λ t. other (Y i t) * q.setup t + other (X i t) * q.make t) (λ t low high.
      omega (arith, ap (λ k. k * q.setup t) (prices i t item.0 item.1 low high).1, ap (λ k. k * q.make t) (prices i t item.0 item.1 low high).0))

  late_same : (i : ℕ) (shares : List ℕ) → IsItem m i → AreSameLots (late_lots_in m a price i shares) (late_lots_in m b other i shares)
  late_same i shares item = record {
    periods = refl;
    settled = refl;
    setup = λ t low high. (prices i t item.0 item.1 low high).1;
    unit = λ t low high. (prices i t item.0 item.1 low high).0;
    share = λ t low high. refl;
    need = λ t low high. same.on_time i item.0 item.1 t high;
  }

  lots_priced : (i : ℕ) → IsItem m i → HaveSamePrices (lots_in m a price i) (lots_in m b other i)
  lots_priced i item = record {
    setup = λ t low high. (prices i t item.0 item.1 low high).1;
    unit = λ t low high. (prices i t item.0 item.1 low high).0;
    asked = λ t low high. refl;
    share = λ t low high. refl;
  }

  short_priced : (i : ℕ) (shares : List ℕ) → IsItem m i → HaveSamePrices (short_lots_in m a price i shares) (short_lots_in m b other i shares)
  short_priced i shares item = record {
    setup = λ t low high. (prices i t item.0 item.1 low high).1;
    unit = λ t low high. (prices i t item.0 item.1 low high).0;
    asked = λ t low high. same.on_time i item.0 item.1 t high;
    share = λ t low high. refl;
  }

  lower_same : (link : ChainLink) (next : ℕ) → IsItem m link.item → IsAlikeLevel m.periods (lower_level m a.start price link next) (lower_level m b.start other link next)
  lower_same link next item = record {
    setup_cost = λ t low high. (prices link.item t item.0 item.1 low high).1;
    unit_cost = λ t low high. (prices link.item t item.0 item.1 low high).0;
    need = λ t low high. omega (arith, asked_same m a b same link.item next t high, asked_same m a b same link.item next (t - 1) (omega (arith, high)));
    opening_price = refl;
    per_next = refl;
    lead = refl;
  }

  last_same : (link : ChainLink) → IsItem m link.item → IsAlikeLevel m.periods (last_level m a.start price link) (last_level m b.start other link)
  last_same link item = record {
    setup_cost = λ t low high. (prices link.item t item.0 item.1 low high).1;
    unit_cost = λ t low high. (prices link.item t item.0 item.1 low high).0;
    need = λ t low high. omega (arith, same.start link.item item.0 item.1 t high, same.start link.item item.0 item.1 (t - 1) (omega (arith, high)));
    opening_price = refl;
    per_next = refl;
    lead = refl;
  }

  levels_same : (link : ChainLink) (rest : List ChainLink) → All (IsItem m) (link.item ∷ items_of rest) → AreAlikeLevels m.periods (chain_levels m a.start price link rest) (chain_levels m b.start other link rest)
  levels_same link [] items = (last_same link (All-head (IsItem m) link.item [] items), tt)
  levels_same link (next ∷ rest) items = (
    lower_same link next.item (All-head (IsItem m) link.item (next.item ∷ items_of rest) items),
    levels_same next rest (All-tail (IsItem m) link.item (next.item ∷ items_of rest) items),
  )

  small_same : (i : ℕ) → IsItem m i → HasSmallPricesOf m price i → HasSmallPricesOf m other i
  small_same i item small = λ t low high.
      let equal = prices i t item.0 item.1 low high in
      let old = small t low high in
      (omega (arith, old.0, equal.1), omega (arith, old.1, equal.0))

  all_small_same : (items : List ℕ) → All (IsItem m) items → HaveSmallPrices m price items → HaveSmallPrices m other items
  all_small_same [] are small = tt
  all_small_same (i ∷ items) are small = (small_same i (All-head (IsItem m) i items are) small.0, all_small_same items (All-tail (IsItem m) i items are) small.1)

  pub work_same : (s : GroupShape) → IsGroupOf m s → IsWithinWork m a.start a.on_time price s → IsWithinWork m b.start b.on_time other s
  work_same (ItemGroup i) here is = small_same i (All-head (IsItem m) i [] here.items) is
  work_same (LateGroup i shares) here is = small_same i (All-head (IsItem m) i [] here.items) is
  work_same (QuantityGroup i) here is =
      let item = All-head (IsItem m) i [] here.items in
      (small_same i item is.0, λ t low high. omega (arith, is.1 t low high, ap (λ n. m.periods * (n + 1)) (same.start i item.0 item.1 t high)))
  work_same (LateQuantityGroup i shares) here is =
      let item = All-head (IsItem m) i [] here.items in
      (small_same i item is.0, λ t low high. omega (arith, is.1 t low high, ap (λ n. m.periods * (n + 1)) (same.on_time i item.0 item.1 t high)))
  work_same (ChainGroup low rest) here is = (
    all_small_same (low.item ∷ items_of rest) here.items is.0,
    is.1,
    omega (arith, is.2, opening_same m.periods (chain_levels m a.start price low rest) (chain_levels m b.start other low rest) (levels_same low rest here.items)),
  )

module _ (m : Problem) (a b : Known) (price other : Column → ℕ) (same : AreAlike m a b) (prices : AreSamePrices m price other) where
  back : AreAlike m b a
  back = alike_turned m a b same

  pub number_same : (s : GroupShape) (n : ℕ) → IsGroupOf m s → IsNumberOf m a price s n → IsNumberOf m b other s n
  number_same (ItemGroup i) n here is =
      let item = All-head (IsItem m) i [] here.items in
      record {
        some = let (q, choice, costs) = is.some in (q, item_same m a b same i q item choice, sym (cost_same m a b price other same prices i q item) ∙ costs);
        least = λ q choice. omega (arith, is.least q (item_same m b a back i q item choice), cost_same m a b price other same prices i q item);
      }
  number_same (LateGroup i shares) n here is = least_late_same (late_lots_in m a price i shares) (late_lots_in m b other i shares) (late_same m a b price other same prices i shares (All-head (IsItem m) i [] here.items)) n is
  number_same (QuantityGroup i) n here is =
      let item = All-head (IsItem m) i [] here.items in
      least_price_same (lots_in m a price i) (lots_in m b other i) n (lots_alike m a b same price other i item) (lots_priced m a b price other same prices i item) is
  number_same (LateQuantityGroup i shares) n here is =
      let item = All-head (IsItem m) i [] here.items in
      least_price_same (short_lots_in m a price i shares) (short_lots_in m b other i shares) n (short_alike m a b same price other i shares item) (short_priced m a b price other same prices i shares item) is
  number_same (ChainGroup low rest) n here is = record {
    cost = is.cost;
    least = least_same m.periods (chain_levels m a.start price low rest) (chain_levels m b.start other low rest) is.cost (levels_same m a b price other same prices low rest here.items) is.least;
    left = is.left;
  }

  pub numbers_same : (shapes : List GroupShape) (amounts : List ℕ) → All (IsGroupOf m) shapes → AreNumbersOf m a price shapes amounts → AreNumbersOf m b other shapes amounts
  numbers_same [] [] here are = tt
  numbers_same [] (n ∷ amounts) here are = absurd are
  numbers_same (s ∷ shapes) [] here are = absurd are
  numbers_same (s ∷ shapes) (n ∷ amounts) here are = (number_same s n (All-head (IsGroupOf m) s shapes here) are.0, numbers_same shapes amounts (All-tail (IsGroupOf m) s shapes here) are.1)

module _ (m : Problem) (a b : Known) (price other : Column → ℕ) (same : AreAlike m a b) where
  lacks_same : (s : GroupShape) → IsGroupOf m s → LacksChoice m a price s → LacksChoice m b other s
  lacks_same (ItemGroup i) here lacks = lacks
  lacks_same (LateGroup i shares) here lacks = lacks
  lacks_same (QuantityGroup i) here lacks = none_same (lots_in m a price i) (lots_in m b other i) (lots_alike m a b same price other i (All-head (IsItem m) i [] here.items)) lacks
  lacks_same (LateQuantityGroup i shares) here lacks = none_same (short_lots_in m a price i shares) (short_lots_in m b other i shares) (short_alike m a b same price other i shares (All-head (IsItem m) i [] here.items)) lacks
  lacks_same (ChainGroup low rest) here lacks = lacks

  pub some_lacks_same : (shapes : List GroupShape) → All (IsGroupOf m) shapes → SomeLacksChoice m a price shapes → SomeLacksChoice m b other shapes
  some_lacks_same [] here lacks = lacks
  some_lacks_same (s ∷ shapes) here lacks =
      ⊎_elim
      (λ own. inl (lacks_same s (All-head (IsGroupOf m) s shapes here) own))
      (λ rest. inr (some_lacks_same shapes (All-tail (IsGroupOf m) s shapes here) rest))
      lacks

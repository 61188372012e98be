-- The numbers that the recursions find.
use Rattle.std.proofs.Common.{◌≡◌, ◌≤◌, ◌+◌, ◌-◌, ◌*◌, ◌∙◌, ⊎_elim, ℕ, zero, suc, refl, sym, ap, subst, arith, List, [], ◌∷◌}
use Rattle.std.specs.Prelude.{min}
use Rattle.std.proofs.lemmas.Bool.{cases_lt}
use Rattle.std.proofs.lemmas.List.Elements.{All-cons, All-nil}
use Rattle.std.proofs.lemmas.Nat.{mul-le}
use Rattle.lot_sizing.specs.Sums.{sum_to}
use Rattle.lot_sizing.specs.Problem.{Problem, item_count}
use Rattle.lot_sizing.specs.Plan.{Table}
use Rattle.lot_sizing.specs.Single.{NetPlan}
use Rattle.lot_sizing.specs.Totals.{IsRanking}
use Rattle.lot_sizing.specs.declared.limits.TheConstants.{MAX_TOTAL}
use Rattle.lin_rows.specs.declared.column.Column.{Column}
use Rattle.lin_rows.specs.declared.column.Column.TheVariants.{X, Y}
use Rattle.must_start.specs.MustStart.{AreMustStart, MustStartIsOne, MustStartRises}
use Rattle.must_start.specs.Rows.{IsMustStartOf, start_in}
use Rattle.quantity_dp.specs.declared.limits.TheConstants.{MAX_PRICE}
use Rattle.chain_dp.specs.declared.error.ChainError.{ChainError}
use Rattle.chain_dp.specs.declared.error.ChainError.TheVariants.{Memory, TooDear}
use Rattle.chain_dp.specs.Chains.{IsChainMade, IsLeastChainCost, Level, Lots, chain_cost, made, opening_cost}
use Rattle.chain_dp.specs.Numbers.{IsCapped, most}
use Rattle.chain_dp.specs.Stocks.{NoStocks, StocksAreUnused}
use Rattle.item_groups.specs.declared.group.ChainLink.{ChainLink}
use Rattle.reduced_groups.specs.Groups.{AreKnown, ChainGroup, IsItemChoice, ItemGroup, Known, chain_levels, last_level, made_cost, stocks_worth}
use Rattle.reduced_groups.specs.Numbers.{IsChainFloor, IsLeastItem, IsNumberOf}
use Rattle.reduced_groups.specs.Apart.{IsGroupOf, IsItem}
use Rattle.reduced_groups.specs.Laws.{AreAlike}
use Rattle.reduced_groups.specs.Floors.{WhateverIsKnown}
use Rattle.reduced_groups.specs.Levels.{AreAlikeLevels, IsAlikeLevel}
use Rattle.reduced_groups.proofs.AlikeLevels.{least_same, opening_same}
use Rattle.reduced_groups.proofs.Alike.{number_same}
use Rattle.reduced_groups.proofs.ChainPlans.{own_cost, stock_some, stock_sum, telescope, with_stock}

-- THE ITEM BY ITSELF: a chain of one, whose opening stock is never worth its price

module _ (m : Problem) (start : Table) (price : Column → ℕ) (link : ChainLink) (first : start link.item 0 ≡ 0) (rises : (t : ℕ) → 1 ≤ t → t ≤ m.periods → start link.item (t - 1) ≤ start link.item t) where
  -- a choice of lots without opening stock is one of the item
  some_of : (c : ℕ) (ws : List Lots) → IsChainMade m.periods (last_level m start price link ∷ []) ws → NoStocks ws → chain_cost m.periods (last_level m start price link ∷ []) ws ≡ c → (q : NetPlan) × IsItemChoice m start link.item q × (made_cost m price link.item q ≡ c)
  some_of c [] is none costs = absurd is
  some_of c (w ∷ (u ∷ ws)) is none costs = absurd is.1
  some_of c (w ∷ []) is none costs = (
    record { make = w.make; setup = w.setup },
    record {
      setup = is.0.once;
      made = λ t low high more. omega (arith, is.0.once t low high, is.0.setup t low high more);
      started = λ t low high.
          let e : t - 0 ≡ t = omega arith in
          omega (arith, is.0.served t high, none.0, telescope m.periods (start link.item) first rises t high, ap (λ k. sum_to k w.make) e);
    },
    omega (arith, costs, ap (λ k. link.opening_price * k) none.0),
  )

  -- and the other way
  abbrev pub lots_of_choice : NetPlan → Lots
  lots_of_choice q = record { make = with_stock 0 q.make; setup = q.setup }

  cost_of_choice : (q : NetPlan) → chain_cost m.periods (last_level m start price link ∷ []) (lots_of_choice q ∷ []) ≡ made_cost m price link.item q
  cost_of_choice q = omega (arith, own_cost price q.make q.setup m.periods 0 link.item)

  pub item_least : StocksAreUnused → price (Y link.item 1) + price (X link.item 1) ≤ link.opening_price → (c : ℕ) → IsLeastChainCost m.periods (last_level m start price link ∷ []) c → IsLeastItem m start price link.item c
  item_least unused dear c least = record {
    some =
        let (ws, made, none, costs) = unused m.periods (last_level m start price link ∷ []) c (refl, omega (arith, dear), tt) least in
        some_of c ws made none costs;
    least = λ q choice.
        omega (
          arith,
          least.least (lots_of_choice q ∷ []) (
            record {
              once = choice.setup;
              setup = λ t low high more. omega (arith, choice.made t low high (omega (arith, more, stock_some 0 q.make t low)));
              served = λ t high. serves q choice t high;
            },
            tt,
          ),
          cost_of_choice q,
        );
  }
    where
      serves : (q : NetPlan) → IsItemChoice m start link.item q → (t : ℕ) → t ≤ m.periods → 0 + sum_to t (λ u. start link.item u - start link.item (u - 1)) ≤ made (lots_of_choice q) (t - 0)
      serves q choice zero high = omega arith
      serves q choice (suc t) high =
          let e : suc t - 0 ≡ suc t = omega arith in
          omega (
            arith,
            telescope m.periods (start link.item) first rises (suc t) high,
            choice.started (suc t) (omega arith) high,
            stock_sum 0 q.make (suc t),
            ap (λ k. sum_to k (with_stock 0 q.make)) e,
          )

-- WHATEVER IS KNOWN of the problem, what must have been started is one number

module _ (m : Problem) (rank : ℕ → ℕ) (start : Table) (price : Column → ℕ) (one : MustStartIsOne) (ranks : IsRanking m rank) (are : AreMustStart m start) where
  -- the same with these starts
  abbrev pub with_start : Known → Known
  with_start known = record { start = start; on_time = known.on_time; lot = known.lot }

  alike : (total : ℕ → ℕ) (known : Known) → AreKnown m total known → AreAlike m (with_start known) known
  alike total known is = record {
    start = λ i low high t t_high. same i low high t t_high;
    on_time = λ i low high t t_high. refl;
    lot = λ i t low high t_low t_high. refl;
  }
    where
      same : (i : ℕ) → 1 ≤ i → i ≤ item_count m → (t : ℕ) → t ≤ m.periods → start i t ≡ known.start i t
      same i low high zero t_high = are.none i low high ∙ sym (is.start.none i low high)
      same i low high (suc t) t_high = one m rank start known.start ranks are is.start i (suc t) low high (omega arith) t_high

  pub item_known : (i a : ℕ) → IsItem m i → IsLeastItem m start price i a → WhateverIsKnown m (λ known. IsNumberOf m known price (ItemGroup i) a)
  item_known i a item least = λ total known totals is. number_same m (with_start known) known price price (alike total known is) (λ j t low high t_low t_high. (refl, refl)) (ItemGroup i) a (record { items = All-cons (IsItem m) i [] item (All-nil (IsItem m)); linked = tt; shared = tt }) least

  pub chain_known : (low : ChainLink) (rest : List ChainLink) (a : ℕ) → IsGroupOf m (ChainGroup low rest) → IsChainFloor m start price low rest a → WhateverIsKnown m (λ known. IsNumberOf m known price (ChainGroup low rest) a)
  chain_known low rest a group floor = λ total known totals is. number_same m (with_start known) known price price (alike total known is) (λ j t j_low j_high t_low t_high. (refl, refl)) (ChainGroup low rest) a group floor

-- CHAINS

-- a number past 128 bits is worth more than any cost
capped_left : (cost number x result : ℕ) → cost ≤ most → IsCapped number x → result ≡ cost - x → result ≡ cost - number
capped_left cost number x result high capped is =
    ⊎_elim
    (λ small. omega (arith, is, capped.within, capped.fits small))
    (λ large. omega (arith, is, capped.within, large, high))
    (cases_lt x most)

pub capped_sum : (a b x y s : ℕ) → IsCapped a x → IsCapped b y → s ≡ min (x + y) most → IsCapped (a + (b + 0)) s
capped_sum a b x y s is_a is_b e = record {
  within = omega (arith, e, is_a.within, is_b.within);
  fits = λ small. omega (arith, e, small, is_a.fits (omega (arith, e, small)), is_b.fits (omega (arith, e, small)));
}

pub capped_one : (a x : ℕ) → IsCapped a x → IsCapped (a + 0) x
capped_one a x is = record { within = omega (arith, is.within); fits = λ small. omega (arith, is.fits small) }

-- what the recursion finds, less what opening stocks are worth
pub chain_floor : (m : Problem) (start : Table) (price : Column → ℕ) (low : ChainLink) (rest : List ChainLink) (levels : List Level) (n cost worth result : ℕ) → n ≡ m.periods → AreAlikeLevels m.periods levels (chain_levels m start price low rest) → IsLeastChainCost n levels cost → IsCapped (stocks_worth m low rest) worth → cost ≤ most → result ≡ cost - worth → IsChainFloor m start price low rest result
chain_floor m start price low rest levels n cost worth result size same least capped high is = record {
  cost = cost;
  least = least_same m.periods levels (chain_levels m start price low rest) cost same (subst (λ k. IsLeastChainCost k levels cost) size least);
  left = capped_left cost (stocks_worth m low rest) worth result high capped is;
}

-- a chain of one at small prices is never too dear
pub memory_only : (e : ChainError) → (e ≡ TooDear → ⊥) → e ≡ Memory
memory_only TooDear never = absurd (never refl)
memory_only Memory never = refl

pub never_dear : (price need : ℕ) → price ≤ MAX_PRICE + MAX_PRICE → need ≤ MAX_TOTAL → most ≤ price * need + 0 → ⊥
never_dear price need low few dear = let product = mul-le price need (MAX_PRICE + MAX_PRICE) MAX_TOTAL low few in omega (arith, product, dear)

pub item_not_dear : (m : Problem) (rows : List (List ℕ)) (price : Column → ℕ) (link : ChainLink) (k : Level) (n : ℕ) → n ≡ m.periods → 1 ≤ m.periods → MustStartRises → IsMustStartOf m rows → IsItem m link.item → link.opening_price ≤ MAX_PRICE + MAX_PRICE → IsAlikeLevel m.periods k (last_level m (start_in rows) price link) → most ≤ opening_cost n (k ∷ []) → ⊥
item_not_dear m rows price link k n size some rises are item low same dear =
    let i = link.item in
    let start = start_in rows in
    let total : sum_to m.periods (λ u. start i u - start i (u - 1)) ≡ start i m.periods = telescope m.periods (start i) (are.starts.none i item.0 item.1) (λ t t_low t_high. rises m start are.starts i t item.0 item.1 t_low t_high) m.periods (omega arith) in
    never_dear link.opening_price (start i m.periods) low (are.small i m.periods item.0 item.1 some (omega arith))
    (omega (
      arith,
      dear,
      ap (λ j. opening_cost j (k ∷ [])) size,
      opening_same m.periods (k ∷ []) (last_level m start price link ∷ []) (same, tt),
      ap (λ s. link.opening_price * s) total,
    ))

-- the least of an item from that of its chain
pub item_found : (m : Problem) (rows : List (List ℕ)) (price : Column → ℕ) (link : ChainLink) (k : Level) (n cost : ℕ) → n ≡ m.periods → MustStartRises → StocksAreUnused → IsMustStartOf m rows → IsItem m link.item → price (Y link.item 1) + price (X link.item 1) ≤ link.opening_price → IsAlikeLevel m.periods k (last_level m (start_in rows) price link) → IsLeastChainCost n (k ∷ []) cost → IsLeastItem m (start_in rows) price link.item cost
item_found m rows price link k n cost size rises unused are item dear same least =
    let start = start_in rows in
    item_least m start price link (are.starts.none link.item item.0 item.1) (λ t t_low t_high. rises m start are.starts link.item t item.0 item.1 t_low t_high) unused dear cost
    (least_same m.periods (k ∷ []) (last_level m start price link ∷ []) cost (same, tt) (subst (λ j. IsLeastChainCost j (k ∷ []) cost) size least))

-- levels that are the same are too dear together
pub too_dear_same : (periods n : ℕ) (ks ls : List Level) → n ≡ periods → AreAlikeLevels periods ks ls → most ≤ opening_cost n ks → most ≤ opening_cost periods ls
too_dear_same periods n ks ls size same dear = omega (arith, dear, ap (λ j. opening_cost j ks) size, opening_same periods ks ls same)

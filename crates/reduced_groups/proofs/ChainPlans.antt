-- A feasible plan makes the lots of a chain.
use Rattle.std.proofs.Common.{◌≡◌, ◌≤◌, ◌<◌, ◌+◌, ◌-◌, ◌*◌, ⊎_elim, ℕ, zero, suc, refl, sym, ap, arith, Bool, true, false, List, [], ◌∷◌}
use Rattle.std.specs.Prelude.{if◌then◌else◌, ◌==◌, ◌&&◌, nat_lt, is_some, Option, Some, None, IsNone}
use Rattle.std.specs.List.{All}
use Rattle.std.proofs.lemmas.Bool.{cases_eq}
use Rattle.std.proofs.lemmas.List.Elements.{All-head, All-tail}
use Rattle.std.proofs.Math.Nat.{mul-le-mul_left}
use Rattle.lot_sizing.specs.Sums.{sum_to}
use Rattle.lot_sizing.specs.Problem.{Problem, demand, item_at, item_count, per_unit}
use Rattle.lot_sizing.specs.Bill.{one_if_same}
use Rattle.lot_sizing.specs.Net.{choice}
use Rattle.lot_sizing.specs.Plan.{Plan, IsFeasible, Table}
use Rattle.lot_sizing.proofs.Sums.{sum_to-add, sum_to-front, sum_to-le, sum_to-same, sum_to-zero}
use Rattle.lin_rows.specs.declared.column.Column.{Column}
use Rattle.lin_rows.specs.declared.column.Column.TheVariants.{X, Y}
use Rattle.must_start.specs.MustStart.{AreMustStart, may_be_late, must_arrive, taken_by_others, with_made}
use Rattle.must_start.proofs.Starts.{end_later}
use Rattle.chain_dp.specs.Chains.{IsChainMade, Lots, chain_cost, made, used_by_next}
use Rattle.item_groups.specs.declared.group.ChainLink.{ChainLink}
use Rattle.reduced_groups.specs.Groups.{asked_besides, chain_levels, lower_level, made_cost, stocks_worth}
use Rattle.reduced_groups.specs.Apart.{AreLinked, IsItem, items_of}
use Rattle.reduced_groups.proofs.Items.{one_term, over}

-- differences add to what rises
pub telescope : (n : ℕ) (f : ℕ → ℕ) → f 0 ≡ 0 → ((t : ℕ) → 1 ≤ t → t ≤ n → f (t - 1) ≤ f t) → (t : ℕ) → t ≤ n → sum_to t (λ u. f u - f (u - 1)) ≡ f t
telescope n f first rises zero h = sym first
telescope n f first rises (suc t) h =
    let e : suc t - 1 ≡ t = omega arith in
    omega (arith, telescope n f first rises t (omega (arith, h)), rises (suc t) (omega arith) h, ap f e)

-- what is asked of an item but by the next one rises from 0
pub none_asked : (m : Problem) (start : Table) (i next : ℕ) → 1 ≤ m.periods → AreMustStart m start → asked_besides m start i next 0 ≡ 0
none_asked m start i next some are =
    let n = item_count m in
    omega (
      arith,
      end_later 0 m.periods (item_at m i).end_min (λ e. omega (arith, e, some)),
      sum_to-same n (λ j. per_unit m i j * (if j == next then 0 else start j 0)) (λ _. 0) (λ j low high. omega (arith, ap (λ k. per_unit m i j * k) (either (j == next) (start j 0) (are.none j low high)))),
      sum_to-zero n,
    )
  where
    either : (b : Bool) (k : ℕ) → k ≡ 0 → (if b then 0 else k) ≡ 0
    either true k none = refl
    either false k none = none

asked_rises : (m : Problem) (start : Table) (i next t : ℕ) → ((j u : ℕ) → 1 ≤ j → j ≤ item_count m → 1 ≤ u → u ≤ m.periods → start j (u - 1) ≤ start j u) → 1 ≤ t → t ≤ m.periods → asked_besides m start i next (t - 1) ≤ asked_besides m start i next t
asked_rises m start i next t rises low high =
    omega (
      arith,
      end_later (t - 1) m.periods (item_at m i).end_min (λ e. omega (arith, e, low, high)),
      sum_to-front (t - 1) t (demand m i) (omega arith),
      sum_to-le (item_count m) (λ j. per_unit m i j * (if j == next then 0 else start j (t - 1))) (λ j. per_unit m i j * (if j == next then 0 else start j t)) (λ j j_low j_high. mul-le-mul_left (per_unit m i j) (either (j == next) (start j (t - 1)) (start j t) (rises j t j_low j_high low high))),
    )
  where
    either : (b : Bool) (k l : ℕ) → k ≤ l → (if b then 0 else k) ≤ (if b then 0 else l)
    either true k l h = omega arith
    either false k l h = h

-- with what the next one has started, it is what the item must have started
one_taken : (b : Bool) (units own other : ℕ) → units * (if b then own else other) ≡ units * (if b then 0 else other) + (if b then 1 else 0) * (units * own)
one_taken true units own other = omega arith
one_taken false units own other = omega arith

same_turned : (j k : ℕ) → (if j == k then 1 else 0) ≡ one_if_same k j
same_turned j k =
    ⊎_elim
    (λ same. grind (arith, same))
    (λ other. grind (arith, other))
    (cases_eq j k)

taken_apart : (m : Problem) (start : Table) (p : Plan) (i next t : ℕ) → 1 ≤ next → next ≤ item_count m → taken_by_others m (with_made start p next) i t ≡ sum_to (item_count m) (λ j. per_unit m i j * (if j == next then 0 else start j t)) + per_unit m i next * sum_to t (p.make next)
taken_apart m start p i next t low high =
    let n = item_count m in
    let own = sum_to t (p.make next) in
    omega (
      arith,
      sum_to-same n (λ j. per_unit m i j * with_made start p next j t) (λ j. per_unit m i j * (if j == next then 0 else start j t) + one_if_same next j * (per_unit m i j * own)) (λ j j_low j_high.
          omega (arith, one_taken (j == next) (per_unit m i j) own (start j t), ap (λ k. k * (per_unit m i j * own)) (same_turned j next))),
      sum_to-add n (λ j. per_unit m i j * (if j == next then 0 else start j t)) (λ j. one_if_same next j * (per_unit m i j * own)),
      one_term n next (λ j. per_unit m i j * own) low high,
    )

never : (b : Bool) (o : Option (List ℕ)) → IsNone o → (b && is_some o) ≡ false
never true None is = refl
never false None is = refl
never b (Some x) is = absurd (cc is)

-- a stock before the first period, and quantities from it on
abbrev pub with_stock : ℕ → (ℕ → ℕ) → ℕ → ℕ
with_stock stock f zero = stock
with_stock stock f (suc t) = f (suc t)

pub stock_some : (stock : ℕ) (f : ℕ → ℕ) (t : ℕ) → 1 ≤ t → with_stock stock f t ≡ f t
stock_some stock f zero h = absurd (omega (arith, h))
stock_some stock f (suc t) h = refl

pub stock_sum : (stock : ℕ) (f : ℕ → ℕ) (n : ℕ) → sum_to n (with_stock stock f) ≡ sum_to n f
stock_sum stock f n = sum_to-same n (with_stock stock f) f (λ t low high. stock_some stock f t low)

-- the lots of a plan, with the opening stocks of all but the last item
abbrev pub lots_with : Plan → ℕ → ℕ → Lots
lots_with p stock i = record { make = with_stock stock (p.make i); setup = p.setup i }

abbrev pub chain_lots : Problem → Plan → ChainLink → List ChainLink → List Lots
chain_lots m p link [] = lots_with p 0 link.item ∷ []
chain_lots m p link (next ∷ rest) = lots_with p (item_at m link.item).opening link.item ∷ chain_lots m p next rest

used_is : (m : Problem) (p : Plan) (units t : ℕ) (link : ChainLink) (rest : List ChainLink) → used_by_next units (chain_lots m p link rest) t ≡ units * sum_to t (p.make link.item)
used_is m p units t link [] = ap (λ k. units * k) (stock_sum 0 (p.make link.item) t)
used_is m p units t link (next ∷ rest) = ap (λ k. units * k) (stock_sum (item_at m link.item).opening (p.make link.item) t)

-- what a law of must_start says of each feasible plan
pub record Laws (m : Problem) (start : Table) (p : Plan) : Type 0 where
  pub are : AreMustStart m start
  pub started : (i t : ℕ) → 1 ≤ i → i ≤ item_count m → t ≤ m.periods → start i t ≤ sum_to t (p.make i)
  pub rises : (i t : ℕ) → 1 ≤ i → i ≤ item_count m → 1 ≤ t → t ≤ m.periods → start i (t - 1) ≤ start i t
  pub levels : (j i t : ℕ) → 1 ≤ i → i ≤ item_count m → 1 ≤ t → t ≤ m.periods → may_be_late m i t ≡ false → must_arrive m (with_made start p j) i t ≤ sum_to (t - (item_at m i).lead) (p.make i)

module _ (m : Problem) (start : Table) (price : Column → ℕ) (p : Plan) (some : 1 ≤ m.periods) (f : IsFeasible m p) (by : Laws m start p) where
  setup_of : (i t : ℕ) → IsItem m i → 1 ≤ t → t ≤ m.periods → 0 < p.make i t → 1 ≤ p.setup i t
  setup_of i t item low high more = omega (arith, f.made i t item.0 item.1 low high more)

  last_served : (link : ChainLink) → IsItem m link.item → (t : ℕ) → t ≤ m.periods → 0 + sum_to t (λ u. start link.item u - start link.item (u - 1)) ≤ made (lots_with p 0 link.item) (t - 0)
  last_served link item t high =
      let i = link.item in
      let e : t - 0 ≡ t = omega arith in
      omega (
        arith,
        telescope m.periods (start i) (by.are.none i item.0 item.1) (λ u u_low u_high. by.rises i u item.0 item.1 u_low u_high) t high,
        by.started i t item.0 item.1 high,
        stock_sum 0 (p.make i) t,
        ap (λ k. sum_to k (with_stock 0 (p.make i))) e,
      )

  lower_arrives : (i next t : ℕ) → IsItem m i → IsItem m next → IsNone (item_at m i).backlog_cost → t ≤ m.periods → per_unit m i next * sum_to t (p.make next) + asked_besides m start i next t ≤ (item_at m i).opening + sum_to (t - (item_at m i).lead) (p.make i)
  lower_arrives i next zero item goes none high =
      omega (arith, none_asked m start i next some by.are, ap (λ k. per_unit m i next * k) (nothing (p.make next)))
    where
      nothing : (g : ℕ → ℕ) → sum_to 0 g ≡ 0
      nothing g = refl
  lower_arrives i next (suc t) item goes none high =
      omega (
        arith,
        taken_apart m start p i next (suc t) goes.0 goes.1,
        by.levels next i (suc t) item.0 item.1 (omega arith) high (never (nat_lt (suc t) m.periods) (item_at m i).backlog_cost none),
      )

  lower_served : (link next : ChainLink) → (rest : List ChainLink) → IsItem m link.item → IsItem m next.item → IsNone (item_at m link.item).backlog_cost → (t : ℕ) → t ≤ m.periods → used_by_next (per_unit m link.item next.item) (chain_lots m p next rest) t + sum_to t (lower_level m start price link next.item).need ≤ made (lots_with p (item_at m link.item).opening link.item) (t - (item_at m link.item).lead)
  lower_served link next rest item goes none t high =
      let i = link.item in
      let opening = (item_at m i).opening in
      omega (
        arith,
        used_is m p (per_unit m i next.item) t next rest,
        telescope m.periods (asked_besides m start i next.item) (none_asked m start i next.item some by.are) (λ u u_low u_high. asked_rises m start i next.item u by.rises u_low u_high) t high,
        lower_arrives i next.item t item goes none high,
        stock_sum opening (p.make i) (t - (item_at m i).lead),
      )

  -- the plan makes the chain
  pub chain_made : (link : ChainLink) (rest : List ChainLink) → All (IsItem m) (link.item ∷ items_of rest) → AreLinked m link rest → IsChainMade m.periods (chain_levels m start price link rest) (chain_lots m p link rest)
  chain_made link [] items linked =
      let item = All-head (IsItem m) link.item [] items in (
        record {
          once = λ t low high. f.setup link.item t item.0 item.1 low high;
          setup = λ t low high more. setup_of link.item t item low high (omega (arith, more, stock_some 0 (p.make link.item) t low));
          served = λ t high. last_served link item t high;
        },
        tt,
      )
  chain_made link (next ∷ rest) items linked =
      let item = All-head (IsItem m) link.item (next.item ∷ items_of rest) items in
      let others = All-tail (IsItem m) link.item (next.item ∷ items_of rest) items in
      let goes = All-head (IsItem m) next.item (items_of rest) others in
      let opening = (item_at m link.item).opening in (
        record {
          once = λ t low high. f.setup link.item t item.0 item.1 low high;
          setup = λ t low high more. setup_of link.item t item low high (omega (arith, more, stock_some opening (p.make link.item) t low));
          served = λ t high. lower_served link next rest item goes linked.0 t high;
        },
        chain_made next rest others linked.2,
      )

-- what its lots cost
pub own_cost : (price : Column → ℕ) (make setup : ℕ → ℕ) (n stock i : ℕ) → sum_to n (λ t. price (Y i t) * setup t + price (X i t) * with_stock stock make t) ≡ sum_to n (λ t. price (Y i t) * setup t + price (X i t) * make t)
own_cost price make setup n stock i =
    sum_to-same n (λ t. price (Y i t) * setup t + price (X i t) * with_stock stock make t) (λ t. price (Y i t) * setup t + price (X i t) * make t) (λ t low high. ap (λ k. price (Y i t) * setup t + price (X i t) * k) (stock_some stock make t low))

abbrev pub made_by : Problem → (Column → ℕ) → Plan → ℕ → ℕ
made_by m price p k = made_cost m price k (choice p.make p.setup k)

-- the chain costs what its items do, and what the opening stocks are worth
pub chain_pays : (m : Problem) (start : Table) (price : Column → ℕ) (p : Plan) (link : ChainLink) (rest : List ChainLink) → chain_cost m.periods (chain_levels m start price link rest) (chain_lots m p link rest) ≡ over (link.item ∷ items_of rest) (made_by m price p) + stocks_worth m link rest
chain_pays m start price p link [] = omega (arith, own_cost price (p.make link.item) (p.setup link.item) m.periods 0 link.item)
chain_pays m start price p link (next ∷ rest) = omega (arith, own_cost price (p.make link.item) (p.setup link.item) m.periods (item_at m link.item).opening link.item, chain_pays m start price p next rest)

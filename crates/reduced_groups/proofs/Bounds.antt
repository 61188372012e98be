-- What the columns of a feasible plan cost is at least what the numbers of groups add to.
use Rattle.std.proofs.Common.{◌≡◌, ◌≤◌, ◌+◌, ◌-◌, ◌*◌, ◌∙◌, ⊎_elim, ℕ, ap, arith, List, [], ◌∷◌}
use Rattle.std.specs.Prelude.{if◌then◌else◌, nat_le}
use Rattle.std.specs.List.{All}
use Rattle.std.proofs.lemmas.Bool.{cases_lt}
use Rattle.std.proofs.lemmas.List.Elements.{All-head, All-tail}
use Rattle.std.proofs.Math.Nat.{mul-le-mul_left, mul-le-mul_right}
use Rattle.lot_sizing.specs.Sums.{sum_to}
use Rattle.lot_sizing.specs.Problem.{Problem, entry, item_at, item_count}
use Rattle.lot_sizing.specs.Bill.{one_if_same}
use Rattle.lot_sizing.specs.Net.{choice}
use Rattle.lot_sizing.specs.Plan.{EachCell, Plan, IsFeasible, Table}
use Rattle.lot_sizing.specs.Totals.{AreLargestTotals, IsRanking}
use Rattle.lot_sizing.proofs.Sums.{sum_to-add, sum_to-le, sum_to-same, sum_to-times}
use Rattle.lin_rows.specs.declared.column.Column.{Column}
use Rattle.lin_rows.specs.declared.column.Column.TheVariants.{X, Y, R}
use Rattle.lin_rows.specs.Columns.{IsColumn}
use Rattle.must_start.specs.MustStart.{LevelsHold, MustStartHolds, MustStartRises}
use Rattle.must_start.specs.Lots.{LotsHold}
use Rattle.must_start.proofs.Starts.{none_or}
use Rattle.late_starts.specs.OnTime.{AreShortfalls, ShortfallsExist}
use Rattle.late_starts.specs.Charges.{ChargesCover, sum_cells}
use Rattle.late_starts.specs.Choices.{IsLateChoice, PlansAreLateChoices}
use Rattle.late_starts.proofs.Covering.{cells_add, cells_le, cells_same}
use Rattle.quantity_dp.specs.Lots.{IsChoice}
use Rattle.quantity_dp.specs.Lots as lots
use Rattle.reduced_groups.specs.Groups.{AreKnown, ChainGroup, GroupShape, IsItemChoice, ItemGroup, Known, LateGroup, LateQuantityGroup, QuantityGroup, late_lots_in, lots_in, short_lots_in}
use Rattle.reduced_groups.specs.Numbers.{AreNumbersOf, IsNumberOf, LacksChoice, SomeLacksChoice, sum_of}
use Rattle.reduced_groups.specs.Apart.{AreApart, AreCharged, IsGroupOf, IsItem, items_in, share_in, share_of, times_in, times_of}
use Rattle.reduced_groups.specs.Rows.{paid, paid_at}
use Rattle.reduced_groups.proofs.AlikeLots.{lots_cost}
use Rattle.reduced_groups.proofs.Items.{once_most, one_term, over, over_times}
use Rattle.reduced_groups.proofs.ChainPlans.{Laws, chain_lots, chain_made, chain_pays, made_by}

-- the laws on which groups rest
pub record Grounds : Type 0 where
  pub holds : MustStartHolds
  pub rises : MustStartRises
  pub levels : LevelsHold
  pub lots : LotsHold
  pub exist : ShortfallsExist
  pub late : PlansAreLateChoices
  pub cover : ChargesCover

-- what is on time has been started where nothing may fall short, and what must have been where it may
settled_within : (first t on_time start made short : ℕ) → on_time ≤ made + short → (first ≤ t → short ≡ 0) → start ≤ made → (if nat_le first t then on_time else start) ≤ made
settled_within first t on_time start made short late settled started =
    ⊎_elim
    (λ before. grind (arith, before, started))
    (λ from. let none = settled from in grind (arith, from, late, none))
    (cases_lt t first)

falls_within : (on_time made short : ℕ) → on_time ≤ made + short → on_time - made ≤ short
falls_within on_time made short late = omega (arith, late)

module _ (by : Grounds) (m : Problem) (rank total : ℕ → ℕ) (known : Known) (some : 1 ≤ m.periods) (ranks : IsRanking m rank) (totals : AreLargestTotals m total) (are : AreKnown m total known) (p : Plan) (f : IsFeasible m p) where
  item_choice : (i : ℕ) → IsItem m i → IsItemChoice m known.start i (choice p.make p.setup i)
  item_choice i item = record {
    setup = λ t low high. f.setup i t item.0 item.1 low high;
    made = λ t low high. f.made i t item.0 item.1 low high;
    started = λ t low high. by.holds m rank known.start ranks are.start p f i t item.0 item.1 high;
  }

  lot_choice : (price : Column → ℕ) (i : ℕ) → IsItem m i → IsChoice (lots_in m known price i) (choice p.make p.setup i)
  lot_choice price i item = record {
    setup = λ t low high. f.setup i t item.0 item.1 low high;
    lots = λ t low high. by.lots m rank total some ranks totals p f i t item.0 item.1 low high (known.lot i t) (are.lot i t item.0 item.1 low high);
    started = λ t low high. by.holds m rank known.start ranks are.start p f i t item.0 item.1 high;
  }

  chain_laws : Laws m known.start p
  chain_laws = record {
    are = are.start;
    started = λ i t low high t_high. by.holds m rank known.start ranks are.start p f i t low high t_high;
    rises = λ i t low high t_low t_high. by.rises m known.start are.start i t low high t_low t_high;
    levels = λ j i t low high t_low t_high never. by.levels m rank known.start ranks are.start p f j i t low high t_low t_high never;
  }

  -- what falls short of a late item is one of the choices of its lots
  late_choice : (price : Column → ℕ) (short : Table) → AreShortfalls m known.on_time p.backlog short → (i : ℕ) (shares : List ℕ) → IsItem m i → IsLateChoice (late_lots_in m known price i shares) (choice p.make p.setup i) (short i)
  late_choice price short falls i shares item = by.late m rank known.on_time (λ k t. price (Y k t)) (λ k t. price (X k t)) (λ k. entry shares) short ranks are.on_time p f falls i item.0 item.1

  -- what falls short of all items at the shares of a group
  abbrev pub share_paid : Table → GroupShape → ℕ
  share_paid short s = sum_cells m (λ i t. share_of s i t * short i t)

  -- of a group that may fall short it is that of its item
  late_share : (short : Table) (k : ℕ) (shares : List ℕ) → IsItem m k → share_paid short (LateGroup k shares) ≡ sum_to m.periods (λ t. entry shares t * short k t)
  late_share short k shares item =
      let fallen = λ (i : ℕ). sum_to m.periods (λ t. entry shares t * short i t) in
      sum_to-same (item_count m) (λ i. sum_to m.periods (λ t. one_if_same k i * entry shares t * short i t)) (λ i. one_if_same k i * fallen i) (λ i low high.
      sum_to-same m.periods (λ t. one_if_same k i * entry shares t * short i t) (λ t. one_if_same k i * (entry shares t * short i t)) (λ t t_low t_high. omega arith)
      ∙ sum_to-times m.periods (one_if_same k i) (λ t. entry shares t * short i t))
      ∙ one_term (item_count m) k fallen item.0 item.1

  -- what is made of an item that may fall short is a choice of its lots: nothing falls short of those that arrive in the last period or later
  short_choice : (price : Column → ℕ) (short : Table) → AreShortfalls m known.on_time p.backlog short → (i : ℕ) (shares : List ℕ) → IsItem m i → IsChoice (short_lots_in m known price i shares) (choice p.make p.setup i)
  short_choice price short falls i shares item =
      let late = late_choice price short falls i shares item in
      let timely = lot_choice price i item in
      record {
        setup = timely.setup;
        lots = timely.lots;
        started = λ t low high. settled_within (m.periods - (item_at m i).lead) t (known.on_time i t) (known.start i t) (sum_to t (p.make i)) (short i t) (late.started t low high) (late.settled t low high) (timely.started t low high);
      }

  -- it costs no more with what falls short of it
  short_pays : (price : Column → ℕ) (short : Table) → AreShortfalls m known.on_time p.backlog short → (i : ℕ) (shares : List ℕ) → IsItem m i → lots.price (short_lots_in m known price i shares) (choice p.make p.setup i) ≤ made_by m price p i + share_paid short (LateQuantityGroup i shares)
  short_pays price short falls i shares item =
      let late = late_choice price short falls i shares item in
      let made = λ (t : ℕ). price (Y i t) * p.setup i t + price (X i t) * p.make i t in
      let fallen = λ (t : ℕ). entry shares t * short i t in
      omega (
        arith,
        sum_to-le m.periods (lots.price_at (short_lots_in m known price i shares) (choice p.make p.setup i)) (λ t. made t + fallen t) (λ t low high.
            omega (arith, mul-le-mul_left (entry shares t) (falls_within (known.on_time i t) (sum_to t (p.make i)) (short i t) (late.started t low high)))),
        sum_to-add m.periods made fallen,
        late_share short i shares item,
      )

  -- the items of a group and its shares of what falls short cost at least its number
  group_bound : (price : Column → ℕ) (short : Table) → AreShortfalls m known.on_time p.backlog short → (s : GroupShape) (a : ℕ) → IsGroupOf m s → IsNumberOf m known price s a → a ≤ over (items_in s) (made_by m price p) + share_paid short s
  group_bound price short falls (ItemGroup i) a here is =
      let item = All-head (IsItem m) i [] here.items in
      omega (arith, is.least (choice p.make p.setup i) (item_choice i item))
  group_bound price short falls (LateGroup i shares) a here is =
      let item = All-head (IsItem m) i [] here.items in
      omega (
        arith,
        is.least (choice p.make p.setup i) (short i) (late_choice price short falls i shares item),
        late_share short i shares item,
        sum_to-add m.periods (λ t. price (Y i t) * p.setup i t + price (X i t) * p.make i t) (λ t. entry shares t * short i t),
      )
  group_bound price short falls (QuantityGroup i) a here is =
      let item = All-head (IsItem m) i [] here.items in
      omega (arith, is.least (choice p.make p.setup i) (lot_choice price i item), lots_cost m known price i (choice p.make p.setup i))
  group_bound price short falls (LateQuantityGroup i shares) a here is =
      let item = All-head (IsItem m) i [] here.items in
      omega (arith, is.least (choice p.make p.setup i) (short_choice price short falls i shares item), short_pays price short falls i shares item)
  group_bound price short falls (ChainGroup low rest) a here is =
      let made = chain_made m known.start price p some f chain_laws low rest here.items here.linked in
      omega (arith, is.left, is.least.least (chain_lots m p low rest) made, chain_pays m known.start price p low rest)

  -- all groups
  groups_sum : (price : Column → ℕ) (short : Table) → AreShortfalls m known.on_time p.backlog short → (shapes : List GroupShape) (amounts : List ℕ) → All (IsGroupOf m) shapes → AreNumbersOf m known price shapes amounts → sum_of amounts ≤ sum_to (item_count m) (λ i. times_in shapes i * made_by m price p i) + sum_cells m (λ i t. share_in shapes i t * short i t)
  groups_sum price short falls [] [] here is = omega arith
  groups_sum price short falls [] (a ∷ amounts) here is = absurd is
  groups_sum price short falls (s ∷ shapes) [] here is = absurd is
  groups_sum price short falls (s ∷ shapes) (a ∷ amounts) here is =
      let n = item_count m in
      let own = All-head (IsGroupOf m) s shapes here in
      let cost = made_by m price p in
      let apart : sum_to n (λ i. (times_of (items_in s) i + times_in shapes i) * cost i) ≡ sum_to n (λ i. times_of (items_in s) i * cost i) + sum_to n (λ i. times_in shapes i * cost i) =
      sum_to-same n (λ i. (times_of (items_in s) i + times_in shapes i) * cost i) (λ i. times_of (items_in s) i * cost i + times_in shapes i * cost i) (λ i low high. omega arith) ∙ sum_to-add n (λ i. times_of (items_in s) i * cost i) (λ i. times_in shapes i * cost i) in
      let shared : sum_cells m (λ i t. (share_of s i t + share_in shapes i t) * short i t) ≡ share_paid short s + sum_cells m (λ i t. share_in shapes i t * short i t) =
      cells_same m (λ i t. (share_of s i t + share_in shapes i t) * short i t) (λ i t. share_of s i t * short i t + share_in shapes i t * short i t) (λ i t low high t_low t_high. omega arith)
      ∙ cells_add m (λ i t. share_of s i t * short i t) (λ i t. share_in shapes i t * short i t) in
      omega (
        arith,
        group_bound price short falls s a own is.0,
        over_times m (items_in s) cost own.items,
        groups_sum price short falls shapes amounts (All-tail (IsGroupOf m) s shapes here) is.1,
        apart,
        shared,
      )

  -- charges are within prices where a backlog may be
  charge_within : (price : Column → ℕ) (charge : Table) → ((j t : ℕ) → IsColumn m (R j t) → charge j t ≤ price (R j t)) → EachCell m (λ j t. charge j t * p.backlog j t ≤ price (R j t) * p.backlog j t)
  charge_within price charge within = λ j t low high t_low t_high.
      let none : p.backlog j t ≡ 0 → charge j t * p.backlog j t ≤ price (R j t) * p.backlog j t = λ e. omega (arith, ap (λ k. charge j t * k) e) in
      ⊎_elim
      (λ before. ⊎_elim
      (λ may. mul-le-mul_right (p.backlog j t) (within j t ((low, high, t_low, t_high), before, may)))
      (λ never. none ((f.backlog j t low high t_low t_high).0 never))
      (none_or (item_at m j).backlog_cost))
      (λ last. none ((f.backlog j t low high t_low t_high).1 (omega (arith, last, t_high))))
      (cases_lt t m.periods)

  -- so the backlogs pay for the shares of what falls short
  backlogs_pay : (price : Column → ℕ) (short : Table) → AreShortfalls m known.on_time p.backlog short → (shapes : List GroupShape) → AreCharged m known price shapes → sum_cells m (λ i t. share_in shapes i t * short i t) ≤ sum_cells m (λ j t. price (R j t) * p.backlog j t)
  backlogs_pay price short falls shapes are_charged =
      let charge = are_charged.charge in
      omega (
        arith,
        by.cover m known.on_time p.backlog short (share_in shapes) charge falls are_charged.charges,
        cells_le m (λ j t. charge j t * p.backlog j t) (λ j t. price (R j t) * p.backlog j t) (charge_within price charge are_charged.within),
      )

  -- items and backlogs are columns
  columns_pay : (price : Column → ℕ) → sum_to (item_count m) (made_by m price p) + sum_to (item_count m) (λ j. sum_to m.periods (λ t. price (R j t) * p.backlog j t)) ≤ paid m price p
  columns_pay price =
      let n = item_count m in
      let owed = λ (j : ℕ). sum_to m.periods (λ t. price (R j t) * p.backlog j t) in
      omega (
        arith,
        sum_to-add n (made_by m price p) owed,
        sum_to-le n (λ i. made_by m price p i + owed i) (λ i. sum_to m.periods (paid_at price p i)) (λ i low high.
            omega (
              arith,
              sum_to-add m.periods (λ t. price (Y i t) * p.setup i t + price (X i t) * p.make i t) (λ t. price (R i t) * p.backlog i t),
              sum_to-le m.periods (λ t. price (Y i t) * p.setup i t + price (X i t) * p.make i t + price (R i t) * p.backlog i t) (paid_at price p i) (λ t t_low t_high. omega arith),
            )),
      )

  pub groups_bound : (price : Column → ℕ) (shapes : List GroupShape) (amounts : List ℕ) → AreApart m known price shapes → AreNumbersOf m known price shapes amounts → sum_of amounts ≤ paid m price p
  groups_bound price shapes amounts apart is =
      let (short, falls) = by.exist m rank known.on_time p.backlog ranks in
      omega (
        arith,
        groups_sum price short falls shapes amounts apart.lie.groups is,
        once_most (item_count m) (times_in shapes) (made_by m price p) apart.lie.once,
        backlogs_pay price short falls shapes apart.charged,
        columns_pay price,
      )

  -- a group without a choice
  lacks_none : (price : Column → ℕ) (s : GroupShape) → IsGroupOf m s → LacksChoice m known price s → ⊥
  lacks_none price (ItemGroup i) here lacks = lacks
  lacks_none price (LateGroup i shares) here lacks = lacks
  lacks_none price (QuantityGroup i) here lacks = lacks (choice p.make p.setup i) (lot_choice price i (All-head (IsItem m) i [] here.items))
  lacks_none price (LateQuantityGroup i shares) here lacks =
      let (short, falls) = by.exist m rank known.on_time p.backlog ranks in
      lacks (choice p.make p.setup i) (short_choice price short falls i shares (All-head (IsItem m) i [] here.items))
  lacks_none price (ChainGroup low rest) here lacks = lacks

  pub groups_refute : (price : Column → ℕ) (shapes : List GroupShape) → All (IsGroupOf m) shapes → SomeLacksChoice m known price shapes → ⊥
  groups_refute price [] here lacks = lacks
  groups_refute price (s ∷ shapes) here lacks =
      ⊎_elim
      (λ own. lacks_none price s (All-head (IsGroupOf m) s shapes here) own)
      (λ other. groups_refute price shapes (All-tail (IsGroupOf m) s shapes here) other)
      lacks

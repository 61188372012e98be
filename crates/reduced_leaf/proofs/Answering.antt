-- The answer of rows and groups, from the sums of columns.
use Rattle.std.proofs.Common.{◌≡◌, ◌∙◌, ⊎_elim, ℕ, refl, sym, ap, subst, arith, List, [], ◌∷◌}
use Rattle.std.specs.Prelude.{ℤ, pos, ◌+ℤ◌, ◌-ℤ◌, ◌*ℤ◌, ◌≤ℤ◌, unsigned_abs, map, slice_index_or, take, Result, Ok, Err, IfErr, IfOk}
use Rattle.std.specs.List.{All}
use Rattle.std.proofs.lemmas.Int.{ints}
use Rattle.std.proofs.lemmas.List.Elements.{All-cons, All-head, All-nil, All-tail, All-take}
use Rattle.algebra.proofs.Order.{linear}
use Rattle.lot_sizing.specs.Problem.{Problem}
use Rattle.lot_sizing.specs.Plan.{Table}
use Rattle.lot_sizing.specs.Totals.{AreLargestTotals, IsRanking}
use Rattle.lin_rows.specs.declared.column.Column.{Column}
use Rattle.lin_rows.specs.Columns.{column_cost}
use Rattle.lin_rows.specs.Combining.{right_sum}
use Rattle.lin_rows.specs.Rows.{LinRow}
use Rattle.lin_rows.specs.Sums.{Summed, total_of}
use Rattle.must_start.specs.MustStart.{AreMustStart}
use Rattle.late_starts.specs.OnTime.{AreOnTime}
use Rattle.item_groups.specs.declared.group.Group.{Group}
use Rattle.reduced_groups.specs.declared.floors.Floor.{Floor}
use Rattle.reduced_groups.specs.declared.floors.Floor.TheVariants.{Least, NoChoice}
use Rattle.reduced_groups.specs.Groups.{AreKnown, GroupShape, Known}
use Rattle.reduced_groups.specs.Numbers.{sum_of}
use Rattle.reduced_groups.specs.Apart.{AreCharged, IsGroupOf, LieApart}
use Rattle.reduced_groups.specs.Rows.{AreReduced}
use Rattle.reduced_groups.specs.Floors.{AreGroupsOf, IsWithinWork, WhateverIsKnown, no_group, shape_of}
use Rattle.reduced_groups.specs.Laws.{AreAlike, AreSamePrices, ChoicesByBoth, KnownAreAlike, NumbersByBoth, WorkByBoth}
use Rattle.reduced_leaf.specs.declared.sums.ReducedSum.{ReducedSum}
use Rattle.reduced_leaf.specs.declared.sums.ReducedSum.TheVariants as found
use Rattle.reduced_leaf.specs.declared.sums.ReducedFault.{ReducedFault}
use Rattle.reduced_leaf.specs.declared.sums.ReducedFault.TheVariants as fault
use Rattle.reduced_leaf.specs.Leaf.{AreGroupsFor, IsAnswerOf}
use Rattle.reduced_leaf.specs.Faults.{AreSumsWithin, AreSumsOf, IsFirstPastAt, IsReducedFaultOf, OfSums, shape_at}
use Rattle.reduced_leaf.specs.Laws.{KnownExists}
use Rattle.reduced_leaf.specs.Found.{IsAnswerFrom, IsSumIn, IsSumOfFloors, StopsAt, StopsBy, left_price}

pub groups_of : (m : Problem) (groups : List Group) → All (IsGroupOf m) (map shape_of groups) → AreGroupsOf m groups
groups_of m [] are = All-nil (λ g. IsGroupOf m (shape_of g))
groups_of m (g ∷ groups) are =
    All-cons (λ h. IsGroupOf m (shape_of h)) g groups
    (All-head (IsGroupOf m) (shape_of g) (map shape_of groups) are)
    (groups_of m groups (All-tail (IsGroupOf m) (shape_of g) (map shape_of groups) are))

-- OTHER PRICES that are the same at setups and quantities, and other starts

alike_itself : (m : Problem) (known : Known) → AreAlike m known known
alike_itself m known = record {
  start = λ i low high t t_high. refl;
  on_time = λ i low high t t_high. refl;
  lot = λ i t low high t_low t_high. refl;
}

pub floors_priced : (m : Problem) (price other : Column → ℕ) (groups : List Group) (floor : Floor) → NumbersByBoth → ChoicesByBoth → LieApart m (map shape_of groups) → AreSamePrices m price other → IsSumOfFloors m price (map shape_of groups) floor → IsSumOfFloors m other (map shape_of groups) floor
floors_priced m price other groups (Least a) both none lie same is = λ total known totals are.
    let (amounts, numbers, capped) = is total known totals are in
    (amounts, both m known known price other (map shape_of groups) amounts (alike_itself m known) same lie.groups numbers, capped)
floors_priced m price other groups NoChoice both none lie same is = λ total known totals are.
    none m known known price other (map shape_of groups) (alike_itself m known) lie.groups (is total known totals are)

module _ (m : Problem) (rank : ℕ → ℕ) (start on_time : Table) (price other : Column → ℕ) (groups : List Group) (known_one : KnownAreAlike) (work : WorkByBoth) (ranks : IsRanking m rank) (starts : AreMustStart m start) (timed : AreOnTime m on_time) (lie : LieApart m (map shape_of groups)) (same : AreSamePrices m price other) where
  -- the same lots with these starts
  abbrev pub with_starts : Known → Known
  with_starts known = record { start = start; on_time = on_time; lot = known.lot }

  alike : (total : ℕ → ℕ) (known : Known) → AreLargestTotals m total → AreKnown m total known → AreAlike m (with_starts known) known
  alike total known totals are = known_one m rank total total (with_starts known) known ranks totals totals (record { start = starts; on_time = timed; lot = are.lot }) are

  back : (total : ℕ → ℕ) (known : Known) → AreLargestTotals m total → AreKnown m total known → AreAlike m known (with_starts known)
  back total known totals are = known_one m rank total total known (with_starts known) ranks totals totals are (record { start = starts; on_time = timed; lot = are.lot })

  turned : AreSamePrices m other price
  turned = λ i t low high t_low t_high. let e = same i t low high t_low t_high in (sym e.0, sym e.1)

  pub within_known : All (IsWithinWork m start on_time price) (map shape_of groups) → WhateverIsKnown m (λ known. All (IsWithinWork m known.start known.on_time other) (map shape_of groups))
  within_known within = λ total known totals are. λ k d less.
      work m (with_starts known) known price other (slice_index_or (map shape_of groups) k d) (alike total known totals are) same (lie.groups k d less) (within k d less)

  first_known : (k : ℕ) → IsFirstPastAt m start on_time price (map shape_of groups) k → WhateverIsKnown m (λ known. IsFirstPastAt m known.start known.on_time other (map shape_of groups) k)
  first_known k is = λ total known totals are. record {
    place = is.place;
    before = λ j d less. work m (with_starts known) known price other (slice_index_or (take k (map shape_of groups)) j d) (alike total known totals are) same (All-take (IsGroupOf m) k (map shape_of groups) lie.groups j d less) (is.before j d less);
    past = λ within. is.past (work m known (with_starts known) other price (shape_at (map shape_of groups) k) (back total known totals are) turned (lie.groups k (shape_of no_group) is.place) within);
  }

  pub stops_known : (result : ReducedFault) → WhateverIsKnown m (λ known. AreCharged m known other (map shape_of groups)) → StopsAt m start on_time price (map shape_of groups) result → WhateverIsKnown m (StopsBy m other (map shape_of groups) result)
  stops_known (fault.Group k) charged is = absurd is
  stops_known (fault.Twice i) charged is = absurd is
  stops_known (fault.Charge i t) charged is = absurd is
  stops_known (fault.Work k) charged is = λ total known totals are. (charged total known totals are, first_known k is total known totals are)
  stops_known fault.TooLarge charged is = absurd is
  stops_known fault.Memory charged is = λ total known totals are. tt

-- THE ANSWER

abs_up : (z : ℤ) → pos 0 ≤ℤ z → z ≡ pos (unsigned_abs z)
abs_up z h = grind (arith, ints, h)

module _ (m : Problem) (rank : ℕ → ℕ) (summed : Summed) (den : ℕ) (groups : List Group) (exists : KnownExists) (ranks : IsRanking m rank) (costs : AreSumsWithin m summed den) (lie : LieApart m (map shape_of groups)) where
  abbrev pub shapes : List GroupShape
  shapes = map shape_of groups

  abbrev pub price : Column → ℕ
  price = left_price m summed den

  reduced : (rows : List LinRow) (times : List ℤ) → AreSumsOf m summed rows times → AreReduced m rows times den price
  reduced rows times are = λ c has.
      let left = (pos den *ℤ pos (column_cost m c)) -ℤ (total_of summed c).sum in
      ap (λ z. (pos den *ℤ pos (column_cost m c)) -ℤ z) (sym (are.columns c has))
      ∙ abs_up left (omega (arith, linear, costs c has))

  module _ (total : ℕ → ℕ) (rows : List LinRow) (times : List ℤ) (totals : AreLargestTotals m total) (are : AreSumsOf m summed rows times) (known : Known) (is_known : AreKnown m total known) (charged : AreCharged m known price shapes) where
    abbrev groups_for : All (IsWithinWork m known.start known.on_time price) shapes → AreGroupsFor m total rows times den shapes
    groups_for within = record {
      known = known;
      is_known = is_known;
      price = price;
      reduced = reduced rows times are;
      apart = record { lie = lie; charged = charged };
      within = within;
    }

    answered : (within : All (IsWithinWork m known.start known.on_time price) shapes) (floor : Floor) (answer : ReducedSum) → IsSumIn m known price shapes floor → IsAnswerFrom summed.right.sum floor (Ok answer) → IsAnswerOf m total rows times den shapes answer
    answered within NoChoice answer is from = subst (IsAnswerOf m total rows times den shapes) (chosen answer from) (record { groups = groups_for within; lacks = is })
      where
        chosen : (a : ReducedSum) → IsAnswerFrom summed.right.sum NoChoice (Ok a) → found.NoChoice ≡ a
        chosen a e = cc e
    answered within (Least amount) found.NoChoice is from = absurd from
    answered within (Least amount) (found.Sum sum) is from =
        let same : sum_of (is.0) ≡ amount = omega (arith, (is.2).within, (is.2).fits (omega (arith, from.added))) in (
          record {
            groups = groups_for within;
            amounts = is.0;
            numbers = is.1;
            sum_is = from.sum_is ∙ (ap (λ z. z +ℤ pos amount) are.right ∙ ap (λ k. right_sum rows times +ℤ pos k) (sym same));
          },
          record { added = omega (arith, linear, from.sum_is, from.added, are.right); small = from.small },
        )

    passed : (within : All (IsWithinWork m known.start known.on_time price) shapes) (floor : Floor) (e : ReducedFault) → IsSumIn m known price shapes floor → IsAnswerFrom summed.right.sum floor (Err e) → IsReducedFaultOf m total rows times den groups e
    passed within NoChoice e is from = absurd (never e from)
      where
        never : (f : ReducedFault) → IsAnswerFrom summed.right.sum NoChoice (Err f) → ⊥
        never f e = cc e
    passed within (Least amount) e is from = subst (IsReducedFaultOf m total rows times den groups) (sym from.0) (
      right_sum rows times +ℤ pos (sum_of (is.0)),
      record { groups = groups_for within; amounts = is.0; numbers = is.1; sum_is = refl },
      λ small. ⊎_elim
          (λ many. omega (arith, linear, small.added, many, (is.2).within))
          (λ high. omega (arith, linear, small.small, high, (is.2).within, are.right))
          from.1,
    )

  answer_known : (floor : Floor) (answer : ReducedSum) → IsSumOfFloors m price shapes floor → WhateverIsKnown m (λ known. All (IsWithinWork m known.start known.on_time price) shapes) → WhateverIsKnown m (λ known. AreCharged m known price shapes) → IsAnswerFrom summed.right.sum floor (Ok answer) → OfSums m summed (λ total rows times. IsAnswerOf m total rows times den shapes answer)
  answer_known floor answer floors within charged from = λ total rows times totals are.
      let (known, is_known) = exists m rank total ranks totals in
      answered total rows times totals are known is_known (charged total known totals is_known) (within total known totals is_known) floor answer (floors total known totals is_known) from

  fault_known : (floor : Floor) (e : ReducedFault) → IsSumOfFloors m price shapes floor → WhateverIsKnown m (λ known. All (IsWithinWork m known.start known.on_time price) shapes) → WhateverIsKnown m (λ known. AreCharged m known price shapes) → IsAnswerFrom summed.right.sum floor (Err e) → OfSums m summed (λ total rows times. IsReducedFaultOf m total rows times den groups e)
  fault_known floor e floors within charged from = λ total rows times totals are.
      let (known, is_known) = exists m rank total ranks totals in
      passed total rows times totals are known is_known (charged total known totals is_known) (within total known totals is_known) floor e (floors total known totals is_known) from

  pub answer_found : (floor : Floor) (result : Result ReducedSum ReducedFault) → IsSumOfFloors m price shapes floor → WhateverIsKnown m (λ known. All (IsWithinWork m known.start known.on_time price) shapes) → WhateverIsKnown m (λ known. AreCharged m known price shapes) → IsAnswerFrom summed.right.sum floor result → IfOk result (λ answer. OfSums m summed (λ total rows times. IsAnswerOf m total rows times den shapes answer))
  answer_found floor (Ok answer) floors within charged from = answer_known floor answer floors within charged from
  answer_found floor (Err e) floors within charged from = tt

  pub fault_found : (floor : Floor) (result : Result ReducedSum ReducedFault) → IsSumOfFloors m price shapes floor → WhateverIsKnown m (λ known. All (IsWithinWork m known.start known.on_time price) shapes) → WhateverIsKnown m (λ known. AreCharged m known price shapes) → IsAnswerFrom summed.right.sum floor result → IfErr result (λ e. OfSums m summed (λ total rows times. IsReducedFaultOf m total rows times den groups e))
  fault_found floor (Ok answer) floors within charged from = tt
  fault_found floor (Err e) floors within charged from = fault_known floor e floors within charged from

  pub stop_found : (e : ReducedFault) → WhateverIsKnown m (StopsBy m price shapes e) → OfSums m summed (λ total rows times. IsReducedFaultOf m total rows times den groups e)
  stop_found (fault.Group k) stops = λ total rows times totals are. let (known, is_known) = exists m rank total ranks totals in absurd (stops total known totals is_known)
  stop_found (fault.Twice i) stops = λ total rows times totals are. let (known, is_known) = exists m rank total ranks totals in absurd (stops total known totals is_known)
  stop_found (fault.Charge i t) stops = λ total rows times totals are.
      let (known, is_known) = exists m rank total ranks totals in
      let over = stops total known totals is_known in
      record {
        known = known;
        is_known = is_known;
        price = price;
        reduced = reduced rows times are;
        lie = lie;
        charge = over.charge;
        charges = over.charges;
        first = over.first;
      }
  stop_found (fault.Work k) stops = λ total rows times totals are.
      let (known, is_known) = exists m rank total ranks totals in
      let past = stops total known totals is_known in
      record {
        known = known;
        is_known = is_known;
        price = price;
        reduced = reduced rows times are;
        apart = record { lie = lie; charged = past.0 };
        first = past.1;
      }
  stop_found fault.TooLarge stops = λ total rows times totals are. let (known, is_known) = exists m rank total ranks totals in absurd (stops total known totals is_known)
  stop_found fault.Memory stops = λ total rows times totals are. tt

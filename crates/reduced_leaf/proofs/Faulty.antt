-- Where there is a fault, rows and groups have no answer.
use Rattle.std.proofs.Common.{◌≡◌, ◌≢◌, ◌≤◌, ◌<◌, ℕ, zero, suc, refl, subst, arith, List, [], ◌∷◌}
use Rattle.std.specs.Prelude.{ℤ, length, map, slice_index_or}
use Rattle.lot_sizing.specs.Problem.{Problem}
use Rattle.lot_sizing.specs.Plan.{Table}
use Rattle.lot_sizing.specs.Totals.{AreLargestTotals, IsRanking}
use Rattle.lin_rows.specs.declared.column.Column.{Column}
use Rattle.lin_rows.specs.declared.column.Column.TheVariants.{R}
use Rattle.lin_rows.specs.Columns.{IsColumn}
use Rattle.lin_rows.specs.Rows.{LinRow}
use Rattle.late_starts.specs.Charges.{AreCharges, ChargesAgree, ChargesAreOne}
use Rattle.item_groups.specs.declared.group.Group.{Group}
use Rattle.reduced_groups.specs.Groups.{AreKnown, GroupShape, Known}
use Rattle.reduced_groups.specs.Apart.{AreApart, IsGroupOf, share_in}
use Rattle.reduced_groups.specs.Rows.{AreReduced}
use Rattle.reduced_groups.specs.Floors.{IsWithinWork, no_group, shape_of}
use Rattle.reduced_groups.specs.Laws.{KnownAreAlike, NumbersAreChoices, NumbersAreOne, NumbersByBoth, WorkByBoth}
use Rattle.reduced_leaf.specs.declared.sums.ReducedSum.{ReducedSum}
use Rattle.reduced_leaf.specs.declared.sums.ReducedSum.TheVariants.{NoChoice, Sum}
use Rattle.reduced_leaf.specs.declared.sums.ReducedFault.{ReducedFault}
use Rattle.reduced_leaf.specs.declared.sums.ReducedFault.TheVariants as fault
use Rattle.reduced_leaf.specs.Leaf.{AreGroupsFor, IsAnswerOf, IsSmallSum}
use Rattle.reduced_leaf.specs.Faults.{IsOvercharged, IsReducedFaultOf, IsTooLarge, shape_at}
use Rattle.reduced_leaf.proofs.Same.{choices_one, price_one, prices_one, sums_one}

-- the laws that it rests on
pub record Grounds : Type 0 where
  pub alike : KnownAreAlike
  pub both : NumbersByBoth
  pub one : NumbersAreOne
  pub choices : NumbersAreChoices
  pub work : WorkByBoth
  pub charges : ChargesAreOne
  pub agree : ChargesAgree

pub length_shapes : (groups : List Group) → length (map shape_of groups) ≡ length groups
length_shapes [] = refl
length_shapes (g ∷ groups) = omega (arith, length_shapes groups)

pub at_shapes : (groups : List Group) (k : ℕ) → shape_at (map shape_of groups) k ≡ shape_of (slice_index_or groups k no_group)
at_shapes [] zero = refl
at_shapes [] (suc k) = refl
at_shapes (g ∷ groups) zero = refl
at_shapes (g ∷ groups) (suc k) = at_shapes groups k

module _ (m : Problem) (rank total : ℕ → ℕ) (rows : List LinRow) (times : List ℤ) (den : ℕ) (groups : List Group) (by : Grounds) (ranks : IsRanking m rank) (totals : AreLargestTotals m total) where
  abbrev pub shapes : List GroupShape
  shapes = map shape_of groups

  -- an answer has groups
  groups_in : (answer : ReducedSum) → IsAnswerOf m total rows times den shapes answer → AreGroupsFor m total rows times den shapes
  groups_in (Sum sum) is = (is.0).groups
  groups_in NoChoice is = is.groups

  too_large : (answer : ReducedSum) → IsTooLarge m total rows times den shapes → IsAnswerOf m total rows times den shapes answer → ⊥
  too_large (Sum sum) large is =
      let (other, has, past) = large in
      past (subst (IsSmallSum rows times) (sums_one m rank total total rows times den shapes ranks totals totals by.alike by.both by.one sum other is.0 has) is.1)
  too_large NoChoice large is =
      let (other, has, past) = large in
      choices_one m rank total total rows times den shapes ranks totals totals by.alike by.both by.choices other has is

  -- the work of a group is within the limits by all that is known
  pub within_by : (a b : Known) (price other : Column → ℕ) (k : ℕ) → AreKnown m total a → AreKnown m total b → AreReduced m rows times den price → AreReduced m rows times den other → AreApart m a price shapes → k < length shapes → IsWithinWork m a.start a.on_time price (shape_at shapes k) → IsWithinWork m b.start b.on_time other (shape_at shapes k)
  within_by a b price other k is also reduced to apart less within =
      by.work m a b price other (shape_at shapes k)
      (by.alike m rank total total a b ranks totals totals is also)
      (prices_one m rows times den price other reduced to)
      (apart.lie.groups k (shape_of no_group) less) within

  -- and so are the charges of the same shares
  charge_by : (a b : Known) (charge other : Table) → AreKnown m total a → AreKnown m total b → AreCharges m a.on_time (share_in shapes) charge → AreCharges m b.on_time (share_in shapes) other → (i t : ℕ) → IsColumn m (R i t) → charge i t ≡ other i t
  charge_by a b charge other is also from to i t has =
      let same = by.alike m rank total total a b ranks totals totals is also in
      let charged = by.agree m a.on_time b.on_time (share_in shapes) charge (λ j u low high u_low u_high. same.on_time j low high u u_high) from in
      by.charges m rank b.on_time (share_in shapes) charge other ranks charged to i t (has.0).0 (has.0).1 (has.0).2 (has.0).3

  -- a backlog that is charged more than its price is so by all of them
  pub no_charge_within : (i t : ℕ) → (a : IsOvercharged m total rows times den shapes i t) → (b : Known) (other : Column → ℕ) (charge : Table) → AreKnown m total b → AreReduced m rows times den other → AreCharges m b.on_time (share_in shapes) charge → charge i t ≤ other (R i t) → ⊥
  no_charge_within i t a b other charge also to from within =
      let has = a.first.column in
      let same : a.price (R i t) ≡ other (R i t) = price_one m rows times den a.price other a.reduced to (R i t) has in
      let charged : a.charge i t ≡ charge i t = charge_by a.known b a.charge charge a.is_known also a.charges from i t has in
      omega (arith, a.first.above, same, charged, within)

  pub no_charge_apart : (i t : ℕ) → IsOvercharged m total rows times den shapes i t → (b : Known) (other : Column → ℕ) → AreKnown m total b → AreReduced m rows times den other → AreApart m b other shapes → ⊥
  no_charge_apart i t a b other also to apart =
      let charged = apart.charged in
      no_charge_within i t a b other charged.charge also to charged.charges (charged.within i t a.first.column)

  excluded : (e : ReducedFault) → e ≢ fault.Memory → IsReducedFaultOf m total rows times den groups e → (answer : ReducedSum) → IsAnswerOf m total rows times den shapes answer → ⊥
  excluded (fault.Group k) told is answer has =
      let own = groups_in answer has in
      let here = own.apart.lie.groups k (shape_of no_group) (omega (arith, is.place, length_shapes groups)) in
      is.other (subst (IsGroupOf m) (at_shapes groups k) here)
  excluded (fault.Twice i) told is answer has = omega (arith, (groups_in answer has).apart.lie.once i, (is.1).twice)
  excluded (fault.Charge i t) told is answer has =
      let own = groups_in answer has in
      no_charge_apart i t is own.known own.price own.is_known own.reduced own.apart
  excluded (fault.Work k) told is answer has =
      let own = groups_in answer has in
      is.first.past (within_by own.known is.known own.price is.price k own.is_known is.is_known own.reduced is.reduced own.apart is.first.place (own.within k (shape_of no_group) is.first.place))
  excluded fault.TooLarge told is answer has = too_large answer is has
  excluded fault.Memory told is answer has = told refl

pub faults_exclude : (m : Problem) (rank total : ℕ → ℕ) (rows : List LinRow) (times : List ℤ) (den : ℕ) (groups : List Group) (by : Grounds) → IsRanking m rank → AreLargestTotals m total → (e : ReducedFault) (answer : ReducedSum) → e ≢ fault.Memory → IsReducedFaultOf m total rows times den groups e → IsAnswerOf m total rows times den (map shape_of groups) answer → ⊥
faults_exclude m rank total rows times den groups by ranks totals e answer told is has = excluded m rank total rows times den groups by ranks totals e told is answer has

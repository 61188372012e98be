-- Rows and groups have one fault.
use Rattle.std.proofs.Common.{◌≡◌, ◌≢◌, ◌∙◌, ◌<◌, ◌≤◌, ◌⊎◌, ⊎_elim, inl, inr, ℕ, refl, sym, ap, subst, arith, List, length, map, slice_index_or, take}
use Rattle.std.specs.Prelude.{ℤ}
use Rattle.std.proofs.lemmas.Bool.{cases_order}
use Rattle.std.proofs.lemmas.List.{get_or-take, length-take-le}
use Rattle.std.proofs.lemmas.List.Elements.{All-get_or}
use Rattle.lot_sizing.specs.Problem.{Problem}
use Rattle.lot_sizing.specs.Totals.{AreLargestTotals, IsRanking}
use Rattle.lin_rows.specs.Rows.{LinRow}
use Rattle.item_groups.specs.declared.group.Group.{Group}
use Rattle.reduced_groups.specs.Groups.{GroupShape, ItemGroup}
use Rattle.reduced_groups.specs.Apart.{IsGroupOf, LieApart}
use Rattle.reduced_groups.specs.Floors.{AreGroupsOf, IsFirstOther, IsFirstTwice, IsWithinWork, no_group, shape_of}
use Rattle.reduced_leaf.specs.declared.sums.ReducedFault.{ReducedFault}
use Rattle.reduced_leaf.specs.declared.sums.ReducedFault.TheVariants as fault
use Rattle.reduced_leaf.specs.Faults.{ComesBefore, IsFirstPast, IsOvercharged, IsReducedFaultOf, shape_at}
use Rattle.reduced_leaf.specs.Laws.{FaultsAreOne}
use Rattle.reduced_leaf.proofs.Answering.{groups_of}
use Rattle.reduced_leaf.proofs.Faulty.{Grounds, no_charge_apart, no_charge_within, within_by}

-- ---- the first group that isn't one of the problem, and the first item in two places
no_other : (m : Problem) (groups : List Group) (k : ℕ) → AreGroupsOf m groups → IsFirstOther m groups k → ⊥
no_other m groups k are first = first.other (All-get_or (λ g. IsGroupOf m (shape_of g)) groups k no_group first.place are)

no_sooner : (m : Problem) (groups : List Group) (j k : ℕ) → j < k → IsFirstOther m groups j → IsFirstOther m groups k → ⊥
no_sooner m groups j k less a b =
    let few : k ≤ length groups = omega (arith, b.place) in
    let in_front : j < length (take k groups) = omega (arith, less, length-take-le k groups few) in
    let is : IsGroupOf m (shape_of (slice_index_or (take k groups) j no_group)) = All-get_or (λ g. IsGroupOf m (shape_of g)) (take k groups) j no_group in_front b.before in
    a.other (subst (λ g. IsGroupOf m (shape_of g)) (get_or-take k groups j no_group less) is)

one_other : (m : Problem) (groups : List Group) (j k : ℕ) → IsFirstOther m groups j → IsFirstOther m groups k → j ≡ k
one_other m groups j k a b =
    ⊎_elim
    (λ same. same)
    (⊎_elim (λ less. absurd (no_sooner m groups j k less a b)) (λ more. absurd (no_sooner m groups k j more b a)))
    (cases_order j k)

one_twice : (m : Problem) (shapes : List GroupShape) (i j : ℕ) → IsFirstTwice m shapes i → IsFirstTwice m shapes j → i ≡ j
one_twice m shapes i j a b =
    ⊎_elim
    (λ same. same)
    (⊎_elim
    (λ less. absurd (omega (arith, a.twice, b.before i a.low (omega (arith, less)))))
    (λ more. absurd (omega (arith, b.twice, a.before j b.low (omega (arith, more))))))
    (cases_order i j)

-- ---- backlogs, by item and then by period
abbrev Ordered : (i t j v : ℕ) → Type 0
Ordered i t j v = ((i ≡ j) × (t ≡ v)) ⊎ (ComesBefore i t j v ⊎ ComesBefore j v i t)

order : (i t j v : ℕ) → Ordered i t j v
order i t j v =
    ⊎_elim
    (λ same. ⊎_elim
    (λ also. inl (same, also))
    (λ other. inr (⊎_elim (λ less. inl (inr (same, less))) (λ more. inr (inr (sym same, more))) other))
    (cases_order t v))
    (λ other. inr (⊎_elim (λ less. inl (inl less)) (λ more. inr (inl more)) other))
    (cases_order i j)

module _ (m : Problem) (rank total : ℕ → ℕ) (rows : List LinRow) (times : List ℤ) (den : ℕ) (groups : List Group) (by : Grounds) (ranks : IsRanking m rank) (totals : AreLargestTotals m total) where
  abbrev shapes : List GroupShape
  shapes = map shape_of groups

  abbrev Past : ℕ → Type 0
  Past k = IsFirstPast m total rows times den shapes k

  abbrev Over : ℕ → ℕ → Type 0
  Over i t = IsOvercharged m total rows times den shapes i t

  past_sooner : (j k : ℕ) → j < k → Past j → Past k → ⊥
  past_sooner j k less a b =
      let few : k ≤ length shapes = omega (arith, b.first.place) in
      let in_front : j < length (take k shapes) = omega (arith, less, length-take-le k shapes few) in
      let is : IsWithinWork m b.known.start b.known.on_time b.price (slice_index_or (take k shapes) j (ItemGroup 0)) = All-get_or (IsWithinWork m b.known.start b.known.on_time b.price) (take k shapes) j (ItemGroup 0) in_front b.first.before in
      let here : IsWithinWork m b.known.start b.known.on_time b.price (shape_at shapes j) = subst (IsWithinWork m b.known.start b.known.on_time b.price) (get_or-take k shapes j (ItemGroup 0) less) is in
      a.first.past (within_by m rank total rows times den groups by ranks totals b.known a.known b.price a.price j b.is_known a.is_known b.reduced a.reduced b.apart a.first.place here)

  one_past : (j k : ℕ) → Past j → Past k → j ≡ k
  one_past j k a b =
      ⊎_elim
      (λ same. same)
      (⊎_elim (λ less. absurd (past_sooner j k less a b)) (λ more. absurd (past_sooner k j more b a)))
      (cases_order j k)

  charge_sooner : (i t j v : ℕ) → ComesBefore i t j v → Over i t → Over j v → ⊥
  charge_sooner i t j v before a b = no_charge_within m rank total rows times den groups by ranks totals i t a b.known b.price b.charge b.is_known b.reduced b.charges (b.first.before i t a.first.column before)

  one_charge : (i t j v : ℕ) → Over i t → Over j v → fault.Charge i t ≡ fault.Charge j v
  one_charge i t j v a b =
      ⊎_elim
      (λ same. ap (λ x. fault.Charge x t) same.0 ∙ ap (λ x. fault.Charge j x) same.1)
      (⊎_elim (λ less. absurd (charge_sooner i t j v less a b)) (λ more. absurd (charge_sooner j v i t more b a)))
      (order i t j v)

  abbrev Is : ReducedFault → Type 0
  Is f = IsReducedFaultOf m total rows times den groups f

  -- groups that charge too much lie apart, as do those of which one is past the limits, and those that have a sum
  charge_lie : (i t : ℕ) → Is (fault.Charge i t) → LieApart m shapes
  charge_lie i t is = is.lie

  past_lie : (k : ℕ) → Is (fault.Work k) → LieApart m shapes
  past_lie k is = is.apart.lie

  large_lie : Is fault.TooLarge → LieApart m shapes
  large_lie is = (is.1).groups.apart.lie

  -- so each of them is a group of the problem, and no item is in two places
  no_group_apart : (j : ℕ) → Is (fault.Group j) → LieApart m shapes → ⊥
  no_group_apart j is lie = no_other m groups j (groups_of m groups lie.groups) is

  no_twice_apart : (i : ℕ) → Is (fault.Twice i) → LieApart m shapes → ⊥
  no_twice_apart i is lie = omega (arith, (is.1).twice, lie.once i)

  no_charge_past : (i t k : ℕ) → Is (fault.Charge i t) → Is (fault.Work k) → ⊥
  no_charge_past i t k a b = no_charge_apart m rank total rows times den groups by ranks totals i t a b.known b.price b.is_known b.reduced b.apart

  no_charge_large : (i t : ℕ) → Is (fault.Charge i t) → Is fault.TooLarge → ⊥
  no_charge_large i t a b =
      let own = (b.1).groups in
      no_charge_apart m rank total rows times den groups by ranks totals i t a own.known own.price own.is_known own.reduced own.apart

  no_past_large : (k : ℕ) → Is (fault.Work k) → Is fault.TooLarge → ⊥
  no_past_large k a b =
      let own = (b.1).groups in
      a.first.past (within_by m rank total rows times den groups by ranks totals own.known a.known own.price a.price k own.is_known a.is_known own.reduced a.reduced own.apart a.first.place (own.within k (ItemGroup 0) a.first.place))

  one_fault : (a b : ReducedFault) → a ≢ fault.Memory → b ≢ fault.Memory → Is a → Is b → a ≡ b
  one_fault (fault.Group j) (fault.Group k) some also a b = ap fault.Group (one_other m groups j k a b)
  one_fault (fault.Group j) (fault.Twice i) some also a b = absurd (no_other m groups j b.0 a)
  one_fault (fault.Group j) (fault.Charge i t) some also a b = absurd (no_group_apart j a (charge_lie i t b))
  one_fault (fault.Group j) (fault.Work k) some also a b = absurd (no_group_apart j a (past_lie k b))
  one_fault (fault.Group j) fault.TooLarge some also a b = absurd (no_group_apart j a (large_lie b))
  one_fault (fault.Group j) fault.Memory some also a b = absurd (also refl)
  one_fault (fault.Twice i) (fault.Group k) some also a b = absurd (no_other m groups k a.0 b)
  one_fault (fault.Twice i) (fault.Twice j) some also a b = ap fault.Twice (one_twice m shapes i j a.1 b.1)
  one_fault (fault.Twice i) (fault.Charge j t) some also a b = absurd (no_twice_apart i a (charge_lie j t b))
  one_fault (fault.Twice i) (fault.Work k) some also a b = absurd (no_twice_apart i a (past_lie k b))
  one_fault (fault.Twice i) fault.TooLarge some also a b = absurd (no_twice_apart i a (large_lie b))
  one_fault (fault.Twice i) fault.Memory some also a b = absurd (also refl)
  one_fault (fault.Charge i t) (fault.Group k) some also a b = absurd (no_group_apart k b (charge_lie i t a))
  one_fault (fault.Charge i t) (fault.Twice j) some also a b = absurd (no_twice_apart j b (charge_lie i t a))
  one_fault (fault.Charge i t) (fault.Charge j v) some also a b = one_charge i t j v a b
  one_fault (fault.Charge i t) (fault.Work k) some also a b = absurd (no_charge_past i t k a b)
  one_fault (fault.Charge i t) fault.TooLarge some also a b = absurd (no_charge_large i t a b)
  one_fault (fault.Charge i t) fault.Memory some also a b = absurd (also refl)
  one_fault (fault.Work j) (fault.Group k) some also a b = absurd (no_group_apart k b (past_lie j a))
  one_fault (fault.Work j) (fault.Twice i) some also a b = absurd (no_twice_apart i b (past_lie j a))
  one_fault (fault.Work j) (fault.Charge i t) some also a b = absurd (no_charge_past i t j b a)
  one_fault (fault.Work j) (fault.Work k) some also a b = ap fault.Work (one_past j k a b)
  one_fault (fault.Work j) fault.TooLarge some also a b = absurd (no_past_large j a b)
  one_fault (fault.Work j) fault.Memory some also a b = absurd (also refl)
  one_fault fault.TooLarge (fault.Group k) some also a b = absurd (no_group_apart k b (large_lie a))
  one_fault fault.TooLarge (fault.Twice i) some also a b = absurd (no_twice_apart i b (large_lie a))
  one_fault fault.TooLarge (fault.Charge i t) some also a b = absurd (no_charge_large i t b a)
  one_fault fault.TooLarge (fault.Work k) some also a b = absurd (no_past_large k b a)
  one_fault fault.TooLarge fault.TooLarge some also a b = refl
  one_fault fault.TooLarge fault.Memory some also a b = absurd (also refl)
  one_fault fault.Memory b some also is other = absurd (some refl)

pub faults_are_one : Grounds → FaultsAreOne
faults_are_one by m rank total rows times den groups a b ranks totals some also is other =
    one_fault m rank total rows times den groups by ranks totals a b some also is other

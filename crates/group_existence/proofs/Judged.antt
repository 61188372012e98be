-- Whether groups lie apart, and whether their work is within the limits; and if not, where first.
use Rattle.std.proofs.Common.{◌≡◌, ◌≤◌, ◌<◌, ◌+◌, ◌*◌, ◌⊎◌, ⊎_elim, inl, inr, ℕ, suc, arith, List, [], ◌∷◌, length, slice_index_or, take}
use Rattle.std.specs.Prelude.{map}
use Rattle.std.specs.List.{All}
use Rattle.std.proofs.lemmas.Bool.{cases_eq}
use Rattle.std.proofs.lemmas.List.Elements.{All-cons, All-head, All-nil, All-tail}
use Rattle.lot_sizing.specs.Problem.{Problem, item_at, item_count, per_unit}
use Rattle.lot_sizing.specs.Plan.{Table}
use Rattle.lin_rows.specs.declared.column.Column.{Column}
use Rattle.lin_rows.specs.declared.column.Column.TheVariants.{X, Y}
use Rattle.quantity_dp.specs.declared.limits.TheConstants.{MAX_ENTRIES, MAX_PRICE}
use Rattle.chain_dp.specs.Chains.{opening_cost}
use Rattle.chain_dp.specs.Numbers.{most}
use Rattle.item_groups.specs.declared.group.ChainLink.{ChainLink}
use Rattle.item_groups.specs.declared.group.Group.{Group}
use Rattle.item_groups.specs.declared.group.Group.TheVariants as group
use Rattle.reduced_groups.specs.declared.apart.GroupFault.TheVariants as fault
use Rattle.reduced_groups.specs.declared.floors.TheConstants.{MAX_HORIZON}
use Rattle.reduced_groups.specs.Groups.{ChainGroup, GroupShape, ItemGroup, LateGroup, LateQuantityGroup, QuantityGroup, chain_levels}
use Rattle.reduced_groups.specs.Apart.{AreLinked, IsGroupOf, IsItem, IsLinked, IsShared, items_in, items_of, times_in}
use Rattle.reduced_groups.specs.Floors.{AreOnceTo, HasFewEntries, HasFewPeriods, HasSmallPricesOf, HaveSmallPrices, IsFirstTwice, IsWithinWork, no_group, shape_of}
use Rattle.reduced_groups.proofs.Placed.{all_shapes, lie_apart}
use Rattle.existence.proofs.Deciding.{Decided, all_or_first, both_or_not, le_or_not, lt_or_not, none_or_not}
use Rattle.group_existence.specs.Laws.{GroupsAreJudged, WorkIsJudged}
use Rattle.group_existence.proofs.Least.{each_or_not}

pub three_or_not : {A B C : Type 0} → Decided A → Decided B → Decided C → Decided (A × B × C)
three_or_not a b c =
    ⊎_elim
    (λ x. ⊎_elim
    (λ y. ⊎_elim (λ z. inl (x, y, z)) (λ not_z. inr (λ all. not_z all.2)) c)
    (λ not_y. inr (λ all. not_y all.1))
    b)
    (λ not_x. inr (λ all. not_x all.0))
    a

same_or_not : (a b : ℕ) → Decided (a ≡ b)
same_or_not a b = cases_eq a b

-- ---- lists
pub all_or_not : {A : Type 0} (P : A → Type 0) → ((a : A) → Decided (P a)) → (xs : List A) → Decided (All P xs)
all_or_not P decided [] = inl (All-nil P)
all_or_not P decided (x ∷ xs) =
    ⊎_elim
    (λ here. ⊎_elim
    (λ rest. inl (All-cons P x xs here rest))
    (λ no. inr (λ all. no (All-tail P x xs all)))
    (all_or_not P decided xs))
    (λ no. inr (λ all. no (All-head P x xs all)))
    (decided x)

-- it holds of each element, or of one it is the first of which it doesn't
abbrev FirstOut : {A : Type 0} → (A → Type 0) → A → List A → Type 0
FirstOut P other xs = (k : ℕ) × (k < length xs) × All P (take k xs) × (P (slice_index_or xs k other) → ⊥)

all_or_first_out : {A : Type 0} (P : A → Type 0) (other : A) → ((a : A) → Decided (P a)) → (xs : List A) → All P xs ⊎ FirstOut P other xs
all_or_first_out P other decided [] = inl (All-nil P)
all_or_first_out P other decided (x ∷ xs) =
    ⊎_elim
    (λ here. ⊎_elim
    (λ rest. inl (All-cons P x xs here rest))
    (λ found. inr (suc found.0, omega (arith, found.1), All-cons P x (take found.0 xs) here found.2, found.3))
    (all_or_first_out P other decided xs))
    (λ out. inr (0, omega arith, All-nil P, out))
    (decided x)

-- ---- groups of a problem
item_or_not : (m : Problem) (i : ℕ) → Decided (IsItem m i)
item_or_not m i = both_or_not (le_or_not 1 i) (le_or_not i (item_count m))

linked_or_not : (m : Problem) (link : ChainLink) (rest : List ChainLink) → Decided (AreLinked m link rest)
linked_or_not m link [] = inl tt
linked_or_not m link (next ∷ rest) =
    three_or_not (none_or_not (item_at m link.item).backlog_cost) (le_or_not 1 (per_unit m link.item next.item)) (linked_or_not m next rest)

shape_or_not : (m : Problem) (s : GroupShape) → Decided (IsLinked m s) → Decided (IsShared m s) → Decided (IsGroupOf m s)
shape_or_not m s linked shared =
    ⊎_elim
    (λ is. inl (record { items = is.0; linked = is.1; shared = is.2 }))
    (λ no. inr (λ of. no (of.items, of.linked, of.shared)))
    (three_or_not (all_or_not (IsItem m) (item_or_not m) (items_in s)) linked shared)

group_or_not : (m : Problem) (g : Group) → Decided (IsGroupOf m (shape_of g))
group_or_not m (group.Item i) = shape_or_not m (ItemGroup i) (inl tt) (inl tt)
group_or_not m (group.Late i shares) = shape_or_not m (shape_of (group.Late i shares)) (inl tt) (same_or_not (length shares) m.periods)
group_or_not m (group.Quantities i) = shape_or_not m (QuantityGroup i) (inl tt) (inl tt)
group_or_not m (group.LateQuantities i shares) = shape_or_not m (shape_of (group.LateQuantities i shares)) (inl tt) (same_or_not (length shares) m.periods)
group_or_not m (group.Pair low top) = shape_or_not m (ChainGroup low (top ∷ [])) (linked_or_not m low (top ∷ [])) (inl tt)
group_or_not m (group.Triple low mid top) = shape_or_not m (ChainGroup low (mid ∷ (top ∷ []))) (linked_or_not m low (mid ∷ (top ∷ []))) (inl tt)

twice_or_not : (m : Problem) (shapes : List GroupShape) → AreOnceTo (item_count m) shapes ⊎ ((i : ℕ) × IsFirstTwice m shapes i)
twice_or_not m shapes =
    ⊎_elim
    (λ all. inl all)
    (λ first. inr (
      first.0,
      record {
        low = first.1;
        high = first.2;
        before = λ i low high. first.4 i low (omega (arith, high, first.1));
        twice = ⊎_elim (λ less. less) (λ no. absurd (first.3 (under no))) (lt_or_not 1 (times_in shapes first.0));
      },
    ))
    (all_or_first (λ i. times_in shapes i ≤ 1) (λ i. le_or_not (times_in shapes i) 1) (item_count m))
  where
    under : {n : ℕ} → (1 < n → ⊥) → n ≤ 1
    under {n} never = ⊎_elim (λ le. le) (λ not_le. absurd (never (omega (arith, not_le)))) (le_or_not n 1)

pub groups_judged : GroupsAreJudged
groups_judged m groups =
    ⊎_elim
    (λ are. ⊎_elim
    (λ once. inl (lie_apart m (map shape_of groups) (all_shapes m groups are) once))
    (λ twice. inr (fault.Twice twice.0, (are, twice.1)))
    (twice_or_not m (map shape_of groups)))
    (λ found. inr (fault.Group found.0, record { place = found.1; before = found.2; other = found.3 }))
    (all_or_first_out (λ g. IsGroupOf m (shape_of g)) no_group (group_or_not m) groups)

-- ---- work
module _ (m : Problem) (start on_time : Table) (price : Column → ℕ) where
  prices_or_not : (i : ℕ) → Decided (HasSmallPricesOf m price i)
  prices_or_not i =
      each_or_not m.periods (λ t. (price (Y i t) ≤ MAX_PRICE) × (price (X i t) ≤ MAX_PRICE))
      (λ t. both_or_not (le_or_not (price (Y i t)) MAX_PRICE) (le_or_not (price (X i t)) MAX_PRICE))

  all_prices_or_not : (items : List ℕ) → Decided (HaveSmallPrices m price items)
  all_prices_or_not [] = inl tt
  all_prices_or_not (i ∷ items) = both_or_not (prices_or_not i) (all_prices_or_not items)

  entries_or_not : (asked : Table) (i : ℕ) → Decided (HasFewEntries m asked i)
  entries_or_not asked i = each_or_not m.periods (λ t. m.periods * (asked i t + 1) ≤ MAX_ENTRIES) (λ t. le_or_not (m.periods * (asked i t + 1)) MAX_ENTRIES)

  periods_or_not : (rest : List ChainLink) → Decided (HasFewPeriods m rest)
  periods_or_not [] = inl tt
  periods_or_not (top ∷ []) = inl tt
  periods_or_not (mid ∷ (top ∷ rest)) = le_or_not (m.periods + (item_at m mid.item).lead) MAX_HORIZON

  chain_or_not : (low : ChainLink) (rest : List ChainLink) → Decided (IsWithinWork m start on_time price (ChainGroup low rest))
  chain_or_not low rest =
      three_or_not (all_prices_or_not (low.item ∷ items_of rest)) (periods_or_not rest)
      (lt_or_not (opening_cost m.periods (chain_levels m start price low rest)) most)

  work_or_not : (s : GroupShape) → Decided (IsWithinWork m start on_time price s)
  work_or_not (ItemGroup i) = prices_or_not i
  work_or_not (LateGroup i shares) = prices_or_not i
  work_or_not (QuantityGroup i) = both_or_not (prices_or_not i) (entries_or_not start i)
  work_or_not (LateQuantityGroup i shares) = both_or_not (prices_or_not i) (entries_or_not on_time i)
  work_or_not (ChainGroup low rest) = chain_or_not low rest

pub work_judged : WorkIsJudged
work_judged m start on_time price groups =
    ⊎_elim
    (λ all. inl all)
    (λ found. inr (found.0, record { place = found.1; before = found.2; past = found.3 }))
    (all_or_first_out (IsWithinWork m start on_time price) (ItemGroup 0) (work_or_not m start on_time price) (map shape_of groups))

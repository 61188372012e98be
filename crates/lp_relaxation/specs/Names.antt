-- The names of the rows of a linear program: the rows that the rules of plans make, in their order, and cuts after them.
use Rattle.std.specs.Prelude.{◌≡◌, ℕ, zero, suc, ◌+◌, Bool, true, false, nat_le, nat_lt, List, [], ◌∷◌, ◌++◌}
use Rattle.std.specs.List.{All, Contains, filter}
use Rattle.lot_sizing.specs.Problem.{Problem, item_at, item_count, resource_count}
use Rattle.lin_rows.specs.declared.base.RowName.{RowName}
use Rattle.lin_rows.specs.declared.base.RowName.TheVariants.{Balance, Link, Capacity, EndMin, EndMax, Top, Least, Late, Path, Cut}
use Rattle.lin_rows.specs.Base.{HasRow}
use Rattle.lp_relaxation.specs.declared.names.Kind.{Kind}
use Rattle.lp_relaxation.specs.declared.names.Kind.TheVariants as kind

-- f 1, .., f n
abbrev pub names_to : ℕ → (ℕ → RowName) → List RowName
names_to zero f = []
names_to (suc n) f = names_to n f ++ (f (suc n) ∷ [])

-- for each of n items or resources a name of each period
abbrev pub cell_names : ℕ → ℕ → (ℕ → ℕ → RowName) → List RowName
cell_names zero periods f = []
cell_names (suc n) periods f = cell_names n periods f ++ names_to periods (f (suc n))

-- whether the rules make a row of this name, for an item or a resource and a period of the problem: a least lot of 0 has none, and a lot that arrives by the last period isn't late
abbrev pub is_made : Problem → RowName → Bool
is_made m (Balance i t) = true
is_made m (Link i t) = true
is_made m (Capacity k t) = true
is_made m (EndMin i) = true
is_made m (EndMax i) = true
is_made m (Top i t) = true
is_made m (Least i t) = nat_le 1 (item_at m i).min_lot
is_made m (Late i t) = nat_lt m.periods (t + (item_at m i).lead)
is_made m (Path n) = false
is_made m (Cut n) = false

-- those of some names that have a row
abbrev pub made_names : Problem → List RowName → List RowName
made_names m names = filter (is_made m) names

-- the names of a kind, which has one for each item or resource and each period
abbrev pub name_in : Kind → ℕ → ℕ → RowName
name_in kind.Balance i t = Balance i t
name_in kind.Link i t = Link i t
name_in kind.Capacity k t = Capacity k t
name_in kind.Top i t = Top i t
name_in kind.Least i t = Least i t
name_in kind.Late i t = Late i t

-- how many items or resources it has
abbrev pub count_in : Problem → Kind → ℕ
count_in m kind.Balance = item_count m
count_in m kind.Link = item_count m
count_in m kind.Capacity = resource_count m
count_in m kind.Top = item_count m
count_in m kind.Least = item_count m
count_in m kind.Late = item_count m

abbrev pub kind_names : Problem → Kind → List RowName
kind_names m k = cell_names (count_in m k) m.periods (name_in k)

-- of the last stocks, the names of the largest ones or of the least ones
abbrev pub end_name : Bool → ℕ → RowName
end_name true i = EndMax i
end_name false i = EndMin i

-- balances, links, capacities, least and largest last stocks, tops, least lots, late lots; each by item or resource, and then by period
abbrev pub base_names : Problem → List RowName
base_names m =
    made_names m
    (kind_names m kind.Balance
    ++ (kind_names m kind.Link
    ++ (kind_names m kind.Capacity
    ++ (names_to (item_count m) (end_name false)
    ++ (names_to (item_count m) (end_name true)
    ++ (kind_names m kind.Top
    ++ (kind_names m kind.Least
    ++ kind_names m kind.Late)))))))

-- then the first cuts
abbrev pub cut_names : ℕ → List RowName
cut_names n = names_to n (λ k. Cut k)

abbrev pub round_names : Problem → ℕ → List RowName
round_names m cuts = base_names m ++ cut_names cuts

-- the base names are those of all rows that the rules make, and of no others
pub record BaseNamesAre (m : Problem) : Type 0 where
  pub each : All (HasRow m) (base_names m)
  pub every : (name : RowName) → HasRow m name → Contains (base_names m) name

abbrev pub BaseNamesAreAll : Type 0
BaseNamesAreAll = (m : Problem) → BaseNamesAre m

-- names are put after others, where they have a row
abbrev pub PutNames : Problem → List RowName → List RowName → List RowName → Type 0
PutNames m old more new = new ≡ old ++ made_names m more

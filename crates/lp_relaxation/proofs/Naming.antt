-- The names of the rows that the rules make are all that there are.
use Rattle.std.proofs.Common.{◌≡◌, ◌≤◌, ◌<◌, ◌+◌, ◌∙◌, ⊎_elim, ℕ, zero, suc, refl, sym, ap, subst, arith, Bool, true, false, List, [], ◌∷◌, ◌++◌, length, slice_index_or}
use Rattle.std.specs.Prelude.{nat_le, nat_lt}
use Rattle.std.specs.List.{All, Contains, filter}
use Rattle.std.proofs.lemmas.Bool.{cases_Bool, cases_eq}
use Rattle.std.proofs.lemmas.List.Elements.{All-append, All-nil, Contains-append_left, Contains-append_right, Contains-push, filter_passes, All-filter}
use Rattle.lot_sizing.specs.Problem.{Problem, item_at, item_count, resource_count}
use Rattle.lin_rows.specs.declared.base.RowName.{RowName}
use Rattle.lin_rows.specs.declared.base.RowName.TheVariants.{Balance, Link, Capacity, EndMin, EndMax, Top, Least, Late, Path, Cut}
use Rattle.lin_rows.specs.Base.{HasRow}
use Rattle.lp_relaxation.specs.declared.names.Kind.TheVariants as kind
use Rattle.lp_relaxation.specs.Names.{BaseNamesAre, base_names, cell_names, end_name, is_made, kind_names, name_in, names_to}

-- ---- lists of names
pub one_name : (P : RowName → Type 0) (name : RowName) → P name → All P (name ∷ [])
one_name P name here zero d less = here
one_name P name here (suc k) d less = absurd (omega (arith, less))

pub each_to : (P : RowName → Type 0) (n : ℕ) (f : ℕ → RowName) → ((k : ℕ) → 1 ≤ k → k ≤ n → P (f k)) → All P (names_to n f)
each_to P zero f each = All-nil P
each_to P (suc n) f each = All-append P (names_to n f) (f (suc n) ∷ []) (each_to P n f (λ k low high. each k low (omega (arith, high)))) (one_name P (f (suc n)) (each (suc n) (omega arith) (omega arith)))

each_cell : (P : RowName → Type 0) (n T : ℕ) (f : ℕ → ℕ → RowName) → ((i t : ℕ) → 1 ≤ i → i ≤ n → 1 ≤ t → t ≤ T → P (f i t)) → All P (cell_names n T f)
each_cell P zero T f each = All-nil P
each_cell P (suc n) T f each = All-append P (cell_names n T f) (names_to T (f (suc n))) (each_cell P n T f (λ i t low high. each i t low (omega (arith, high)))) (each_to P T (f (suc n)) (λ t low high. each (suc n) t (omega arith) (omega arith) low high))

has_to : (n : ℕ) (f : ℕ → RowName) (k : ℕ) → 1 ≤ k → k ≤ n → Contains (names_to n f) (f k)
has_to zero f k low high = absurd (omega (arith, low, high))
has_to (suc n) f k low high =
    ⊎_elim
    (λ last. subst (λ j. Contains (names_to (suc n) f) (f j)) (sym last) (Contains-push (names_to n f) (f (suc n))))
    (λ before. Contains-append_left (names_to n f) (f (suc n) ∷ []) (f k) (has_to n f k low (omega (arith, high, before))))
    (cases_eq k (suc n))

has_cell : (n T : ℕ) (f : ℕ → ℕ → RowName) (i t : ℕ) → 1 ≤ i → i ≤ n → 1 ≤ t → t ≤ T → Contains (cell_names n T f) (f i t)
has_cell zero T f i t low high t_low t_high = absurd (omega (arith, low, high))
has_cell (suc n) T f i t low high t_low t_high =
    ⊎_elim
    (λ last. Contains-append_right (cell_names n T f) (names_to T (f (suc n))) (f i t) (subst (λ j. Contains (names_to T (f (suc n))) (f j t)) (sym last) (has_to T (f (suc n)) t t_low t_high)))
    (λ before. Contains-append_left (cell_names n T f) (names_to T (f (suc n))) (f i t) (has_cell n T f i t low (omega (arith, high, before)) t_low t_high))
    (cases_eq i (suc n))

-- a name that passes is kept
kept_at : (p : RowName → Bool) (names : List RowName) (name : RowName) → p name ≡ true → (k : ℕ) → k < length names → slice_index_or names k name ≡ name → Contains (filter p names) name
kept_at p [] name pass k less is = absurd (omega (arith, less))
kept_at p (first ∷ names) name pass zero less is = rw (ap p is ∙ pass) (zero, omega arith, is)
kept_at p (first ∷ names) name pass (suc k) less is =
    let rest = kept_at p names name pass k (omega (arith, less)) is in
    ⊎_elim (λ yes. rw yes (suc rest.0, omega (arith, rest.1), rest.2)) (λ no. rw no rest) (cases_Bool (p first))

kept : (p : RowName → Bool) (names : List RowName) (name : RowName) → p name ≡ true → Contains names name → Contains (filter p names) name
kept p names name pass has = kept_at p names name pass has.0 has.1 has.2

made_least : (n : ℕ) → 1 ≤ n → nat_le 1 n ≡ true
made_least n some = grind (arith, some)

made_late : (a b : ℕ) → a < b → nat_lt a b ≡ true
made_late a b less = grind (arith, less)

least_made : (n : ℕ) → nat_le 1 n ≡ true → 1 ≤ n
least_made n is = grind (arith, is)

late_made : (a b : ℕ) → nat_lt a b ≡ true → a < b
late_made a b is = grind (arith, is)

module _ (m : Problem) where
  -- ---- by kinds
  abbrev after_tops : List RowName
  after_tops = kind_names m kind.Least ++ kind_names m kind.Late

  abbrev after_maxes : List RowName
  after_maxes = kind_names m kind.Top ++ after_tops

  abbrev after_mins : List RowName
  after_mins = names_to (item_count m) (end_name true) ++ after_maxes

  abbrev after_capacities : List RowName
  after_capacities = names_to (item_count m) (end_name false) ++ after_mins

  abbrev after_links : List RowName
  after_links = kind_names m kind.Capacity ++ after_capacities

  abbrev after_balances : List RowName
  after_balances = kind_names m kind.Link ++ after_links

  abbrev all_names : List RowName
  all_names = kind_names m kind.Balance ++ after_balances

  -- the rules make the rows of those names that pass
  abbrev IsRight : RowName → Type 0
  IsRight name = is_made m name ≡ true → HasRow m name

  each_right : All IsRight all_names
  each_right =
      let n = item_count m in
      let T = m.periods in
      All-append IsRight (kind_names m kind.Balance) after_balances (each_cell IsRight n T (name_in kind.Balance) (λ i t low high t_low t_high _. (low, high, t_low, t_high)))
      (All-append IsRight (kind_names m kind.Link) after_links (each_cell IsRight n T (name_in kind.Link) (λ i t low high t_low t_high _. (low, high, t_low, t_high)))
      (All-append IsRight (kind_names m kind.Capacity) after_capacities (each_cell IsRight (resource_count m) T (name_in kind.Capacity) (λ i t low high t_low t_high _. (low, high, t_low, t_high)))
      (All-append IsRight (names_to n (end_name false)) after_mins (each_to IsRight n (end_name false) (λ i low high _. (low, high)))
      (All-append IsRight (names_to n (end_name true)) after_maxes (each_to IsRight n (end_name true) (λ i low high _. (low, high)))
      (All-append IsRight (kind_names m kind.Top) after_tops (each_cell IsRight n T (name_in kind.Top) (λ i t low high t_low t_high _. (low, high, t_low, t_high)))
      (All-append IsRight (kind_names m kind.Least) (kind_names m kind.Late) (each_cell IsRight n T (name_in kind.Least) (λ i t low high t_low t_high made. ((low, high, t_low, t_high), least_made (item_at m i).min_lot made)))
      (each_cell IsRight n T (name_in kind.Late) (λ i t low high t_low t_high made. ((low, high, t_low, t_high), late_made m.periods (t + (item_at m i).lead) made)))))))))

  each_name : All (HasRow m) (base_names m)
  each_name k d less = All-filter (is_made m) IsRight all_names each_right k d less (filter_passes (is_made m) all_names k d less)

  -- ---- and each that has a row is there
  past_balances : (name : RowName) → Contains after_balances name → Contains all_names name
  past_balances name has = Contains-append_right (kind_names m kind.Balance) after_balances name has

  past_links : (name : RowName) → Contains after_links name → Contains all_names name
  past_links name has = past_balances name (Contains-append_right (kind_names m kind.Link) after_links name has)

  past_capacities : (name : RowName) → Contains after_capacities name → Contains all_names name
  past_capacities name has = past_links name (Contains-append_right (kind_names m kind.Capacity) after_capacities name has)

  past_mins : (name : RowName) → Contains after_mins name → Contains all_names name
  past_mins name has = past_capacities name (Contains-append_right (names_to (item_count m) (end_name false)) after_mins name has)

  past_maxes : (name : RowName) → Contains after_maxes name → Contains all_names name
  past_maxes name has = past_mins name (Contains-append_right (names_to (item_count m) (end_name true)) after_maxes name has)

  past_tops : (name : RowName) → Contains after_tops name → Contains all_names name
  past_tops name has = past_maxes name (Contains-append_right (kind_names m kind.Top) after_tops name has)

  every_name : (name : RowName) → HasRow m name → Contains (base_names m) name
  every_name (Balance i t) has = kept (is_made m) all_names (Balance i t) refl (Contains-append_left (kind_names m kind.Balance) after_balances (Balance i t) (has_cell (item_count m) m.periods (name_in kind.Balance) i t has.0 has.1 has.2 has.3))
  every_name (Link i t) has = kept (is_made m) all_names (Link i t) refl (past_balances (Link i t) (Contains-append_left (kind_names m kind.Link) after_links (Link i t) (has_cell (item_count m) m.periods (name_in kind.Link) i t has.0 has.1 has.2 has.3)))
  every_name (Capacity k t) has = kept (is_made m) all_names (Capacity k t) refl (past_links (Capacity k t) (Contains-append_left (kind_names m kind.Capacity) after_capacities (Capacity k t) (has_cell (resource_count m) m.periods (name_in kind.Capacity) k t has.0 has.1 has.2 has.3)))
  every_name (EndMin i) has = kept (is_made m) all_names (EndMin i) refl (past_capacities (EndMin i) (Contains-append_left (names_to (item_count m) (end_name false)) after_mins (EndMin i) (has_to (item_count m) (end_name false) i has.0 has.1)))
  every_name (EndMax i) has = kept (is_made m) all_names (EndMax i) refl (past_mins (EndMax i) (Contains-append_left (names_to (item_count m) (end_name true)) after_maxes (EndMax i) (has_to (item_count m) (end_name true) i has.0 has.1)))
  every_name (Top i t) has = kept (is_made m) all_names (Top i t) refl (past_maxes (Top i t) (Contains-append_left (kind_names m kind.Top) after_tops (Top i t) (has_cell (item_count m) m.periods (name_in kind.Top) i t has.0 has.1 has.2 has.3)))
  every_name (Least i t) has =
      let cell = has.0 in
      kept (is_made m) all_names (Least i t) (made_least (item_at m i).min_lot has.1) (past_tops (Least i t) (Contains-append_left (kind_names m kind.Least) (kind_names m kind.Late) (Least i t) (has_cell (item_count m) m.periods (name_in kind.Least) i t cell.0 cell.1 cell.2 cell.3)))
  every_name (Late i t) has =
      let cell = has.0 in
      kept (is_made m) all_names (Late i t) (made_late m.periods (t + (item_at m i).lead) has.1) (past_tops (Late i t) (Contains-append_right (kind_names m kind.Least) (kind_names m kind.Late) (Late i t) (has_cell (item_count m) m.periods (name_in kind.Late) i t cell.0 cell.1 cell.2 cell.3)))
  every_name (Path n) has = absurd has
  every_name (Cut n) has = absurd has

  pub names_are : BaseNamesAre m
  names_are = record { each = each_name; every = every_name }

-- The slots of one resource and period after those of all earlier ones.
use Rattle.std.proofs.Common.{◌≡◌, ◌≤◌, ◌<◌, ◌+◌, ◌-◌, ◌*◌, ◌∙◌, ◌⊎◌, ⊎_elim, inl, inr, ℕ, false, List, ◌++◌, length, min, sym, ap, subst, arith}
use Rattle.std.specs.Prelude.{◌==◌, if◌then◌else◌}
use Rattle.std.proofs.lemmas.Bool.{and_left, and_right, cases_lt, ne_eqb}
use Rattle.std.proofs.lemmas.List.{get_or-append-add, get_or_append_left, length-append}
use Rattle.std.proofs.lemmas.List.Sums.{sum_by-append}
use Rattle.std.proofs.Math.Nat.{min-eq_left}
use Rattle.lot_sizing.specs.Problem.{IsWithinLimits, Problem, capacity, item_count, resource_count}
use Rattle.lot_sizing.specs.Plan.{Plan}
use Rattle.lot_sizing.specs.declared.limits.TheConstants.{MAX_ITEMS, MAX_PERIODS, MAX_RESOURCES}
use Rattle.plan_rules.specs.Order.{HoldsBefore, IsBefore}
use Rattle.lot_schedule.specs.Slots.{HasAll, HasSlot, IsOf, IsSlot, length_of, no_slot, slot_at, slot_length}
use Rattle.lot_schedule.specs.Orders.{is_at, sum_of_ends}
use Rattle.lot_schedule.specs.Lots.{AreLotsOf, Follows, IsLaidBefore, laid, lot_at, pair_sum, total_of}
use Rattle.lot_schedule.specs.declared.lots.Lot.{Lot}
use Rattle.lot_schedule.specs.declared.slot.Slot.{Slot}
use Rattle.lot_schedule.proofs.Terms.{none_passes}
use Rattle.lot_schedule.proofs.Schedules.{length_is}
use Rattle.lot_schedule.proofs.Laid.{has_lot, laid_at, laid_end, laid_ends, laid_order, laid_size, lots_few, lots_pairs}

-- a resource and period, with the lots that are laid there
pub record IsThere (m : Problem) (p : Plan) (k t : ℕ) (ls : List Lot) : Type 0 where
  pub resource_low : 1 ≤ k
  pub resource_high : k ≤ resource_count m
  pub period_low : 1 ≤ t
  pub period_high : t ≤ m.periods
  pub lots : AreLotsOf m p k t ls
  pub room : total_of ls ≤ capacity m k t
  pub limits : IsWithinLimits m

-- ---- places before and after the joint of two lists
pub record IsLeft (xs ys : List Slot) (n : ℕ) : Type 0 where
  pub there : n < length xs
  pub is : slot_at (xs ++ ys) n ≡ slot_at xs n

pub record IsRight (xs ys : List Slot) (n : ℕ) : Type 0 where
  pub place : length xs ≤ n
  pub there : n - length xs < length ys
  pub is : slot_at (xs ++ ys) n ≡ slot_at ys (n - length xs)

pub sides : (xs ys : List Slot) (n : ℕ) → n < length (xs ++ ys) → IsLeft xs ys n ⊎ IsRight xs ys n
sides xs ys n there =
    ⊎_elim
    (λ left. inl (record { there = left; is = get_or_append_left xs ys no_slot n left }))
    (λ right.
    let e : n ≡ length xs + (n - length xs) = omega (arith, right) in
    inr (record { place = right; there = omega (arith, there, length-append xs ys, right); is = ap (slot_at (xs ++ ys)) e ∙ get_or-append-add xs ys (n - length xs) no_slot }))
    (cases_lt n (length xs))

left_slot : (xs ys : List Slot) (k t i : ℕ) → HasSlot xs k t i → HasSlot (xs ++ ys) k t i
left_slot xs ys k t i (n, there, is) = (n, omega (arith, there, length-append xs ys), subst (IsOf k t i) (sym (get_or_append_left xs ys no_slot n there)) is)

right_slot : (xs ys : List Slot) (k t i : ℕ) → HasSlot ys k t i → HasSlot (xs ++ ys) k t i
right_slot xs ys k t i (n, there, is) = (length xs + n, omega (arith, there, length-append xs ys), subst (IsOf k t i) (sym (get_or-append-add xs ys n no_slot)) is)

-- ---- the laid slots
laid_of : (m : Problem) (p : Plan) (k t : ℕ) (ls : List Lot) (n : ℕ) → n < length ls → IsOf k t (lot_at ls n).item (slot_at (laid k t 0 ls) n)
laid_of m p k t ls n there = let at = laid_at k t 0 ls n there in record { resource = at.resource; period = at.period; item = at.item }

laid_length : (m : Problem) (p : Plan) (k t : ℕ) (ls : List Lot) → IsThere m p k t ls → (n : ℕ) → n < length ls → slot_length m p (slot_at (laid k t 0 ls) n) ≡ (lot_at ls n).length
laid_length m p k t ls here n there = length_is m p k t (lot_at ls n).item (slot_at (laid k t 0 ls) n) (laid_of m p k t ls n there) ∙ sym (here.lots.lots.each n there).length

laid_slot : (m : Problem) (p : Plan) (k t : ℕ) (ls : List Lot) → IsThere m p k t ls → (n : ℕ) → n < length ls → IsSlot m p (slot_at (laid k t 0 ls) n)
laid_slot m p k t ls here n there =
    let s = slot_at (laid k t 0 ls) n in
    let at = laid_at k t 0 ls n there in
    let lot = here.lots.lots.each n there in
    let size = laid_length m p k t ls here n there in
    let room : capacity m s.resource s.period ≡ capacity m k t = ap (λ r. capacity m r s.period) at.resource ∙ ap (capacity m k) at.period in
    record {
      exists = record {
        resource_low = omega (arith, at.resource, here.resource_low);
        resource_high = omega (arith, at.resource, here.resource_high);
        period_low = omega (arith, at.period, here.period_low);
        period_high = omega (arith, at.period, here.period_high);
        item_low = omega (arith, at.item, lot.low);
        item_high = omega (arith, at.item, lot.high);
      };
      takes = omega (arith, size, lot.takes);
      lasts = omega (arith, at.lasts, size);
      within = omega (arith, room, laid_end k t 0 ls n there, here.room);
    }

laid_all : (m : Problem) (p : Plan) (k t : ℕ) (ls : List Lot) → IsThere m p k t ls → HasAll m p (laid k t 0 ls) k t
laid_all m p k t ls here i low high takes =
    let (n, there, is) = has_lot m p k t (item_count m) ls here.lots.lots i low high takes in
    let at = laid_at k t 0 ls n there in
    (n, omega (arith, there, laid_size k t 0 ls), record { resource = at.resource; period = at.period; item = at.item ∙ is })

follow : (m : Problem) (p : Plan) (k t : ℕ) (ls : List Lot) → IsThere m p k t ls → (n o : ℕ) → n < o → o < length ls → Follows m p (slot_at (laid k t 0 ls) n) (slot_at (laid k t 0 ls) o)
follow m p k t ls here n o less there =
    let n_there : n < length ls = omega (arith, less, there) in
    let one = laid_at k t 0 ls n n_there in
    let other = laid_at k t 0 ls o there in
    let size = laid_length m p k t ls here n n_there in
    let other_size = laid_length m p k t ls here o there in
    inr (
      record { resource = one.resource ∙ sym other.resource; period = one.period ∙ sym other.period },
      laid_order k t 0 ls n o less there,
      ⊎_elim (λ shorter. inl (omega (arith, shorter, size, other_size))) (λ same. inr (omega (arith, same.0, size, other_size), omega (arith, same.1, one.item, other.item))) (here.lots.order n o less there),
    )

rising : (m : Problem) (p : Plan) (k t : ℕ) (ls : List Lot) → AreLotsOf m p k t ls → (n o : ℕ) → n < o → o < length ls → (lot_at ls n).length ≤ (lot_at ls o).length
rising m p k t ls lots n o less there = ⊎_elim (λ shorter. omega (arith, shorter)) (λ same. omega (arith, same.0)) (lots.order n o less there)

-- ---- resources and periods in order
later : (a b k t : ℕ) → IsBefore a b k t → IsBefore a b k (t + 1)
later a b k t before = ⊎_elim (λ row. inl row) (λ same. inr (same.0, omega (arith, same.1))) before

before_next : (j u k t : ℕ) → IsBefore j u k (t + 1) → IsBefore j u k t ⊎ ((j ≡ k) × (u ≡ t))
before_next j u k t before =
    ⊎_elim
    (λ row. inl (inl row))
    (λ same. ⊎_elim (λ less. inl (inr (same.0, less))) (λ no. inr (same.0, omega (arith, no, same.1))) (cases_lt u t))
    before

not_itself : (j u a b : ℕ) → IsBefore a b j u → a ≡ j → b ≡ u → ⊥
not_itself j u a b before e f = ⊎_elim (λ row. omega (arith, row, e)) (λ same. omega (arith, same.1, f)) before

elsewhere : (j u : ℕ) (s : Slot) → (s.resource ≡ j → s.period ≡ u → ⊥) → is_at j u s ≡ false
elsewhere j u s apart =
    ⊎_elim
    (λ less. and_left (s.resource == j) (s.period == u) (ne_eqb s.resource j (λ e. omega (arith, e, less))))
    (λ no. ⊎_elim
    (λ more. and_left (s.resource == j) (s.period == u) (ne_eqb s.resource j (λ e. omega (arith, e, more))))
    (λ too. and_right (s.resource == j) (s.period == u) (ne_eqb s.period u (apart (omega (arith, no, too)))))
    (cases_lt j s.resource))
    (cases_lt s.resource j)

-- ---- sums of ends
ends_none : (xs : List Slot) (j u : ℕ) → ((n : ℕ) → n < length xs → (slot_at xs n).resource ≡ j → (slot_at xs n).period ≡ u → ⊥) → sum_of_ends xs j u ≡ 0
ends_none xs j u apart = none_passes (is_at j u) (λ s. s.end) no_slot xs (λ n less. elsewhere j u (slot_at xs n) (apart n less))

ends_join : (xs ys : List Slot) (j u : ℕ) → sum_of_ends (xs ++ ys) j u ≡ sum_of_ends xs j u + sum_of_ends ys j u
ends_join xs ys j u = sum_by-append (λ (s : Slot). if is_at j u s then s.end else 0) xs ys

laid_elsewhere : (k t : ℕ) (ls : List Lot) (j u : ℕ) → IsBefore j u k t → sum_of_ends (laid k t 0 ls) j u ≡ 0
laid_elsewhere k t ls j u before = ends_none (laid k t 0 ls) j u (λ n less e f.
    let at = laid_at k t 0 ls n (omega (arith, less, laid_size k t 0 ls)) in
    not_itself k t j u before (sym e ∙ at.resource) (sym f ∙ at.period))

laid_here : (m : Problem) (p : Plan) (k t : ℕ) (ls : List Lot) → AreLotsOf m p k t ls → 2 * sum_of_ends (laid k t 0 ls) k t ≡ pair_sum (item_count m) (length_of m p k t)
laid_here m p k t ls lots =
    let ends = laid_ends k t 0 ls (rising m p k t ls lots) in
    let pairs = lots_pairs m p k t (item_count m) ls lots.lots in
    omega (arith, ends, pairs)

-- ---- all together
join_slots : (m : Problem) (p : Plan) (xs : List Slot) (k t : ℕ) (ls : List Lot) → IsLaidBefore m p xs k t → IsThere m p k t ls → (n : ℕ) → n < length (xs ++ laid k t 0 ls) → IsSlot m p (slot_at (xs ++ laid k t 0 ls) n)
join_slots m p xs k t ls so_far here n less =
    ⊎_elim
    (λ left. subst (IsSlot m p) (sym left.is) (so_far.slots n left.there))
    (λ right. subst (IsSlot m p) (sym right.is) (laid_slot m p k t ls here (n - length xs) (omega (arith, right.there, laid_size k t 0 ls))))
    (sides xs (laid k t 0 ls) n less)

join_before : (m : Problem) (p : Plan) (xs : List Slot) (k t : ℕ) (ls : List Lot) → IsLaidBefore m p xs k t → (n : ℕ) → n < length (xs ++ laid k t 0 ls) → IsBefore (slot_at (xs ++ laid k t 0 ls) n).resource (slot_at (xs ++ laid k t 0 ls) n).period k (t + 1)
join_before m p xs k t ls so_far n less =
    ⊎_elim
    (λ left. subst (λ (s : Slot). IsBefore s.resource s.period k (t + 1)) (sym left.is) (later (slot_at xs n).resource (slot_at xs n).period k t (so_far.before n left.there)))
    (λ right.
    let at = laid_at k t 0 ls (n - length xs) (omega (arith, right.there, laid_size k t 0 ls)) in
    subst (λ (s : Slot). IsBefore s.resource s.period k (t + 1)) (sym right.is) (inr (at.resource, omega (arith, at.period))))
    (sides xs (laid k t 0 ls) n less)

precede : (m : Problem) (p : Plan) (k t : ℕ) (a b : Slot) → IsBefore a.resource a.period k t → b.resource ≡ k → b.period ≡ t → Follows m p a b
precede m p k t a b before e f = inl (subst (λ r. IsBefore a.resource a.period r b.period) (sym e) (subst (λ u. IsBefore a.resource a.period k u) (sym f) before))

join_order : (m : Problem) (p : Plan) (xs : List Slot) (k t : ℕ) (ls : List Lot) → IsLaidBefore m p xs k t → IsThere m p k t ls → (n o : ℕ) → n < o → o < length (xs ++ laid k t 0 ls) → Follows m p (slot_at (xs ++ laid k t 0 ls) n) (slot_at (xs ++ laid k t 0 ls) o)
join_order m p xs k t ls so_far here n o less there =
    let ys = laid k t 0 ls in
    ⊎_elim
    (λ n_left. ⊎_elim
    (λ o_left. subst (λ s. Follows m p s (slot_at (xs ++ ys) o)) (sym n_left.is) (subst (λ s. Follows m p (slot_at xs n) s) (sym o_left.is) (so_far.order n o less o_left.there)))
    (λ o_right.
    let at = laid_at k t 0 ls (o - length xs) (omega (arith, o_right.there, laid_size k t 0 ls)) in
    subst (λ s. Follows m p s (slot_at (xs ++ ys) o)) (sym n_left.is) (subst (λ s. Follows m p (slot_at xs n) s) (sym o_right.is) (precede m p k t (slot_at xs n) (slot_at ys (o - length xs)) (so_far.before n n_left.there) at.resource at.period)))
    (sides xs ys o there))
    (λ n_right. ⊎_elim
    (λ o_left. absurd (omega (arith, n_right.place, o_left.there, less)))
    (λ o_right. subst (λ s. Follows m p s (slot_at (xs ++ ys) o)) (sym n_right.is) (subst (λ s. Follows m p (slot_at ys (n - length xs)) s) (sym o_right.is) (follow m p k t ls here (n - length xs) (o - length xs) (omega (arith, less, n_right.place)) (omega (arith, o_right.there, laid_size k t 0 ls)))))
    (sides xs ys o there))
    (sides xs ys n (omega (arith, less, there)))

join_all : (m : Problem) (p : Plan) (xs : List Slot) (k t : ℕ) (ls : List Lot) → IsLaidBefore m p xs k t → IsThere m p k t ls → HoldsBefore (resource_count m) m.periods (HasAll m p (xs ++ laid k t 0 ls)) k (t + 1)
join_all m p xs k t ls so_far here j u low high u_low u_high before =
    ⊎_elim
    (λ earlier i i_low i_high takes. left_slot xs (laid k t 0 ls) j u i (so_far.all j u low high u_low u_high earlier i i_low i_high takes))
    (λ now. subst (λ r. HasAll m p (xs ++ laid k t 0 ls) r u) (sym now.0) (subst (λ v. HasAll m p (xs ++ laid k t 0 ls) k v) (sym now.1) (λ i i_low i_high takes. right_slot xs (laid k t 0 ls) k t i (laid_all m p k t ls here i i_low i_high takes))))
    (before_next j u k t before)

join_ends : (m : Problem) (p : Plan) (xs : List Slot) (k t : ℕ) (ls : List Lot) → IsLaidBefore m p xs k t → IsThere m p k t ls → HoldsBefore (resource_count m) m.periods (λ j u. 2 * sum_of_ends (xs ++ laid k t 0 ls) j u ≡ pair_sum (item_count m) (length_of m p j u)) k (t + 1)
join_ends m p xs k t ls so_far here j u low high u_low u_high before =
    ⊎_elim
    (λ earlier. omega (arith, ends_join xs (laid k t 0 ls) j u, laid_elsewhere k t ls j u earlier, so_far.ends j u low high u_low u_high earlier))
    (λ now.
    let none = ends_none xs k t (λ n less e f. not_itself k t (slot_at xs n).resource (slot_at xs n).period (so_far.before n less) e f) in
    let here_ends : 2 * sum_of_ends (xs ++ laid k t 0 ls) k t ≡ pair_sum (item_count m) (length_of m p k t) = omega (arith, ends_join xs (laid k t 0 ls) k t, none, laid_here m p k t ls here.lots) in
    subst (λ r. 2 * sum_of_ends (xs ++ laid k t 0 ls) r u ≡ pair_sum (item_count m) (length_of m p r u)) (sym now.0) (subst (λ v. 2 * sum_of_ends (xs ++ laid k t 0 ls) k v ≡ pair_sum (item_count m) (length_of m p k v)) (sym now.1) here_ends))
    (before_next j u k t before)

join_few : (m : Problem) (p : Plan) (xs : List Slot) (k t : ℕ) (ls : List Lot) → IsLaidBefore m p xs k t → IsThere m p k t ls → length (xs ++ laid k t 0 ls) ≤ MAX_ITEMS * MAX_PERIODS * min (k - 1) MAX_RESOURCES + MAX_ITEMS * min (t + 1 - 1) MAX_PERIODS
join_few m p xs k t ls so_far here =
    let now : min (t - 1) MAX_PERIODS ≡ t - 1 = min-eq_left (omega (arith, here.period_high, here.limits.periods)) in
    let next : min (t + 1 - 1) MAX_PERIODS ≡ t + 1 - 1 = min-eq_left (omega (arith, here.period_high, here.limits.periods)) in
    omega (arith, length-append xs (laid k t 0 ls), laid_size k t 0 ls, lots_few m p k t (item_count m) ls here.lots.lots, here.limits.items, so_far.few, now, next, here.period_low)

pub join : (m : Problem) (p : Plan) (xs : List Slot) (k t : ℕ) (ls : List Lot) → IsLaidBefore m p xs k t → IsThere m p k t ls → IsLaidBefore m p (xs ++ laid k t 0 ls) k (t + 1)
join m p xs k t ls so_far here = record {
  slots = join_slots m p xs k t ls so_far here;
  before = join_before m p xs k t ls so_far;
  order = join_order m p xs k t ls so_far here;
  all = join_all m p xs k t ls so_far here;
  ends = join_ends m p xs k t ls so_far here;
  few = join_few m p xs k t ls so_far here;
}

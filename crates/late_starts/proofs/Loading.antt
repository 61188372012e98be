-- Rows of the loads that count for each period, filled item by item.
use Rattle.std.proofs.Common.{◌≡◌, ◌≢◌, ◌≤◌, ◌<◌, ◌+◌, ◌-◌, ◌*◌, ◌^◌, ◌∙◌, ⊎_elim, inl, inr, ℕ, zero, suc, refl, sym, ap, subst, arith, Bool, true, false, List, [], ◌∷◌, ◌++◌, length, replicate}
use Rattle.std.specs.Prelude.{slice_set, min, if◌then◌else◌, ◌==◌}
use Rattle.std.proofs.lemmas.Bool.{cases_eq, cases_lt}
use Rattle.std.proofs.Math.Nat.{mul-le-mul_left}
use Rattle.std.proofs.lemmas.List.{length-set, length_push, length-replicate, get_or-replicate, get_or-set_same, get_or-set_other, get_or_push, get_or_append_left}
use Rattle.lot_sizing.specs.Sums.{sum_to}
use Rattle.lot_sizing.specs.Problem.{Problem, entry, item_count, per_unit}
use Rattle.lot_sizing.specs.Plan.{Table}
use Rattle.lot_sizing.specs.Totals.{IsRanking}
use Rattle.lot_sizing.proofs.Sums.{sum_to_more}
use Rattle.must_start.specs.MustStart.{may_be_late}
use Rattle.must_start.specs.Rows.{row_in}
use Rattle.must_start.specs.Steps.{IsBefore}
use Rattle.late_starts.specs.OnTime.{arrival}
use Rattle.late_starts.specs.Charges.{AreLoads, arriving_load, charge_of}
use Rattle.late_starts.specs.Rows.{AreCappedCharges, HaveCells, capped, cell_in}
use Rattle.late_starts.specs.Steps.{EachBefore, HasEach, HaveCharges, IsArrivingRow, IsLoaded, IsLoadedTo, arriving_to, charge_by, depth_by, load_by}
use Rattle.late_starts.proofs.Places.{before_all, before_next, before_none, before_pass, put_else, put_here}
use Rattle.late_starts.proofs.Covering.{loads_exist}

-- numbers that are capped at any number
pub cap_add : (c a b : ℕ) → min (min a c + b) c ≡ min (a + b) c
cap_add c a b = grind arith

pub cap_twice : (c a : ℕ) → min (min a c) c ≡ min a c
cap_twice c a = grind arith

pub low_cap : (c a : ℕ) → a ≤ c → min a c ≡ a
low_cap c a h = grind (arith, h)

pub high_cap : (c a : ℕ) → c ≤ a → min a c ≡ c
high_cap c a h = grind (arith, h)

no_less : (c u : ℕ) → 1 ≤ u → c ≤ u * c
no_less c u some = let e : u ≡ suc (u - 1) = omega (arith, some) in omega (arith, ap (λ k. k * c) e)

cap_times : (c u a : ℕ) → 1 ≤ u → min (u * min a c) c ≡ min (u * a) c
cap_times c u a some =
    ⊎_elim
    (λ low. ap (λ x. min (u * x) c) (low_cap c a (omega (arith, low))))
    (λ high.
    let all : c ≤ u * c = no_less c u some in
    ap (λ x. min (u * x) c) (high_cap c a high)
    ∙ high_cap c (u * c) all
    ∙ sym (high_cap c (u * a) (omega (arith, all, mul-le-mul_left u high))))
    (cases_lt a c)

pub cap_both : (c p q x y : ℕ) → min p c ≡ min q c → min x c ≡ min y c → min (p + x) c ≡ min (q + y) c
cap_both c p q x y h k = grind (arith, h, k)

-- sums of terms that are capped alike
pub cap_terms : (c s n : ℕ) (a b : ℕ → ℕ) → ((k : ℕ) → 1 ≤ k → k ≤ n → min (a k) c ≡ min (b k) c) → min (s + sum_to n a) c ≡ min (s + sum_to n b) c
cap_terms c s zero a b each = refl
cap_terms c s (suc n) a b each =
    let first : s + sum_to (suc n) a ≡ s + sum_to n a + a (suc n) = omega arith in
    let other : s + sum_to (suc n) b ≡ s + sum_to n b + b (suc n) = omega arith in
    ap (λ x. min x c) first
    ∙ cap_both c (s + sum_to n a) (s + sum_to n b) (a (suc n)) (b (suc n)) (cap_terms c s n a b (λ k low high. each k low (omega (arith, high)))) (each (suc n) (omega arith) (omega arith))
    ∙ sym (ap (λ x. min x c) other)

cap_sums : (c n : ℕ) (a b : ℕ → ℕ) → ((k : ℕ) → 1 ≤ k → k ≤ n → min (a k) c ≡ min (b k) c) → min (sum_to n a) c ≡ min (sum_to n b) c
cap_sums c n a b each =
    let first : sum_to n a ≡ 0 + sum_to n a = omega arith in
    let other : 0 + sum_to n b ≡ sum_to n b = omega arith in
    ap (λ x. min x c) first ∙ cap_terms c 0 n a b each ∙ ap (λ x. min x c) other

pub cap_put : (c units a b : ℕ) → (0 < units → a ≡ min b c) → min (units * a) c ≡ min (units * b) c
cap_put c units a b h =
    ⊎_elim
    (λ goes. ap (λ x. min (units * x) c) (h goes) ∙ cap_times c units b goes)
    (λ none.
    let e : units ≡ 0 = omega (arith, none) in
    let same : units * a ≡ units * b = omega (arith, ap (λ k. k * a) e, ap (λ k. k * b) e) in
    ap (λ x. min x c) same)
    (cases_lt 0 units)

cap_needed : (c l k : ℕ) (b z : Bool) → l ≡ min k c → min (if b then (if z then 0 else l) else 0) c ≡ min (if b then (if z then 0 else k) else 0) c
cap_needed c l k true true is = refl
cap_needed c l k true false is = ap (λ x. min x c) is ∙ cap_twice c k
cap_needed c l k false z is = refl

-- the load that counts for a period takes the next one
add_next : (c p l y : ℕ) → y ≡ min (min p c + l) c → y ≡ min (p + l) c
add_next c p l y is = is ∙ cap_add c p l

arriving_next : (m : Problem) (start load : Table) (i k v : ℕ) → 1 ≤ k → arriving_to m start load i (k + 1 - 1) v ≡ arriving_to m start load i (k - 1) v + (if arrival m i k == v then (if start i k == 0 then 0 else load i k) else 0)
arriving_next m start load i k v low = sum_to_more k (λ t. if arrival m i t == v then (if start i t == 0 then 0 else load i t) else 0) low

here_is : (a v x : ℕ) → a ≡ v → (if a == v then x else 0) ≡ x
here_is a v x here = grind (arith, here)

none_else : (a v x : ℕ) → a ≢ v → (if a == v then x else 0) ≡ 0
none_else a v x other = grind (arith, other)

abbrev pub HasArriving : Problem → (start load : Table) → ℕ → ℕ → List ℕ → Type 0
HasArriving m start load i n xs = HasEach m.periods (λ v. capped (arriving_to m start load i n v)) xs

pub arriving_take : (m : Problem) (start load : Table) (i k a y : ℕ) (xs : List ℕ) → 1 ≤ k → a ≡ arrival m i k → 1 ≤ a → a ≤ m.periods → y ≡ capped (entry xs a + (if start i k == 0 then 0 else load i k)) → HasArriving m start load i (k - 1) xs → HasArriving m start load i (k + 1 - 1) (slice_set xs (a - 1) y)
arriving_take m start load i k a y xs low at a_low a_high is has =
    let needed = if start i k == 0 then 0 else load i k in
    record {
      size = length-set xs (a - 1) y ∙ has.size;
      each = λ v v_low v_high. ⊎_elim
          (λ same.
          let so_far = arriving_to m start load i (k - 1) v in
          let next : so_far + needed ≡ arriving_to m start load i (k + 1 - 1) v = omega (arith, arriving_next m start load i k v low, here_is (arrival m i k) v needed (sym at ∙ same)) in
          ap (entry (slice_set xs (a - 1) y)) (sym same)
          ∙ get_or-set_same xs (a - 1) y 0 (omega (arith, a_low, a_high, has.size))
          ∙ add_next (2 ^ 128 - 1) so_far needed y (is ∙ ap (λ x. capped (x + needed)) (ap (entry xs) same ∙ has.each v v_low v_high))
          ∙ ap capped next)
          (λ other.
          let next : arriving_to m start load i (k - 1) v ≡ arriving_to m start load i (k + 1 - 1) v = omega (arith, arriving_next m start load i k v low, none_else (arrival m i k) v needed (λ same. other (at ∙ same))) in
          get_or-set_other xs (a - 1) (v - 1) y 0 (λ same. other (omega (arith, same, a_low, v_low)))
          ∙ has.each v v_low v_high
          ∙ ap capped next)
          (cases_eq a v);
    }

pub arriving_first : (m : Problem) (start load : Table) (i : ℕ) (xs : List ℕ) → xs ≡ replicate m.periods 0 → HasArriving m start load i 0 xs
arriving_first m start load i xs is = record {
  size = ap length is ∙ length-replicate m.periods 0;
  each = λ v v_low v_high. ap (λ ys. entry ys v) is ∙ get_or-replicate {A = ℕ} m.periods (v - 1) 0 0 (omega (arith, v_low, v_high)) ∙ sym (low_cap (2 ^ 128 - 1) 0 (omega arith));
}

-- the rows of all items before a place
pub loaded_none : (m : Problem) (start share : Table) (depth : ℕ → ℕ) (rows : List (List ℕ)) → HaveCells m rows → IsLoadedTo m start share depth 0 1 rows
loaded_none m start share depth rows cells = record { cells = cells; each = λ load are. before_none m depth (IsArrivingRow m start load rows) }

pub loaded_pass : (m : Problem) (start share : Table) (depth : ℕ → ℕ) (b j : ℕ) (rows : List (List ℕ)) → depth j ≢ b → IsLoadedTo m start share depth b j rows → IsLoadedTo m start share depth b (j + 1) rows
loaded_pass m start share depth b j rows other is = record { cells = is.cells; each = λ load are. before_pass m depth (IsArrivingRow m start load rows) b j other (is.each load are) }

pub loaded_next : (m : Problem) (start share : Table) (depth : ℕ → ℕ) (b : ℕ) (rows : List (List ℕ)) → IsLoadedTo m start share depth b (item_count m + 1) rows → IsLoadedTo m start share depth (b + 1) 1 rows
loaded_next m start share depth b rows is = record { cells = is.cells; each = λ load are. before_next m depth (IsArrivingRow m start load rows) b (is.each load are) }

-- a component comes before what it goes into
sooner : (n a b : ℕ) → b < a → a ≤ n → n - a < n - b
sooner n a b less within = omega (arith, less, within)

-- the loads of an item, once its components have theirs
load_right : (m : Problem) (start share load : Table) (rank : ℕ → ℕ) (j v : ℕ) (rows : List (List ℕ)) → IsRanking m rank → ((i : ℕ) → rank i ≤ item_count m) → 1 ≤ j → j ≤ item_count m → AreLoads m start share load → EachBefore m (depth_by m rank) (depth_by m rank j) j (IsArrivingRow m start load rows) → 1 ≤ v → v ≤ m.periods → capped (load_by m rows (share j v) j v) ≡ capped (load j v)
load_right m start share load rank j v rows ranks small low high are each v_low v_high =
    cap_terms (2 ^ 128 - 1) (share j v) (item_count m) (λ i. per_unit m i j * cell_in rows i v) (λ i. per_unit m i j * arriving_load m start load i v) (λ i i_low i_high.
    cap_put (2 ^ 128 - 1) (per_unit m i j) (cell_in rows i v) (arriving_load m start load i v) (λ goes. each i i_low i_high (inl (sooner (item_count m) (rank i) (rank j) (ranks i j i_low i_high low high goes) (small i))) v v_low v_high))
    ∙ ap capped (sym (are.each j v low high v_low v_high))

row_right : (m : Problem) (start load : Table) (j v : ℕ) (loads : List ℕ) → ((t : ℕ) → 1 ≤ t → t ≤ m.periods → entry loads t ≡ capped (load j t)) → capped (arriving_load m start (λ _. entry loads) j v) ≡ capped (arriving_load m start load j v)
row_right m start load j v loads each =
    cap_sums (2 ^ 128 - 1) m.periods (λ t. if arrival m j t == v then (if start j t == 0 then 0 else entry loads t) else 0) (λ t. if arrival m j t == v then (if start j t == 0 then 0 else load j t) else 0) (λ t low high.
    cap_needed (2 ^ 128 - 1) (entry loads t) (load j t) (arrival m j t == v) (start j t == 0) (each t low high))

pub loaded_more : (m : Problem) (start share : Table) (rank : ℕ → ℕ) (j : ℕ) (rows : List (List ℕ)) (loads row : List ℕ) → IsRanking m rank → ((i : ℕ) → rank i ≤ item_count m) → 1 ≤ j → j ≤ item_count m → IsLoadedTo m start share (depth_by m rank) (depth_by m rank j) j rows → HasEach m.periods (λ v. capped (load_by m rows (share j v) j v)) loads → HasEach m.periods (λ v. capped (arriving_load m start (λ _. entry loads) j v)) row → IsLoadedTo m start share (depth_by m rank) (depth_by m rank j) (j + 1) (slice_set rows (j - 1) row)
loaded_more m start share rank j rows loads row ranks small low high before is_loads is_row =
    let new = slice_set rows (j - 1) row in
    let size : j ≤ length rows = omega (arith, high, before.cells.size) in
    record {
      cells = record {
        size = omega (arith, length-set rows (j - 1) row, before.cells.size);
        row_sizes = λ i i_low i_high. ⊎_elim
            (λ same. ap length (put_here rows row i j same low size) ∙ is_row.size)
            (λ other. ap length (put_else rows row i j other i_low low) ∙ before.cells.row_sizes i i_low i_high)
            (cases_eq i j);
      };
      each = λ load are i i_low i_high earlier v v_low v_high. ⊎_elim
          (λ same.
          ap (λ r. entry r v) (put_here rows row i j same low size)
          ∙ is_row.each v v_low v_high
          ∙ row_right m start load j v loads (λ t t_low t_high. is_loads.each t t_low t_high ∙ load_right m start share load rank j t rows ranks small low high are (before.each load are) t_low t_high)
          ∙ ap (λ k. capped (arriving_load m start load k v)) (sym same))
          (λ other.
          let place : IsBefore (depth_by m rank) i (depth_by m rank j) j = ⊎_elim (λ less. inl less) (λ at. inr (at.0, omega (arith, at.1, other))) earlier in
          ap (λ r. entry r v) (put_else rows row i j other i_low low) ∙ before.each load are i i_low i_high place v v_low v_high)
          (cases_eq i j);
    }

pub loaded_end : (m : Problem) (start share : Table) (rank : ℕ → ℕ) (b : ℕ) (rows : List (List ℕ)) → b ≡ item_count m + 1 → IsRanking m rank → IsLoadedTo m start share (depth_by m rank) b 1 rows → IsLoaded m start share rows
loaded_end m start share rank b rows all ranks is =
    let (found, are) = loads_exist m rank start share ranks in
    record {
      cells = is.cells;
      load = found;
      loads = are;
      each = before_all m (depth_by m rank) (IsArrivingRow m start found rows) b all (λ i. omega arith) (is.each found are);
    }

-- rows one by one
pub record AreRowsTo (n : ℕ) (R : ℕ → List ℕ → Type 0) (rows : List (List ℕ)) : Type 0 where
  pub size : length rows ≡ n
  pub each : (i : ℕ) → 1 ≤ i → i ≤ n → R i (row_in rows i)

pub rows_more : (n k : ℕ) (R : ℕ → List ℕ → Type 0) (rows : List (List ℕ)) (row : List ℕ) → k ≡ n + 1 → AreRowsTo n R rows → R k row → AreRowsTo k R (rows ++ row ∷ [])
rows_more n k R rows row next are is = record {
  size = omega (arith, length_push rows row, are.size, next);
  each = λ i low high. ⊎_elim
      (λ before. subst (R i) (sym (get_or_append_left rows (row ∷ []) [] (i - 1) (omega (arith, before, low, are.size, next)))) (are.each i low (omega (arith, before, next))))
      (λ no. let e : k ≡ i = omega (arith, no, high) in subst (R i) (sym (get_or_push rows row [] (i - 1) (omega (arith, e, are.size, next)))) (subst (λ j. R j row) e is))
      (cases_lt i k);
}

pub rows_none : (R : ℕ → List ℕ → Type 0) (rows : List (List ℕ)) → rows ≡ [] → AreRowsTo 0 R rows
rows_none R rows none = record { size = ap length none; each = λ i low high. absurd (omega (arith, low, high)) }

pub cells_all : (m : Problem) (n : ℕ) (rows : List (List ℕ)) → n ≡ item_count m → AreRowsTo n (λ i xs. length xs ≡ m.periods) rows → HaveCells m rows
cells_all m n rows all are = record { size = are.size ∙ all; row_sizes = λ i low high. are.each i low (omega (arith, high, all)) }

-- charges of all items
charge_right : (b : Bool) (x y : ℕ) → x ≡ capped y → (if b then x else 0) ≡ capped (if b then y else 0)
charge_right true x y is = is
charge_right false x y is = sym (low_cap (2 ^ 128 - 1) 0 (omega arith))

pub charges_all : (m : Problem) (n : ℕ) (arriving rows : List (List ℕ)) → n ≡ item_count m → AreRowsTo n (λ i xs. HasEach m.periods (charge_by m arriving i) xs) rows → HaveCharges m arriving rows
charges_all m n arriving rows all are = record { size = are.size ∙ all; each = λ i low high. are.each i low (omega (arith, high, all)) }

pub charged_all : (m : Problem) (start share : Table) (arriving rows : List (List ℕ)) → IsLoaded m start share arriving → HaveCharges m arriving rows → AreCappedCharges m start share rows
charged_all m start share arriving rows is are = record {
  cells = record {
    size = are.size;
    row_sizes = λ i low high. (are.each i low high).size;
  };
  charge = λ i v. charge_of m start is.load i v;
  charges = record { load = is.load; loads = is.loads; each = λ i v low high v_low v_high. refl };
  each = λ i v low high v_low v_high.
      (are.each i low high).each v v_low v_high
      ∙ charge_right (may_be_late m i v) (cell_in arriving i v) (arriving_load m start is.load i v) (is.each i low high v v_low v_high);
}

-- a capped sum takes its next product
pub put_next : (c k s load units amount next : ℕ) (f : ℕ → ℕ) → 1 ≤ k → load ≡ min (s + sum_to (k - 1) f) c → units * amount ≡ f k → next ≡ min (load + min (units * amount) c) c → next ≡ min (s + sum_to (k + 1 - 1) f) c
put_next c k s load units amount next f low so_far here is =
    let all : s + sum_to (k + 1 - 1) f ≡ s + sum_to (k - 1) f + f k = omega (arith, sum_to_more k f low) in
    is ∙ cap_both c load (s + sum_to (k - 1) f) (min (units * amount) c) (f k) (ap (λ x. min x c) so_far ∙ cap_twice c (s + sum_to (k - 1) f)) (cap_twice c (units * amount) ∙ ap (λ x. min x c) here) ∙ sym (ap (λ x. min x c) all)

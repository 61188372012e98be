-- Lots of a resource in a period, and the slots that are laid for them.
use Rattle.std.proofs.Common.{◌≡◌, ◌≤◌, ◌<◌, ◌+◌, ◌*◌, ◌∙◌, ⊎_elim, ℕ, zero, suc, true, List, [], ◌∷◌, length, refl, sym, ap, arith, min}
use Rattle.std.specs.Prelude.{◌==◌, nat_lt, if◌then◌else◌}
use Rattle.std.specs.List.{sum_by}
use Rattle.std.proofs.lemmas.Bool.{and_from, cases_eq, cases_lt, eq-eqb, le-ltb, lt-ltb}
use Rattle.std.proofs.lemmas.List.Sums.{sum_by-cons}
use Rattle.lot_sizing.specs.Problem.{Problem}
use Rattle.lot_sizing.specs.Plan.{Plan}
use Rattle.lot_sizing.specs.Sums.{sum_to}
use Rattle.lot_sizing.proofs.Sums.{sum_to-bound, sum_to-same, sum_to-zero}
use Rattle.lot_schedule.specs.Slots.{length_of, slot_at}
use Rattle.lot_schedule.specs.Orders.{is_at, sum_of_ends}
use Rattle.lot_schedule.specs.Lots.{AreLots, laid, lot_at, no_lot, of_lot, pair_sum, total_of}
use Rattle.lot_schedule.specs.declared.lots.Lot.{Lot}
use Rattle.lot_schedule.specs.declared.slot.Slot.{Slot}
use Rattle.lot_schedule.proofs.Terms.{one_term, passing-cons, some_term, sum_by_add, sum_by_same, term_apart}

-- ---- the slots of lots
pub record IsLaidAt (k t start : ℕ) (lot : Lot) (s : Slot) : Type 0 where
  pub resource : s.resource ≡ k
  pub period : s.period ≡ t
  pub item : s.item ≡ lot.item
  pub from : start ≤ s.start
  pub lasts : s.end ≡ s.start + lot.length

pub laid_size : (k t start : ℕ) (ls : List Lot) → length (laid k t start ls) ≡ length ls
laid_size k t start [] = refl
laid_size k t start (lot ∷ rest) = omega (arith, laid_size k t (start + lot.length) rest)

pub laid_at : (k t start : ℕ) (ls : List Lot) (n : ℕ) → n < length ls → IsLaidAt k t start (lot_at ls n) (slot_at (laid k t start ls) n)
laid_at k t start [] n there = absurd (omega (arith, there))
laid_at k t start (lot ∷ rest) zero there = record { resource = refl; period = refl; item = refl; from = omega arith; lasts = refl }
laid_at k t start (lot ∷ rest) (suc n) there =
    let later = laid_at k t (start + lot.length) rest n (omega (arith, there)) in
    record { resource = later.resource; period = later.period; item = later.item; from = omega (arith, later.from); lasts = later.lasts }

pub laid_end : (k t start : ℕ) (ls : List Lot) (n : ℕ) → n < length ls → (slot_at (laid k t start ls) n).end ≤ start + total_of ls
laid_end k t start [] n there = absurd (omega (arith, there))
laid_end k t start (lot ∷ rest) zero there = omega (arith, sum_by-cons (λ (a : Lot). a.length) lot rest)
laid_end k t start (lot ∷ rest) (suc n) there = omega (arith, sum_by-cons (λ (a : Lot). a.length) lot rest, laid_end k t (start + lot.length) rest n (omega (arith, there)))

pub laid_order : (k t start : ℕ) (ls : List Lot) (n o : ℕ) → n < o → o < length ls → (slot_at (laid k t start ls) n).end ≤ (slot_at (laid k t start ls) o).start
laid_order k t start [] n o less there = absurd (omega (arith, there))
laid_order k t start (lot ∷ rest) n zero less there = absurd (omega (arith, less))
laid_order k t start (lot ∷ rest) zero (suc o) less there = (laid_at k t (start + lot.length) rest o (omega (arith, there))).from
laid_order k t start (lot ∷ rest) (suc n) (suc o) less there = laid_order k t (start + lot.length) rest n o (omega (arith, less)) (omega (arith, there))

-- ---- the sum of their ends
abbrev pub pair_list : List Lot → ℕ
pair_list ls = sum_by (λ a. sum_by (λ b. min a.length b.length) ls) ls + total_of ls

least_left : (c : ℕ) (ls : List Lot) → ((n : ℕ) → n < length ls → c ≤ (lot_at ls n).length) → sum_by (λ (b : Lot). min c b.length) ls ≡ c * length ls
least_left c [] least = omega arith
least_left c (lot ∷ rest) least = omega (arith, sum_by-cons (λ (b : Lot). min c b.length) lot rest, least 0 (omega arith), least_left c rest (λ n less. least (suc n) (omega (arith, less))))

least_right : (c : ℕ) (ls : List Lot) → ((n : ℕ) → n < length ls → c ≤ (lot_at ls n).length) → sum_by (λ (a : Lot). min a.length c) ls ≡ c * length ls
least_right c [] least = omega arith
least_right c (lot ∷ rest) least = omega (arith, sum_by-cons (λ (a : Lot). min a.length c) lot rest, least 0 (omega arith), least_right c rest (λ n less. least (suc n) (omega (arith, less))))

pairs_cons : (lot : Lot) (rest : List Lot) → ((n : ℕ) → n < length rest → lot.length ≤ (lot_at rest n).length) → pair_list (lot ∷ rest) ≡ pair_list rest + 2 * (lot.length * length rest) + 2 * lot.length
pairs_cons lot rest least =
    let c = lot.length in
    let rows = sum_by-cons (λ (a : Lot). sum_by (λ (b : Lot). min a.length b.length) (lot ∷ rest)) lot rest in
    let row = sum_by-cons (λ (b : Lot). min c b.length) lot rest in
    let column = sum_by_same (λ (a : Lot). sum_by (λ (b : Lot). min a.length b.length) (lot ∷ rest)) (λ (a : Lot). min a.length c + sum_by (λ (b : Lot). min a.length b.length) rest) rest (λ a. sum_by-cons (λ (b : Lot). min a.length b.length) lot rest) in
    let parts = sum_by_add (λ (a : Lot). min a.length c) (λ (a : Lot). sum_by (λ (b : Lot). min a.length b.length) rest) rest in
    omega (arith, rows, row, column, parts, least_left c rest least, least_right c rest least, sum_by-cons (λ (a : Lot). a.length) lot rest)

-- where lengths rise, twice the sum of ends is the lesser lengths of all pairs
pub laid_ends : (k t start : ℕ) (ls : List Lot) → ((n o : ℕ) → n < o → o < length ls → (lot_at ls n).length ≤ (lot_at ls o).length) → 2 * sum_of_ends (laid k t start ls) k t ≡ 2 * (start * length ls) + pair_list ls
laid_ends k t start [] rising = omega arith
laid_ends k t start (lot ∷ rest) rising =
    let slot : Slot = record { resource = k; period = t; item = lot.item; start = start; end = start + lot.length } in
    let here : is_at k t slot ≡ true = and_from (k == k) (t == t) (eq-eqb k k refl) (eq-eqb t t refl) in
    let first : (if is_at k t slot then slot.end else 0) ≡ start + lot.length = rw here refl in
    let sums = passing-cons (is_at k t) (λ (s : Slot). s.end) slot (laid k t (start + lot.length) rest) in
    let later = laid_ends k t (start + lot.length) rest (λ n o less there. rising (suc n) (suc o) (omega (arith, less)) (omega (arith, there))) in
    omega (arith, first, sums, later, pairs_cons lot rest (λ n less. rising 0 (suc n) (omega arith) (omega (arith, less))))

-- ---- sums over the lots of a resource in a period
pub of_lot_is : (m : Problem) (p : Plan) (k t : ℕ) (f : Lot → ℕ) (i v : ℕ) → (0 < length_of m p k t i → f (record { item = i; length = length_of m p k t i }) ≡ v) → (length_of m p k t i ≡ 0 → v ≡ 0) → of_lot m p k t f i ≡ v
of_lot_is m p k t f i v some none =
    ⊎_elim
    (λ takes. let yes : nat_lt 0 (length_of m p k t i) ≡ true = lt-ltb 0 (length_of m p k t i) takes in rw yes (some takes))
    (λ no. let e = le-ltb 0 (length_of m p k t i) no in rw e (sym (none (omega (arith, no)))))
    (cases_lt 0 (length_of m p k t i))

pub lots_total : (m : Problem) (p : Plan) (k t last : ℕ) (ls : List Lot) → AreLots m p k t last ls → total_of ls ≡ sum_to last (length_of m p k t)
lots_total m p k t last ls all =
    all.sums (λ a. a.length) ∙ sum_to-same last (of_lot m p k t (λ a. a.length)) (length_of m p k t) (λ i low high. of_lot_is m p k t (λ a. a.length) i (length_of m p k t i) (λ takes. refl) (λ none. none))

pub lots_pairs : (m : Problem) (p : Plan) (k t last : ℕ) (ls : List Lot) → AreLots m p k t last ls → pair_list ls ≡ pair_sum last (length_of m p k t)
lots_pairs m p k t last ls all =
    let f = length_of m p k t in
    let inner = λ (i : ℕ). all.sums (λ b. min (f i) b.length) ∙ sum_to-same last (of_lot m p k t (λ b. min (f i) b.length)) (λ j. min (f i) (f j)) (λ j low high. of_lot_is m p k t (λ b. min (f i) b.length) j (min (f i) (f j)) (λ takes. refl) (λ none. omega (arith, none))) in
    let empty = λ (i : ℕ) (none : f i ≡ 0). sum_to-same last (λ j. min (f i) (f j)) (λ j. 0) (λ j low high. omega (arith, none)) ∙ sum_to-zero last in
    let outer = all.sums (λ a. sum_by (λ b. min a.length b.length) ls) ∙ sum_to-same last (of_lot m p k t (λ a. sum_by (λ b. min a.length b.length) ls)) (λ i. sum_to last (λ j. min (f i) (f j))) (λ i low high. of_lot_is m p k t (λ a. sum_by (λ b. min a.length b.length) ls) i (sum_to last (λ j. min (f i) (f j))) (λ takes. inner i) (λ none. empty i none)) in
    omega (arith, outer, lots_total m p k t last ls all)

-- there are no more than items
one_at_most : (m : Problem) (p : Plan) (k t j : ℕ) → of_lot m p k t (λ a. 1) j ≤ 1
one_at_most m p k t j =
    ⊎_elim
    (λ takes. let yes : nat_lt 0 (length_of m p k t j) ≡ true = lt-ltb 0 (length_of m p k t j) takes in rw yes (omega arith))
    (λ no. let none = le-ltb 0 (length_of m p k t j) no in rw none (omega arith))
    (cases_lt 0 (length_of m p k t j))

count_is : (ls : List Lot) → sum_by (λ (a : Lot). 1) ls ≡ length ls
count_is [] = refl
count_is (lot ∷ rest) = omega (arith, sum_by-cons (λ (a : Lot). 1) lot rest, count_is rest)

pub lots_few : (m : Problem) (p : Plan) (k t last : ℕ) (ls : List Lot) → AreLots m p k t last ls → length ls ≤ last
lots_few m p k t last ls all = omega (arith, count_is ls, all.sums (λ a. 1), sum_to-bound last 1 (of_lot m p k t (λ a. 1)) (λ j low high. one_at_most m p k t j))

-- how often a lot is an item's
of_this : (m : Problem) (p : Plan) (k t i j : ℕ) → 0 < length_of m p k t i → of_lot m p k t (λ a. if i == a.item then 1 else 0) j ≡ (if i == j then 1 else 0)
of_this m p k t i j takes = of_lot_is m p k t (λ a. if i == a.item then 1 else 0) j (if i == j then 1 else 0) (λ some. refl) (λ none. term_apart i j 1 (λ e. omega (arith, takes, none, ap (length_of m p k t) e)))

-- a lot that takes time is there once
pub once_there : (m : Problem) (p : Plan) (k t last : ℕ) (ls : List Lot) → AreLots m p k t last ls → (i : ℕ) → 1 ≤ i → i ≤ last → 0 < length_of m p k t i → sum_by (λ a. if i == a.item then 1 else 0) ls ≡ 1
once_there m p k t last ls all i low high takes =
    all.sums (λ a. if i == a.item then 1 else 0) ∙ sum_to-same last (of_lot m p k t (λ a. if i == a.item then 1 else 0)) (λ j. if i == j then 1 else 0) (λ j j_low j_high. of_this m p k t i j takes) ∙ one_term last i 1 low high

pub has_lot : (m : Problem) (p : Plan) (k t last : ℕ) (ls : List Lot) → AreLots m p k t last ls → (i : ℕ) → 1 ≤ i → i ≤ last → 0 < length_of m p k t i → (n : ℕ) × (n < length ls) × ((lot_at ls n).item ≡ i)
has_lot m p k t last ls all i low high takes =
    let f = λ (a : Lot). if i == a.item then 1 else 0 in
    let one : sum_by f ls ≡ 1 = once_there m p k t last ls all i low high takes in
    let (n, there, is) = some_term f no_lot ls (omega (arith, one)) in
    (n, there, ⊎_elim (λ e. sym e) (λ ne. absurd (omega (arith, is, term_apart i (lot_at ls n).item 1 ne))) (cases_eq i (lot_at ls n).item))

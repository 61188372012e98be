-- Lines and paths of a bill.
use Rattle.std.proofs.Common.{◌≡◌, ◌≢◌, ◌≤◌, ◌<◌, ◌+◌, ◌-◌, ◌∙◌, ◌⊎◌, ⊎_elim, ℕ, zero, suc, sym, ap, arith, List, [], ◌∷◌, length, Bool, true, false, slice_index_or}
use Rattle.std.specs.Prelude.{if◌then◌else◌, ◌==◌}
use Rattle.std.specs.List.{All}
use Rattle.std.proofs.lemmas.List.Sums.{sum_by-cons}
use Rattle.std.proofs.lemmas.Bool.{cases_eq, cases_lt, cases_Bool}
use Rattle.std.proofs.lemmas.List.{get_or_past}
use Rattle.lot_sizing.specs.Problem.{entry}
use Rattle.lot_sizing.specs.Sums.{sum_to}
use Rattle.lot_sizing.proofs.Sums.{sum_to-le}
use Rattle.lot_sizing.specs.declared.Need.{Need}
use Rattle.lot_sizing.specs.Bill.{Bill, GoesIntoOver, GoesInto}
use Rattle.bill.specs.Lines.{IsLine, Names, bill_of_lines, line_at, lines_of, no_need, units_in}
use Rattle.bill.specs.Sets.{AllGoInto, AreComponents, HasLinesOf, has, missing}

same_taken : (need : Need) (i : ℕ) → need.item ≡ i → (if need.item == i then need.quantity else 0) ≡ need.quantity
same_taken need i h = grind (arith, h)

other_taken : (need : Need) (i : ℕ) → need.item ≢ i → (if need.item == i then need.quantity else 0) ≡ 0
other_taken need i h = grind (arith, h)

-- where units are taken, a line names the item
pub names_it : (needs : List Need) (i : ℕ) → 1 ≤ units_in needs i → Names needs i
names_it [] i h = absurd (omega (arith, h))
names_it (need ∷ rest) i h =
    ⊎_elim
    (λ same. (0, omega arith, same))
    (λ apart.
    let later = names_it rest i (omega (arith, h, sum_by-cons (λ n. if n.item == i then n.quantity else 0) need rest, other_taken need i apart)) in
    (suc later.0, omega (arith, later.1), later.2))
    (cases_eq need.item i)

later_named : (need : Need) (rest : List Need) (i : ℕ) → need.item ≢ i → Names (need ∷ rest) i → Names rest i
later_named need rest i apart (zero, high, is) = absurd (apart is)
later_named need rest i apart (suc n, high, is) = (n, omega (arith, high), is)

-- and a line that names it takes units
pub takes_units : (items : ℕ) (needs : List Need) (i : ℕ) → All (IsLine items) needs → Names needs i → 1 ≤ units_in needs i
takes_units items [] i lines named = absurd (omega (arith, named.1))
takes_units items (need ∷ rest) i lines named =
    ⊎_elim
    (λ same. omega (arith, sum_by-cons (λ n. if n.item == i then n.quantity else 0) need rest, same_taken need i same, (lines 0 no_need (omega arith)).some))
    (λ apart. omega (arith, sum_by-cons (λ n. if n.item == i then n.quantity else 0) need rest, takes_units items rest i (λ k d h. lines (suc k) d (omega (arith, h))) (later_named need rest i apart named)))
    (cases_eq need.item i)

-- what lines put into a set goes where their item goes
pub sound_from : (lines : List (List Need)) (k : ℕ) (old new : List Bool) → All (IsLine (length lines)) (lines_of lines k) → 1 ≤ k → k ≤ length lines → has old k ≡ true → ((i : ℕ) → 1 ≤ i → has new i ≡ true → (has old i ≡ true) ⊎ Names (lines_of lines k) i) → (j : ℕ) → AllGoInto (bill_of_lines lines) j old → AllGoInto (bill_of_lines lines) j new
sound_from lines k old new are low high here only j all i i_low i_high some =
    ⊎_elim
    (λ before. all i i_low i_high before)
    (λ named.
    let path = all k low high here in
    (suc path.0, (k, low, high, takes_units (length lines) (lines_of lines k) i are named, path.1)))
    (only i i_low some)

-- lines put all that they take into a set
pub closed_from : (lines : List (List Need)) (k : ℕ) (new : List Bool) → ((n : ℕ) → n < length (lines_of lines k) → has new (line_at (lines_of lines k) n).item ≡ true) → HasLinesOf (bill_of_lines lines) k new
closed_from lines k new named i low high some =
    let found = names_it (lines_of lines k) i some in
    sym (ap (has new) found.2) ∙ named found.0 found.1

-- what the lines of an item put into the empty set goes into it
pub first_from : (lines : List (List Need)) (j : ℕ) (old new : List Bool) → All (IsLine (length lines)) (lines_of lines j) → ((i : ℕ) → has old i ≡ false) → ((i : ℕ) → 1 ≤ i → has new i ≡ true → (has old i ≡ true) ⊎ Names (lines_of lines j) i) → AllGoInto (bill_of_lines lines) j new
first_from lines j old new are none only i i_low i_high some =
    ⊎_elim
    (λ before. cc (before, none i))
    (λ named. (zero, takes_units (length lines) (lines_of lines j) i are named))
    (only i i_low some)

-- a closed set has every item that goes into one
reached : (b : Bill) (j : ℕ) (set : List Bool) → HasLinesOf b j set → ((k : ℕ) → 1 ≤ k → k ≤ b.items → has set k ≡ true → HasLinesOf b k set) → (n i : ℕ) → 1 ≤ i → i ≤ b.items → GoesIntoOver b n i j → has set i ≡ true
reached b j set first closed zero i low high goes = first i low high goes
reached b j set first closed (suc n) i low high (k, k_low, k_high, some, rest) = closed k k_low k_high (reached b j set first closed n k k_low k_high rest) i low high some

pub are_components : (b : Bill) (j : ℕ) (set : List Bool) → length set ≡ b.items → AllGoInto b j set → HasLinesOf b j set → ((k : ℕ) → 1 ≤ k → k ≤ b.items → has set k ≡ true → HasLinesOf b k set) → AreComponents b j set
are_components b j set size sound first closed = record {
  size = size;
  each = λ i low high. (λ some. sound i low high some, λ goes. reached b j set first closed goes.0 i low high goes.1);
}

-- a path and one line more
more_over : (b : Bill) (n x i j : ℕ) → 1 ≤ i → i ≤ b.items → 0 < b.units i j → GoesIntoOver b n x i → GoesIntoOver b (suc n) x j
more_over b zero x i j low high some goes = (i, low, high, goes, some)
more_over b (suc n) x i j low high some (k, k_low, k_high, first, rest) = (k, k_low, k_high, first, more_over b n k i j low high some rest)

sum_less : (n : ℕ) (f g : ℕ → ℕ) (at : ℕ) → 1 ≤ at → at ≤ n → f at < g at → ((k : ℕ) → 1 ≤ k → k ≤ n → f k ≤ g k) → sum_to n f < sum_to n g
sum_less zero f g at low high here others = absurd (omega (arith, low, high))
sum_less (suc n) f g at low high here others =
    ⊎_elim
    (λ same. omega (arith, ap f same, ap g same, here, sum_to-le n f g (λ k k_low k_high. others k k_low (omega (arith, k_high)))))
    (λ apart. omega (arith, sum_less n f g at low (omega (arith, high, apart)) here (λ k k_low k_high. others k k_low (omega (arith, k_high))), others (suc n) (omega arith) (omega arith)))
    (cases_eq at (suc n))

flag : Bool → ℕ
flag x = if x then 0 else 1

flag_small : (x : Bool) → flag x ≤ 1
unfolding flag
flag_small true = omega arith
flag_small false = omega arith

-- an item has fewer others than each of its components
pub fewer_others : (b : Bill) (i j : ℕ) (ours theirs : List Bool) → AreComponents b j ours → AreComponents b i theirs → (GoesInto b i i → ⊥) → 1 ≤ i → i ≤ b.items → 0 < b.units i j → missing ours < missing theirs
unfolding flag
fewer_others b i j ours theirs are_ours are_theirs no_cycle low high some =
    let f = λ (k : ℕ). flag (has ours k) in
    let g = λ (k : ℕ). flag (has theirs k) in
    let here : has ours i ≡ true = (are_ours.each i low high).1 (zero, some) in
    let not_here : has theirs i ≡ false = ⊎_elim (λ yes. absurd (no_cycle ((are_theirs.each i low high).0 yes))) (λ no. no) (cases_Bool (has theirs i)) in
    let strict : f i < g i = omega (arith, ap flag here, ap flag not_here) in
    let each = λ (k : ℕ) (k_low : 1 ≤ k) (k_high : k ≤ b.items). ⊎_elim
    (λ yes.
    let path = (are_theirs.each k k_low k_high).0 yes in
    let more : has ours k ≡ true = (are_ours.each k k_low k_high).1 (suc path.0, more_over b path.0 k i j low high some path.1) in
    omega (arith, ap flag more))
    (λ no. omega (arith, ap flag no, flag_small (has ours k)))
    (cases_Bool (has theirs k)) in
    omega (arith, sum_less b.items f g i low high strict each, ap (λ n. sum_to n f) are_ours.size, ap (λ n. sum_to n g) are_theirs.size)

-- each entry of a list is small where each of its items' entries is
pub entries_small : (xs : List ℕ) (most : ℕ) → ((j : ℕ) → 1 ≤ j → j ≤ length xs → entry xs j ≤ most) → (i : ℕ) → entry xs i ≤ most
entries_small xs most each i =
    let e : i - 1 ≡ i - 1 + 1 - 1 = omega arith in
    ⊎_elim
    (λ less. omega (arith, ap (λ n. slice_index_or xs n 0) e, each (i - 1 + 1) (omega arith) (omega (arith, less))))
    (λ past. omega (arith, get_or_past xs (i - 1) 0 (omega (arith, past))))
    (cases_lt (i - 1) (length xs))

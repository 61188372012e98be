-- The bill of a problem, and that of the lists of its items' components.
use Rattle.std.proofs.Common.{◌≡◌, ◌≤◌, ◌<◌, ◌+◌, ◌-◌, ◌*◌, ◌∙◌, ℕ, zero, suc, refl, sym, ap, subst, arith, List, length, map}
use Rattle.std.proofs.Math.Path.{fun_ext}
use Rattle.std.proofs.Math.ListN.{get_or-map}
use Rattle.std.proofs.lemmas.List.{get_or_default, length-map}
use Rattle.lot_sizing.specs.declared.Need.{Need}
use Rattle.lot_sizing.specs.Sums.{sum_to}
use Rattle.lot_sizing.specs.Problem.{IsWithinLimits, Problem, entry, item_at, item_count, no_item, per_unit}
use Rattle.lot_sizing.specs.Bill.{AreTotals, AreWeights, Bill, GoesIntoOver, HasRanks, bill_of}
use Rattle.lot_sizing.proofs.Sums.{sum_to-same}
use Rattle.bill.specs.Lines.{AreLines, bill_of_lines, lines_of, units_in}
use Rattle.bill.specs.Over.{HasAll, HaveSize, KeepsBound, OfAll}
use Rattle.bill.specs.Sets.{HasNoCycle}
use Rattle.bill.specs.Laws.{TotalsExist, WeightsExist}
use Rattle.bill.proofs.Existing.{totals_exist, weights_exist}
use Rattle.lot_sizing.specs.declared.limits.TheConstants.{MAX_TOTAL}
use Rattle.std.specs.Prelude.{Result, Ok, Err, IfOk, IfErr}
use Rattle.lot_draft.specs.Meaning.{HaveNeeds}
use Rattle.lot_model.specs.Held.{AreOf, AreTotalsOf, needs_in}
use Rattle.lot_model.specs.Meaning.{AreSmallRows, IsRanked, most_asked, there_of}

abbrev with_units : ℕ → (ℕ → ℕ → ℕ) → Bill
with_units n u = record { items = n; units = u }

line_read : (m : Problem) (j : ℕ) → lines_of (needs_in m) j ≡ (item_at m j).needs
line_read m j = get_or-map (λ a. a.needs) m.items (j - 1) no_item

pub bill_same : (m : Problem) → bill_of_lines (needs_in m) ≡ bill_of m
bill_same m =
    let units : (i j : ℕ) → units_in (lines_of (needs_in m) j) i ≡ per_unit m i j = λ i j. ap (λ ls. units_in ls i) (line_read m j) in
    let same : (λ i j. units_in (lines_of (needs_in m) j) i) ≡ per_unit m = fun_ext (λ i. fun_ext (λ j. units i j)) in
    ap (λ n. with_units n (λ i j. units_in (lines_of (needs_in m) j) i)) (length-map m.items (λ a. a.needs)) ∙ ap (with_units (item_count m)) same

pub bill_is : (m : Problem) (lines : List (List Need)) → lines ≡ needs_in m → bill_of_lines lines ≡ bill_of m
bill_is m lines e = ap bill_of_lines e ∙ bill_same m

are_lines : (m : Problem) → HaveNeeds m → item_count m ≤ 40 → AreLines (needs_in m)
are_lines m h few =
    let count = length-map m.items (λ a. a.needs) in
    record {
      items = omega (arith, few, count);
      few = λ j low high. let n = h j low (omega (arith, high, count)) in rw (line_read m j) n.count;
      each = λ j low high.
          let n = h j low (omega (arith, high, count)) in
          rw (line_read m j, count) (λ k d less. record { low = (n.items_exist k d less).0; high = (n.items_exist k d less).1; some = (n.quantities k d less).0; few = (n.quantities k d less).1 });
    }

pub lines_are : (m : Problem) (lines : List (List Need)) → lines ≡ needs_in m → HaveNeeds m → item_count m ≤ 40 → AreLines lines
lines_are m lines e h few = subst AreLines (sym e) (are_lines m h few)

pub limits_needs : (m : Problem) → IsWithinLimits m → HaveNeeds m
limits_needs m limits i low high = (limits.each_item i low high).needs

-- an item that goes into another over some lines has a higher rank
higher : (b : Bill) (rank : ℕ → ℕ) → HasRanks b rank → (n i j : ℕ) → 1 ≤ i → i ≤ b.items → 1 ≤ j → j ≤ b.items → GoesIntoOver b n i j → rank j < rank i
higher b rank ranks zero i j i_low i_high j_low j_high over = ranks i j i_low i_high j_low j_high over
higher b rank ranks (suc n) i j i_low i_high j_low j_high (k, low, high, one, rest) =
    omega (arith, ranks i k i_low i_high low high one, higher b rank ranks n k j low high j_low j_high rest)

pub no_cycle : (b : Bill) (rank : ℕ → ℕ) → HasRanks b rank → HasNoCycle b
no_cycle b rank ranks i low high (n, over) = absurd (omega (arith, higher b rank ranks n i i low high low high over))

-- what is said of all totals goes by what is asked and there of each item alone
pub of_same : (b : Bill) (asked there asked2 there2 : ℕ → ℕ) (P : (ℕ → ℕ) → (ℕ → ℕ → ℕ) → Type 0) → ((i : ℕ) → 1 ≤ i → i ≤ b.items → asked i ≡ asked2 i) → ((i : ℕ) → 1 ≤ i → i ≤ b.items → there i ≡ there2 i) → OfAll b asked there P → OfAll b asked2 there2 P
of_same b asked there asked2 there2 P a t all total weight totals weights =
    all total weight (λ i low high. totals i low high ∙ ap (λ x. (x + sum_to b.items (λ j. b.units i j * total j)) - there2 i) (sym (a i low high)) ∙ ap (λ x. (asked i + sum_to b.items (λ j. b.units i j * total j)) - x) (sym (t i low high))) weights

-- totals that are known are totals
pub known_totals : (b : Bill) (asked there : ℕ → ℕ) (rank : ℕ → ℕ) (totals : List ℕ) (weights : List (List ℕ)) → HasRanks b rank → TotalsExist → WeightsExist → OfAll b asked there (λ total weight. HasAll b total weight totals weights) → AreTotals b asked there (entry totals)
known_totals b asked there rank totals weights ranks some_total some_weight all i low high =
    let t = some_total b asked there rank ranks in
    let w = some_weight b rank ranks in
    let h = all t.0 w.0 t.1 w.1 in
    let same : sum_to b.items (λ j. b.units i j * t.0 j) ≡ sum_to b.items (λ j. b.units i j * entry totals j) = sum_to-same b.items (λ j. b.units i j * t.0 j) (λ j. b.units i j * entry totals j) (λ j j_low j_high. ap (λ x. b.units i j * x) (sym (h.known j j_low j_high).in_all)) in
    (h.known i low high).in_all ∙ t.1 i low high ∙ ap (λ x. (asked i + x) - there i) same

-- and so are weights, none past the bound
pub known_small : (b : Bill) (asked there : ℕ → ℕ) (rank : ℕ → ℕ) (totals : List ℕ) (weights : List (List ℕ)) → HasRanks b rank → TotalsExist → WeightsExist → OfAll b asked there (λ total weight. HasAll b total weight totals weights) → AreSmallRows b.items weights
known_small b asked there rank totals weights ranks some_total some_weight all i k low high k_low k_high =
    let t = some_total b asked there rank ranks in
    let w = some_weight b rank ranks in
    let h = all t.0 w.0 t.1 w.1 in
    omega (arith, (h.known i low high).each k k_low k_high, (h.within i low high).each k k_low k_high)

pub all_within : (b : Bill) (asked there : ℕ → ℕ) (totals : List ℕ) (weights : List (List ℕ)) → OfAll b asked there (λ total weight. HasAll b total weight totals weights) → OfAll b asked there (λ total weight. (i : ℕ) → 1 ≤ i → i ≤ b.items → KeepsBound b total weight i)
all_within b asked there totals weights all total weight t w = (all total weight t w).within

-- what is said of the lists is said of the problem
pub from_lists : (m : Problem) (lines : List (List Need)) (asked there : List ℕ) (P : Bill → (ℕ → ℕ) → (ℕ → ℕ → ℕ) → Type 0) → lines ≡ needs_in m → AreOf m (most_asked m) asked → AreOf m (there_of m) there → OfAll (bill_of_lines lines) (entry asked) (entry there) (P (bill_of_lines lines)) → OfAll (bill_of m) (most_asked m) (there_of m) (P (bill_of m))
from_lists m lines asked there P same as_asked as_there h =
    of_same (bill_of m) (entry asked) (entry there) (most_asked m) (there_of m) (P (bill_of m))
    as_asked
    as_there
    (subst (λ b. OfAll b (entry asked) (entry there) (P b)) (bill_is m lines same) h)

pub map_ok : {A E : Type 0} → (r : Result A E) (P Q : A → Type 0) → ((a : A) → P a → Q a) → IfOk r P → IfOk r Q
map_ok (Ok a) P Q f h = f a h
map_ok (Err e) P Q f h = h

pub map_err : {A E : Type 0} → (r : Result A E) (P Q : E → Type 0) → ((e : E) → P e → Q e) → IfErr r P → IfErr r Q
map_err (Ok a) P Q f h = h
map_err (Err e) P Q f h = f e h

-- weights of a problem whose items have ranks
pub some_weights : (p : Problem) → IsRanked p → (weight : ℕ → ℕ → ℕ) × AreWeights (bill_of p) weight
some_weights p ranked = weights_exist (bill_of p) ranked.0 ranked.1

-- totals and weights of the lists are those of the problem
pub totals_of : (m : Problem) (lines : List (List Need)) (asked there totals : List ℕ) (weights : List (List ℕ)) (rank : ℕ → ℕ) → lines ≡ needs_in m → AreOf m (most_asked m) asked → AreOf m (there_of m) there → HasRanks (bill_of m) rank → length totals ≡ item_count m → length weights ≡ item_count m → HaveSize (item_count m) weights → ((i : ℕ) → entry totals i ≤ MAX_TOTAL) → OfAll (bill_of_lines lines) (entry asked) (entry there) (λ total weight. HasAll (bill_of_lines lines) total weight totals weights) → AreTotalsOf m totals weights
totals_of m lines asked there totals weights rank same as_asked as_there ranks totals_size weights_size row_sizes small h =
    let all = from_lists m lines asked there (λ b total weight. HasAll b total weight totals weights) same as_asked as_there h in
    record {
      totals_size = totals_size;
      weights_size = weights_size;
      row_sizes = row_sizes;
      rows_small = known_small (bill_of m) (most_asked m) (there_of m) rank totals weights ranks totals_exist weights_exist all;
      all = all;
      totals = known_totals (bill_of m) (most_asked m) (there_of m) rank totals weights ranks totals_exist weights_exist all;
      small = small;
      bounded = all_within (bill_of m) (most_asked m) (there_of m) totals weights all;
    }

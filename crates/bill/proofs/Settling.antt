-- An item whose users have been taken is taken.
use Rattle.std.proofs.Common.{◌≡◌, ◌≤◌, ◌<◌, ◌-◌, ◌*◌, ◌∙◌, ◌⊎◌, ⊎_elim, inl, inr, ℕ, zero, suc, sym, ap, subst, arith, List, [], Bool, true, false, slice_index_or}
use Rattle.std.proofs.lemmas.Bool.{cases_lt, cases_eq}
use Rattle.lot_sizing.proofs.Sums.{sum_to-same}
use Rattle.lot_sizing.specs.declared.limits.TheConstants.{MAX_TOTAL}
use Rattle.lot_sizing.specs.Problem.{entry}
use Rattle.lot_sizing.specs.Bill.{Bill, AreTotals, AreWeights, HasRanks}
use Rattle.bill.specs.Sets.{has}
use Rattle.bill.specs.Over.{HasAll, IsFirstOver, KeepsBound, IsClear, IsBelow, IsKnown, row_entry}
use Rattle.bill.specs.Steps.{AreDone, AreKnown, HasLargeWeight, HasNoneStuck, IsFirstStuck, IsRowOf, IsSettled, total_by, weight_by}

pub total_is : (b : Bill) (asked there total : ℕ → ℕ) (totals : List ℕ) (i : ℕ) → AreTotals b asked there total → 1 ≤ i → i ≤ b.items → ((k : ℕ) → 1 ≤ k → k ≤ b.items → 0 < b.units i k → entry totals k ≡ total k) → total_by b (asked i) (there i) totals i ≡ total i
total_is b asked there total totals i are low high same =
    let sums = sum_to-same b.items (λ j. b.units i j * entry totals j) (λ j. b.units i j * total j) (λ j j_low j_high. ⊎_elim
    (λ some. ap (λ x. b.units i j * x) (same j j_low j_high some))
    (λ none. let e : b.units i j ≡ 0 = omega (arith, none) in omega (arith, ap (λ x. x * entry totals j) e, ap (λ x. x * total j) e))
    (cases_lt 0 (b.units i j))) in
    omega (arith, are i low high, sums)

pub weight_is : (b : Bill) (weight : ℕ → ℕ → ℕ) (weights : List (List ℕ)) (i k : ℕ) → AreWeights b weight → 1 ≤ i → i ≤ b.items → 1 ≤ k → k ≤ b.items → ((j : ℕ) → 1 ≤ j → j ≤ b.items → 0 < b.units i j → row_entry weights j k ≡ weight j k) → weight_by b weights i k ≡ weight i k
weight_is b weight weights i k are low high k_low k_high same =
    let sums = sum_to-same b.items (λ j. b.units i j * row_entry weights j k) (λ j. b.units i j * weight j k) (λ j j_low j_high. ⊎_elim
    (λ some. ap (λ x. b.units i j * x) (same j j_low j_high some))
    (λ none. let e : b.units i j ≡ 0 = omega (arith, none) in omega (arith, ap (λ x. x * row_entry weights j k) e, ap (λ x. x * weight j k) e))
    (cases_lt 0 (b.units i j))) in
    omega (arith, are i k low high k_low k_high, sums)

pub clear_is : (b : Bill) (total : ℕ → ℕ) (weight : ℕ → ℕ → ℕ) (done : List Bool) (totals : List ℕ) (weights : List (List ℕ)) (i : ℕ) → AreKnown b total weight done totals weights → AreDone b done i → IsClear b total weight i
clear_is b total weight done totals weights i known users k low high (zero, goes) = (known k low high (users k low high goes)).0
clear_is b total weight done totals weights i known users k low high (suc n, (j, j_low, j_high, some, rest)) = (known j j_low j_high (users j j_low j_high some)).2 k low high (n, rest)

-- the numbers of an item whose users are done
pub record IsRight (b : Bill) (asked there total : ℕ → ℕ) (weight : ℕ → ℕ → ℕ) (totals : List ℕ) (weights : List (List ℕ)) (i : ℕ) : Type 0 where
  pub in_all : total_by b (asked i) (there i) totals i ≡ total i
  pub each : (k : ℕ) → 1 ≤ k → k ≤ b.items → weight_by b weights i k ≡ weight i k

pub right : (b : Bill) (asked there total : ℕ → ℕ) (weight : ℕ → ℕ → ℕ) (done : List Bool) (totals : List ℕ) (weights : List (List ℕ)) (i : ℕ) → AreTotals b asked there total → AreWeights b weight → AreKnown b total weight done totals weights → AreDone b done i → 1 ≤ i → i ≤ b.items → IsRight b asked there total weight totals weights i
right b asked there total weight done totals weights i are_totals are_weights known users low high = record {
  in_all = total_is b asked there total totals i are_totals low high (λ k k_low k_high some. (known k k_low k_high (users k k_low k_high some)).1.in_all);
  each = λ k k_low k_high. weight_is b weight weights i k are_weights low high k_low k_high (λ j j_low j_high some. (known j j_low j_high (users j j_low j_high some)).1.each k k_low k_high);
}

-- an item with a user that isn't done goes into one past the bound
pub below_undone : (b : Bill) (total : ℕ → ℕ) (weight : ℕ → ℕ → ℕ) (done : List Bool) (i k : ℕ) → 1 ≤ k → k ≤ b.items → 0 < b.units i k → has done k ≡ false → IsSettled b total weight done k → IsBelow b total weight i
below_undone b total weight done i k low high some undone settled =
    ⊎_elim
    (λ is_done. cc (is_done, undone))
    (λ rest. ⊎_elim
    (λ below. (below.0, below.1, below.2, (suc below.3.0, (k, low, high, some, below.3.1)), below.4))
    (λ past. (k, low, high, (zero, some), past))
    rest)
    settled

-- an item past the bound
pub past_bound : (b : Bill) (asked there total : ℕ → ℕ) (weight : ℕ → ℕ → ℕ) (totals : List ℕ) (weights : List (List ℕ)) (i : ℕ) → IsRight b asked there total weight totals weights i → (MAX_TOTAL < total_by b (asked i) (there i) totals i) ⊎ HasLargeWeight b weights i → KeepsBound b total weight i → ⊥
past_bound b asked there total weight totals weights i is_right large within =
    ⊎_elim
    (λ in_all. omega (arith, in_all, is_right.in_all, within.in_all))
    (λ each. omega (arith, each.3, is_right.each each.0 each.1 each.2, within.each each.0 each.1 each.2))
    large

-- where an item's numbers are kept
pub kept_known : (b : Bill) (asked there total : ℕ → ℕ) (weight : ℕ → ℕ → ℕ) (done new_done : List Bool) (totals new_totals : List ℕ) (weights new_weights : List (List ℕ)) (row : List ℕ) (i x : ℕ) → AreKnown b total weight done totals weights → IsRight b asked there total weight totals weights i → IsClear b total weight i → x ≡ total_by b (asked i) (there i) totals i → x ≤ MAX_TOTAL → IsRowOf b weights i row → entry new_totals i ≡ x → slice_index_or new_weights (i - 1) [] ≡ row → ((j : ℕ) → 1 ≤ j → (j ≡ i → ⊥) → (has new_done j ≡ has done j) × (entry new_totals j ≡ entry totals j) × (slice_index_or new_weights (j - 1) [] ≡ slice_index_or weights (j - 1) [])) → AreKnown b total weight new_done new_totals new_weights
kept_known b asked there total weight done new_done totals new_totals weights new_weights row i x known is_right clear is small is_row total_here row_here others j j_low j_high some = ⊎_elim
    (λ same. subst (λ k. KeepsBound b total weight k × IsKnown b total weight new_totals new_weights k × IsClear b total weight k) (sym same) (
      record {
        in_all = omega (arith, is_right.in_all, is, small);
        each = λ k k_low k_high. omega (arith, is_right.each k k_low k_high, is_row.each k k_low k_high, is_row.small k);
      },
      record {
        in_all = total_here ∙ is ∙ is_right.in_all;
        each = λ k k_low k_high. ap (λ xs. entry xs k) row_here ∙ is_row.each k k_low k_high ∙ is_right.each k k_low k_high;
      },
      clear,
    ))
    (λ apart.
    let same = others j j_low apart in
    let before = known j j_low j_high (sym same.0 ∙ some) in (
      before.0,
      record {
        in_all = same.1 ∙ before.1.in_all;
        each = λ k k_low k_high. ap (λ xs. entry xs k) same.2 ∙ before.1.each k k_low k_high;
      },
      before.2,
    ))
    (cases_eq j i)

-- what is settled stays settled
pub settled_kept : (b : Bill) (total : ℕ → ℕ) (weight : ℕ → ℕ → ℕ) (done new_done : List Bool) (j : ℕ) → (has done j ≡ true → has new_done j ≡ true) → IsSettled b total weight done j → IsSettled b total weight new_done j
settled_kept b total weight done new_done j keeps settled = ⊎_elim (λ is_done. inl (keeps is_done)) inr settled

-- where no item is stuck, all are done
all_done : (b : Bill) (done : List Bool) (rank : ℕ → ℕ) → HasRanks b rank → HasNoneStuck b done → (n j : ℕ) → 1 ≤ j → j ≤ b.items → rank j < n → has done j ≡ true
all_done b done rank ranks none zero j low high few = absurd (omega (arith, few))
all_done b done rank ranks none (suc n) j low high few = ⊎_elim
    (λ is_done. is_done)
    (λ undone. cc (undone.4, all_done b done rank ranks none n undone.0 undone.1 undone.2 (omega (arith, few, ranks j undone.0 low high undone.1 undone.2 undone.3))))
    (none j low high)

pub has_all : (b : Bill) (total : ℕ → ℕ) (weight : ℕ → ℕ → ℕ) (done : List Bool) (totals : List ℕ) (weights : List (List ℕ)) (rank : ℕ → ℕ) → HasRanks b rank → AreKnown b total weight done totals weights → HasNoneStuck b done → HasAll b total weight totals weights
has_all b total weight done totals weights rank ranks known none =
    let done_at = λ (i : ℕ) (low : 1 ≤ i) (high : i ≤ b.items). all_done b done rank ranks none (suc (rank i)) i low high (omega arith) in
    record {
      within = λ i low high. (known i low high (done_at i low high)).0;
      known = λ i low high. (known i low high (done_at i low high)).1;
    }

-- the first item that is stuck once all have been taken is the first past the bound
pub first_over : (b : Bill) (total : ℕ → ℕ) (weight : ℕ → ℕ → ℕ) (done : List Bool) (totals : List ℕ) (weights : List (List ℕ)) (i : ℕ) → AreKnown b total weight done totals weights → ((j : ℕ) → 1 ≤ j → j ≤ b.items → IsSettled b total weight done j) → IsFirstStuck b done i → IsFirstOver b total weight i
first_over b total weight done totals weights i known settled stuck =
    let clear = clear_is b total weight done totals weights i known stuck.users in
    record {
      low = stuck.low;
      high = stuck.high;
      over = ⊎_elim
          (λ is_done. cc (is_done, stuck.undone))
          (λ rest. ⊎_elim (λ below. absurd (below.4 (clear below.0 below.1 below.2 below.3))) (λ past. past) rest)
          (settled i stuck.low stuck.high);
      above = clear;
      first = λ j low before. ⊎_elim
          (λ is_done. inl (known j low (omega (arith, before, stuck.high)) is_done).0)
          (λ undone. inr (below_undone b total weight done j undone.0 undone.1 undone.2 undone.3 undone.4 (settled undone.0 undone.1 undone.2)))
          (stuck.first j low before);
    }

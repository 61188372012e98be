-- Each model means something.
use Rattle.std.proofs.Common.{◌≡◌, ◌≤◌, ◌⊎◌, ⊎_elim, inl, inr, ℕ, refl, sym, arith, Some, None}
use Rattle.std.specs.Prelude.{Result, Ok, Err, Option}
use Rattle.lot_sizing.specs.Problem.{Problem, item_count}
use Rattle.lot_sizing.specs.Bill.{AreTotals, AreWeights, HasRanks, bill_of}
use Rattle.lot_sizing.proofs.Ones.{one_total, one_weight}
use Rattle.bill.specs.Over.{IsFirstOver, KeepsBound, OfAll}
use Rattle.bill.proofs.Deciding.{ranks_or_cycle, within_or_over}
use Rattle.bill.proofs.Existing.{totals_exist, weights_exist}
use Rattle.lot_draft.specs.Raw.{RawModel}
use Rattle.lot_draft.specs.Meaning.{problem_of}
use Rattle.lot_draft.specs.Refusals.{later_fault, plain_fault}
use Rattle.lot_draft.specs.declared.fault.ModelFault.{ModelFault}
use Rattle.lot_draft.specs.declared.fault.ModelCode.TheVariants.{Cycle, QuantityBound}
use Rattle.lot_model.specs.Meaning.{IsBounded, Means, most_asked, at_item, there_of}

-- the first item past the bound, whatever the totals and weights are
abbrev IsOver : Problem → ℕ → Type 0
IsOver p i = OfAll (bill_of p) (most_asked p) (there_of p) (λ total weight. IsFirstOver (bill_of p) total weight i)

fault_or_none : (o : Option ModelFault) → ((f : ModelFault) × (o ≡ Some f)) ⊎ (o ≡ None)
fault_or_none (Some f) = inl (f, refl)
fault_or_none None = inr refl

-- the same numbers of an item
pub record AreEqual (p : Problem) (a b : ℕ → ℕ) (u v : ℕ → ℕ → ℕ) : Type 0 where
  pub total : (i : ℕ) → 1 ≤ i → i ≤ item_count p → a i ≡ b i
  pub weight : (i k : ℕ) → 1 ≤ i → i ≤ item_count p → 1 ≤ k → k ≤ item_count p → u i k ≡ v i k

turned : (p : Problem) (a b : ℕ → ℕ) (u v : ℕ → ℕ → ℕ) → AreEqual p a b u v → AreEqual p b a v u
turned p a b u v same = record { total = λ i low high. sym (same.total i low high); weight = λ i k low high k_low k_high. sym (same.weight i k low high k_low k_high) }

within_same : (p : Problem) (a b : ℕ → ℕ) (u v : ℕ → ℕ → ℕ) (i : ℕ) → AreEqual p a b u v → 1 ≤ i → i ≤ item_count p → KeepsBound (bill_of p) a u i → KeepsBound (bill_of p) b v i
within_same p a b u v i same low high within = record {
  in_all = omega (arith, same.total i low high, within.in_all);
  each = λ k k_low k_high. omega (arith, same.weight i k low high k_low k_high, within.each k k_low k_high);
}

over_same : (p : Problem) (a b : ℕ → ℕ) (u v : ℕ → ℕ → ℕ) (i : ℕ) → AreEqual p a b u v → IsFirstOver (bill_of p) a u i → IsFirstOver (bill_of p) b v i
over_same p a b u v i same over =
    let back = turned p a b u v same in
    record {
      low = over.low;
      high = over.high;
      over = λ within. over.over (within_same p b a v u i back over.low over.high within);
      above = λ k low high goes. within_same p a b u v k same low high (over.above k low high goes);
      first = λ j low less. ⊎_elim
          (λ within. inl (within_same p a b u v j same low (omega (arith, less, over.high)) within))
          (λ below. inr (below.0, below.1, below.2, below.3, λ within. below.4 (within_same p b a v u below.0 back below.1 below.2 within)))
          (over.first j low less);
    }

-- any totals and weights are these
are_equal : (p : Problem) (rank a b : ℕ → ℕ) (u v : ℕ → ℕ → ℕ) → HasRanks (bill_of p) rank → AreTotals (bill_of p) (most_asked p) (there_of p) a → AreTotals (bill_of p) (most_asked p) (there_of p) b → AreWeights (bill_of p) u → AreWeights (bill_of p) v → AreEqual p a b u v
are_equal p rank a b u v ranks at bt uw vw = record { total = one_total p rank a b ranks at bt; weight = one_weight p rank u v ranks uw vw }

-- with ranks, all is within the bound or some item is the first past it
bounded_or_over : (p : Problem) (rank : ℕ → ℕ) → HasRanks (bill_of p) rank → IsBounded p ⊎ ((i : ℕ) × IsOver p i)
bounded_or_over p rank ranks =
    let t = totals_exist (bill_of p) (most_asked p) (there_of p) rank ranks in
    let w = weights_exist (bill_of p) rank ranks in
    ⊎_elim
    (λ within. inl (λ total weight ts ws i low high. within_same p t.0 total w.0 weight i (are_equal p rank t.0 total w.0 weight ranks t.1 ts w.1 ws) low high (within i low high)))
    (λ over. inr (over.0, λ total weight ts ws. over_same p t.0 total w.0 weight over.0 (are_equal p rank t.0 total w.0 weight ranks t.1 ts w.1 ws) over.1))
    (within_or_over (bill_of p) t.0 w.0 rank ranks)

pub means_some : (m : RawModel) → (r : Result Problem ModelFault) × Means m r
means_some m =
    let p = problem_of m in
    ⊎_elim
    (λ found. (Err found.0, inl found.1))
    (λ plain. ⊎_elim
    (λ ranked. ⊎_elim
    (λ found. (Err found.0, inr (plain, inr (ranked, inl found.1))))
    (λ later. ⊎_elim
    (λ bounded. (Ok p, (refl, record { plain = plain; ranked = ranked; later = later; bounded = bounded })))
    (λ over. (Err (at_item QuantityBound over.0), inr (plain, inr (ranked, inr (later, (over.0, over.1, refl))))))
    (bounded_or_over p ranked.0 ranked.1))
    (fault_or_none (later_fault m)))
    (λ cycle. (Err (at_item Cycle cycle.0), inr (plain, inl (cycle.0, cycle.1, refl))))
    (ranks_or_cycle (bill_of p)))
    (fault_or_none (plain_fault m))

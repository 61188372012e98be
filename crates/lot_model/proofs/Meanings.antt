-- A model means one thing.
use Rattle.std.proofs.Common.{◌≡◌, ◌≤◌, ◌<◌, ◌∙◌, ⊎_elim, ℕ, sym, ap, arith, Some, None}
use Rattle.std.specs.Prelude.{Result, Ok, Err, Option}
use Rattle.std.proofs.lemmas.Bool.{cases_lt}
use Rattle.lot_sizing.specs.Problem.{Problem}
use Rattle.lot_sizing.specs.Bill.{Bill, bill_of}
use Rattle.bill.specs.Over.{IsFirstOver, KeepsBound, OfAll}
use Rattle.bill.specs.Sets.{IsFirstOnCycle}
use Rattle.bill.proofs.Existing.{totals_exist, weights_exist}
use Rattle.lot_draft.specs.Raw.{RawModel}
use Rattle.lot_draft.specs.Meaning.{problem_of}
use Rattle.lot_draft.specs.Refusals.{later_fault, plain_fault}
use Rattle.lot_draft.specs.declared.fault.ModelFault.{ModelFault}
use Rattle.lot_draft.specs.declared.fault.ModelCode.TheVariants.{Cycle, QuantityBound}
use Rattle.lot_model.specs.Meaning.{BreaksFirst, BreaksNone, IsCycle, IsPastBound, IsRanked, Means, most_asked, at_item, there_of}
use Rattle.lot_model.proofs.Bills.{no_cycle}

abbrev fault_or : Option ModelFault → ModelFault → ModelFault
fault_or (Some f) d = f
fault_or None d = d

same_fault : (o : Option ModelFault) (f g : ModelFault) → o ≡ Some f → o ≡ Some g → f ≡ g
same_fault o f g one other = ap (λ x. fault_or x f) (sym one ∙ other)

no_fault : {A : Type 0} (o : Option ModelFault) (f : ModelFault) → o ≡ None → o ≡ Some f → A
no_fault o f none some = absurd (cc (sym none ∙ some))

-- two first items are the same
same_cycle : (b : Bill) (i j : ℕ) → IsFirstOnCycle b i → IsFirstOnCycle b j → i ≡ j
same_cycle b i j one other =
    ⊎_elim
    (λ less. absurd (other.first i one.low less one.cycle))
    (λ no. ⊎_elim (λ less. absurd (one.first j other.low less other.cycle)) (λ same. omega (arith, no, same)) (cases_lt j i))
    (cases_lt i j)

not_earlier : (b : Bill) (total : ℕ → ℕ) (weight : ℕ → ℕ → ℕ) (i j : ℕ) → IsFirstOver b total weight i → IsFirstOver b total weight j → i < j → ⊥
not_earlier b total weight i j one other less =
    ⊎_elim one.over (λ below. below.4 (one.above below.0 below.1 below.2 below.3)) (other.first i one.low less)

same_over : (b : Bill) (total : ℕ → ℕ) (weight : ℕ → ℕ → ℕ) (i j : ℕ) → IsFirstOver b total weight i → IsFirstOver b total weight j → i ≡ j
same_over b total weight i j one other =
    ⊎_elim
    (λ less. absurd (not_earlier b total weight i j one other less))
    (λ no. ⊎_elim (λ less. absurd (not_earlier b total weight j i other one less)) (λ same. omega (arith, no, same)) (cases_lt j i))
    (cases_lt i j)

-- what is said of all totals and weights holds of some, where items have ranks
of_some : {A : Type 0} (p : Problem) (P : (ℕ → ℕ) → (ℕ → ℕ → ℕ) → Type 0) → IsRanked p → OfAll (bill_of p) (most_asked p) (there_of p) P → ((total : ℕ → ℕ) (weight : ℕ → ℕ → ℕ) → P total weight → A) → A
of_some p P (rank, ranks) all then =
    let (total, totals) = totals_exist (bill_of p) (most_asked p) (there_of p) rank ranks in
    let (weight, weights) = weights_exist (bill_of p) rank ranks in
    then total weight (all total weight totals weights)

both_over : (p : Problem) (f g : ModelFault) → IsRanked p → IsPastBound p f → IsPastBound p g → f ≡ g
both_over p f g ranked (i, one, is) (j, other, also) =
    of_some p (λ total weight. IsFirstOver (bill_of p) total weight i × IsFirstOver (bill_of p) total weight j) ranked (λ total weight ts ws. (one total weight ts ws, other total weight ts ws)) (λ total weight both.
    is ∙ ap (at_item QuantityBound) (same_over (bill_of p) total weight i j both.0 both.1) ∙ sym also)

ranked_cycle : {A : Type 0} (p : Problem) (f : ModelFault) → IsRanked p → IsCycle p f → A
ranked_cycle p f (rank, ranks) (i, first, is) = absurd (no_cycle (bill_of p) rank ranks i first.low first.high first.cycle)

first_same : (m : RawModel) (f g : ModelFault) → BreaksFirst m f → BreaksFirst m g → f ≡ g
first_same m f g one other =
    let p = problem_of m in
    ⊎_elim
    (λ plain. ⊎_elim (λ also. same_fault (plain_fault m) f g plain also) (λ rest. no_fault (plain_fault m) f rest.0 plain) other)
    (λ rest. ⊎_elim
    (λ also. no_fault (plain_fault m) g rest.0 also)
    (λ more. ⊎_elim
    (λ cycle. ⊎_elim
    (λ again. cycle.2 ∙ ap (at_item Cycle) (same_cycle (bill_of p) cycle.0 again.0 cycle.1 again.1) ∙ sym again.2)
    (λ ranked. ranked_cycle p f ranked.0 cycle)
    more.1)
    (λ ranked. ⊎_elim
    (λ again. ranked_cycle p g ranked.0 again)
    (λ both. ⊎_elim
    (λ later. ⊎_elim (λ again. same_fault (later_fault m) f g later again) (λ past. no_fault (later_fault m) f past.0 later) both.1)
    (λ past. ⊎_elim (λ later. no_fault (later_fault m) g past.0 later) (λ again. both_over p f g ranked.0 past.1 again.1) both.1)
    ranked.1)
    more.1)
    rest.1)
    other)
    one

none_first : {A : Type 0} (m : RawModel) (f : ModelFault) → BreaksNone m → BreaksFirst m f → A
none_first m f none first =
    let p = problem_of m in
    absurd (⊎_elim
    (λ plain. no_fault (plain_fault m) f none.plain plain)
    (λ rest. ⊎_elim
    (λ cycle. ranked_cycle p f none.ranked cycle)
    (λ ranked. ⊎_elim
    (λ later. no_fault (later_fault m) f none.later later)
    (λ past. of_some p (λ total weight. IsFirstOver (bill_of p) total weight past.1.0 × ((i : ℕ) → 1 ≤ i → i ≤ (bill_of p).items → KeepsBound (bill_of p) total weight i)) ranked.0 (λ total weight ts ws. (past.1.1 total weight ts ws, none.bounded total weight ts ws)) (λ total weight both. both.0.over (both.1 past.1.0 both.0.low both.0.high)))
    ranked.1)
    rest.1)
    first)

pub means_one : (m : RawModel) (r s : Result Problem ModelFault) → Means m r → Means m s → r ≡ s
means_one m (Ok p) (Ok q) one other = ap Ok (one.0 ∙ sym other.0)
means_one m (Ok p) (Err g) one other = none_first m g one.1 other
means_one m (Err f) (Ok q) one other = none_first m f other.1 one
means_one m (Err f) (Err g) one other = ap Err (first_same m f g one other)

-- What a model means: a problem, or the first rule that it breaks.
use Rattle.std.specs.Prelude.{◌≡◌, ◌⊎◌, ℕ, ◌+◌, ◌≤◌, Some, None, List, Result, Ok, Err}
use Rattle.lot_sizing.specs.Sums.{sum_to}
use Rattle.lot_sizing.specs.declared.limits.TheConstants.{MAX_TOTAL}
use Rattle.lot_sizing.specs.Problem.{Problem, demand, item_at, item_count}
use Rattle.lot_sizing.specs.Bill.{HasRanks, bill_of}
use Rattle.bill.specs.Over.{HasAll, IsFirstOver, KeepsBound, OfAll, row_entry}
use Rattle.bill.specs.Sets.{IsFirstOnCycle}
use Rattle.lot_draft.specs.Raw.{RawModel, raw_model}
use Rattle.lot_draft.specs.Meaning.{problem_of}
use Rattle.lot_draft.specs.Refusals.{later_fault, plain_fault}
use Rattle.lot_draft.specs.declared.draft.Draft.{Draft}
use Rattle.lot_draft.specs.declared.draft.DraftRefusal.{DraftRefusal}
use Rattle.lot_draft.specs.declared.draft.DraftRefusal.TheVariants.{Refused, Memory}
use Rattle.lot_draft.specs.declared.fault.ModelFault.{ModelFault}
use Rattle.lot_draft.specs.declared.fault.ModelCode.{ModelCode}
use Rattle.lot_draft.specs.declared.fault.ModelCode.TheVariants.{Cycle, QuantityBound}
use Rattle.lot_draft.specs.declared.fault.Place.TheVariants.{Item}

-- what is asked of an item from outside, and what is there of it
abbrev pub most_asked : Problem → ℕ → ℕ
most_asked m i = sum_to m.periods (demand m i) + (item_at m i).end_max

abbrev pub there_of : Problem → ℕ → ℕ
there_of m i = (item_at m i).opening

-- each item has a rank above those of the items that it goes into, so none is its own component
abbrev pub IsRanked : Problem → Type 0
IsRanked p = (rank : ℕ → ℕ) × HasRanks (bill_of p) rank

-- a rule on an item as a whole
abbrev pub at_item : ModelCode → ℕ → ModelFault
at_item code i = record { code = code; place = Item i; key = None; period = None }

-- the first item that is its own component
abbrev pub IsCycle : Problem → ModelFault → Type 0
IsCycle p f = (i : ℕ) × IsFirstOnCycle (bill_of p) i × (f ≡ at_item Cycle i)

-- the first item whose largest total or one of whose weights is past the bound, of those that go only into items within it
abbrev pub IsPastBound : Problem → ModelFault → Type 0
IsPastBound p f = (i : ℕ) × OfAll (bill_of p) (most_asked p) (there_of p) (λ total weight. IsFirstOver (bill_of p) total weight i) × (f ≡ at_item QuantityBound i)

-- all largest totals and weights are within the bound
abbrev pub IsBounded : Problem → Type 0
IsBounded p = OfAll (bill_of p) (most_asked p) (there_of p) (λ total weight. (i : ℕ) → 1 ≤ i → i ≤ item_count p → KeepsBound (bill_of p) total weight i)

-- lists of all largest totals and weights
abbrev pub AreAllOf : Problem → List ℕ → List (List ℕ) → Type 0
AreAllOf p totals weights = OfAll (bill_of p) (most_asked p) (there_of p) (λ total weight. HasAll (bill_of p) total weight totals weights)

-- no weight is past the bound
abbrev pub AreSmallRows : ℕ → List (List ℕ) → Type 0
AreSmallRows n rows = (i k : ℕ) → 1 ≤ i → i ≤ n → 1 ≤ k → k ≤ n → row_entry rows i k ≤ MAX_TOTAL

-- the first rule that a model breaks, in this order: counts, names, lists, numbers and lines; cycles; backlog costs of components and crossed ends; totals and weights
abbrev pub BreaksFirst : RawModel → ModelFault → Type 0
BreaksFirst m f =
    (plain_fault m ≡ Some f)
    ⊎ ((plain_fault m ≡ None)
    × (IsCycle (problem_of m) f
    ⊎ (IsRanked (problem_of m)
    × ((later_fault m ≡ Some f) ⊎ ((later_fault m ≡ None) × IsPastBound (problem_of m) f)))))

-- the model breaks no rule
pub record BreaksNone (m : RawModel) : Type 0 where
  pub plain : plain_fault m ≡ None
  pub ranked : IsRanked (problem_of m)
  pub later : later_fault m ≡ None
  pub bounded : IsBounded (problem_of m)

-- what a model means
abbrev pub Means : RawModel → Result Problem ModelFault → Type 0
Means m (Ok p) = (p ≡ problem_of m) × BreaksNone m
Means m (Err f) = BreaksFirst m f

-- the draft is back as it was, and where memory isn't the cause this is the first rule that it breaks
abbrev pub IsRefused : Draft → DraftRefusal → Type 0
IsRefused draft (Refused fault back) = (back ≡ draft) × Means (raw_model draft) (Err fault)
IsRefused draft (Memory back) = back ≡ draft

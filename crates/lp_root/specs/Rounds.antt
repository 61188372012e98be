-- Rounds of the root: the program of all base rows and of the cuts so far is solved, and separation looks for more cuts at its least point.
use Rattle.std.specs.Prelude.{◌≡◌, ◌⊎◌, ℕ, zero, suc, ◌-◌, ◌≤◌, Bool, List, [], ◌∷◌, ◌++◌, length}
use Rattle.lot_sizing.specs.Problem.{Problem, item_count}
use Rattle.echelon.specs.declared.net.EchelonItem.{EchelonItem}
use Rattle.lin_rows.specs.Rows.{LinRow}
use Rattle.echelon_rows.specs.Plans.{IsOfItem}
use Rattle.echelon_rows.specs.Rows.{echelon_in}
use Rattle.ls_cuts.specs.Points.{Fractions}
use Rattle.ls_cuts.specs.Steps.{IsFound, IsNoneFound, SomePasses}
use Rattle.cert_lines.specs.Shapes.{CutShape, LsCut}
use Rattle.tableau.specs.declared.outcome.Outcome.{Outcome}
use Rattle.tableau.specs.declared.outcome.Outcome.TheVariants as outcome
use Rattle.tableau.specs.Outcomes.{IsOutcome, number_at}
use Rattle.tableau.specs.Program.{Program}
use Rattle.cert_meaning.specs.CutRows.{AreCutRows, HasEchelon}
use Rattle.lp_relaxation.specs.Rounds.{AreRead, IsRoundProgram}
use Rattle.lp_relaxation.specs.declared.limits.TheConstants.{MAX_PIVOTS}

-- ---- separation
-- what it finds of an echelon for an l, at fractions of the columns: nothing, or the cut of the set whose row they violate most
abbrev pub AreCutsAt : EchelonItem → Fractions → ℕ → List CutShape → Type 0
AreCutsAt e read l [] = IsNoneFound (echelon_in e) read l
AreCutsAt e read l (c ∷ []) = (marks : List Bool) × IsFound (echelon_in e) read l marks × (c ≡ LsCut e.item l marks)
AreCutsAt e read l (c ∷ (d ∷ rest)) = ⊥

-- lists for 1, .., n, one after the other
abbrev pub AreJoined : ℕ → (ℕ → List CutShape → Type 0) → List CutShape → Type 0
AreJoined zero P cuts = cuts ≡ []
AreJoined (suc n) P cuts = (before : List CutShape) × (last : List CutShape) × AreJoined n P before × P (suc n) last × (cuts ≡ before ++ last)

-- the echelon of a lead-free item
pub record IsEchelonAt (m : Problem) (weight : ℕ → ℕ → ℕ) (i : ℕ) (e : EchelonItem) : Type 0 where
  pub exists : HasEchelon m weight i
  pub of_item : IsOfItem m weight i e

-- what it finds of an item: nothing where the item isn't lead-free, and otherwise what it finds of its echelon, l by l
abbrev pub AreCutsOf : Problem → (ℕ → ℕ → ℕ) → Fractions → ℕ → List CutShape → Type 0
AreCutsOf m weight read i cuts =
    ((HasEchelon m weight i → ⊥) × (cuts ≡ [])) ⊎ ((e : EchelonItem) × IsEchelonAt m weight i e × AreJoined m.periods (AreCutsAt e read) cuts)

-- and of all items, in their order
abbrev pub AreCutsFound : Problem → (ℕ → ℕ → ℕ) → Fractions → List CutShape → Type 0
AreCutsFound m weight read cuts = AreJoined (item_count m) (AreCutsOf m weight read) cuts

-- some step of it doesn't fit at an item and an l, and these are the cuts of the l's before
pub record PassesAt (m : Problem) (weight : ℕ → ℕ → ℕ) (read : Fractions) (i l : ℕ) (cuts : List CutShape) : Type 0 where
  pub echelon : EchelonItem
  pub is_echelon : IsEchelonAt m weight i echelon
  pub low : 1 ≤ l
  pub high : l ≤ m.periods
  pub passes : SomePasses (echelon_in echelon) read l
  pub before : AreJoined (l - 1) (AreCutsAt echelon read) cuts

-- after the items before, whose cuts stand first
abbrev pub PassesFirst : Problem → (ℕ → ℕ → ℕ) → Fractions → (i l : ℕ) → List CutShape → Type 0
PassesFirst m weight read i l cuts =
    (before : List CutShape) × (here : List CutShape) × AreJoined (i - 1) (AreCutsOf m weight read) before × PassesAt m weight read i l here × (cuts ≡ before ++ here)

-- ---- runs
-- so ends the run of a round whose program has all base rows in their order, and then the rows of these cuts
pub record EndsRun (m : Problem) (total : ℕ → ℕ) (weight : ℕ → ℕ → ℕ) (cuts : List CutShape) (end : Outcome) : Type 0 where
  pub rows : List LinRow
  pub rows_are : AreCutRows m total weight [] cuts rows
  pub program : Program
  pub round : IsRoundProgram m total rows program
  pub run : IsOutcome program MAX_PIVOTS end

-- something is so of the fractions of the columns at a least point
abbrev pub AtLeastPoint : Problem → Outcome → (Fractions → Type 0) → Type 0
AtLeastPoint m (outcome.Least point multipliers value) P = (read : Fractions) × AreRead m (number_at point.items) read × P read
AtLeastPoint m (outcome.Empty multipliers) P = ⊥
AtLeastPoint m (outcome.Stopped made) P = ⊥
AtLeastPoint m (outcome.Passed pivot row column) P = ⊥

-- a round with these cuts finds more
pub record FindsMore (m : Problem) (total : ℕ → ℕ) (weight : ℕ → ℕ → ℕ) (cuts found : List CutShape) : Type 0 where
  pub end : Outcome
  pub run : EndsRun m total weight cuts end
  pub found_are : AtLeastPoint m end (λ read. AreCutsFound m weight read found)
  pub some : 1 ≤ length found

-- the cuts after so many rounds, each of which has found more
abbrev pub AreCutsAfter : Problem → (ℕ → ℕ) → (ℕ → ℕ → ℕ) → ℕ → List CutShape → Type 0
AreCutsAfter m total weight zero cuts = cuts ≡ []
AreCutsAfter m total weight (suc n) cuts =
    (before : List CutShape) × (found : List CutShape) × AreCutsAfter m total weight n before × FindsMore m total weight before found × (cuts ≡ before ++ found)

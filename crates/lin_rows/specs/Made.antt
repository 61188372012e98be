-- Terms that are put after others.
use Rattle.std.specs.Prelude.{◌≡◌, ℕ, List, ◌++◌}
use Rattle.lot_sizing.specs.Problem.{Problem}
use Rattle.lot_sizing.specs.Totals.{AreLargestTotals}
use Rattle.lin_rows.specs.declared.row.Term.{Term}
use Rattle.lin_rows.specs.declared.base.RowName.{RowName}
use Rattle.lin_rows.specs.Base.{all_terms, some_terms}

-- those of them that aren't 0 times their column
abbrev pub PutTerms : List Term → List Term → List Term → Type 0
PutTerms old more new = new ≡ old ++ some_terms more

-- the terms of a row, whatever the largest totals are
abbrev pub AreTermsOf : Problem → RowName → List Term → Type 0
AreTermsOf m name terms = (total : ℕ → ℕ) → terms ≡ some_terms (all_terms m total name)

-- the terms of a row, with the largest totals
abbrev pub HasTermsOf : Problem → RowName → List Term → Type 0
HasTermsOf m name terms = (total : ℕ → ℕ) × AreLargestTotals m total × (terms ≡ some_terms (all_terms m total name))

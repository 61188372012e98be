-- What separation answers of all rows of an l.
use Rattle.std.proofs.Common.{◌≡◌, ◌≤◌, ℕ, Bool, Vec, Global}
use Rattle.std.specs.Prelude.{Option, Some, None, Result, Ok, Err, IfErr, IfOk, MatchOption, MatchResult}
use Rattle.echelon.specs.Views.{marked}
use Rattle.echelon_rows.specs.Rows.{Echelon}
use Rattle.ls_cuts.specs.Laws.{LesserSeparates}
use Rattle.ls_cuts.specs.Points.{AreMet, Fractions, IsMostViolated}
use Rattle.ls_cuts.specs.Steps.{IsFound, IsNoneFound, SomePasses}
use Rattle.ls_cuts.specs.declared.fault.SepFault.{SepFault}
use Rattle.ls_cuts.specs.declared.fault.SepFault.TheVariants.{Passed128}

abbrev pub IsAnswer : Echelon → Fractions → ℕ → Option (Vec Bool Global) → Type 0
IsAnswer e x l found = MatchOption found (IsNoneFound e x l) (λ marks. IsFound e x l marks.items)

pub exact : LesserSeparates → (e : Echelon) (x : Fractions) (l : ℕ) → 1 ≤ l → (r : Result (Option (Vec Bool Global)) SepFault) → IfOk r (IsAnswer e x l)
    → IfOk r (λ found. MatchOption found (AreMet e x l) (λ marks. IsMostViolated e x l (marked marks.items)))
exact law e x l low (Ok None) (marks, lesser, high) = (law e x l (marked marks) low lesser.chosen).met high
exact law e x l low (Ok (Some list)) is =
    let says = law e x l (marked list.items) low is.lesser.chosen in
    record { violated = says.violated is.below; least = says.least }
exact law e x l low (Err fault) is = tt

pub passed : (e : Echelon) (x : Fractions) (l : ℕ) (r : Result (Option (Vec Bool Global)) SepFault) → IfOk r (IsAnswer e x l) → IfErr r (λ fault. fault ≡ Passed128 → SomePasses e x l)
    → MatchResult r (λ _. SomePasses e x l → ⊥) (λ fault. fault ≡ Passed128 → SomePasses e x l)
passed e x l (Ok None) (marks, lesser, high) fault = λ passes. passes (marked marks) lesser.chosen lesser.fits
passed e x l (Ok (Some list)) is fault = λ passes. passes (marked list.items) is.lesser.chosen is.lesser.fits
passed e x l (Err f) is fault = fault

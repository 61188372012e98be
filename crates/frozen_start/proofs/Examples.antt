-- The starts that were worked out by hand.
use Rattle.std.proofs.Common.{◌≡◌, ⊎_elim, ℕ, refl, sym, subst, arith}
use Rattle.std.proofs.lemmas.Bool.{cases_eq}
use Rattle.lot_sizing.specs.Plan.{Each}
use Rattle.frozen_start.specs.Starts.{StartStands}
use Rattle.frozen_start.specs.Worked.{IsLateWorked, IsRowWorked, IsSetWorked, late_problem, late_start, set_problem, set_start, short_start, tight_problem}

-- the only place of one row and one column
only : (R : ℕ → ℕ → Type 0) → R 1 1 → Each 1 1 R
only R here i t low high t_low t_high =
    let e : 1 ≡ i = omega (arith, low, high) in
    let d : 1 ≡ t = omega (arith, t_low, t_high) in
    subst (λ j. R j t) e (subst (R 1) d here)

-- the two places of two rows and one column
two : (R : ℕ → ℕ → Type 0) → R 1 1 → R 2 1 → Each 2 1 R
two R here below i t low high t_low t_high =
    let d : 1 ≡ t = omega (arith, t_low, t_high) in
    ⊎_elim
    (λ e. subst (λ j. R j t) (sym e) (subst (R 1) d here))
    (λ ne. let e : 2 ≡ i = omega (arith, low, high, ne) in subst (λ j. R j t) e (subst (R 2) d below))
    (cases_eq i 1)

late_stands : StartStands late_problem late_start 1
late_stands = record {
  setup = only _ (omega arith);
  made = only _ (λ some. refl);
  capacity = λ k t low high. absurd (omega (arith, low, high));
  lots = only _ (omega arith, search);
  in_time = only _ (λ none. absurd (cc none));
}

set_stands : StartStands set_problem set_start 1
set_stands = record {
  setup = two _ (omega arith) (omega arith);
  made = two _ (λ some. refl) (λ some. refl);
  capacity = only _ (omega arith);
  lots = two _ (omega arith, omega arith) (omega arith, search);
  in_time = two _ (λ none. refl) (λ none. refl);
}

tight_fails : StartStands tight_problem set_start 1 → ⊥
tight_fails stands = absurd (omega (arith, stands.capacity 1 1 (omega arith) (omega arith) (omega arith) (omega arith)))

short_fails : StartStands set_problem short_start 1 → ⊥
short_fails stands = absurd (omega (arith, stands.in_time 2 1 (omega arith) (omega arith) (omega arith) (omega arith) search))

pub late : IsLateWorked
late = record { stands = late_stands; rest = refl; spent = refl; total = refl; whole = refl }

pub set : IsSetWorked
set = record { stands = set_stands; rest = refl; spent = refl; tight = tight_fails; short = short_fails }

pub row : IsRowWorked
row = record { rest = refl; spent = refl; total = refl }

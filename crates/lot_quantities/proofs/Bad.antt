-- The first column with a quantity or setup that is no number.
use Rattle.std.proofs.Common.{◌≡◌, ◌<◌, ⊎_elim, inl, inr, ℕ, refl, sym, subst, arith, Option, Some, None}
use Rattle.std.proofs.lemmas.Option.{none-some, same_Some}
use Rattle.csv_records.specs.Records.{IsNumber, Record, field}
use Rattle.std.proofs.lemmas.Bool.{cases_lt}
use Rattle.lot_quantities.specs.Tables.{HasNumbers}
use Rattle.lot_quantities.specs.Faults.{HoldsNumbers, IsFirstBad}

pub first_make : (r : Record) (make setup : ℕ) → (IsNumber (field r make) → ⊥) → (setup < make → IsNumber (field r setup)) → IsFirstBad r make (Some setup) make
first_make r make setup bad other = record {
  column = inl refl;
  bad = bad;
  before = λ d holds less.
      ⊎_elim
      (λ e. absurd (omega (arith, e, less)))
      (λ e. let same : setup ≡ d = same_Some setup d e in subst (λ c. IsNumber (field r c)) same (other (omega (arith, same, less))))
      holds;
}

pub first_setup : (r : Record) (make setup : ℕ) → (IsNumber (field r setup) → ⊥) → (make < setup → IsNumber (field r make)) → IsFirstBad r make (Some setup) setup
first_setup r make setup bad other = record {
  column = inr refl;
  bad = bad;
  before = λ d holds less.
      ⊎_elim
      (λ e. subst (λ c. IsNumber (field r c)) (sym e) (other (omega (arith, e, less))))
      (λ e. absurd (omega (arith, same_Some setup d e, less)))
      holds;
}

pub first_only : (r : Record) (make : ℕ) → (IsNumber (field r make) → ⊥) → IsFirstBad r make None make
first_only r make bad = record {
  column = inl refl;
  bad = bad;
  before = λ d holds less. ⊎_elim (λ e. absurd (omega (arith, e, less))) (λ e. absurd (none-some d e)) holds;
}

column_good : (r : Record) (make : ℕ) (setup : Option ℕ) (c : ℕ) → HasNumbers r make setup → HoldsNumbers make setup c → IsNumber (field r c)
column_good r make (Some s) c good holds = ⊎_elim (λ e. subst (λ d. IsNumber (field r d)) (sym e) good.make) (λ e. subst (λ d. IsNumber (field r d)) (same_Some s c e) good.setup) holds
column_good r make None c good holds = ⊎_elim (λ e. subst (λ d. IsNumber (field r d)) (sym e) good.make) (λ e. absurd (none-some c e)) holds

-- where one is bad not all are numbers
pub bad_somewhere : (r : Record) (make : ℕ) (setup : Option ℕ) (c : ℕ) → IsFirstBad r make setup c → HasNumbers r make setup → ⊥
bad_somewhere r make setup c first good = first.bad (column_good r make setup c good first.column)

-- there is one first
pub one_bad : (r : Record) (make : ℕ) (setup : Option ℕ) (c d : ℕ) → IsFirstBad r make setup c → IsFirstBad r make setup d → c ≡ d
one_bad r make setup c d a b =
    ⊎_elim
    (λ less. absurd (a.bad (b.before c a.column less)))
    (λ no. ⊎_elim (λ less. absurd (b.bad (a.before d b.column less))) (λ no2. omega (arith, no, no2)) (cases_lt d c))
    (cases_lt c d)

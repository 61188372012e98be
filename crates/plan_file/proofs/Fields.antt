-- The numbers of the fields that hold numbers.
use Rattle.std.proofs.Common.{◌≡◌, ◌≤◌, ⊎_elim, refl, sym, subst, arith}
use Rattle.std.proofs.lemmas.Bool.{cases_eq}
use Rattle.csv_records.specs.Records.{IsNumber, Record, field}
use Rattle.plan_file.specs.Records.{HasNumbers, field_number}
use Rattle.plan_file.specs.declared.fault.NumberField.{NumberField}
use Rattle.plan_file.specs.declared.fault.NumberField.TheVariants.{Make, Setup, Stock, Backlog}

pub field_low : (at : NumberField) → 3 ≤ field_number at
field_low Make = omega arith
field_low Setup = omega arith
field_low Stock = omega arith
field_low Backlog = omega arith

pub field_high : (at : NumberField) → field_number at ≤ 6
field_high Make = omega arith
field_high Setup = omega arith
field_high Stock = omega arith
field_high Backlog = omega arith

-- fields of one number are one
pub one_field : (a b : NumberField) → field_number a ≡ field_number b → a ≡ b
one_field Make Make e = refl
one_field Make Setup e = absurd (omega (arith, e))
one_field Make Stock e = absurd (omega (arith, e))
one_field Make Backlog e = absurd (omega (arith, e))
one_field Setup Make e = absurd (omega (arith, e))
one_field Setup Setup e = refl
one_field Setup Stock e = absurd (omega (arith, e))
one_field Setup Backlog e = absurd (omega (arith, e))
one_field Stock Make e = absurd (omega (arith, e))
one_field Stock Setup e = absurd (omega (arith, e))
one_field Stock Stock e = refl
one_field Stock Backlog e = absurd (omega (arith, e))
one_field Backlog Make e = absurd (omega (arith, e))
one_field Backlog Setup e = absurd (omega (arith, e))
one_field Backlog Stock e = absurd (omega (arith, e))
one_field Backlog Backlog e = refl

-- where the last four fields are numbers all are that hold one
pub four : (r : Record) → IsNumber (field r 3) → IsNumber (field r 4) → IsNumber (field r 5) → IsNumber (field r 6) → HasNumbers r
four r make setup stock backlog c low high =
    ⊎_elim
    (λ e. subst (λ k. IsNumber (field r k)) (sym e) make)
    (λ a. ⊎_elim
    (λ e. subst (λ k. IsNumber (field r k)) (sym e) setup)
    (λ b. ⊎_elim
    (λ e. subst (λ k. IsNumber (field r k)) (sym e) stock)
    (λ d. let e : c ≡ 6 = omega (arith, a, b, d, low, high) in subst (λ k. IsNumber (field r k)) (sym e) backlog)
    (cases_eq c 5))
    (cases_eq c 4))
    (cases_eq c 3)

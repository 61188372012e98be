-- Records mean a plan, or a fault that isn't out of memory.
use Rattle.std.proofs.Common.{◌≡◌, ◌≢◌, ◌≤◌, ◌<◌, ◌+◌, ◌*◌, ◌^◌, ◌⊎◌, ⊎_elim, inl, inr, ℕ, refl, subst, sym, arith, List, [], ◌∷◌, length, slice_index_or, IsTrue}
use Rattle.std.specs.Char.{digit_value}
use Rattle.std.specs.Str.Parse.{AllDigits, digits_value}
use Rattle.std.proofs.lemmas.Bool.{cases_eq}
use Rattle.lot_sizing.specs.Problem.{Problem, item_count}
use Rattle.lot_sizing.specs.Plan.{Plan}
use Rattle.csv_records.specs.Records.{IsNumber, Record, field, record_at}
use Rattle.plan_file.specs.Records.{HasHeader, HasNumbers, IsGood, IsPlanOf, field_number, is_header, is_row, number_of}
use Rattle.plan_file.specs.Faults.{IsCellFault, IsFirstBad, IsPlanFault, IsRecordFault}
use Rattle.plan_file.specs.declared.fault.NumberField.{NumberField}
use Rattle.plan_file.specs.declared.fault.NumberField.TheVariants.{Make, Setup, Stock, Backlog}
use Rattle.plan_file.specs.declared.fault.PlanFault.{PlanFault}
use Rattle.plan_file.specs.declared.fault.PlanFault.TheVariants.{Header, Memory, Number, Row, RowCount}
use Rattle.plan_file.proofs.Fields.{field_low, field_high}
use Rattle.existence.specs.Readings.{RecordsMeanSomething}
use Rattle.existence.proofs.Deciding.{Decided, all_or_first, both_or_not, each_or_first, if_or_not, le_or_not, lt_or_not, not_or_not, true_or_not}

digits_or_not : (text : List ℕ) → Decided (AllDigits 10 text)
digits_or_not [] = inl tt
digits_or_not (c ∷ cs) = both_or_not (lt_or_not (digit_value c) 10) (digits_or_not cs)

pub number_or_not : (text : List ℕ) → Decided (IsNumber text)
number_or_not text =
    ⊎_elim
    (λ digits. ⊎_elim
    (λ plain. ⊎_elim
    (λ fits. inl (record { whole = record { digits = digits; plain = plain }; fits = fits }))
    (λ no. inr (λ is. no is.fits))
    (lt_or_not (digits_value 10 text) (2 ^ 64)))
    (λ no. inr (λ is. no is.whole.plain))
    (not_or_not (both_or_not (lt_or_not 1 (length text)) (cases_eq (slice_index_or text 0 0) 48))))
    (λ no. inr (λ is. no is.whole.digits))
    (both_or_not (lt_or_not 0 (length text)) (digits_or_not text))

-- each of the last four fields has a name
field_of : (c : ℕ) → 3 ≤ c → c ≤ 6 → (at : NumberField) × (field_number at ≡ c)
field_of c low high =
    ⊎_elim
    (λ e. (Make, sym e))
    (λ a. ⊎_elim
    (λ e. (Setup, sym e))
    (λ b. ⊎_elim
    (λ e. (Stock, sym e))
    (λ d. let e : c ≡ 6 = omega (arith, a, b, d, low, high) in (Backlog, sym e))
    (cases_eq c 5))
    (cases_eq c 4))
    (cases_eq c 3)

numbers_or_bad : (r : Record) → HasNumbers r ⊎ ((at : NumberField) × IsFirstBad r at)
numbers_or_bad r =
    ⊎_elim
    (λ each. inl (λ c low high. each c (omega (arith, low)) high low))
    (λ found.
    let past : 3 ≤ found.0 = ⊎_elim (λ low. low) (λ no. absurd (found.3 (λ low. absurd (no low)))) (le_or_not 3 found.0) in
    let named : (at : NumberField) × (field_number at ≡ found.0) = field_of found.0 past found.2 in
    inr (
      named.0,
      record {
        bad = λ is. found.3 (λ _. subst (λ c. IsNumber (field r c)) named.1 is);
        before = λ c low less. found.4 c (omega (arith, low)) (omega (arith, less, named.1)) low;
      },
    ))
    (all_or_first (λ c. 3 ≤ c → IsNumber (field r c)) (λ c. if_or_not (le_or_not 3 c) (number_or_not (field r c))) 6)

header_or_not : (rs : List Record) → Decided (HasHeader rs)
header_or_not rs =
    ⊎_elim
    (λ there. ⊎_elim
    (λ header. inl (record { there = there; header = header }))
    (λ no. inr (λ has. no has.header))
    (true_or_not (is_header (record_at rs 0))))
    (λ no. inr (λ has. no has.there))
    (lt_or_not 0 (length rs))

module _ (m : Problem) (rs : List Record) where
  -- the record of an item and a period is good, or there is a fault for which it isn't
  good_or_why : (i t : ℕ) → IsGood m rs i t ⊎ ((f : PlanFault) × (f ≢ Memory) × IsRecordFault m rs i t f × (IsGood m rs i t → ⊥))
  good_or_why i t =
      ⊎_elim
      (λ there. ⊎_elim
      (λ row. ⊎_elim
      (λ numbers. inl (record { there = there; row = row; numbers = numbers }))
      (λ bad. inr (Number (number_of m i t) bad.0, (λ e. cc e), (refl, there, row, bad.1), λ good. bad.1.bad (good.numbers (field_number bad.0) (field_low bad.0) (field_high bad.0))))
      (numbers_or_bad (record_at rs (number_of m i t))))
      (λ no. inr (Row (number_of m i t), (λ e. cc e), (refl, there, no), λ good. no good.row))
      (true_or_not (is_row m i t (record_at rs (number_of m i t)))))
      (λ no. inr (RowCount, (λ e. cc e), no, λ good. no good.there))
      (lt_or_not (number_of m i t) (length rs))

  good_or_not : (i t : ℕ) → Decided (IsGood m rs i t)
  good_or_not i t = ⊎_elim (λ good. inl good) (λ why. inr why.3) (good_or_why i t)

  fault_of : HasHeader rs → (f : PlanFault) → f ≢ Memory → IsCellFault m rs f → IsPlanFault m rs f
  fault_of header Header apart cell = absurd cell.3
  fault_of header RowCount apart cell = (header, inl cell)
  fault_of header (Row n) apart cell = (header, cell)
  fault_of header (Number n c) apart cell = (header, cell)
  fault_of header Memory apart cell = tt

  abbrev read_plan : Plan
  read_plan = record {
    make = λ i t. digits_value 10 (field (record_at rs (number_of m i t)) 3);
    setup = λ i t. digits_value 10 (field (record_at rs (number_of m i t)) 4);
    stock = λ i t. digits_value 10 (field (record_at rs (number_of m i t)) 5);
    backlog = λ i t. digits_value 10 (field (record_at rs (number_of m i t)) 6);
  }

  plan_or_fault : ((p : Plan) × IsPlanOf m rs p) ⊎ ((f : PlanFault) × (f ≢ Memory) × IsPlanFault m rs f)
  plan_or_fault =
      ⊎_elim
      (λ header. ⊎_elim
      (λ good. ⊎_elim
      (λ count. inl (
        read_plan,
        record {
          header = header;
          count = count;
          each = λ i t low high t_low t_high. (good i t low high t_low t_high, record { make = refl; setup = refl; stock = refl; backlog = refl });
        },
      ))
      (λ no. inr (RowCount, (λ e. cc e), (header, inr (record { good = good; more = no }))))
      (cases_eq (length rs) (item_count m * m.periods + 1)))
      (λ found. ⊎_elim
      (λ good. absurd (found.2.broken good))
      (λ why. inr (why.0, why.1, fault_of header why.0 why.1 (found.0, found.1, found.2, why.2)))
      (good_or_why found.0 found.1))
      (each_or_first (item_count m) m.periods (IsGood m rs) good_or_not))
      (λ no. inr (Header, (λ e. cc e), no))
      (header_or_not rs)

pub records_some : RecordsMeanSomething
records_some m rs = plan_or_fault m rs

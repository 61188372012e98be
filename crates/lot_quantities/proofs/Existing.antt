-- Records are a table of quantities, or they have a fault that isn't out of memory.
use Rattle.std.proofs.Common.{◌≢◌, ◌≤◌, ◌<◌, ◌+◌, ◌*◌, ◌⊎◌, ⊎_elim, inl, inr, ℕ, refl, arith, IfNone, IfSome, List, Option, Some, None, codes, length}
use Rattle.std.specs.Str.{bytes_eq}
use Rattle.std.specs.Str.Parse.{digits_value}
use Rattle.std.proofs.lemmas.Bool.{cases_eq, cases_lt}
use Rattle.lot_sizing.specs.Problem.{Problem, item_count}
use Rattle.lot_sizing.specs.Plan.{Table}
use Rattle.csv_records.specs.Records.{Record, field, record_at}
use Rattle.plan_file.specs.Records.{number_of}
use Rattle.existence.proofs.Deciding.{Decided, all_or_first, each_or_first, lt_or_not, not_or_not, true_or_not}
use Rattle.existence.proofs.Records.{number_or_not}
use Rattle.lot_quantities.specs.Columns.{HasColumns, HasText, IsColumn, IsNoColumn, IsTwice}
use Rattle.lot_quantities.specs.Tables.{HasHeader, HasNumbers, IsGood, IsTableOf, is_row, setup_in}
use Rattle.lot_quantities.specs.Faults.{IsCellFault, IsFirstBad, IsQuantityFault, IsRecordFault}
use Rattle.lot_quantities.specs.Laws.{TablesMeanSomething}
use Rattle.lot_quantities.specs.declared.columns.Columns.{Columns}
use Rattle.lot_quantities.specs.declared.fault.QuantityFault.{QuantityFault}
use Rattle.lot_quantities.specs.declared.fault.QuantityFault.TheVariants as fault
use Rattle.lot_quantities.proofs.Bad.{bad_somewhere, first_make, first_only, first_setup}
use Rattle.lot_quantities.proofs.Named.{none_nowhere, none_twice, only, setups_twice}

-- ---- a text stands in no column, in one, or in two
abbrev Stands : Record → List ℕ → Type 0
Stands r text = IsNoColumn r text ⊎ (((c : ℕ) × IsColumn r text c) ⊎ ((c d : ℕ) × IsTwice r text c d))

has_text : (r : Record) (c : ℕ) (text : List ℕ) → ((HasText r c text → ⊥) → ⊥) → HasText r c text
has_text r c text not = ⊎_elim (λ has. has) (λ no. absurd (not no)) (true_or_not (bytes_eq (field r c) text))

later_or_not : (r : Record) (text : List ℕ) (c d : ℕ) → Decided (c < d → HasText r d text → ⊥)
later_or_not r text c d =
    ⊎_elim
    (λ less. ⊎_elim (λ has. inr (λ no. no less has)) (λ no. inl (λ _. no)) (true_or_not (bytes_eq (field r d) text)))
    (λ no. inl (λ less. absurd (no less)))
    (lt_or_not c d)

once_or_twice : (r : Record) (text : List ℕ) (c : ℕ) → 1 ≤ c → c ≤ length r → HasText r c text → ((d : ℕ) → 1 ≤ d → d < c → HasText r d text → ⊥) → Stands r text
once_or_twice r text c low high here before =
    ⊎_elim
    (λ none. inr (inl (c, only r text c (omega (arith, low)) high here (λ d d_low less has. before d (omega (arith, d_low)) less has) (λ d more less has. none d (omega (arith, more)) (omega (arith, less)) more has))))
    (λ found.
    let less : c < found.0 = ⊎_elim (λ y. y) (λ no. absurd (found.3 (λ y. absurd (no y)))) (lt_or_not c found.0) in
    inr (inr (c, found.0, record { low = low; less = less; high = found.2; here = here; there = has_text r found.0 text (λ no. found.3 (λ _. no)) })))
    (all_or_first (λ d. c < d → HasText r d text → ⊥) (later_or_not r text c) (length r))

stands : (r : Record) (text : List ℕ) → Stands r text
stands r text =
    ⊎_elim
    (λ none. inl none)
    (λ found. once_or_twice r text found.0 found.1 found.2 (has_text r found.0 text found.3) found.4)
    (all_or_first (λ c. HasText r c text → ⊥) (λ c. not_or_not (true_or_not (bytes_eq (field r c) text))) (length r))

-- ---- the first record names the columns, or it doesn't
wanted_or_not : (r : Record) (text : List ℕ) → ((c : ℕ) × IsColumn r text c) ⊎ ((c : ℕ) → IsColumn r text c → ⊥)
wanted_or_not r text =
    ⊎_elim
    (λ none. inr (λ c is. none_nowhere r text c none is))
    (λ some. ⊎_elim (λ one. inl one) (λ two. inr (λ c is. none_twice r text two.0 two.1 c two.2 is)) some)
    (stands r text)

abbrev IsChosen : Record → Option ℕ → Type 0
IsChosen r s = IfSome s (IsColumn r (codes "setup")) × IfNone s (IsNoColumn r (codes "setup"))

setups_or_not : (r : Record) → ((s : Option ℕ) × IsChosen r s) ⊎ ((k : Columns) → HasColumns r k → ⊥)
setups_or_not r =
    ⊎_elim
    (λ none. inl (None, (tt, none)))
    (λ some. ⊎_elim (λ one. inl (Some one.0, (one.1, tt))) (λ two. inr (λ k has. setups_twice r two.0 two.1 k two.2 has)) some)
    (stands r (codes "setup"))

columns_or_not : (r : Record) → ((k : Columns) × HasColumns r k) ⊎ ((k : Columns) → HasColumns r k → ⊥)
columns_or_not r =
    ⊎_elim
    (λ item. ⊎_elim
    (λ period. ⊎_elim
    (λ make. ⊎_elim
    (λ setup. inl (
      record { width = length r; item = item.0; period = period.0; make = make.0; setup = setup.0 },
      record { width = refl; item = item.1; period = period.1; make = make.1; setup = setup.1.0; no_setup = setup.1.1 },
    ))
    (λ no. inr no)
    (setups_or_not r))
    (λ no. inr (λ k has. no k.make has.make))
    (wanted_or_not r (codes "make")))
    (λ no. inr (λ k has. no k.period has.period))
    (wanted_or_not r (codes "period")))
    (λ no. inr (λ k has. no k.item has.item))
    (wanted_or_not r (codes "item"))

header_or_not : (rs : List Record) → ((k : Columns) × HasHeader rs k) ⊎ ((k : Columns) → HasHeader rs k → ⊥)
header_or_not rs =
    ⊎_elim
    (λ there. ⊎_elim (λ has. inl (has.0, record { there = there; columns = has.1 })) (λ no. inr (λ k has. no k has.columns)) (columns_or_not (record_at rs 0)))
    (λ no. inr (λ k has. no has.there))
    (lt_or_not 0 (length rs))

-- ---- a record has numbers, or a first column without one
both_or_bad : (r : Record) (make setup : ℕ) → HasNumbers r make (Some setup) ⊎ ((c : ℕ) × IsFirstBad r make (Some setup) c)
both_or_bad r make setup =
    ⊎_elim
    (λ a. ⊎_elim
    (λ b. inl (record { make = a; setup = b }))
    (λ no. inr (setup, first_setup r make setup no (λ _. a)))
    (number_or_not (field r setup)))
    (λ no. ⊎_elim
    (λ b. inr (make, first_make r make setup no (λ _. b)))
    (λ other. ⊎_elim
    (λ less. inr (setup, first_setup r make setup other (λ more. absurd (omega (arith, less, more)))))
    (λ le. inr (make, first_make r make setup no (λ more. absurd (omega (arith, le, more)))))
    (cases_lt setup make))
    (number_or_not (field r setup)))
    (number_or_not (field r make))

numbers_or_bad : (r : Record) (make : ℕ) (setup : Option ℕ) → HasNumbers r make setup ⊎ ((c : ℕ) × IsFirstBad r make setup c)
numbers_or_bad r make (Some setup) = both_or_bad r make setup
numbers_or_bad r make None = ⊎_elim (λ a. inl (record { make = a; setup = tt })) (λ no. inr (make, first_only r make no)) (number_or_not (field r make))

-- ---- and so all records
module _ (m : Problem) (rs : List Record) (k : Columns) where
  -- the record of an item and a period is good, or there is a fault for which it isn't
  good_or_why : (i t : ℕ) → IsGood m rs k i t ⊎ ((f : QuantityFault) × (f ≢ fault.Memory) × IsRecordFault m rs k i t f × (IsGood m rs k i t → ⊥))
  good_or_why i t =
      let r = record_at rs (number_of m i t) in
      ⊎_elim
      (λ there. ⊎_elim
      (λ row. ⊎_elim
      (λ numbers. inl (record { there = there; row = row; numbers = numbers }))
      (λ bad. inr (fault.Number (number_of m i t) bad.0, (λ e. cc e), (refl, there, row, bad.1), λ good. bad_somewhere r k.make k.setup bad.0 bad.1 good.numbers))
      (numbers_or_bad r k.make k.setup))
      (λ no. inr (fault.Row (number_of m i t), (λ e. cc e), (refl, there, no), λ good. no good.row))
      (true_or_not (is_row m k i t r)))
      (λ no. inr (fault.RowCount, (λ e. cc e), no, λ good. no good.there))
      (lt_or_not (number_of m i t) (length rs))

  good_or_not : (i t : ℕ) → Decided (IsGood m rs k i t)
  good_or_not i t = ⊎_elim (λ good. inl good) (λ why. inr why.3) (good_or_why i t)

  fault_of : HasHeader rs k → (f : QuantityFault) → f ≢ fault.Memory → IsCellFault m rs k f → IsQuantityFault m rs f
  fault_of header fault.Header apart cell = absurd cell.3
  fault_of header fault.RowCount apart cell = inl (k, header, cell)
  fault_of header (fault.Row n) apart cell = (k, header, cell)
  fault_of header (fault.Number n c) apart cell = (k, header, cell)
  fault_of header fault.Memory apart cell = tt

  abbrev made : Table
  made i t = digits_value 10 (field (record_at rs (number_of m i t)) k.make)

  abbrev set_up : Table
  set_up i t = setup_in (record_at rs (number_of m i t)) (made i t) k.setup

  under_header : HasHeader rs k → ((make setup : Table) × IsTableOf m rs make setup) ⊎ ((f : QuantityFault) × (f ≢ fault.Memory) × IsQuantityFault m rs f)
  under_header header =
      ⊎_elim
      (λ good. ⊎_elim
      (λ count. inl (
        made,
        set_up,
        record {
          columns = k;
          header = header;
          count = count;
          each = λ i t low high t_low t_high. (good i t low high t_low t_high, record { make = refl; setup = refl });
        },
      ))
      (λ no. inr (fault.RowCount, (λ e. cc e), inr (k, header, record { good = good; more = no })))
      (cases_eq (length rs) (item_count m * m.periods + 1)))
      (λ found. ⊎_elim
      (λ good. absurd (found.2.broken good))
      (λ why. inr (why.0, why.1, fault_of header why.0 why.1 (found.0, found.1, found.2, why.2)))
      (good_or_why found.0 found.1))
      (each_or_first (item_count m) m.periods (IsGood m rs k) good_or_not)

pub tables_some : TablesMeanSomething
tables_some m rs = ⊎_elim (λ header. under_header m rs header.0 header.1) (λ no. inr (fault.Header, (λ e. cc e), no)) (header_or_not rs)

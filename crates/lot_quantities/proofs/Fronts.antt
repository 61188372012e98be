-- What holds of the first records holds of all.
use Rattle.std.proofs.Common.{◌≡◌, ◌≢◌, ◌≤◌, ◌<◌, ◌+◌, ◌*◌, inl, inr, ℕ, List, take, length, sym, subst, arith, IsTrue}
use Rattle.lot_sizing.specs.Problem.{Problem, item_count}
use Rattle.plan_rules.specs.Cells.{table_of}
use Rattle.plan_rules.specs.Order.{IsFirst}
use Rattle.csv_records.specs.Records.{Record}
use Rattle.plan_file.specs.Records.{number_of}
use Rattle.csv_records.proofs.Fronts.{IsFront, count_all, count_front, front}
use Rattle.plan_file.proofs.Fronts.{number_small}
use Rattle.lot_quantities.specs.Columns.{HasColumns}
use Rattle.lot_quantities.specs.Tables.{AreNumbersOf, HasHeader, HasNumbers, IsGood, IsTableOf, is_row}
use Rattle.lot_quantities.specs.Numbers.{AreRead}
use Rattle.lot_quantities.specs.Faults.{IsCellFault, IsFirstBad, IsQuantityFault, IsRecordFault}
use Rattle.lot_quantities.specs.declared.columns.Columns.{Columns}
use Rattle.lot_quantities.specs.declared.quantities.Quantities.{Quantities}
use Rattle.lot_quantities.specs.declared.fault.QuantityFault.{QuantityFault}
use Rattle.lot_quantities.specs.declared.fault.QuantityFault.TheVariants as fault

good_all : (m : Problem) (n : ℕ) (rs all : List Record) (k : Columns) → IsFront n rs all → n ≡ item_count m * m.periods + 2 → (i t : ℕ) → 1 ≤ i → i ≤ item_count m → 1 ≤ t → t ≤ m.periods → IsGood m rs k i t → IsGood m all k i t
good_all m n rs all k fr size i t low high t_low t_high good =
    let at = number_of m i t in
    let small : at < n = omega (arith, number_small m i t high t_low t_high low, size) in
    record { there = fr.there at small good.there; row = subst (λ r. IsTrue (is_row m k i t r)) (fr.same at small) good.row; numbers = subst (λ r. HasNumbers r k.make k.setup) (fr.same at small) good.numbers }

good_front : (m : Problem) (n : ℕ) (rs all : List Record) (k : Columns) → IsFront n rs all → n ≡ item_count m * m.periods + 2 → (i t : ℕ) → 1 ≤ i → i ≤ item_count m → 1 ≤ t → t ≤ m.periods → IsGood m all k i t → IsGood m rs k i t
good_front m n rs all k fr size i t low high t_low t_high good =
    let at = number_of m i t in
    let small : at < n = omega (arith, number_small m i t high t_low t_high low, size) in
    record { there = fr.back at small good.there; row = subst (λ r. IsTrue (is_row m k i t r)) (sym (fr.same at small)) good.row; numbers = subst (λ r. HasNumbers r k.make k.setup) (sym (fr.same at small)) good.numbers }

fault_all : (m : Problem) (n : ℕ) (rs all : List Record) (k : Columns) → IsFront n rs all → (i t : ℕ) → number_of m i t < n → (f : QuantityFault) → IsRecordFault m rs k i t f → IsRecordFault m all k i t f
fault_all m n rs all k fr i t small fault.Header x = x
fault_all m n rs all k fr i t small fault.RowCount x = λ h. x (fr.back (number_of m i t) small h)
fault_all m n rs all k fr i t small (fault.Row j) x =
    (x.0, fr.there (number_of m i t) small x.1, λ yes. x.2 (subst (λ r. IsTrue (is_row m k i t r)) (sym (fr.same (number_of m i t) small)) yes))
fault_all m n rs all k fr i t small (fault.Number j c) x =
    (x.0, fr.there (number_of m i t) small x.1, subst (λ r. IsTrue (is_row m k i t r)) (fr.same (number_of m i t) small) x.2, subst (λ r. IsFirstBad r k.make k.setup c) (fr.same (number_of m i t) small) x.3)
fault_all m n rs all k fr i t small fault.Memory x = x

first_all : (m : Problem) (n : ℕ) (rs all : List Record) (k : Columns) → IsFront n rs all → n ≡ item_count m * m.periods + 2 → (i t : ℕ) → IsFirst (item_count m) m.periods (IsGood m rs k) i t → IsFirst (item_count m) m.periods (IsGood m all k) i t
first_all m n rs all k fr size i t first = record {
  row_low = first.row_low;
  row_high = first.row_high;
  column_low = first.column_low;
  column_high = first.column_high;
  broken = λ good. first.broken (good_front m n rs all k fr size i t first.row_low first.row_high first.column_low first.column_high good);
  before = λ j u low high u_low u_high earlier. good_all m n rs all k fr size j u low high u_low u_high (first.before j u low high u_low u_high earlier);
}

cell_all : (m : Problem) (n : ℕ) (rs all : List Record) (k : Columns) → IsFront n rs all → n ≡ item_count m * m.periods + 2 → (f : QuantityFault) → IsCellFault m rs k f → IsCellFault m all k f
cell_all m n rs all k fr size f (i, t, first, fault) =
    (i, t, first_all m n rs all k fr size i t first, fault_all m n rs all k fr i t (omega (arith, number_small m i t first.row_high first.column_low first.column_high first.row_low, size)) f fault)

header_all : (n : ℕ) (rs all : List Record) (k : Columns) → IsFront n rs all → 0 < n → HasHeader rs k → HasHeader all k
header_all n rs all k fr some h = record { there = fr.there 0 some h.there; columns = subst (λ r. HasColumns r k) (fr.same 0 some) h.columns }

header_front : (n : ℕ) (rs all : List Record) (k : Columns) → IsFront n rs all → 0 < n → HasHeader all k → HasHeader rs k
header_front n rs all k fr some h = record { there = fr.back 0 some h.there; columns = subst (λ r. HasColumns r k) (sym (fr.same 0 some)) h.columns }

-- where the first records have no header all have none
pub no_header : (m : Problem) (n : ℕ) (rs all : List Record) → rs ≡ take n all → n ≡ item_count m * m.periods + 2 → ((k : Columns) → HasHeader rs k → ⊥) → IsQuantityFault m all fault.Header
no_header m n rs all is size none k h = none k (header_front n rs all k (front n rs all is) (omega (arith, size)) h)

-- what stops the reading of the first records stops that of all
pub rows_fault : (m : Problem) (n : ℕ) (rs all : List Record) (k : Columns) → rs ≡ take n all → n ≡ item_count m * m.periods + 2 → HasHeader rs k → (f : QuantityFault) → IsCellFault m rs k f → IsQuantityFault m all f
rows_fault m n rs all k is size header fault.Header (i, t, first, wrong) = absurd wrong
rows_fault m n rs all k is size header fault.RowCount x = inl (k, header_all n rs all k (front n rs all is) (omega (arith, size)) header, cell_all m n rs all k (front n rs all is) size fault.RowCount x)
rows_fault m n rs all k is size header (fault.Row j) x = (k, header_all n rs all k (front n rs all is) (omega (arith, size)) header, cell_all m n rs all k (front n rs all is) size (fault.Row j) x)
rows_fault m n rs all k is size header (fault.Number j c) x = (k, header_all n rs all k (front n rs all is) (omega (arith, size)) header, cell_all m n rs all k (front n rs all is) size (fault.Number j c) x)
rows_fault m n rs all k is size header fault.Memory (i, t, first, wrong) = absurd wrong

-- all records are read, and too many are there
pub more_fault : (m : Problem) (n : ℕ) (rs all : List Record) (k : Columns) (q : Quantities) → rs ≡ take n all → n ≡ item_count m * m.periods + 2 → HasHeader rs k → AreRead m rs k q → length rs ≢ item_count m * m.periods + 1 → IsQuantityFault m all fault.RowCount
more_fault m n rs all k q is size header read other =
    let fr = front n rs all is in
    inr (
      k,
      header_all n rs all k fr (omega (arith, size)) header,
      record {
        good = λ i t low high t_low t_high. good_all m n rs all k fr size i t low high t_low t_high (read i t low high t_low t_high).0;
        more = λ count. other (count_front n (item_count m * m.periods + 1) rs all fr (omega arith) (omega (arith, size)) count);
      },
    )

-- all records are read, and no others are there
pub table_read : (m : Problem) (n : ℕ) (rs all : List Record) (k : Columns) (q : Quantities) → rs ≡ take n all → n ≡ item_count m * m.periods + 2 → HasHeader rs k → AreRead m rs k q → length rs ≡ item_count m * m.periods + 1 → IsTableOf m all (table_of q.make) (table_of q.setup)
table_read m n rs all k q is size header read count =
    let fr = front n rs all is in
    record {
      columns = k;
      header = header_all n rs all k fr (omega (arith, size)) header;
      count = count_all n (item_count m * m.periods + 1) rs all fr (omega arith) (omega (arith, size)) count;
      each = λ i t low high t_low t_high.
          let here = read i t low high t_low t_high in
          (good_all m n rs all k fr size i t low high t_low t_high here.0, subst (λ r. AreNumbersOf r k (table_of q.make) (table_of q.setup) i t) (fr.same (number_of m i t) (omega (arith, number_small m i t high t_low t_high low, size))) here.1);
    }

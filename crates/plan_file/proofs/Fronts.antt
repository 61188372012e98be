-- What holds of the first records holds of all.
use Rattle.std.proofs.Common.{◌≡◌, ◌≢◌, ◌≤◌, ◌<◌, ◌+◌, ◌-◌, ◌*◌, inl, inr, ℕ, List, take, length, sym, subst, arith, IsTrue}
use Rattle.std.proofs.Math.Nat.{mul-le-mul_right}
use Rattle.lot_sizing.specs.Problem.{Problem, item_count}
use Rattle.lot_sizing.specs.Plan.{EachCell, Plan}
use Rattle.plan_rules.specs.Order.{IsFirst}
use Rattle.csv_records.specs.Records.{Record}
use Rattle.csv_records.proofs.Fronts.{IsFront, count_all, count_front, front}
use Rattle.plan_file.specs.Records.{AreNumbersOf, HasHeader, HasNumbers, IsGood, IsPlanOf, IsRead, is_header, is_row, number_of}
use Rattle.plan_file.specs.Faults.{IsCellFault, IsFirstBad, IsPlanFault, IsRecordFault}
use Rattle.plan_file.specs.declared.fault.PlanFault.{PlanFault}
use Rattle.plan_file.specs.declared.fault.PlanFault.TheVariants as fault

-- the records of a plan stand before these
pub number_small : (m : Problem) (i t : ℕ) → i ≤ item_count m → 1 ≤ t → t ≤ m.periods → 1 ≤ i → number_of m i t < item_count m * m.periods + 2
number_small m i t high t_low t_high low =
    let e : i ≡ i - 1 + 1 = omega (arith, low) in
    let rows : (i - 1 + 1) * m.periods ≤ item_count m * m.periods = mul-le-mul_right m.periods (omega (arith, low, high)) in
    omega (arith, rows, t_low, t_high)

good_all : (m : Problem) (n : ℕ) (rs all : List Record) → IsFront n rs all → n ≡ item_count m * m.periods + 2 → (i t : ℕ) → 1 ≤ i → i ≤ item_count m → 1 ≤ t → t ≤ m.periods → IsGood m rs i t → IsGood m all i t
good_all m n rs all fr size i t low high t_low t_high good =
    let k = number_of m i t in
    let small : k < n = omega (arith, number_small m i t high t_low t_high low, size) in
    record { there = fr.there k small good.there; row = subst (λ r. IsTrue (is_row m i t r)) (fr.same k small) good.row; numbers = subst HasNumbers (fr.same k small) good.numbers }

good_front : (m : Problem) (n : ℕ) (rs all : List Record) → IsFront n rs all → n ≡ item_count m * m.periods + 2 → (i t : ℕ) → 1 ≤ i → i ≤ item_count m → 1 ≤ t → t ≤ m.periods → IsGood m all i t → IsGood m rs i t
good_front m n rs all fr size i t low high t_low t_high good =
    let k = number_of m i t in
    let small : k < n = omega (arith, number_small m i t high t_low t_high low, size) in
    record { there = fr.back k small good.there; row = subst (λ r. IsTrue (is_row m i t r)) (sym (fr.same k small)) good.row; numbers = subst HasNumbers (sym (fr.same k small)) good.numbers }

fault_all : (m : Problem) (n : ℕ) (rs all : List Record) → IsFront n rs all → (i t : ℕ) → number_of m i t < n → (f : PlanFault) → IsRecordFault m rs i t f → IsRecordFault m all i t f
fault_all m n rs all fr i t small fault.Header x = x
fault_all m n rs all fr i t small fault.RowCount x = λ h. x (fr.back (number_of m i t) small h)
fault_all m n rs all fr i t small (fault.Row k) x =
    (x.0, fr.there (number_of m i t) small x.1, λ yes. x.2 (subst (λ r. IsTrue (is_row m i t r)) (sym (fr.same (number_of m i t) small)) yes))
fault_all m n rs all fr i t small (fault.Number k c) x =
    (x.0, fr.there (number_of m i t) small x.1, subst (λ r. IsTrue (is_row m i t r)) (fr.same (number_of m i t) small) x.2, subst (λ r. IsFirstBad r c) (fr.same (number_of m i t) small) x.3)
fault_all m n rs all fr i t small fault.Memory x = x

first_all : (m : Problem) (n : ℕ) (rs all : List Record) → IsFront n rs all → n ≡ item_count m * m.periods + 2 → (i t : ℕ) → IsFirst (item_count m) m.periods (IsGood m rs) i t → IsFirst (item_count m) m.periods (IsGood m all) i t
first_all m n rs all fr size i t first = record {
  row_low = first.row_low;
  row_high = first.row_high;
  column_low = first.column_low;
  column_high = first.column_high;
  broken = λ good. first.broken (good_front m n rs all fr size i t first.row_low first.row_high first.column_low first.column_high good);
  before = λ j u low high u_low u_high earlier. good_all m n rs all fr size j u low high u_low u_high (first.before j u low high u_low u_high earlier);
}

cell_all : (m : Problem) (n : ℕ) (rs all : List Record) → IsFront n rs all → n ≡ item_count m * m.periods + 2 → (f : PlanFault) → IsCellFault m rs f → IsCellFault m all f
cell_all m n rs all fr size f (i, t, first, fault) =
    (i, t, first_all m n rs all fr size i t first, fault_all m n rs all fr i t (omega (arith, number_small m i t first.row_high first.column_low first.column_high first.row_low, size)) f fault)

header_all : (n : ℕ) (rs all : List Record) → IsFront n rs all → 0 < n → HasHeader rs → HasHeader all
header_all n rs all fr some h = record { there = fr.there 0 some h.there; header = subst (λ r. IsTrue (is_header r)) (fr.same 0 some) h.header }

-- what stops the reading of the first records stops that of all
pub rows_fault : (m : Problem) (n : ℕ) (rs all : List Record) → rs ≡ take n all → n ≡ item_count m * m.periods + 2 → HasHeader rs → (f : PlanFault) → IsCellFault m rs f → IsPlanFault m all f
rows_fault m n rs all is size header fault.Header (i, t, first, wrong) = absurd wrong
rows_fault m n rs all is size header fault.RowCount x = (header_all n rs all (front n rs all is) (omega (arith, size)) header, inl (cell_all m n rs all (front n rs all is) size fault.RowCount x))
rows_fault m n rs all is size header (fault.Row k) x = (header_all n rs all (front n rs all is) (omega (arith, size)) header, cell_all m n rs all (front n rs all is) size (fault.Row k) x)
rows_fault m n rs all is size header (fault.Number k c) x = (header_all n rs all (front n rs all is) (omega (arith, size)) header, cell_all m n rs all (front n rs all is) size (fault.Number k c) x)
rows_fault m n rs all is size header fault.Memory (i, t, first, wrong) = absurd wrong

-- all records are read, and too many or too few are there
pub more_fault : (m : Problem) (n : ℕ) (rs all : List Record) (p : Plan) → rs ≡ take n all → n ≡ item_count m * m.periods + 2 → HasHeader rs → EachCell m (IsRead m rs p) → length rs ≢ item_count m * m.periods + 1 → IsPlanFault m all fault.RowCount
more_fault m n rs all p is size header read other =
    let fr = front n rs all is in (
      header_all n rs all fr (omega (arith, size)) header,
      inr (record {
        good = λ i t low high t_low t_high. good_all m n rs all fr size i t low high t_low t_high (read i t low high t_low t_high).0;
        more = λ count. other (count_front n (item_count m * m.periods + 1) rs all fr (omega arith) (omega (arith, size)) count);
      }),
    )

-- all records are read, and no others are there
pub plan_read : (m : Problem) (n : ℕ) (rs all : List Record) (p : Plan) → rs ≡ take n all → n ≡ item_count m * m.periods + 2 → HasHeader rs → EachCell m (IsRead m rs p) → length rs ≡ item_count m * m.periods + 1 → IsPlanOf m all p
plan_read m n rs all p is size header read count =
    let fr = front n rs all is in
    record {
      header = header_all n rs all fr (omega (arith, size)) header;
      count = count_all n (item_count m * m.periods + 1) rs all fr (omega arith) (omega (arith, size)) count;
      each = λ i t low high t_low t_high.
          let here = read i t low high t_low t_high in
          (good_all m n rs all fr size i t low high t_low t_high here.0, subst (λ r. AreNumbersOf r p i t) (fr.same (number_of m i t) (omega (arith, number_small m i t high t_low t_high low, size))) here.1);
    }

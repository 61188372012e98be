-- Records as they are read into grids, item by item.
use Rattle.std.proofs.Common.{◌≡◌, ◌≢◌, ◌≤◌, ◌<◌, ◌+◌, ◌∙◌, ◌⊎◌, ⊎_elim, inl, inr, ℕ, ap, sym, subst, arith, List}
use Rattle.std.proofs.lemmas.Bool.{cases_lt}
use Rattle.lot_sizing.specs.Problem.{Problem, item_count}
use Rattle.plan_rules.specs.Order.{IsBefore, IsFirst}
use Rattle.csv_records.specs.Records.{Record, record_at}
use Rattle.plan_file.specs.Records.{number_of}
use Rattle.lot_quantities.specs.Tables.{IsGood, setup_in}
use Rattle.lot_quantities.specs.Numbers.{AreReadBefore, AreSame, IsPutFrom, IsReadInto}
use Rattle.lot_quantities.specs.Faults.{IsCellFault, IsRecordFault}
use Rattle.lot_quantities.specs.declared.columns.Columns.{Columns}
use Rattle.lot_quantities.specs.declared.quantities.Quantities.{Quantities}
use Rattle.lot_quantities.specs.declared.fault.QuantityFault.{QuantityFault}
use Rattle.lot_quantities.specs.declared.fault.QuantityFault.TheVariants as fault
use Rattle.lot_quantities.proofs.Bad.{bad_somewhere}

-- what was read of a cell stays where the grids stay
kept : (m : Problem) (rs : List Record) (k : Columns) (p q : Quantities) (i t : ℕ) → IsReadInto m rs k p i t → AreSame p q i t → IsReadInto m rs k q i t
kept m rs k p q i t (good, numbers) same =
    (good, record { make = same.make ∙ numbers.make; setup = same.setup ∙ numbers.setup ∙ ap (λ y. setup_in (record_at rs (number_of m i t)) y k.setup) (sym same.make) })

-- a place before the next period is before this one, or this one
before_next : (j u i t : ℕ) → IsBefore j u i (t + 1) → IsBefore j u i t ⊎ ((j ≡ i) × (u ≡ t))
before_next j u i t before =
    ⊎_elim
    (λ row. inl (inl row))
    (λ same. ⊎_elim (λ less. inl (inr (same.0, less))) (λ no. inr (same.0, omega (arith, no, same.1))) (cases_lt u t))
    before

apart : (j u i t : ℕ) → IsBefore j u i t → (j ≢ i) ⊎ (u ≢ t)
apart j u i t before = ⊎_elim (λ row. inl (λ e. omega (arith, e, row))) (λ same. inr (λ e. omega (arith, e, same.1))) before

-- one record more is read
pub read_next : (m : Problem) (rs : List Record) (k : Columns) (p q : Quantities) (i t : ℕ) → AreReadBefore m rs k p i t → IsPutFrom m rs k p q i t → AreReadBefore m rs k q i (t + 1)
read_next m rs k p q i t so_far put j u low high u_low u_high before =
    ⊎_elim
    (λ earlier. kept m rs k p q j u (so_far j u low high u_low u_high earlier) (put.others j u low high u_low u_high (apart j u i t earlier)))
    (λ here. subst (λ a. IsReadInto m rs k q a u) (sym here.0) (subst (IsReadInto m rs k q i) (sym here.1) put.read))
    (before_next j u i t before)

-- the next item begins
pub read_item : (m : Problem) (rs : List Record) (k : Columns) (p : Quantities) (i t : ℕ) → AreReadBefore m rs k p i t → m.periods < t → AreReadBefore m rs k p (i + 1) 1
read_item m rs k p i t so_far past j u low high u_low u_high before =
    so_far j u low high u_low u_high (⊎_elim (λ row. ⊎_elim (λ less. inl less) (λ no. inr (omega (arith, no, row), omega (arith, u_high, past))) (cases_lt j i)) (λ same. absurd (omega (arith, same.1, u_low))) before)

-- the first record that isn't good, where all before it were read
first : (m : Problem) (rs : List Record) (k : Columns) (p : Quantities) (i t : ℕ) → 1 ≤ i → i ≤ item_count m → 1 ≤ t → t ≤ m.periods → AreReadBefore m rs k p i t → (IsGood m rs k i t → ⊥) → IsFirst (item_count m) m.periods (IsGood m rs k) i t
first m rs k p i t low high t_low t_high so_far broken = record {
  row_low = low;
  row_high = high;
  column_low = t_low;
  column_high = t_high;
  broken = broken;
  before = λ j u j_low j_high u_low u_high before. (so_far j u j_low j_high u_low u_high before).0;
}

-- why the records aren't all read
pub stopped : (m : Problem) (rs : List Record) (k : Columns) (p : Quantities) (i t : ℕ) (f : QuantityFault) → 1 ≤ i → i ≤ item_count m → 1 ≤ t → t ≤ m.periods → AreReadBefore m rs k p i t → IsRecordFault m rs k i t f → IsCellFault m rs k f
stopped m rs k p i t fault.Header low high t_low t_high so_far x = absurd x
stopped m rs k p i t fault.RowCount low high t_low t_high so_far x = (i, t, first m rs k p i t low high t_low t_high so_far (λ good. x good.there), x)
stopped m rs k p i t (fault.Row n) low high t_low t_high so_far x = (i, t, first m rs k p i t low high t_low t_high so_far (λ good. x.2 good.row), x)
stopped m rs k p i t (fault.Number n c) low high t_low t_high so_far x = (i, t, first m rs k p i t low high t_low t_high so_far (λ good. bad_somewhere (record_at rs (number_of m i t)) k.make k.setup c x.3 good.numbers), x)
stopped m rs k p i t fault.Memory low high t_low t_high so_far x = absurd x

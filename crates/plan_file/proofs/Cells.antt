-- Records as they are read into a plan, item by item.
use Rattle.std.proofs.Common.{◌≡◌, ◌≢◌, ◌≤◌, ◌<◌, ◌+◌, ◌∙◌, ◌⊎◌, ⊎_elim, inl, inr, ℕ, sym, subst, arith, List}
use Rattle.std.proofs.lemmas.Bool.{cases_lt}
use Rattle.lot_sizing.specs.Problem.{Problem, item_count}
use Rattle.lot_sizing.specs.Plan.{Plan}
use Rattle.plan_rules.specs.Order.{HoldsBefore, IsBefore, IsFirst}
use Rattle.csv_records.specs.Records.{Record}
use Rattle.plan_file.specs.Records.{IsGood, IsRead, field_number}
use Rattle.plan_file.specs.Numbers.{AreSame, IsPutFrom}
use Rattle.plan_file.specs.Faults.{IsRecordFault, IsCellFault}
use Rattle.plan_file.specs.declared.fault.PlanFault.{PlanFault}
use Rattle.plan_file.specs.declared.fault.PlanFault.TheVariants as fault
use Rattle.plan_file.proofs.Fields.{field_high, field_low}

-- what was read of a cell stays where the plan stays
kept : (m : Problem) (rs : List Record) (p q : Plan) (i t : ℕ) → IsRead m rs p i t → AreSame p q i t → IsRead m rs q i t
kept m rs p q i t (good, numbers) same = (
  good,
  record {
    make = same.make ∙ numbers.make;
    setup = same.setup ∙ numbers.setup;
    stock = same.stock ∙ numbers.stock;
    backlog = same.backlog ∙ numbers.backlog;
  },
)

-- a place before the next period is before this one, or this one
before_next : (j u i t : ℕ) → IsBefore j u i (t + 1) → IsBefore j u i t ⊎ ((j ≡ i) × (u ≡ t))
before_next j u i t before =
    ⊎_elim
    (λ row. inl (inl row))
    (λ same. ⊎_elim (λ less. inl (inr (same.0, less))) (λ no. inr (same.0, omega (arith, no, same.1))) (cases_lt u t))
    before

apart : (j u i t : ℕ) → IsBefore j u i t → (j ≢ i) ⊎ (u ≢ t)
apart j u i t before = ⊎_elim (λ row. inl (λ e. omega (arith, e, row))) (λ same. inr (λ e. omega (arith, e, same.1))) before

-- one record more is read
pub read_next : (m : Problem) (rs : List Record) (p q : Plan) (i t : ℕ) → HoldsBefore (item_count m) m.periods (IsRead m rs p) i t → IsPutFrom m rs p q i t → HoldsBefore (item_count m) m.periods (IsRead m rs q) i (t + 1)
read_next m rs p q i t so_far put j u low high u_low u_high before =
    ⊎_elim
    (λ earlier. kept m rs p q j u (so_far j u low high u_low u_high earlier) (put.others j u low high u_low u_high (apart j u i t earlier)))
    (λ here. subst (λ k. IsRead m rs q k u) (sym here.0) (subst (IsRead m rs q i) (sym here.1) put.read))
    (before_next j u i t before)

-- the next item begins
pub read_item : (m : Problem) (rs : List Record) (p : Plan) (i t : ℕ) → HoldsBefore (item_count m) m.periods (IsRead m rs p) i t → m.periods < t → HoldsBefore (item_count m) m.periods (IsRead m rs p) (i + 1) 1
read_item m rs p i t so_far past j u low high u_low u_high before =
    so_far j u low high u_low u_high (⊎_elim (λ row. ⊎_elim (λ less. inl less) (λ no. inr (omega (arith, no, row), omega (arith, u_high, past))) (cases_lt j i)) (λ same. absurd (omega (arith, same.1, u_low))) before)

-- what was read is good
pub good_before : (m : Problem) (rs : List Record) (p : Plan) (i t : ℕ) → HoldsBefore (item_count m) m.periods (IsRead m rs p) i t → HoldsBefore (item_count m) m.periods (IsGood m rs) i t
good_before m rs p i t so_far j u low high u_low u_high before = (so_far j u low high u_low u_high before).0

first : (m : Problem) (rs : List Record) (p : Plan) (i t : ℕ) → 1 ≤ i → i ≤ item_count m → 1 ≤ t → t ≤ m.periods → HoldsBefore (item_count m) m.periods (IsRead m rs p) i t → (IsGood m rs i t → ⊥) → IsFirst (item_count m) m.periods (IsGood m rs) i t
first m rs p i t low high t_low t_high so_far broken = record { row_low = low; row_high = high; column_low = t_low; column_high = t_high; broken = broken; before = good_before m rs p i t so_far }

-- why the records aren't all read
pub stopped : (m : Problem) (rs : List Record) (p : Plan) (i t : ℕ) (f : PlanFault) → 1 ≤ i → i ≤ item_count m → 1 ≤ t → t ≤ m.periods → HoldsBefore (item_count m) m.periods (IsRead m rs p) i t → IsRecordFault m rs i t f → IsCellFault m rs f
stopped m rs p i t fault.Header low high t_low t_high so_far x = absurd x
stopped m rs p i t fault.RowCount low high t_low t_high so_far x = (i, t, first m rs p i t low high t_low t_high so_far (λ good. x good.there), x)
stopped m rs p i t (fault.Row n) low high t_low t_high so_far x = (i, t, first m rs p i t low high t_low t_high so_far (λ good. x.2 good.row), x)
stopped m rs p i t (fault.Number n c) low high t_low t_high so_far x = (i, t, first m rs p i t low high t_low t_high so_far (λ good. x.3.bad (good.numbers (field_number c) (field_low c) (field_high c))), x)
stopped m rs p i t fault.Memory low high t_low t_high so_far x = absurd x

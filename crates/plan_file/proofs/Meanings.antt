-- What the records of a plan file mean is one thing.
use Rattle.std.proofs.Common.{◌≡◌, ◌≢◌, ◌<◌, ◌∙◌, ◌⊎◌, ⊎_elim, inl, inr, ℕ, refl, sym, ap, subst, arith, List}
use Rattle.std.proofs.lemmas.Bool.{cases_lt}
use Rattle.lot_sizing.specs.Problem.{Problem, item_count}
use Rattle.lot_sizing.specs.Plan.{Plan, EachCell}
use Rattle.plan_rules.specs.Order.{IsFirst}
use Rattle.csv_records.specs.Records.{Record, record_at}
use Rattle.plan_file.specs.Records.{HasHeader, IsGood, IsPlanOf, field_number, number_of}
use Rattle.plan_file.specs.Faults.{HasMore, IsCellFault, IsFirstBad, IsPlanFault, IsRecordFault}
use Rattle.plan_file.specs.Laws.{HaveSame, RecordsMeanOneThing}
use Rattle.plan_file.specs.declared.fault.NumberField.{NumberField}
use Rattle.plan_file.specs.declared.fault.PlanFault.{PlanFault}
use Rattle.plan_file.specs.declared.fault.PlanFault.TheVariants as fault
use Rattle.plan_file.proofs.Fields.{field_low, one_field}

-- the first place at which a rule is broken is one place
first_row : (rows columns : ℕ) (R : ℕ → ℕ → Type 0) (i t j u : ℕ) → IsFirst rows columns R i t → IsFirst rows columns R j u → i < j → ⊥
first_row rows columns R i t j u a b less = a.broken (b.before i t a.row_low a.row_high a.column_low a.column_high (inl less))

first_column : (rows columns : ℕ) (R : ℕ → ℕ → Type 0) (i t j u : ℕ) → IsFirst rows columns R i t → IsFirst rows columns R j u → i ≡ j → t < u → ⊥
first_column rows columns R i t j u a b same less = a.broken (b.before i t a.row_low a.row_high a.column_low a.column_high (inr (same, less)))

neither : (i j : ℕ) → (i < j → ⊥) → (j < i → ⊥) → i ≡ j
neither i j a b = ⊎_elim (λ less. absurd (a less)) (λ no. ⊎_elim (λ less. absurd (b less)) (λ no2. omega (arith, no, no2)) (cases_lt j i)) (cases_lt i j)

one_place : (rows columns : ℕ) (R : ℕ → ℕ → Type 0) (i t j u : ℕ) → IsFirst rows columns R i t → IsFirst rows columns R j u → (i ≡ j) × (t ≡ u)
one_place rows columns R i t j u a b =
    let same : i ≡ j = neither i j (first_row rows columns R i t j u a b) (first_row rows columns R j u i t b a) in
    (same, neither t u (first_column rows columns R i t j u a b same) (first_column rows columns R j u i t b a (sym same)))

one_bad : (r : Record) (c d : NumberField) → IsFirstBad r c → IsFirstBad r d → c ≡ d
one_bad r c d a b =
    one_field c d
    (neither (field_number c) (field_number d)
    (λ less. a.bad (b.before (field_number c) (field_low c) less))
    (λ less. b.bad (a.before (field_number d) (field_low d) less)))

-- so is the fault of its record
one_record : (m : Problem) (rs : List Record) (i t : ℕ) (f g : PlanFault) → f ≢ fault.Memory → g ≢ fault.Memory → IsRecordFault m rs i t f → IsRecordFault m rs i t g → f ≡ g
one_record m rs i t fault.Header g f_some g_some a b = absurd a
one_record m rs i t fault.Memory g f_some g_some a b = absurd (f_some refl)
one_record m rs i t fault.RowCount fault.Header f_some g_some a b = absurd b
one_record m rs i t fault.RowCount fault.RowCount f_some g_some a b = refl
one_record m rs i t fault.RowCount (fault.Row k) f_some g_some a b = absurd (a b.1)
one_record m rs i t fault.RowCount (fault.Number k d) f_some g_some a b = absurd (a b.1)
one_record m rs i t fault.RowCount fault.Memory f_some g_some a b = absurd (g_some refl)
one_record m rs i t (fault.Row n) fault.Header f_some g_some a b = absurd b
one_record m rs i t (fault.Row n) fault.RowCount f_some g_some a b = absurd (b a.1)
one_record m rs i t (fault.Row n) (fault.Row k) f_some g_some a b = ap fault.Row (a.0 ∙ sym b.0)
one_record m rs i t (fault.Row n) (fault.Number k d) f_some g_some a b = absurd (a.2 b.2)
one_record m rs i t (fault.Row n) fault.Memory f_some g_some a b = absurd (g_some refl)
one_record m rs i t (fault.Number n c) fault.Header f_some g_some a b = absurd b
one_record m rs i t (fault.Number n c) fault.RowCount f_some g_some a b = absurd (b a.1)
one_record m rs i t (fault.Number n c) (fault.Row k) f_some g_some a b = absurd (b.2 a.2)
one_record m rs i t (fault.Number n c) (fault.Number k d) f_some g_some a b =
    ap (λ x. fault.Number x c) (a.0 ∙ sym b.0) ∙ ap (fault.Number k) (one_bad (record_at rs (number_of m i t)) c d a.3 b.3)
one_record m rs i t (fault.Number n c) fault.Memory f_some g_some a b = absurd (g_some refl)

one_cell : (m : Problem) (rs : List Record) (f g : PlanFault) → f ≢ fault.Memory → g ≢ fault.Memory → IsCellFault m rs f → IsCellFault m rs g → f ≡ g
one_cell m rs f g f_some g_some (i, t, a, x) (j, u, b, y) =
    let (rows, columns) = one_place (item_count m) m.periods (IsGood m rs) i t j u a b in
    one_record m rs i t f g f_some g_some x (subst (λ k. IsRecordFault m rs k t g) (sym rows) (subst (λ k. IsRecordFault m rs j k g) (sym columns) y))

-- no header, the first record that isn't good, or too many
abbrev IsKind : Problem → List Record → PlanFault → Type 0
IsKind m rs f = ((f ≡ fault.Header) × (HasHeader rs → ⊥)) ⊎ (HasHeader rs × (IsCellFault m rs f ⊎ ((f ≡ fault.RowCount) × HasMore m rs)))

kind_of : (m : Problem) (rs : List Record) (f : PlanFault) → f ≢ fault.Memory → IsPlanFault m rs f → IsKind m rs f
kind_of m rs fault.Header some x = inl (refl, x)
kind_of m rs fault.RowCount some x = inr (x.0, ⊎_elim (λ cell. inl cell) (λ more. inr (refl, more)) x.1)
kind_of m rs (fault.Row n) some x = inr (x.0, inl x.1)
kind_of m rs (fault.Number n c) some x = inr (x.0, inl x.1)
kind_of m rs fault.Memory some x = absurd (some refl)

-- a record that isn't good, and all of them good
not_both : (m : Problem) (rs : List Record) (f : PlanFault) → IsCellFault m rs f → EachCell m (IsGood m rs) → ⊥
not_both m rs f (i, t, first, x) good = first.broken (good i t first.row_low first.row_high first.column_low first.column_high)

one_fault : (m : Problem) (rs : List Record) (f g : PlanFault) → f ≢ fault.Memory → g ≢ fault.Memory → IsPlanFault m rs f → IsPlanFault m rs g → f ≡ g
one_fault m rs f g f_some g_some x y =
    ⊎_elim
    (λ a. ⊎_elim (λ b. a.0 ∙ sym b.0) (λ b. absurd (a.1 b.0)) (kind_of m rs g g_some y))
    (λ a. ⊎_elim
    (λ b. absurd (b.1 a.0))
    (λ b. ⊎_elim
    (λ cell. ⊎_elim (λ other. one_cell m rs f g f_some g_some cell other) (λ more. absurd (not_both m rs f cell more.1.good)) b.1)
    (λ more. ⊎_elim (λ other. absurd (not_both m rs g other more.1.good)) (λ other. more.0 ∙ sym other.0) b.1)
    a.1)
    (kind_of m rs g g_some y))
    (kind_of m rs f f_some x)

no_fault : (m : Problem) (rs : List Record) (p : Plan) (f : PlanFault) → IsPlanOf m rs p → f ≢ fault.Memory → IsPlanFault m rs f → ⊥
no_fault m rs p f is some x =
    let good : EachCell m (IsGood m rs) = λ i t low high t_low t_high. (is.each i t low high t_low t_high).0 in
    ⊎_elim
    (λ a. a.1 is.header)
    (λ a. ⊎_elim (λ cell. not_both m rs f cell good) (λ more. more.1.more is.count) a.1)
    (kind_of m rs f some x)

plan_or_fault : (m : Problem) (rs : List Record) (p : Plan) (f : PlanFault) → IsPlanOf m rs p → IsPlanFault m rs f → f ≡ fault.Memory
plan_or_fault m rs p fault.Header is x = absurd (no_fault m rs p fault.Header is (λ e. cc e) x)
plan_or_fault m rs p fault.RowCount is x = absurd (no_fault m rs p fault.RowCount is (λ e. cc e) x)
plan_or_fault m rs p (fault.Row n) is x = absurd (no_fault m rs p (fault.Row n) is (λ e. cc e) x)
plan_or_fault m rs p (fault.Number n c) is x = absurd (no_fault m rs p (fault.Number n c) is (λ e. cc e) x)
plan_or_fault m rs p fault.Memory is x = refl

one_plan : (m : Problem) (rs : List Record) (p q : Plan) → IsPlanOf m rs p → IsPlanOf m rs q → EachCell m (HaveSame p q)
one_plan m rs p q a b i t low high t_low t_high =
    let x = (a.each i t low high t_low t_high).1 in
    let y = (b.each i t low high t_low t_high).1 in
    record { make = x.make ∙ sym y.make; setup = x.setup ∙ sym y.setup; stock = x.stock ∙ sym y.stock; backlog = x.backlog ∙ sym y.backlog }

pub means_one : RecordsMeanOneThing
means_one m rs = record { one_plan = one_plan m rs; plan_or_fault = plan_or_fault m rs; one_fault = one_fault m rs }

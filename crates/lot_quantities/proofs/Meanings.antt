-- What the records of a table mean is one thing.
use Rattle.std.proofs.Common.{◌≡◌, ◌≢◌, ◌≤◌, ◌∙◌, ◌⊎◌, ⊎_elim, inl, inr, ℕ, refl, sym, ap, subst, arith, IfNone, IfSome, List, Option, Some, None, codes}
use Rattle.lot_sizing.specs.Problem.{Problem, item_count}
use Rattle.lot_sizing.specs.Plan.{EachCell, Table}
use Rattle.plan_rules.specs.Order.{IsBefore, IsFirst}
use Rattle.csv_records.specs.Records.{Record, record_at}
use Rattle.plan_file.specs.Records.{number_of}
use Rattle.lot_quantities.specs.Columns.{IsColumn, IsNoColumn}
use Rattle.lot_quantities.specs.Tables.{AreNumbersOf, HasHeader, IsGood, IsTableOf, setup_in}
use Rattle.lot_quantities.specs.Faults.{HasMore, IsCellFault, IsQuantityFault, IsRecordFault}
use Rattle.lot_quantities.specs.Laws.{TablesMeanOneThing}
use Rattle.lot_quantities.specs.declared.columns.Columns.{Columns}
use Rattle.lot_quantities.specs.declared.fault.QuantityFault.{QuantityFault}
use Rattle.lot_quantities.specs.declared.fault.QuantityFault.TheVariants as fault
use Rattle.lot_quantities.proofs.Bad.{one_bad}
use Rattle.lot_quantities.proofs.Named.{none_nowhere}

-- a text has one column
one_column : (r : Record) (text : List ℕ) (c d : ℕ) → IsColumn r text c → IsColumn r text d → c ≡ d
one_column r text c d a b = b.alone c a.low a.high a.here

one_setup_column : (r : Record) (text : List ℕ) (s s2 : Option ℕ) → IfSome s (IsColumn r text) → IfNone s (IsNoColumn r text) → IfSome s2 (IsColumn r text) → IfNone s2 (IsNoColumn r text) → s ≡ s2
one_setup_column r text (Some c) (Some d) a a2 b b2 = ap Some (one_column r text c d a b)
one_setup_column r text (Some c) None a a2 b b2 = absurd (none_nowhere r text c b2 a)
one_setup_column r text None (Some d) a a2 b b2 = absurd (none_nowhere r text d a2 b)
one_setup_column r text None None a a2 b b2 = refl

same_columns : (k l : Columns) → k.width ≡ l.width → k.item ≡ l.item → k.period ≡ l.period → k.make ≡ l.make → k.setup ≡ l.setup → k ≡ l
same_columns k l width item period make setup =
    let a : k ≡ record { width = l.width; item = k.item; period = k.period; make = k.make; setup = k.setup } = ap (λ (x : ℕ). record { width = x; item = k.item; period = k.period; make = k.make; setup = k.setup }) width in
    let b : record { width = l.width; item = k.item; period = k.period; make = k.make; setup = k.setup } ≡ record { width = l.width; item = l.item; period = k.period; make = k.make; setup = k.setup } = ap (λ (x : ℕ). record { width = l.width; item = x; period = k.period; make = k.make; setup = k.setup }) item in
    let c : record { width = l.width; item = l.item; period = k.period; make = k.make; setup = k.setup } ≡ record { width = l.width; item = l.item; period = l.period; make = k.make; setup = k.setup } = ap (λ (x : ℕ). record { width = l.width; item = l.item; period = x; make = k.make; setup = k.setup }) period in
    let d : record { width = l.width; item = l.item; period = l.period; make = k.make; setup = k.setup } ≡ record { width = l.width; item = l.item; period = l.period; make = l.make; setup = k.setup } = ap (λ (x : ℕ). record { width = l.width; item = l.item; period = l.period; make = x; setup = k.setup }) make in
    let e : record { width = l.width; item = l.item; period = l.period; make = l.make; setup = k.setup } ≡ l = ap (λ (x : Option ℕ). record { width = l.width; item = l.item; period = l.period; make = l.make; setup = x }) setup in
    a ∙ b ∙ c ∙ d ∙ e

one_header : (rs : List Record) (k l : Columns) → HasHeader rs k → HasHeader rs l → k ≡ l
one_header rs k l a b =
    let r = record_at rs 0 in
    same_columns k l
    (a.columns.width ∙ sym b.columns.width)
    (one_column r (codes "item") k.item l.item a.columns.item b.columns.item)
    (one_column r (codes "period") k.period l.period a.columns.period b.columns.period)
    (one_column r (codes "make") k.make l.make a.columns.make b.columns.make)
    (one_setup_column r (codes "setup") k.setup l.setup a.columns.setup a.columns.no_setup b.columns.setup b.columns.no_setup)

order : (i t j u : ℕ) → IsBefore i t j u ⊎ (IsBefore j u i t ⊎ ((i ≡ j) × (t ≡ u)))
order i t j u = grind arith

-- the first place at which a rule is broken is one place
one_place : (rows columns : ℕ) (R : ℕ → ℕ → Type 0) (i t j u : ℕ) → IsFirst rows columns R i t → IsFirst rows columns R j u → (i ≡ j) × (t ≡ u)
one_place rows columns R i t j u a b =
    ⊎_elim
    (λ sooner. absurd (a.broken (b.before i t a.row_low a.row_high a.column_low a.column_high sooner)))
    (⊎_elim (λ later. absurd (b.broken (a.before j u b.row_low b.row_high b.column_low b.column_high later))) (λ same. same))
    (order i t j u)

-- so is the fault of its record
one_record : (m : Problem) (rs : List Record) (k : Columns) (i t : ℕ) (f g : QuantityFault) → IsRecordFault m rs k i t f → IsRecordFault m rs k i t g → f ≡ g
one_record m rs k i t fault.Header g a b = absurd a
one_record m rs k i t fault.Memory g a b = absurd a
one_record m rs k i t fault.RowCount fault.Header a b = absurd b
one_record m rs k i t fault.RowCount fault.RowCount a b = refl
one_record m rs k i t fault.RowCount (fault.Row n) a b = absurd (a b.1)
one_record m rs k i t fault.RowCount (fault.Number n d) a b = absurd (a b.1)
one_record m rs k i t fault.RowCount fault.Memory a b = absurd b
one_record m rs k i t (fault.Row n) fault.Header a b = absurd b
one_record m rs k i t (fault.Row n) fault.RowCount a b = absurd (b a.1)
one_record m rs k i t (fault.Row n) (fault.Row o) a b = ap fault.Row (a.0 ∙ sym b.0)
one_record m rs k i t (fault.Row n) (fault.Number o d) a b = absurd (a.2 b.2)
one_record m rs k i t (fault.Row n) fault.Memory a b = absurd b
one_record m rs k i t (fault.Number n c) fault.Header a b = absurd b
one_record m rs k i t (fault.Number n c) fault.RowCount a b = absurd (b a.1)
one_record m rs k i t (fault.Number n c) (fault.Row o) a b = absurd (b.2 a.2)
one_record m rs k i t (fault.Number n c) (fault.Number o d) a b =
    ap (λ x. fault.Number x c) (a.0 ∙ sym b.0) ∙ ap (fault.Number o) (one_bad (record_at rs (number_of m i t)) k.make k.setup c d a.3 b.3)
one_record m rs k i t (fault.Number n c) fault.Memory a b = absurd b

one_cell : (m : Problem) (rs : List Record) (k : Columns) (f g : QuantityFault) → IsCellFault m rs k f → IsCellFault m rs k g → f ≡ g
one_cell m rs k f g (i, t, a, x) (j, u, b, y) =
    let (rows, columns) = one_place (item_count m) m.periods (IsGood m rs k) i t j u a b in
    one_record m rs k i t f g x (subst (λ v. IsRecordFault m rs k v t g) (sym rows) (subst (λ v. IsRecordFault m rs k j v g) (sym columns) y))

-- the first record that isn't good, or too many
abbrev IsLate : Problem → List Record → Columns → QuantityFault → Type 0
IsLate m rs k f = IsCellFault m rs k f ⊎ ((f ≡ fault.RowCount) × HasMore m rs k)

-- no header, or the columns have their names
abbrev IsKind : Problem → List Record → QuantityFault → Type 0
IsKind m rs f = ((f ≡ fault.Header) × ((k : Columns) → HasHeader rs k → ⊥)) ⊎ ((k : Columns) × HasHeader rs k × IsLate m rs k f)

kind_of : (m : Problem) (rs : List Record) (f : QuantityFault) → f ≢ fault.Memory → IsQuantityFault m rs f → IsKind m rs f
kind_of m rs fault.Header some x = inl (refl, x)
kind_of m rs fault.RowCount some x = inr (⊎_elim (λ cell. (cell.0, cell.1, inl cell.2)) (λ more. (more.0, more.1, inr (refl, more.2))) x)
kind_of m rs (fault.Row n) some x = inr (x.0, x.1, inl x.2)
kind_of m rs (fault.Number n c) some x = inr (x.0, x.1, inl x.2)
kind_of m rs fault.Memory some x = absurd (some refl)

-- a record that isn't good, and all of them good
not_both : (m : Problem) (rs : List Record) (k : Columns) (f : QuantityFault) → IsCellFault m rs k f → EachCell m (IsGood m rs k) → ⊥
not_both m rs k f (i, t, first, x) good = first.broken (good i t first.row_low first.row_high first.column_low first.column_high)

one_late : (m : Problem) (rs : List Record) (k : Columns) (f g : QuantityFault) → IsLate m rs k f → IsLate m rs k g → f ≡ g
one_late m rs k f g (inl a) (inl b) = one_cell m rs k f g a b
one_late m rs k f g (inl a) (inr b) = absurd (not_both m rs k f a b.1.good)
one_late m rs k f g (inr a) (inl b) = absurd (not_both m rs k g b a.1.good)
one_late m rs k f g (inr a) (inr b) = a.0 ∙ sym b.0

one_kind : (m : Problem) (rs : List Record) (f g : QuantityFault) → IsKind m rs f → IsKind m rs g → f ≡ g
one_kind m rs f g (inl a) (inl b) = a.0 ∙ sym b.0
one_kind m rs f g (inl a) (inr b) = absurd (a.1 b.0 b.1)
one_kind m rs f g (inr a) (inl b) = absurd (b.1 a.0 a.1)
one_kind m rs f g (inr a) (inr b) = one_late m rs a.0 f g a.2 (subst (λ k. IsLate m rs k g) (one_header rs b.0 a.0 b.1 a.1) b.2)

one_fault : (m : Problem) (rs : List Record) (f g : QuantityFault) → f ≢ fault.Memory → g ≢ fault.Memory → IsQuantityFault m rs f → IsQuantityFault m rs g → f ≡ g
one_fault m rs f g f_some g_some x y = one_kind m rs f g (kind_of m rs f f_some x) (kind_of m rs g g_some y)

late_table : (m : Problem) (rs : List Record) (make setup : Table) (f : QuantityFault) (is : IsTableOf m rs make setup) → IsLate m rs is.columns f → ⊥
late_table m rs make setup f is (inl cell) = not_both m rs is.columns f cell (λ i t low high t_low t_high. (is.each i t low high t_low t_high).0)
late_table m rs make setup f is (inr more) = more.1.more is.count

no_kind : (m : Problem) (rs : List Record) (make setup : Table) (f : QuantityFault) → IsTableOf m rs make setup → IsKind m rs f → ⊥
no_kind m rs make setup f is (inl a) = a.1 is.columns is.header
no_kind m rs make setup f is (inr a) = late_table m rs make setup f is (subst (λ k. IsLate m rs k f) (one_header rs a.0 is.columns a.1 is.header) a.2)

table_or_fault : (m : Problem) (rs : List Record) (make setup : Table) (f : QuantityFault) → IsTableOf m rs make setup → IsQuantityFault m rs f → f ≡ fault.Memory
table_or_fault m rs make setup fault.Header is x = absurd (no_kind m rs make setup fault.Header is (inl (refl, x)))
table_or_fault m rs make setup fault.RowCount is x = absurd (no_kind m rs make setup fault.RowCount is (kind_of m rs fault.RowCount (λ e. cc e) x))
table_or_fault m rs make setup (fault.Row n) is x = absurd (no_kind m rs make setup (fault.Row n) is (inr (x.0, x.1, inl x.2)))
table_or_fault m rs make setup (fault.Number n c) is x = absurd (no_kind m rs make setup (fault.Number n c) is (inr (x.0, x.1, inl x.2)))
table_or_fault m rs make setup fault.Memory is x = refl

-- tables of the same records have the same numbers
numbers_under : (m : Problem) (rs : List Record) (make setup make2 setup2 : Table) (a : IsTableOf m rs make setup) (b : IsTableOf m rs make2 setup2) → (i t : ℕ) → 1 ≤ i → i ≤ item_count m → 1 ≤ t → t ≤ m.periods → AreNumbersOf (record_at rs (number_of m i t)) a.columns make2 setup2 i t
numbers_under m rs make setup make2 setup2 a b i t low high t_low t_high =
    subst (λ k. AreNumbersOf (record_at rs (number_of m i t)) k make2 setup2 i t) (one_header rs b.columns a.columns b.header a.header) (b.each i t low high t_low t_high).1

one_make : (m : Problem) (rs : List Record) (make setup make2 setup2 : Table) → IsTableOf m rs make setup → IsTableOf m rs make2 setup2 → EachCell m (λ i t. make i t ≡ make2 i t)
one_make m rs make setup make2 setup2 a b i t low high t_low t_high = (a.each i t low high t_low t_high).1.make ∙ sym (numbers_under m rs make setup make2 setup2 a b i t low high t_low t_high).make

one_setup : (m : Problem) (rs : List Record) (make setup make2 setup2 : Table) → IsTableOf m rs make setup → IsTableOf m rs make2 setup2 → EachCell m (λ i t. setup i t ≡ setup2 i t)
one_setup m rs make setup make2 setup2 a b i t low high t_low t_high =
    let x = (a.each i t low high t_low t_high).1 in
    let y = numbers_under m rs make setup make2 setup2 a b i t low high t_low t_high in
    x.setup ∙ ap (λ v. setup_in (record_at rs (number_of m i t)) v a.columns.setup) (one_make m rs make setup make2 setup2 a b i t low high t_low t_high) ∙ sym y.setup

pub means_one : TablesMeanOneThing
means_one m rs = record { one_make = one_make m rs; one_setup = one_setup m rs; table_or_fault = table_or_fault m rs; one_fault = one_fault m rs }

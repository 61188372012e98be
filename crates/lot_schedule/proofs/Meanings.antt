-- What records mean is one thing.
use Rattle.std.proofs.Common.{◌≡◌, ◌≢◌, ◌≤◌, ◌<◌, ◌+◌, ◌-◌, ◌∙◌, ⊎_elim, ℕ, List, refl, ap, subst, sym, arith}
use Rattle.std.proofs.lemmas.Bool.{cases_order}
use Rattle.std.proofs.lemmas.Fmt.{decimal_injective}
use Rattle.std.proofs.lemmas.List.{ext_get_or}
use Rattle.lot_sizing.specs.Problem.{Problem, item_at, resource_at}
use Rattle.csv_records.specs.Records.{Record, record_at}
use Rattle.lot_schedule.specs.Slots.{no_slot, slot_at}
use Rattle.lot_schedule.specs.Records.{AreRowsOf, IsRowOf}
use Rattle.lot_schedule.specs.Faults.{IsSlotFault}
use Rattle.lot_schedule.specs.declared.fault.SlotFault.{SlotFault}
use Rattle.lot_schedule.specs.declared.fault.SlotFault.TheVariants.{Header, Memory, Row}
use Rattle.lot_schedule.specs.Laws.{AreNamed, RecordsMeanOneThing}
use Rattle.lot_schedule.specs.declared.slot.Slot.{Slot}
use Rattle.lot_schedule.proofs.Fields.{has_fields}

slot_same : (a b : Slot) → a.resource ≡ b.resource → a.period ≡ b.period → a.item ≡ b.item → a.start ≡ b.start → a.end ≡ b.end → a ≡ b
slot_same a b resource period item start end =
    let f : ℕ → Slot = λ k. record { resource = k; period = a.period; item = a.item; start = a.start; end = a.end } in
    let g : ℕ → Slot = λ t. record { resource = b.resource; period = t; item = a.item; start = a.start; end = a.end } in
    let h : ℕ → Slot = λ i. record { resource = b.resource; period = b.period; item = i; start = a.start; end = a.end } in
    let s : ℕ → Slot = λ x. record { resource = b.resource; period = b.period; item = b.item; start = x; end = a.end } in
    let e : ℕ → Slot = λ x. record { resource = b.resource; period = b.period; item = b.item; start = b.start; end = x } in
    ap f resource ∙ ap g period ∙ ap h item ∙ ap s start ∙ ap e end

one_name : (n : ℕ) (name : ℕ → List ℕ) → ((i j : ℕ) → 1 ≤ i → i < j → j ≤ n → name i ≢ name j) → (i j : ℕ) → 1 ≤ i → i ≤ n → 1 ≤ j → j ≤ n → name i ≡ name j → i ≡ j
one_name n name own i j i_low i_high j_low j_high same =
    ⊎_elim
    (λ e. e)
    (λ other. ⊎_elim (λ less. absurd (own i j i_low less j_high same)) (λ more. absurd (own j i j_low more i_high (sym same))) other)
    (cases_order i j)

one_slot : (m : Problem) (r : Record) (a b : Slot) → AreNamed m → IsRowOf m a r → IsRowOf m b r → a ≡ b
one_slot m r a b is x y =
    let p = has_fields m a r x.row in
    let q = has_fields m b r y.row in
    slot_same a b
    (one_name _ (λ k. (resource_at m k).name) is.resource_names a.resource b.resource x.exists.resource_low x.exists.resource_high y.exists.resource_low y.exists.resource_high (sym p.resource ∙ q.resource))
    (decimal_injective a.period b.period (omega (arith, x.exists.period_high, is.limits.periods)) (omega (arith, y.exists.period_high, is.limits.periods)) (sym p.period ∙ q.period))
    (one_name _ (λ i. (item_at m i).name) is.names a.item b.item x.exists.item_low x.exists.item_high y.exists.item_low y.exists.item_high (sym p.item ∙ q.item))
    (decimal_injective a.start b.start x.start y.start (sym p.start ∙ q.start))
    (decimal_injective a.end b.end x.end y.end (sym p.end ∙ q.end))

one_list : (m : Problem) (rs : List Record) → AreNamed m → (xs ys : List Slot) → AreRowsOf m rs xs → AreRowsOf m rs ys → xs ≡ ys
one_list m rs is xs ys x y =
    ext_get_or no_slot xs ys (omega (arith, x.count, y.count)) (λ n less. one_slot m _ (slot_at xs n) (slot_at ys n) is (x.each n less) (y.each n (omega (arith, less, x.count, y.count))))

list_or_fault : (m : Problem) (rs : List Record) (xs : List Slot) (f : SlotFault) → AreRowsOf m rs xs → IsSlotFault m rs f → f ≡ Memory
list_or_fault m rs xs Header x bad = absurd (bad x.header)
list_or_fault m rs xs (Row n) x bad =
    let first = bad.1 in
    let e : n - 1 + 1 ≡ n = omega (arith, first.low) in
    absurd (first.bad (slot_at xs (n - 1), subst (λ k. IsRowOf m (slot_at xs (n - 1)) (record_at rs k)) e (x.each (n - 1) (omega (arith, first.low, first.there, x.count)))))
list_or_fault m rs xs Memory x bad = refl

one_fault : (m : Problem) (rs : List Record) (f g : SlotFault) → f ≢ Memory → g ≢ Memory → IsSlotFault m rs f → IsSlotFault m rs g → f ≡ g
one_fault m rs Header Header a b x y = refl
one_fault m rs Header (Row n) a b x y = absurd (x y.0)
one_fault m rs (Row n) Header a b x y = absurd (y x.0)
one_fault m rs (Row n) (Row o) a b x y =
    ⊎_elim
    (λ e. ap Row e)
    (λ other. ⊎_elim (λ less. absurd (x.1.bad (y.1.before n x.1.low less))) (λ more. absurd (y.1.bad (x.1.before o y.1.low more))) other)
    (cases_order n o)
one_fault m rs Memory g a b x y = absurd (a refl)
one_fault m rs Header Memory a b x y = absurd (b refl)
one_fault m rs (Row n) Memory a b x y = absurd (b refl)

pub one_meaning : RecordsMeanOneThing
one_meaning m rs is = record { one_list = one_list m rs is; list_or_fault = list_or_fault m rs; one_fault = one_fault m rs }

-- The two files call for a status of `complete`, and for one.
use Rattle.std.proofs.Common.{◌≡◌, ◌⊎◌, ◌≤◌, ◌∙◌, ⊎_elim, inl, inr, ℕ, sym, subst, arith, List, Option, Some, None, refl, length}
use Rattle.std.specs.Prelude.{Ok, Err, Result}
use Rattle.std.proofs.lemmas.Bool.{cases_lt}
use Rattle.lot_sizing.specs.Problem.{Problem}
use Rattle.lot_sizing.specs.Plan.{Plan, Table}
use Rattle.lot_sizing.specs.Least.{HasChoice, least_plan}
use Rattle.lot_sizing.proofs.Least.{least_feasible}
use Rattle.lot_draft.specs.declared.fault.ModelFault.{ModelFault}
use Rattle.instance_reader.specs.Model.{BytesMean}
use Rattle.instance_reader.specs.declared.versions.TheConstants.{NEWEST_VERSION}
use Rattle.plan_rules.specs.Rows.{HasNoPlan}
use Rattle.plan_file.specs.Records.{records_of}
use Rattle.lot_quantities.specs.Tables.{IsTableOf}
use Rattle.lot_quantities.specs.declared.fault.QuantityFault.{QuantityFault}
use Rattle.lot_quantities.proofs.Existing.{tables_some}
use Rattle.lot_quantities.proofs.Meanings.{means_one}
use Rattle.lotplan.specs.Reading.{file_limit}
use Rattle.lotplan.specs.Completing.{AreNoTable, AreQuantities, CompleteCallsFor, HasPlan, TableCallsFor}
use Rattle.lotplan.specs.declared.status.TheConstants.{DONE, FAULTY, REFUSED, MISSING, TOO_LONG}
use Rattle.lotplan.proofs.Calls.{Grounds, has_period, no_fault, one_problem}

-- ---- for one
module _ (m : Problem) (bytes : List ℕ) where
  same_choice : (make setup make2 setup2 : Table) → IsTableOf m (records_of bytes) make setup → IsTableOf m (records_of bytes) make2 setup2 → (plan : Plan) → HasChoice m make setup plan → HasChoice m make2 setup2 plan
  same_choice make setup make2 setup2 a b plan choice =
      let law = means_one m (records_of bytes) in
      record {
        make = λ i t low high t_low t_high. choice.make i t low high t_low t_high ∙ law.one_make make setup make2 setup2 a b i t low high t_low t_high;
        setup = λ i t low high t_low t_high. choice.setup i t low high t_low t_high ∙ law.one_setup make setup make2 setup2 a b i t low high t_low t_high;
      }

  apart : AreQuantities m bytes (HasPlan m) → AreQuantities m bytes (HasNoPlan m) → ⊥
  apart a b =
      let (plan, feasible, choice) = a.holds in
      b.holds plan feasible (same_choice a.make a.setup b.make b.setup a.is b.is plan choice)

  no_both : (make setup : Table) (fault : QuantityFault) → IsTableOf m (records_of bytes) make setup → AreNoTable m bytes fault → ⊥
  no_both make setup fault is none = none.cause ((means_one m (records_of bytes)).table_or_fault make setup fault is none.is)

  -- quantities that a plan has, that none has, or none
  abbrev Other : ℕ → Type 0
  Other u = (AreQuantities m bytes (HasNoPlan m) × (u ≡ FAULTY)) ⊎ ((fault : QuantityFault) × AreNoTable m bytes fault × (u ≡ FAULTY))

  abbrev TableKind : ℕ → Type 0
  TableKind u = (AreQuantities m bytes (HasPlan m) × (u ≡ DONE)) ⊎ Other u

  faulty : (u : ℕ) → Other u → u ≡ FAULTY
  faulty u (inl x) = x.1
  faulty u (inr x) = x.2

  not_done : (u : ℕ) → AreQuantities m bytes (HasPlan m) → Other u → ⊥
  not_done u a (inl x) = apart a x.0
  not_done u a (inr x) = no_both a.make a.setup x.0 a.is x.1

  table_call : (s t : ℕ) → TableKind s → TableKind t → s ≡ t
  table_call s t (inl a) (inl b) = a.1 ∙ sym b.1
  table_call s t (inl a) (inr b) = absurd (not_done t a.0 b)
  table_call s t (inr a) (inl b) = absurd (not_done s b.0 a)
  table_call s t (inr a) (inr b) = faulty s a ∙ sym (faulty t b)

table_file_call : (m : Problem) (file : Option (List ℕ)) (s t : ℕ) → TableCallsFor m file s → TableCallsFor m file t → s ≡ t
table_file_call m None s t a b = a ∙ sym b
table_file_call m (Some bytes) s t a b = ⊎_elim
    (λ x. ⊎_elim (λ y. x.1 ∙ sym y.1) (λ y. absurd (omega (arith, x.0, y.0))) b)
    (λ x. ⊎_elim (λ y. absurd (omega (arith, x.0, y.0))) (λ y. table_call m bytes s t x.1 y.1) b)
    a

pub complete_call : (file table : Option (List ℕ)) (s t : ℕ) → CompleteCallsFor file table s → CompleteCallsFor file table t → s ≡ t
complete_call None table s t a b = a ∙ sym b
complete_call (Some bytes) table s t a b = ⊎_elim
    (λ x. ⊎_elim (λ y. x.1 ∙ sym y.1) (λ y. absurd (omega (arith, x.0, y.0))) b)
    (λ x. ⊎_elim (λ y. absurd (omega (arith, x.0, y.0))) (λ y. means x.1 y.1) b)
    a
  where
    means : ((fault : ModelFault) × BytesMean bytes (Err fault) × (s ≡ REFUSED)) ⊎ ((m : Problem) × BytesMean bytes (Ok m) × TableCallsFor m table s) → ((fault : ModelFault) × BytesMean bytes (Err fault) × (t ≡ REFUSED)) ⊎ ((m : Problem) × BytesMean bytes (Ok m) × TableCallsFor m table t) → s ≡ t
    means c d = ⊎_elim
        (λ x. let (f, reads, is) = x in ⊎_elim
        (λ y. let (g, also, other) = y in is ∙ sym other)
        (λ y. let (n, also, other) = y in absurd (no_fault bytes n f also reads))
        d)
        (λ x. let (m, reads, calls) = x in ⊎_elim
        (λ y. let (f, also, is) = y in absurd (no_fault bytes m f reads also))
        (λ y. let (n, also, other) = y in table_file_call m table s t calls (subst (λ k. TableCallsFor k table t) (one_problem bytes n m also reads) other))
        d)
        c

-- ---- for some
module _ (by : Grounds) where
  -- a feasible plan has quantities and setups, or none has: the one with the least stocks and backlogs tells
  plan_or_none : (m : Problem) → 1 ≤ m.periods → (make setup : Table) → HasPlan m make setup ⊎ HasNoPlan m make setup
  plan_or_none m some make setup = ⊎_elim
      (λ feasible. inl (least_plan m make setup, feasible, record { make = λ i t low high t_low t_high. refl; setup = λ i t low high t_low t_high. refl }))
      (λ broken. inr (λ q f choice. broken.0 (least_feasible m make setup q some f choice)))
      (by.judged m (least_plan m make setup))

  table_some : (m : Problem) → 1 ≤ m.periods → (file : Option (List ℕ)) → (status : ℕ) × TableCallsFor m file status
  table_some m some None = (MISSING, refl)
  table_some m some (Some bytes) = ⊎_elim
      (λ long. (TOO_LONG, inl (long, refl)))
      (λ short. ⊎_elim
      (λ read. ⊎_elim
      (λ has. (DONE, inr (short, inl (record { make = read.0; setup = read.1; is = read.2; holds = has }, refl))))
      (λ none. (FAULTY, inr (short, inr (inl (record { make = read.0; setup = read.1; is = read.2; holds = none }, refl)))))
      (plan_or_none m some read.0 read.1))
      (λ fault. (FAULTY, inr (short, inr (inr (fault.0, record { cause = fault.1; is = fault.2 }, refl)))))
      (tables_some m (records_of bytes)))
      (cases_lt file_limit (length bytes))

  completed_some : (bytes : List ℕ) (table : Option (List ℕ)) → length bytes ≤ file_limit → (r : Result Problem ModelFault) → BytesMean bytes r → (status : ℕ) × CompleteCallsFor (Some bytes) table status
  completed_some bytes table short (Ok m) means = let call = table_some m (has_period bytes m means) table in (call.0, inr (short, inr (m, means, call.1)))
  completed_some bytes table short (Err fault) means = (REFUSED, inr (short, inl (fault, means, refl)))

  pub complete_some : (model table : Option (List ℕ)) → (status : ℕ) × CompleteCallsFor model table status
  complete_some None table = (MISSING, refl)
  complete_some (Some bytes) table = ⊎_elim
      (λ long. (TOO_LONG, inl (long, refl)))
      (λ short. let means = by.bytes NEWEST_VERSION bytes in completed_some bytes table short means.0 means.1)
      (cases_lt file_limit (length bytes))

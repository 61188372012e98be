-- The model file calls for a status of `bound`, and for one, but where the run may pass.
use Rattle.std.proofs.Common.{◌≡◌, ◌⊎◌, ◌≤◌, ◌∙◌, ⊎_elim, inl, inr, ℕ, sym, subst, arith, List, Option, Some, None, refl, length}
use Rattle.std.specs.Prelude.{Ok, Err, Result}
use Rattle.lp_bounds.specs.Bounds.{HasFewCells, HasManyCells}
use Rattle.lot_sizing.specs.Problem.{Problem}
use Rattle.lot_draft.specs.declared.fault.ModelFault.{ModelFault}
use Rattle.instance_reader.specs.Model.{BytesMean}
use Rattle.instance_reader.specs.declared.versions.TheConstants.{NEWEST_VERSION}
use Rattle.lotplan.specs.Reading.{file_limit}
use Rattle.lotplan.specs.Bounding.{BoundCallsFor, BoundedCallsFor, HasBaseBound, HasNoBaseCost, MayPass, SimplexPasses}
use Rattle.lotplan.specs.declared.status.TheConstants.{DONE, NO_PLAN, UNDECIDED, REFUSED, MISSING, TOO_LONG}
use Rattle.lotplan.proofs.Certified.{IsMeant, meant}
use Rattle.std.proofs.lemmas.Bool.{cases_lt}
use Rattle.answers_exist.specs.Bounding.{HasBound, IsEmpty, Passes}
use Rattle.lotplan.proofs.Calls.{AreLaws, Grounds, OneIsUndecided, no_fault, one_problem, ranked}

-- ---- for one
module _ (laws : AreLaws) (m : Problem) (known : IsMeant m) where
  few_or_many : HasFewCells m → HasManyCells m → ⊥
  few_or_many few many =
      let total = known.totals in
      let same = laws.cells m total.0 few.0 many.0 total.1 few.1 many.1 in
      omega (arith, same, few.2, many.2)

  bound_or_none : (n : ℕ) → HasBaseBound m n → HasNoBaseCost m → ⊥
  bound_or_none n some none =
      let total = known.totals in
      (laws.bounds m total.0 total.1).apart n some.bound none.none

  bounded_call : (s t : ℕ) → BoundedCallsFor m s → BoundedCallsFor m t → (s ≡ t) ⊎ (SimplexPasses m × OneIsUndecided s t)
  bounded_call s t (inl (a, is)) (inl (b, too)) = inl (is ∙ sym too)
  bounded_call s t (inl (a, is)) (inr (inl (b, too))) = absurd (bound_or_none a.0 a.1 b)
  bounded_call s t (inl (a, is)) (inr (inr (inl (b, too)))) = absurd (few_or_many a.1.few b)
  bounded_call s t (inl (a, is)) (inr (inr (inr (b, too)))) = inr (b, inr too)
  bounded_call s t (inr (inl (a, is))) (inl (b, too)) = absurd (bound_or_none b.0 b.1 a)
  bounded_call s t (inr (inl (a, is))) (inr (inl (b, too))) = inl (is ∙ sym too)
  bounded_call s t (inr (inl (a, is))) (inr (inr (inl (b, too)))) = absurd (few_or_many a.few b)
  bounded_call s t (inr (inl (a, is))) (inr (inr (inr (b, too)))) = inr (b, inr too)
  bounded_call s t (inr (inr (inl (a, is)))) (inl (b, too)) = absurd (few_or_many b.1.few a)
  bounded_call s t (inr (inr (inl (a, is)))) (inr (inl (b, too))) = absurd (few_or_many b.few a)
  bounded_call s t (inr (inr (inl (a, is)))) (inr (inr (inl (b, too)))) = inl (is ∙ sym too)
  bounded_call s t (inr (inr (inl (a, is)))) (inr (inr (inr (b, too)))) = inr (b, inr too)
  bounded_call s t (inr (inr (inr (a, is)))) other = inr (a, inl is)

pub bound_call : AreLaws → (file : Option (List ℕ)) (s t : ℕ) → BoundCallsFor file s → BoundCallsFor file t → (s ≡ t) ⊎ (MayPass file × OneIsUndecided s t)
bound_call laws None s t a b = inl (a ∙ sym b)
bound_call laws (Some bytes) s t (inl a) (inl b) = inl (a.1 ∙ sym b.1)
bound_call laws (Some bytes) s t (inl a) (inr b) = absurd (omega (arith, a.0, b.0))
bound_call laws (Some bytes) s t (inr a) (inl b) = absurd (omega (arith, a.0, b.0))
bound_call laws (Some bytes) s t (inr (short, inl (f, reads, is))) (inr (also, inl (g, too, other))) = inl (is ∙ sym other)
bound_call laws (Some bytes) s t (inr (short, inl (f, reads, is))) (inr (also, inr (m, too, calls))) = absurd (no_fault bytes m f too reads)
bound_call laws (Some bytes) s t (inr (short, inr (m, reads, calls))) (inr (also, inl (f, too, is))) = absurd (no_fault bytes m f reads too)
bound_call laws (Some bytes) s t (inr (short, inr (m, reads, calls))) (inr (also, inr (n, too, other))) =
    let known = meant laws.totals laws.weights bytes m reads in
    ⊎_elim
    (λ same. inl same)
    (λ passes. inr ((m, reads, passes.0), passes.1))
    (bounded_call laws m known s t calls (subst (λ k. BoundedCallsFor k t) (one_problem bytes n m too reads) other))

-- ---- for some
-- what the run of the base rows comes to
outcome_some : (m : Problem) → HasManyCells m ⊎ (HasFewCells m × (HasBound m ⊎ (IsEmpty m ⊎ Passes m))) → (status : ℕ) × BoundedCallsFor m status
outcome_some m (inl many) = (UNDECIDED, inr (inr (inl (many, refl))))
outcome_some m (inr (few, inl (n, bound, floor))) = (DONE, inl ((n, record { bound = bound; floor = floor; few = few }), refl))
outcome_some m (inr (few, inr (inl (none, impossible)))) = (NO_PLAN, inr (inl (record { none = none; impossible = impossible; few = few }, refl)))
outcome_some m (inr (few, inr (inr (program, base, unfit)))) =
    (UNDECIDED, inr (inr (inr (record { program = program; base = base; pivot = unfit.0; row = unfit.1; column = unfit.2; passes = unfit.3; few = few }, refl))))

module _ (by : Grounds) where
  bounded_some : (bytes : List ℕ) → length bytes ≤ file_limit → (r : Result Problem ModelFault) → BytesMean bytes r → (status : ℕ) × BoundCallsFor (Some bytes) status
  bounded_some bytes short (Ok m) means =
      let rank = ranked bytes m means in
      let call = outcome_some m (by.bounds m rank.0 (meant by.totals by.weights bytes m means).limits rank.1) in
      (call.0, inr (short, inr (m, means, call.1)))
  bounded_some bytes short (Err fault) means = (REFUSED, inr (short, inl (fault, means, refl)))

  pub bound_some : (model : Option (List ℕ)) → (status : ℕ) × BoundCallsFor model status
  bound_some None = (MISSING, refl)
  bound_some (Some bytes) = ⊎_elim
      (λ long. (TOO_LONG, inl (long, refl)))
      (λ short. let means = by.bytes NEWEST_VERSION bytes in bounded_some bytes short means.0 means.1)
      (cases_lt file_limit (length bytes))

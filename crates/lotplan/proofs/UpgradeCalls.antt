-- The model file calls for a status of `upgrade`, and for one.
use Rattle.std.proofs.Common.{◌≡◌, ◌⊎◌, ◌≤◌, ◌∙◌, ⊎_elim, inl, inr, ℕ, sym, arith, List, Option, Some, None, refl, length}
use Rattle.std.specs.Prelude.{Ok, Err, Result}
use Rattle.lot_sizing.specs.Problem.{Problem}
use Rattle.lot_draft.specs.declared.fault.ModelFault.{ModelFault}
use Rattle.instance_reader.specs.Model.{FirstVersionMeans}
use Rattle.instance_reader.specs.declared.versions.TheConstants.{FIRST_VERSION}
use Rattle.instance_reader.proofs.Meanings.{bytes_one}
use Rattle.lotplan.specs.Reading.{file_limit}
use Rattle.lotplan.specs.Upgrading.{UpgradeCallsFor}
use Rattle.lotplan.specs.declared.status.TheConstants.{DONE, REFUSED, MISSING, TOO_LONG}
use Rattle.std.proofs.lemmas.Bool.{cases_lt}
use Rattle.lotplan.proofs.Calls.{Grounds}

-- ---- for one
pub upgrade_call : (file : Option (List ℕ)) (s t : ℕ) → UpgradeCallsFor file s → UpgradeCallsFor file t → s ≡ t
upgrade_call None s t a b = a ∙ sym b
upgrade_call (Some bytes) s t a b = ⊎_elim
    (λ x. ⊎_elim (λ y. x.1 ∙ sym y.1) (λ y. absurd (omega (arith, x.0, y.0))) b)
    (λ x. ⊎_elim (λ y. absurd (omega (arith, x.0, y.0))) (λ y. means x.1 y.1) b)
    a
  where
    no_both : (m : Problem) (f : ModelFault) → FirstVersionMeans bytes (Ok m) → FirstVersionMeans bytes (Err f) → ⊥
    no_both m f c d = let same = bytes_one FIRST_VERSION bytes (Ok m) (Err f) c d in cc same

    means : ((f : ModelFault) × FirstVersionMeans bytes (Err f) × (s ≡ REFUSED)) ⊎ ((m : Problem) × FirstVersionMeans bytes (Ok m) × (s ≡ DONE)) → ((f : ModelFault) × FirstVersionMeans bytes (Err f) × (t ≡ REFUSED)) ⊎ ((m : Problem) × FirstVersionMeans bytes (Ok m) × (t ≡ DONE)) → s ≡ t
    means c d = ⊎_elim
        (λ x. let (f, reads, is) = x in ⊎_elim
        (λ y. let (g, also, other) = y in is ∙ sym other)
        (λ y. let (m, also, other) = y in absurd (no_both m f also reads))
        d)
        (λ x. let (m, reads, is) = x in ⊎_elim
        (λ y. let (f, also, other) = y in absurd (no_both m f reads also))
        (λ y. let (n, also, other) = y in is ∙ sym other)
        d)
        c

-- ---- for some
module _ (by : Grounds) where
  upgraded_some : (bytes : List ℕ) → length bytes ≤ file_limit → (r : Result Problem ModelFault) → FirstVersionMeans bytes r → (status : ℕ) × UpgradeCallsFor (Some bytes) status
  upgraded_some bytes short (Ok m) means = (DONE, inr (short, inr (m, means, refl)))
  upgraded_some bytes short (Err fault) means = (REFUSED, inr (short, inl (fault, means, refl)))

  pub upgrade_some : (model : Option (List ℕ)) → (status : ℕ) × UpgradeCallsFor model status
  upgrade_some None = (MISSING, refl)
  upgrade_some (Some bytes) = ⊎_elim
      (λ long. (TOO_LONG, inl (long, refl)))
      (λ short. let means = by.bytes FIRST_VERSION bytes in upgraded_some bytes short means.0 means.1)
      (cases_lt file_limit (length bytes))

-- Bytes mean a problem, or the first rule that they break.
use Rattle.std.proofs.Common.{◌≡◌, ◌⊎◌, ⊎_elim, inl, inr, ℕ, refl, Option, Some, None, Result, Ok, Err}
use Rattle.toml.specs.Data.{Members}
use Rattle.lot_sizing.specs.Problem.{Problem}
use Rattle.lot_draft.specs.Raw.{RawModel}
use Rattle.lot_draft.specs.declared.fault.ModelFault.{ModelFault}
use Rattle.lot_model.specs.Meaning.{Means}
use Rattle.lot_model.specs.Laws.{MeansSomething}
use Rattle.instance_reader.specs.Document.{document_of}
use Rattle.instance_reader.specs.Model.{DocumentMeans, not_toml, fault_in}
use Rattle.instance_reader.specs.Tables.{model_read}
use Rattle.existence.specs.Readings.{BytesMeanSomething}

some_or_none : {A : Type 0} → (o : Option A) → ((x : A) × (o ≡ Some x)) ⊎ (o ≡ None)
some_or_none (Some x) = inl (x, refl)
some_or_none None = inr refl

ok_or_err : {A E : Type 0} → (r : Result A E) → ((x : A) × (r ≡ Ok x)) ⊎ ((e : E) × (r ≡ Err e))
ok_or_err (Ok x) = inl (x, refl)
ok_or_err (Err e) = inr (e, refl)

of_model : (newest : ℕ) (t : Members) (model : RawModel) → model_read newest t ≡ Ok model → (r : Result Problem ModelFault) → Means model r → (s : Result Problem ModelFault) × DocumentMeans newest t s
of_model newest t model is (Ok p) means = (Ok p, record { model = model; is_read = is; means = means })
of_model newest t model is (Err fault) breaks = (Err (fault_in t fault), inr (record { model = model; is_read = is; fault = fault; breaks = breaks; named = refl }))

of_document : MeansSomething → (newest : ℕ) (t : Members) → (s : Result Problem ModelFault) × DocumentMeans newest t s
of_document something newest t = ⊎_elim
    (λ found. of_model newest t found.0 found.1 (something found.0).0 (something found.0).1)
    (λ fault. (Err fault.0, inl fault.1))
    (ok_or_err (model_read newest t))

pub bytes_some : MeansSomething → BytesMeanSomething
bytes_some something newest bytes = ⊎_elim
    (λ found.
    let means = of_document something newest found.0 in
    (means.0, inr (found.0, found.1, means.1)))
    (λ none. (Err not_toml, inl (none, refl)))
    (some_or_none (document_of bytes))

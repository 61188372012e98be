-- Bytes mean one thing.
use Rattle.std.proofs.Common.{◌≡◌, ◌∙◌, ⊎_elim, ℕ, List, sym, ap, subst, Some, None}
use Rattle.std.specs.Prelude.{Option, Result, Ok, Err}
use Rattle.toml.specs.Data.{Members}
use Rattle.lot_sizing.specs.Problem.{Problem}
use Rattle.lot_draft.specs.Raw.{RawModel}
use Rattle.lot_draft.specs.declared.fault.ModelFault.{ModelFault}
use Rattle.lot_model.specs.Meaning.{Means}
use Rattle.lot_model.proofs.Meanings.{means_one}
use Rattle.instance_reader.specs.Document.{document_of}
use Rattle.instance_reader.specs.Tables.{model_read}
use Rattle.instance_reader.specs.Model.{MeanUpTo, DocumentMeans, IsDraftFault, fault_in}

abbrev ok_or : {A B : Type 0} → Result A B → A → A
ok_or (Ok x) d = x
ok_or (Err e) d = d

abbrev err_or : {A B : Type 0} → Result A B → B → B
err_or (Ok x) d = d
err_or (Err e) d = e

abbrev some_or : {A : Type 0} → Option A → A → A
some_or (Some x) d = x
some_or None d = d

same_ok : {A B : Type 0} (r : Result A B) (x y : A) → r ≡ Ok x → r ≡ Ok y → x ≡ y
same_ok r x y one other = ap (λ z. ok_or z x) (sym one ∙ other)

same_err : {A B : Type 0} (r : Result A B) (x y : B) → r ≡ Err x → r ≡ Err y → x ≡ y
same_err r x y one other = ap (λ z. err_or z x) (sym one ∙ other)

not_both : {A B C : Type 0} (r : Result A B) (x : A) (y : B) → r ≡ Ok x → r ≡ Err y → C
not_both r x y one other = absurd (cc (sym one ∙ other))

-- what is read alike means the same
means_same : (newest : ℕ) (t : Members) (m k : RawModel) (r s : Result Problem ModelFault) → model_read newest t ≡ Ok m → model_read newest t ≡ Ok k → Means m r → Means k s → r ≡ s
means_same newest t m k r s one other means also = means_one m r s means (subst (λ n. Means n s) (sym (same_ok (model_read newest t) m k one other)) also)

draft_same : (newest : ℕ) (t : Members) (f g : ModelFault) → IsDraftFault newest t f → IsDraftFault newest t g → f ≡ g
draft_same newest t f g one other =
    let same = means_same newest t one.model other.model (Err one.fault) (Err other.fault) one.is_read other.is_read one.breaks other.breaks in
    one.named ∙ ap (fault_in t) (ap (λ z. err_or z one.fault) same) ∙ sym other.named

document_one : (newest : ℕ) (t : Members) (r s : Result Problem ModelFault) → DocumentMeans newest t r → DocumentMeans newest t s → r ≡ s
document_one newest t (Ok p) (Ok q) one other = means_same newest t one.model other.model (Ok p) (Ok q) one.is_read other.is_read one.means other.means
document_one newest t (Ok p) (Err g) one other =
    ⊎_elim
    (λ wrong. not_both (model_read newest t) one.model g one.is_read wrong)
    (λ draft. absurd (cc (means_same newest t one.model draft.model (Ok p) (Err draft.fault) one.is_read draft.is_read one.means draft.breaks)))
    other
document_one newest t (Err f) (Ok q) one other =
    ⊎_elim
    (λ wrong. not_both (model_read newest t) other.model f other.is_read wrong)
    (λ draft. absurd (cc (means_same newest t other.model draft.model (Ok q) (Err draft.fault) other.is_read draft.is_read other.means draft.breaks)))
    one
document_one newest t (Err f) (Err g) one other =
    ap Err (⊎_elim
    (λ wrong. ⊎_elim (λ also. same_err (model_read newest t) f g wrong also) (λ draft. not_both (model_read newest t) draft.model f draft.is_read wrong) other)
    (λ draft. ⊎_elim (λ wrong. not_both (model_read newest t) draft.model g draft.is_read wrong) (λ also. draft_same newest t f g draft also) other)
    one)

none_some : {A : Type 0} (o : Option Members) (t : Members) → o ≡ None → o ≡ Some t → A
none_some o t none some = absurd (cc (sym none ∙ some))

pub bytes_one : (newest : ℕ) (bytes : List ℕ) (r s : Result Problem ModelFault) → MeanUpTo newest bytes r → MeanUpTo newest bytes s → r ≡ s
bytes_one newest bytes r s one other =
    ⊎_elim
    (λ none. ⊎_elim (λ also. none.1 ∙ sym also.1) (λ some. none_some (document_of bytes) some.0 none.0 some.1) other)
    (λ some. ⊎_elim
    (λ none. none_some (document_of bytes) some.0 none.0 some.1)
    (λ also.
    let same : also.0 ≡ some.0 = ap (λ o. some_or o also.0) (sym also.1 ∙ some.1) in
    document_one newest some.0 r s some.2 (subst (λ t. DocumentMeans newest t s) same also.2))
    other)
    one

-- Lists of values that are made one after the other.
use Rattle.std.proofs.Common.{◌≡◌, ◌∙◌, ℕ, zero, suc, ◌+◌, ◌-◌, ◌≤◌, List, [], ◌∷◌, ◌++◌, map, Vec, Global, refl, ap, arith}
use Rattle.serde_json.specs.Data.{Data, array}
use Rattle.serde_json.specs.View.{items_of, view}
use Rattle.serde_json.specs.declared.value.Value.{Value, Array}
use Rattle.serde_json.proofs.Views.{view-Array}
use Rattle.report.specs.Summary.{list_to}

pub list_to_more : {A : Type 0} (n : ℕ) (f : ℕ → A) → 1 ≤ n → list_to (n + 1 - 1) f ≡ list_to (n - 1) f ++ (f n ∷ [])
list_to_more zero f h = absurd (omega arith)
list_to_more (suc n) f h = let e : suc n + 1 - 1 ≡ suc n = omega arith in let d : suc n - 1 ≡ n = omega arith in rw (e, d) refl

views_last : (vs : List Value) (v : Value) → map view (vs ++ v ∷ []) ≡ map view vs ++ (view v ∷ [])
views_last [] v = refl
views_last (x ∷ vs) v = ap (λ ds. view x ∷ ds) (views_last vs v)

-- one more value
pub pushed : (vs : List Value) (v : Value) (n : ℕ) (f : ℕ → Data) → 1 ≤ n → map view vs ≡ list_to (n - 1) f → view v ≡ f n
    → map view (vs ++ v ∷ []) ≡ list_to (n + 1 - 1) f
pushed vs v n f low before is = rw (views_last vs v, before, is, list_to_more n f low) refl

-- all of them
pub whole : (v : Vec Value Global) (n m : ℕ) (f : ℕ → Data) → map view v.items ≡ list_to (n - 1) f → n - 1 ≡ m → view (Array v) ≡ array (items_of (list_to m f))
whole v n m f is end = view-Array v ∙ ap (λ ds. array (items_of ds)) (is ∙ ap (λ k. list_to k f) end)

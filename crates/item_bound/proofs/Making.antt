-- The step of the loop that makes parts: what is made, and what is left to make, is the whole.
use Rattle.std.proofs.Common.{◌≡◌, ◌<◌, ◌+◌, ◌-◌, ◌∙◌, ℕ, suc, ap, arith, List, [], ◌∷◌, ◌++◌, append_assoc}
use Rattle.std.specs.Prelude.{pos}
use Rattle.lin_rows.specs.declared.base.RowName.TheVariants.{Cut}
use Rattle.cert_lines.specs.declared.parts.Part.{Part}
use Rattle.item_bound.specs.Cuts.{once_from}

abbrev taken_once : ℕ → Part
taken_once k = record { row = Cut k; times = pos 1 }

pub once_next : (done new : List Part) (before place count : ℕ) → place < count → done ++ once_from (before + place + 1) (count - place) ≡ once_from (before + 1) count → new ≡ done ++ (taken_once (before + place + 1) ∷ []) → new ++ once_from (before + (place + 1) + 1) (count - (place + 1)) ≡ once_from (before + 1) count
once_next done new before place count less whole is =
    let k = before + place + 1 in
    let left = count - (place + 1) in
    let e : suc left ≡ count - place = omega (arith, less) in
    let next : before + (place + 1) + 1 ≡ suc k = omega arith in
    ap (λ xs. xs ++ once_from (before + (place + 1) + 1) left) is
    ∙ append_assoc done (taken_once k ∷ []) (once_from (before + (place + 1) + 1) left)
    ∙ ap (λ j. done ++ (taken_once k ∷ once_from j left)) next
    ∙ ap (λ n. done ++ once_from k n) e
    ∙ whole

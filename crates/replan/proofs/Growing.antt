-- Lists that grow by one element.
use Rattle.std.proofs.Common.{◌≡◌, ◌≤◌, ◌<◌, ◌+◌, ◌-◌, ◌∙◌, ℕ, sym, ap, arith, List, [], ◌∷◌, ◌++◌, length, take, map, slice_index_or}
use Rattle.std.specs.Prelude.{pos}
use Rattle.std.proofs.lemmas.List.{get_or-drop, length-drop, map_push, take_all, take_more}
use Rattle.std.specs.Prelude.{drop}
use Rattle.lot_model.specs.Drafted.{wholes}

-- a list that stands for the first elements of another stands for one more of them with an element that stands for the next
pub one_more : {A B C : Type 0} (d : B) (f : A → C) (g : B → C) (made : List A) (x : A) (whole : List B) (k : ℕ) → map f made ≡ map g (take k whole) → k < length whole → f x ≡ g (slice_index_or whole k d) → map f (made ++ x ∷ []) ≡ map g (take (k + 1) whole)
one_more d f g made x whole k so_far less is =
    let next = slice_index_or whole k d in
    map_push f made x
    ∙ (ap (λ ys. ys ++ f x ∷ []) so_far
    ∙ (ap (λ y. map g (take k whole) ++ y ∷ []) is
    ∙ (sym (map_push g (take k whole) next) ∙ ap (map g) (sym (take_more whole k d less)))))

-- and at the end for all of them
pub all_of : {A B C : Type 0} (f : A → C) (g : B → C) (made : List A) (whole : List B) (k : ℕ) → map f made ≡ map g (take k whole) → length whole ≤ k → map f made ≡ map g whole
all_of f g made whole k so_far done = so_far ∙ ap (map g) (take_all k whole done)

-- the same of amounts from a place on
pub one_later : (xs : List ℕ) (first place : ℕ) → first ≤ place → place < length xs → wholes (take (place + 1 - first) (drop first xs)) ≡ wholes (take (place - first) (drop first xs)) ++ pos (slice_index_or xs place 0) ∷ []
one_later xs first place low high =
    let k = place - first in
    let e : place + 1 - first ≡ k + 1 = omega (arith, low) in
    let here : first + k ≡ place = omega (arith, low) in
    let size = length-drop first xs in
    ap (λ n. wholes (take n (drop first xs))) e
    ∙ (ap wholes (take_more (drop first xs) k 0 (omega (arith, size, low, high)))
    ∙ (map_push (λ (x : ℕ). pos x) (take k (drop first xs)) (slice_index_or (drop first xs) k 0)
    ∙ ap (λ x. wholes (take k (drop first xs)) ++ pos x ∷ []) (get_or-drop first xs k 0 ∙ ap (λ j. slice_index_or xs j 0) here)))

-- Texts that are put one after the other.
use Rattle.std.proofs.Common.{◌≡◌, ◌<◌, ◌+◌, ◌∙◌, ℕ, refl, sym, ap, suc, Bool, true, false, List, [], ◌∷◌, ◌++◌, append_assoc, append-nil, length, map, slice_index_or, take}
use Rattle.std.proofs.lemmas.List.{length-append, map_push, take_more}
use Rattle.std.proofs.lemmas.Grind.{flat_map-append}
use Rattle.std.specs.List.{flat_map}
use Rattle.cert_lines.specs.Text.{bits_text}

-- one more element
pub joined_more : {A : Type 0} (f : A → List ℕ) (xs : List A) (k : ℕ) (d : A) → k < length xs → flat_map f (take (k + 1) xs) ≡ flat_map f (take k xs) ++ f (slice_index_or xs k d)
joined_more f xs k d less =
    ap (flat_map f) (take_more xs k d less) ∙ flat_map-append f (take k xs) (slice_index_or xs k d ∷ []) ∙ ap (λ t. flat_map f (take k xs) ++ t) (append-nil (f (slice_index_or xs k d)))

-- a text that grew by so much grows by the next element
pub grows : {A : Type 0} (f : A → List ℕ) (xs : List A) (k : ℕ) (d : A) (old mid new : List ℕ) → k < length xs → mid ≡ old ++ flat_map f (take k xs) → new ≡ mid ++ f (slice_index_or xs k d) → new ≡ old ++ flat_map f (take (k + 1) xs)
grows f xs k d old mid new less so_far next =
    next ∙ ap (λ t. t ++ f (slice_index_or xs k d)) so_far ∙ append_assoc old (flat_map f (take k xs)) (f (slice_index_or xs k d)) ∙ ap (λ t. old ++ t) (sym (joined_more f xs k d less))

-- pieces that are put one after the other
pub price_joined : (old p l1 g l2 h l3 b l4 end : List ℕ) → ((((((((old ++ p) ++ l1) ++ g) ++ l2) ++ h) ++ l3) ++ b) ++ l4) ++ end ≡ old ++ ((p ++ (l1 ++ (g ++ (l2 ++ (h ++ (l3 ++ (b ++ l4))))))) ++ end)
price_joined old p l1 g l2 h l3 b l4 end = simp append_assoc refl

pub block_joined : (old p l1 g l2 h l3 b l4 q l5 end : List ℕ) → ((((((((((old ++ p) ++ l1) ++ g) ++ l2) ++ h) ++ l3) ++ b) ++ l4) ++ q) ++ l5) ++ end ≡ old ++ ((p ++ (l1 ++ (g ++ (l2 ++ (h ++ (l3 ++ (b ++ (l4 ++ (q ++ l5))))))))) ++ end)
block_joined old p l1 g l2 h l3 b l4 q l5 end = simp append_assoc refl

pub list_joined : (old a kind index times end : List ℕ) → ((((old ++ a) ++ kind) ++ index) ++ times) ++ end ≡ old ++ ((a ++ (kind ++ (index ++ times))) ++ end)
list_joined old a kind index times end = simp append_assoc refl

pub pair_joined : (old a low top end : List ℕ) → (((old ++ a) ++ low) ++ top) ++ end ≡ old ++ ((a ++ (low ++ top)) ++ end)
pair_joined old a low top end = simp append_assoc refl

pub triple_joined : (old a low mid top end : List ℕ) → ((((old ++ a) ++ low) ++ mid) ++ top) ++ end ≡ old ++ ((a ++ (low ++ (mid ++ top))) ++ end)
triple_joined old a low mid top end = simp append_assoc refl

pub word_joined : (old a rest end : List ℕ) → (old ++ a) ++ (rest ++ end) ≡ old ++ ((a ++ rest) ++ end)
word_joined old a rest end = simp append_assoc refl

-- how long the text is with one more element
pub length_more : {A : Type 0} (f : A → List ℕ) (xs : List A) (k : ℕ) (d : A) → k < length xs → length (flat_map f (take (k + 1) xs)) ≡ length (flat_map f (take k xs)) + length (f (slice_index_or xs k d))
length_more f xs k d less = ap length (joined_more f xs k d less) ∙ length-append (flat_map f (take k xs)) (f (slice_index_or xs k d))

pub bits_length : (bs : List Bool) → length (bits_text bs) ≡ length bs
bits_length [] = refl
bits_length (true ∷ bs) = ap suc (bits_length bs)
bits_length (false ∷ bs) = ap suc (bits_length bs)

-- copies of the first elements and of the next one
pub copied_more : {A C : Type 0} (f : A → C) (made : List A) (x : A) (whole : List A) (k : ℕ) (d : A) → map f made ≡ map f (take k whole) → k < length whole → f x ≡ f (slice_index_or whole k d) → map f (made ++ x ∷ []) ≡ map f (take (k + 1) whole)
copied_more f made x whole k d so_far less is =
    map_push f made x ∙ ap (λ ys. ys ++ f x ∷ []) so_far ∙ ap (λ y. map f (take k whole) ++ y ∷ []) is ∙ sym (map_push f (take k whole) (slice_index_or whole k d)) ∙ ap (map f) (sym (take_more whole k d less))

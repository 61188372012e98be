-- What holds where there is no fault.
use Rattle.std.proofs.Common.{◌≡◌, ◌≤◌, ◌<◌, ◌+◌, ◌-◌, ◌∙◌, ℕ, zero, suc, refl, sym, ap, arith, List, [], ◌∷◌, length, map, take, drop, slice_index_or, Option, Some, None}
use Rattle.std.specs.Prelude.{ℤ, pos, negsuc, int_le, nat_le, Bool, true, false, not, ◌&&◌}
use Rattle.lot_draft.specs.declared.fault.ModelFault.{ModelFault}
use Rattle.lot_draft.specs.declared.fault.ModelCode.{ModelCode}
use Rattle.lot_draft.specs.declared.fault.Place.{Place}
use Rattle.lot_draft.specs.declared.fault.Key.{Key}
use Rattle.lot_draft.specs.Meaning.{natural}
use Rattle.lot_draft.specs.Refusals.{Fault, first_in, is_among, is_from, or_then, repeat_at, unless, use_fault}
use Rattle.lot_draft.specs.Raw.{RawUse}

pub first_none : (a b : Fault) → or_then a b ≡ None → a ≡ None
first_none None b h = refl
first_none (Some f) b h = cc h

pub rest_none : (a b : Fault) → or_then a b ≡ None → b ≡ None
rest_none None b h = h
rest_none (Some f) b h = cc h

pub holds : (b : Bool) (c : ModelCode) (p : Place) (k : Option Key) (t : Option ℕ) → unless b c p k t ≡ None → b ≡ true
holds true c p k t h = refl
holds false c p k t h = cc h

pub first_of : (a b : Bool) → (a && b) ≡ true → a ≡ true
first_of true b h = refl
first_of false b h = cc h

pub second_of : (a b : Bool) → (a && b) ≡ true → b ≡ true
second_of true b h = h
second_of false b h = cc h

pub at_most : (a b : ℕ) → nat_le a b ≡ true → a ≤ b
at_most a b h = grind (arith, h)

-- each member has no fault
pub each_none : {A : Type 0} → (f : ℕ → A → Fault) (n k : ℕ) (d : A) (xs : List A) → first_in f n xs ≡ None → k < length xs → f (n + k) (slice_index_or xs k d) ≡ None
each_none f n k d [] h less = absurd (omega (arith, less))
each_none f n zero d (x ∷ xs) h less = let e : n + 0 ≡ n = omega arith in ap (λ i. f i x) e ∙ first_none (f n x) (first_in f (suc n) xs) h
each_none f n (suc k) d (x ∷ xs) h less = let e : n + suc k ≡ suc n + k = omega arith in ap (λ i. f i (slice_index_or xs k d)) e ∙ each_none f (suc n) k d xs (rest_none (f n x) (first_in f (suc n) xs) h) (omega (arith, less))

is_not : (b : Bool) → not b ≡ true → b ≡ false
is_not true h = cc h
is_not false h = refl

-- a line of resources without a fault names a known resource that no earlier line names
pub use_known : (names : List (List ℕ)) (i : ℕ) (lines : List RawUse) (n : ℕ) (a : RawUse) → use_fault names i lines n a ≡ None → is_among names a.resource ≡ true
use_known names i lines n a h = holds (is_among names a.resource) _ _ _ _ (first_none _ _ h)

pub use_new : (names : List (List ℕ)) (i : ℕ) (lines : List RawUse) (n : ℕ) (a : RawUse) → use_fault names i lines n a ≡ None → is_among (take (n - 1) (map (λ u. u.resource) lines)) a.resource ≡ false
use_new names i lines n a h = is_not _ (holds _ _ _ _ _ (first_none _ _ (rest_none _ _ h)))

-- five that are none, one after another
pub all_none : (a b c d e : Fault) → a ≡ None → or_then b c ≡ None → or_then d e ≡ None → or_then a (or_then b (or_then c (or_then d e))) ≡ None
all_none (Some f) b c d e h i j = cc h
all_none None (Some f) c d e h i j = cc i
all_none None None (Some f) d e h i j = cc i
all_none None None None d e h i j = j

-- No number of a summary is a float, so all of its text is determined.
use Rattle.std.proofs.Common.{◌≡◌, ℕ, zero, suc, List, [], ◌∷◌, ◌++◌, Bool, true, false, ◌||◌, refl}
use Rattle.serde_json.specs.Data.{Data}
use Rattle.serde_json.specs.View.{items_of}
use Rattle.serde_json.specs.Written.{has_float, items_have_float}
use Rattle.lot_sizing.specs.Problem.{Problem, item_count, resource_count}
use Rattle.lot_sizing.specs.Plan.{Plan, time_used}
use Rattle.report.specs.Summary.{amount, item_data, list_to, resource_data, summary_data}

either : (a b d : Bool) → (a || b) ≡ false → (b ≡ false → d ≡ false) → (a || d) ≡ false
either false b d h more = more h
either true b d h more = h

plain_last : (ds : List Data) (d : Data) → items_have_float (items_of ds) ≡ false → has_float d ≡ false → items_have_float (items_of (ds ++ (d ∷ []))) ≡ false
plain_last [] d h e = rw e refl
plain_last (x ∷ ds) d h e = either (has_float x) (items_have_float (items_of ds)) (items_have_float (items_of (ds ++ (d ∷ [])))) h (λ all. plain_last ds d all e)

plain_to : (n : ℕ) (f : ℕ → Data) → ((k : ℕ) → has_float (f k) ≡ false) → items_have_float (items_of (list_to n f)) ≡ false
plain_to zero f h = refl
plain_to (suc n) f h = plain_last (list_to n f) (f (suc n)) (plain_to n f h) (h (suc n))

resource_plain : (m : Problem) (p : Plan) (k : ℕ) → has_float (resource_data m p k) ≡ false
resource_plain m p k = rw (plain_to m.periods (λ t. amount (time_used m p k t)) (λ t. refl)) refl

pub no_float : (m : Problem) (p : Plan) → has_float (summary_data m p) ≡ false
no_float m p = rw (plain_to (item_count m) (item_data m p) (λ i. refl), plain_to (resource_count m) (resource_data m p) (resource_plain m p)) refl

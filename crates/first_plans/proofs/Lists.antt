-- Lists of plans that were made.
use Rattle.std.proofs.Common.{◌≡◌, ◌++◌, ◌∙◌, List, [], ◌∷◌, All, refl, sym, subst, arith, length-append}
use Rattle.std.specs.Prelude.{Any, Option, Some, None, IfSome, IfNone}
use Rattle.std.proofs.lemmas.List.{get_or_append_left}
use Rattle.std.proofs.lemmas.List.Elements.{All-append, All-nil}
use Rattle.lot_sizing.specs.Problem.{Problem}
use Rattle.plan_rules.specs.Held.{plan_of}
use Rattle.plan_rules.specs.declared.plan.Planned.{Planned}
use Rattle.first_plans.specs.OwnPeriod.{HasOwnPeriod, IsOwnPeriod}
use Rattle.first_plans.specs.Made.{CostsAsOwn, HasOwn, IsLonger, IsMade, IsOwnMade, those}

-- one plan more, if there is one
pub all_more : (m : Problem) (list : List Planned) (found : Option Planned) → All (IsMade m) list → IfSome found (IsMade m) → All (IsMade m) (list ++ those found)
all_more m list None all made = All-append (IsMade m) list [] all (All-nil (IsMade m))
all_more m list (Some p) all made = All-append (IsMade m) list (p ∷ []) all (λ k d less. let e : k ≡ 0 = omega arith in rw e made)

any_more : {X : Type 0} (P : X → Type 0) (xs ys : List X) → Any P xs → Any P (xs ++ ys)
any_more P xs ys (k, x, less, is, holds) = (k, x, omega (arith, length-append xs ys), get_or_append_left xs ys x k less ∙ is, holds)

-- the own-period plan stays among them
pub own_stays : (m : Problem) (old new : List Planned) → HasOwn m old → IsLonger old new → HasOwn m new
own_stays m old new has (more, e) = λ q own f. subst (Any (IsOwnMade m q)) (sym e) (any_more (IsOwnMade m q) old more (has q own f))

-- and stands there once it was found
pub own_first : (m : Problem) (found : Option Planned) → IfSome found (λ p. IsOwnPeriod m (plan_of p.plan)) → IfSome found (CostsAsOwn m) → IfNone found (HasOwnPeriod m → ⊥) → HasOwn m (those found)
own_first m None own one none = λ q is f. absurd (none (q, is, f))
own_first m (Some p) own one none = λ q is f. (0, p, omega arith, refl, record { own = own; cheap = omega (arith, one q is) })

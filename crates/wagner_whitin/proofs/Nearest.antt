-- The cheapest line that is met.
use Rattle.std.proofs.Common.{◌≡◌, ◌≤◌, ◌<◌, ◌+◌, ◌-◌, ⊎_elim, ℕ, zero, suc, sym, subst, arith, List, Option, Some, IfSome}
use Rattle.wagner_whitin.specs.declared.lines.Line.{Line}
use Rattle.wagner_whitin.specs.Lines.{slot_at, middle_of, CostsAtMost, IsReached}

-- a line that is kept somewhere
abbrev pub IsKept : List (Option Line) → Option Line → Type 0
IsKept slots o = IfSome o (λ line. (k : ℕ) × (1 ≤ k) × (slot_at slots k ≡ Some line))

pub least_left : (value : Line → ℕ → ℕ) (slots : List (Option Line)) (level low high p x : ℕ) (here side chosen : Option Line) → 1 ≤ level → p < middle_of low high → slot_at slots (middle_of low high) ≡ here → (CostsAtMost value here p x → CostsAtMost value chosen p x) → (CostsAtMost value side p x → CostsAtMost value chosen p x) → (IsReached value slots (level - 1) low (middle_of low high) p x → CostsAtMost value side p x) → IsReached value slots level low high p x → CostsAtMost value chosen p x
least_left value slots level low high p x here side chosen some left is first second inner reached =
    let e : suc (level - 1) ≡ level = omega (arith, some) in
    let again : IsReached value slots (suc (level - 1)) low high p x = subst (λ k. IsReached value slots k low high p x) (sym e) reached in
    ⊎_elim
    (λ a. first (subst (λ o. CostsAtMost value o p x) is a))
    (λ b. ⊎_elim (λ l. second (inner l.1)) (λ r. absurd (omega (arith, r.0, left))) b)
    again

pub least_right : (value : Line → ℕ → ℕ) (slots : List (Option Line)) (level low high p x : ℕ) (here side chosen : Option Line) → 1 ≤ level → middle_of low high < p → slot_at slots (middle_of low high) ≡ here → (CostsAtMost value here p x → CostsAtMost value chosen p x) → (CostsAtMost value side p x → CostsAtMost value chosen p x) → (IsReached value slots (level - 1) (middle_of low high + 1) high p x → CostsAtMost value side p x) → IsReached value slots level low high p x → CostsAtMost value chosen p x
least_right value slots level low high p x here side chosen some right is first second inner reached =
    let e : suc (level - 1) ≡ level = omega (arith, some) in
    let again : IsReached value slots (suc (level - 1)) low high p x = subst (λ k. IsReached value slots k low high p x) (sym e) reached in
    ⊎_elim
    (λ a. first (subst (λ o. CostsAtMost value o p x) is a))
    (λ b. ⊎_elim (λ l. absurd (omega (arith, l.0, right))) (λ r. second (inner r.1)) b)
    again

pub least_here : (value : Line → ℕ → ℕ) (slots : List (Option Line)) (level low high p x : ℕ) (here : Option Line) → p ≤ middle_of low high → middle_of low high ≤ p → slot_at slots (middle_of low high) ≡ here → IsReached value slots level low high p x → CostsAtMost value here p x
least_here value slots zero low high p x here left right is reached = absurd reached
least_here value slots (suc level) low high p x here left right is reached =
    ⊎_elim
    (λ a. subst (λ o. CostsAtMost value o p x) is a)
    (λ b. ⊎_elim (λ l. absurd (omega (arith, l.0, right))) (λ r. absurd (omega (arith, r.0, left))) b)
    reached

-- What is found with a watcher that is asked only where it may end the search.
use Rattle.std.proofs.Common.{◌≡◌, ◌&&◌, ⊎_elim, ℕ, Bool, true, false, List, Option, Some, None, inl, inr, refl, subst, sym}
use Rattle.std.specs.Prelude.{option_map}
use Rattle.lot_sizing.specs.Problem.{Problem}
use Rattle.plan_rules.specs.declared.plan.Plan.{Plan}
use Rattle.lin_rows.specs.Rows.{LinRow}
use Rattle.cert_lines.specs.declared.parts.Claim.{Claim}
use Rattle.cert_lines.specs.declared.parts.Claim.TheVariants.{Optimal, Infeasible, Bound as BoundOf}
use Rattle.tree_search.specs.declared.limits.Limits.{Limits}
use Rattle.search_result.specs.declared.found.Found.{Found}
use Rattle.branching.specs.Search.{DecidesSmall, IfBound, IsUndecided, KeepsFirst, WithRows, cost_of}
use Rattle.command_line.proofs.Allowed.{first_true as asked}
use Rattle.lotplan.specs.Finding.{IsKept}

unasked : (is may : Bool) → is ≡ false → (is && may) ≡ false
unasked true may never = absurd (cc never)
unasked false may never = refl

module _ (m : Problem) (budget : ℕ) (limits : Limits) (is may : Bool) where
  undecided : (found : Found) (rows : List LinRow) → IsUndecided m budget limits (is && may) found rows → IsUndecided m budget limits is found rows
  undecided found rows x = ⊎_elim (λ room. inl room) (λ early. inr (⊎_elim (λ near. inl near) (λ stopped. inr (asked is may stopped)) early)) x

  if_bound : (found : Found) (claim : Claim) → IfBound claim (λ amount. WithRows m found (IsUndecided m budget limits (is && may) found)) → IfBound claim (λ amount. WithRows m found (IsUndecided m budget limits is found))
  if_bound found (Optimal amount) x = tt
  if_bound found Infeasible x = tt
  if_bound found (BoundOf amount) (rows, good, x) = (rows, good, undecided found rows x)

  pub cause : (found : Found) → IfBound found.certificate.claim (λ amount. WithRows m found (IsUndecided m budget limits (is && may) found)) → IfBound found.certificate.claim (λ amount. WithRows m found (IsUndecided m budget limits is found))
  cause found x = if_bound found found.certificate.claim x

  pub small : (claim : Claim) → DecidesSmall m budget limits (is && may) claim → DecidesSmall m budget limits is claim
  small claim x no_gap never total ts fits = x no_gap (unasked is may never) total ts fits

-- a plan to start from is kept by its cost
pub kept : (m : Problem) (begins : Option ℕ) (first given : Option Plan) → begins ≡ option_map (cost_of m) first → KeepsFirst m first given → IsKept m begins given
kept m begins None given same x = subst (λ b. IsKept m b given) (sym same) tt
kept m begins (Some plan) given same x = subst (λ b. IsKept m b given) (sym same) x

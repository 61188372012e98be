use Rattle.std.proofs.Common.{◌≡◌, refl, rules, arith}
use Rattle.cert_lines.specs.declared.parts.Claim.{Claim}
use Rattle.cert_lines.specs.declared.parts.Claim.TheVariants.{Optimal, Infeasible, Bound}
use Rattle.cert_lines.specs.Text.{claim_line}
use Rattle.cert_lines.specs.Limits.{IsSmallClaim}
use Rattle.cert_lines.proofs.head.read_claim.Goals as goal

no_claim : (c : goal.In-None) (claim : Claim) → IsSmallClaim claim → c.args.line.now ≡ claim_line claim → ⊥
no_claim c (Optimal cost) small same = c.in_default.ensures.none refl cost (omega (arith, small)) same
no_claim c Infeasible small same = search (rules, same)
no_claim c (Bound bound) small same = c.in-None.ensures.none refl bound (omega (arith, small)) same

pub returns-in-None-clause-none : goal.returns-in-None-clause-none
returns-in-None-clause-none c = λ _ claim small same. no_claim c claim small same

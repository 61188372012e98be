-- What a certificate file proves, with the plan file where it asks for one.
use Rattle.std.specs.Prelude.{◌≡◌, List, ℕ, Option, Some, None}
use Rattle.lot_sizing.specs.Problem.{Problem}
use Rattle.lot_io.specs.Outside.{Files}
use Rattle.plan_rules.specs.declared.plan.Plan.{Plan}
use Rattle.cert_lines.specs.declared.parts.Claim.{Claim}
use Rattle.cert_lines.specs.declared.parts.Claim.TheVariants.{Optimal, Infeasible, Bound as BoundOf}
use Rattle.certificate.specs.Limits.{IsTextOf}
use Rattle.certificate.specs.Shapes.{Shape}
use Rattle.cert_meaning.specs.Accepts.{IsTrueOf}
use Rattle.cert_checker.specs.Cuts.{OfProblem}
use Rattle.cert_checker.specs.Checks.{IsCertified, plan_given}
use Rattle.stream_check.specs.Streams.{OfBytes}
use Rattle.lotplan.specs.Reading.{HoldsPlan}

-- the plan that goes with a claim: that of the plan file where an optimal cost is claimed, and else none
abbrev pub IsGiven : Files → List ℕ → Problem → Claim → Option Plan → Type 0
IsGiven before p problem (Optimal amount) (Some plan) = HoldsPlan before p problem plan
IsGiven before p problem (Optimal amount) None = ⊥
IsGiven before p problem Infeasible given = given ≡ None
IsGiven before p problem (BoundOf amount) given = given ≡ None

-- the certificate file holds a certificate, and this plan goes with its claim
pub record HoldsCertificate (before : Files) (plan_file certificate_file : List ℕ) (problem : Problem) : Type 0 where
  pub certificate : Shape
  pub text : OfBytes (before certificate_file) (λ bytes. IsTextOf bytes certificate)
  pub given : Option Plan
  pub goes_with : IsGiven before plan_file problem certificate.claim given

-- it is accepted with small sums, whichever largest totals and weights of the problem are taken, and its claim, which is this, is true of the problem
pub record HoldsProof (before : Files) (plan_file certificate_file : List ℕ) (problem : Problem) (claim : Claim) : Type 0 where
  pub holds : HoldsCertificate before plan_file certificate_file problem
  pub claims : holds.certificate.claim ≡ claim
  pub is_true : IsTrueOf problem claim (plan_given holds.given)
  pub certified : OfProblem problem (λ total weight. IsCertified problem total weight holds.certificate holds.given)

-- What is found, and what proves it.
use Rattle.std.specs.Prelude.{◌≡◌, ◌<◌, ◌^◌, Option, IsSome, IsNone}
use Rattle.lot_sizing.specs.Problem.{Problem}
use Rattle.plan_rules.specs.declared.plan.Plan.{Plan}
use Rattle.cert_lines.specs.declared.limits.TheConstants.{FIRST_CERT_VERSION}
use Rattle.cert_lines.specs.declared.parts.Claim.{Claim}
use Rattle.cert_lines.specs.declared.parts.Claim.TheVariants.{Optimal, Infeasible, Bound as BoundOf}
use Rattle.certificate.specs.Shapes.{shape_of}
use Rattle.certificate.specs.Counts.{node_count}
use Rattle.certificate.specs.Limits.{IsWritable}
use Rattle.cert_meaning.specs.Accepts.{IsTrueOf}
use Rattle.cert_checker.specs.Checks.{IsGoodCertificate, line_count, plan_given}
use Rattle.search_result.specs.declared.found.Found.{Found}
use Rattle.search_result.specs.declared.found.RootSays.TheVariants as root

-- the certificate has a text, is accepted with the plan by the checker, and its claim is true; nodes are those of its tree
pub record IsProved (m : Problem) (found : Found) : Type 0 where
  pub writable : IsWritable (shape_of found.certificate)
  pub lines : line_count (shape_of found.certificate) < 2 ^ 63
  pub certified : IsGoodCertificate m (shape_of found.certificate) found.plan
  pub claim : IsTrueOf m found.certificate.claim (plan_given found.plan)
  pub nodes : found.nodes ≡ node_count (shape_of found.certificate).tree

-- an optimal cost is claimed with a plan, and that none is feasible without one; nothing is left open
abbrev pub GoesWithPlan : Claim → Option Plan → Type 0
GoesWithPlan (Optimal amount) given = IsSome given
GoesWithPlan Infeasible given = IsNone given
GoesWithPlan (BoundOf amount) given = ⊥

-- without a branch
pub record IsDecidedAlone (found : Found) : Type 0 where
  pub decided : GoesWithPlan found.certificate.claim found.plan
  pub root : found.root ≡ root.Uncoupled
  pub alone : found.nodes ≡ 1
  pub version : found.certificate.version ≡ FIRST_CERT_VERSION

use Rattle.cert_lines.specs.declared.parts.Claim.{Claim}
use Rattle.cert_lines.specs.declared.parts.Claim.TheVariants.{Optimal, Infeasible, Bound as BoundOf}
use Rattle.lot_sizing.specs.Problem.{Problem}
use Rattle.lot_sizing.specs.Plan.{Plan}
use Rattle.cert_meaning.specs.declared.says.LeafSays.{LeafSays}
use Rattle.cert_meaning.specs.declared.says.LeafSays.TheVariants.{NoPlan, AtLeast}
use Rattle.cert_meaning.specs.Accepts.{IsEnough}
use Rattle.cert_meaning.specs.Says.{IsSoOf}
use Rattle.stream_check.specs.Nodes.{IsSafe}
use Rattle.std.proofs.Common.{arith, refl}
use Rattle.stream_check.proofs.nodes.check_leaf.Goals as goal

-- what is enough for the claim, and so of the plan, makes it safe
safe : (m : Problem) (claim : Claim) (says : LeafSays) (p : Plan) → IsEnough claim says → IsSoOf m says p → IsSafe m claim p
safe m (Optimal c) NoPlan p enough so = absurd so
safe m (Optimal c) (AtLeast n) p enough so = omega (arith, enough, so)
safe m Infeasible NoPlan p enough so = so
safe m Infeasible (AtLeast n) p enough so = enough
safe m (BoundOf c) NoPlan p enough so = absurd so
safe m (BoundOf c) (AtLeast n) p enough so = omega (arith, enough, so)

pub returns-in-None-clause-safe : goal.returns-in-None-clause-safe
returns-in-None-clause-safe c = λ hold p feasible met. safe c.args.given.instance.now c.args.given.claim c.in_ok-says.says p (c.in-None.ensures.enough refl) (c.in_ok-says.ensures.bounds hold p feasible met)

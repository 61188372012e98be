-- What is said of a refusal.
use Rattle.std.proofs.Common.{◌≡◌, ℕ, List, sym, subst}
use Rattle.lot_sizing.specs.Problem.{Problem}
use Rattle.lin_rows.specs.declared.bound.Bound.{Bound}
use Rattle.lin_rows.specs.Rows.{LinRow}
use Rattle.cert_lines.specs.declared.parts.Claim.{Claim}
use Rattle.cert_lines.specs.Shapes.{LeafShape}
use Rattle.certificate.specs.Shapes.{End, TreeShape}
use Rattle.cert_checker.specs.declared.fault.CheckFault.{CheckFault}
use Rattle.cert_checker.specs.declared.fault.CheckFault.TheVariants as fault
use Rattle.cert_checker.specs.declared.fault.Why.{Why}
use Rattle.cert_checker.specs.Leaves.{IfRejected}
use Rattle.cert_checker.specs.Checks.{LeafHasFault, TreeHasFault}

-- what follows whatever its line and its cause are
pub rejected_weaker : (f : CheckFault) (P Q : ℕ → Why → Type 0) → ((at : ℕ) (w : Why) → P at w → Q at w) → IfRejected f P → IfRejected f Q
rejected_weaker (fault.Rejected r) P Q more is = more r.line r.why is
rejected_weaker fault.Memory P Q more is = tt

-- at a leaf
pub leaf_fault : (m : Problem) (rows : List LinRow) (claim : Claim) (path : List Bound) (t : TreeShape) (leaf : LeafShape) (line : ℕ) (f : CheckFault) → t ≡ End leaf → LeafHasFault m rows claim path leaf line f → TreeHasFault m rows claim path t line f
leaf_fault m rows claim path t leaf line f is faulty = subst (λ x. TreeHasFault m rows claim path x line f) (sym is) faulty

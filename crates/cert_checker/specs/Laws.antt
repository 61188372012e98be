-- Laws about checks.
use Rattle.std.specs.Prelude.{◌≡◌, ℕ, ◌≤◌, List, length, Option}
use Rattle.lot_sizing.specs.Problem.{IsWithinLimits, Problem}
use Rattle.lot_sizing.specs.Totals.{IsRanking}
use Rattle.plan_rules.specs.declared.plan.Plan.{Plan}
use Rattle.certificate.specs.Limits.{IsTextOf}
use Rattle.certificate.specs.Shapes.{Shape}
use Rattle.cert_checker.specs.declared.fault.Why.{Why}
use Rattle.cert_checker.specs.Cuts.{OfProblem}
use Rattle.cert_checker.specs.Checks.{IsCertified, IsCheckFault, IsGoodCertificate, line_count}

-- the text of a certificate has no more lines than bytes
abbrev pub LinesAreBytes : Type 0
LinesAreBytes = (bytes : List ℕ) (s : Shape) → IsTextOf bytes s → line_count s ≤ length bytes

-- two refusals name one line, and one cause
abbrev pub IsSameFault : (at : ℕ) → Why → (other : ℕ) → Why → Type 0
IsSameFault at w other v = (at ≡ other) × (w ≡ v)

-- a certificate has one refusal
abbrev pub ChecksAreOne : Type 0
ChecksAreOne =
    (m : Problem) (total : ℕ → ℕ) (weight : ℕ → ℕ → ℕ) (c : Shape) (given : Option Plan) (at other : ℕ) (w v : Why) → IsWithinLimits m
    → IsCheckFault m total weight c given at w → IsCheckFault m total weight c given other v → IsSameFault at w other v

-- a certificate that is accepted, and whose sums stay small, has no refusal
abbrev pub CertifiedIsNotRefused : Type 0
CertifiedIsNotRefused =
    (m : Problem) (total : ℕ → ℕ) (weight : ℕ → ℕ → ℕ) → IsWithinLimits m → (c : Shape) (given : Option Plan) (at : ℕ) (w : Why)
    → IsCertified m total weight c given → IsCheckFault m total weight c given at w → ⊥

-- and so a problem in which no item is its own component has no certificate that is accepted, with sums that stay small, and refused too
abbrev pub GoodIsNotFaulty : Type 0
GoodIsNotFaulty =
    (m : Problem) (rank : ℕ → ℕ) → IsWithinLimits m → IsRanking m rank → (c : Shape) (given : Option Plan) (at : ℕ) (w : Why)
    → IsGoodCertificate m c given → OfProblem m (λ total weight. IsCheckFault m total weight c given at w) → ⊥

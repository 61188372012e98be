-- What `check` answers: each text is a certificate's or has a first fault, and each certificate is accepted or refused.
use Rattle.std.specs.Prelude.{◌≢◌, ◌⊎◌, ℕ, List, Option}
use Rattle.lot_sizing.specs.Problem.{IsWithinLimits, Problem}
use Rattle.lot_sizing.specs.Plan as terms
use Rattle.lot_sizing.specs.Totals.{IsRanking}
use Rattle.plan_rules.specs.declared.plan.Plan.{Plan}
use Rattle.plan_rules.specs.Held.{AllFit, plan_of}
use Rattle.csv_records.specs.Records.{Record}
use Rattle.plan_file.specs.Records.{IsPlanOf}
use Rattle.certificate.specs.declared.fault.CertTextFault.{CertTextFault}
use Rattle.certificate.specs.declared.fault.CertTextFault.TheVariants.{Memory}
use Rattle.certificate.specs.Shapes.{Shape}
use Rattle.certificate.specs.Limits.{IsTextOf, IsWritable}
use Rattle.certificate.specs.Faults.{IsCertTextFault}
use Rattle.cert_checker.specs.declared.fault.Why.{Why}
use Rattle.cert_checker.specs.Cuts.{OfProblem}
use Rattle.cert_checker.specs.Checks.{IsCertified, IsCheckFault}

-- bytes are the text of a certificate, or have a first fault that isn't out of memory
abbrev pub TextsComeOut : Type 0
TextsComeOut = (bytes : List ℕ) → ((c : Shape) × IsTextOf bytes c) ⊎ ((f : CertTextFault) × (f ≢ Memory) × IsCertTextFault bytes f)

-- it is accepted with the plan that was given, and its sums are small; or a line and a cause are the first for which it isn't
abbrev pub IsDecided : Problem → Shape → Option Plan → Type 0
IsDecided m c given =
    OfProblem m (λ total weight. IsCertified m total weight c given)
    ⊎ ((line : ℕ) × (w : Why) × OfProblem m (λ total weight. IsCheckFault m total weight c given line w))

-- so is each certificate that has a text
abbrev pub CertificatesComeOut : Type 0
CertificatesComeOut = (m : Problem) (rank : ℕ → ℕ) → IsWithinLimits m → IsRanking m rank → (c : Shape) (given : Option Plan) → IsWritable c → IsDecided m c given

-- the plan of records is held by grids
abbrev pub PlansAreHeld : Type 0
PlansAreHeld = (m : Problem) (rs : List Record) (p : terms.Plan) → IsPlanOf m rs p → (grids : Plan) × AllFit m grids × IsPlanOf m rs (plan_of grids)

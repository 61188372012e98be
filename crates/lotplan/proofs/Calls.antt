-- What the commands have in common where words and files call for a status.
use Rattle.std.proofs.Common.{◌≡◌, ◌⊎◌, ◌≤◌, ⊎_elim, ℕ, sym, subst, List}
use Rattle.std.specs.Prelude.{Ok, Err}
use Rattle.bill.specs.Laws.{TotalsExist, WeightsExist}
use Rattle.certificate.specs.Laws.{TextsMeanOneThing}
use Rattle.cert_checker.specs.Laws.{CertifiedIsNotRefused}
use Rattle.lp_bounds.specs.Bounds.{BaseBoundsAreOne, CellsAreOne}
use Rattle.lot_sizing.specs.Problem.{Problem}
use Rattle.lot_sizing.specs.Plan.{Plan}
use Rattle.lot_sizing.proofs.Same.{SamePlan}
use Rattle.lot_draft.specs.declared.fault.ModelFault.{ModelFault}
use Rattle.lot_draft.proofs.Limits.{plain}
use Rattle.lot_model.specs.Laws.{MeansOneThing, MeansSomething}
use Rattle.instance_reader.specs.Model.{BytesMean}
use Rattle.instance_reader.specs.declared.versions.TheConstants.{NEWEST_VERSION}
use Rattle.instance_reader.proofs.Meanings.{bytes_one}
use Rattle.plan_file.specs.Records.{IsPlanOf, records_of}
use Rattle.plan_file.proofs.Meanings.{means_one}
use Rattle.lot_sizing.specs.Totals.{IsRanking}
use Rattle.existence.specs.Plans.{PlansAreDecided, PlansAreJudged}
use Rattle.existence.specs.Readings.{BytesMeanSomething, RecordsMeanSomething}
use Rattle.answers_exist.specs.Bounding.{BoundsComeOut}
use Rattle.answers_exist.specs.Checking.{CertificatesComeOut, PlansAreHeld, TextsComeOut}
use Rattle.lot_schedule.specs.Laws.{SamePlansSameSchedules}
use Rattle.frozen_start.specs.Laws.{ThereIsOneRest}
use Rattle.lotplan.specs.Scheduling.{SchedulesAreDecided}
use Rattle.lotplan.specs.declared.status.TheConstants.{UNDECIDED}

-- one of two statuses is that of what was left undecided
abbrev pub OneIsUndecided : ℕ → ℕ → Type 0
OneIsUndecided s t = (s ≡ UNDECIDED) ⊎ (t ≡ UNDECIDED)

-- the laws below on which it rests that no two statuses are called for
pub record AreLaws : Type 0 where
  pub totals : TotalsExist
  pub weights : WeightsExist
  pub texts : TextsMeanOneThing
  pub checks : CertifiedIsNotRefused
  pub bounds : BaseBoundsAreOne
  pub cells : CellsAreOne
  pub schedules : SamePlansSameSchedules
  pub rests : ThereIsOneRest
  pub models : MeansOneThing

-- and those on which it rests that some status is
pub record Grounds : Type 0 where
  pub totals : TotalsExist
  pub weights : WeightsExist
  pub bytes : BytesMeanSomething
  pub records : RecordsMeanSomething
  pub judged : PlansAreJudged
  pub decided : PlansAreDecided
  pub bounds : BoundsComeOut
  pub texts : TextsComeOut
  pub certificates : CertificatesComeOut
  pub held : PlansAreHeld
  pub schedules : SchedulesAreDecided
  pub models : MeansSomething

-- no bytes mean two problems, or a problem and a fault
pub one_problem : (bytes : List ℕ) (m n : Problem) → BytesMean bytes (Ok m) → BytesMean bytes (Ok n) → m ≡ n
one_problem bytes m n a b = let same = bytes_one NEWEST_VERSION bytes (Ok m) (Ok n) a b in cc same

pub no_fault : (bytes : List ℕ) (m : Problem) (f : ModelFault) → BytesMean bytes (Ok m) → BytesMean bytes (Err f) → ⊥
no_fault bytes m f a b = let same = bytes_one NEWEST_VERSION bytes (Ok m) (Err f) a b in cc same

-- a problem that bytes mean has a period
pub has_period : (bytes : List ℕ) (m : Problem) → BytesMean bytes (Ok m) → 1 ≤ m.periods
has_period bytes m means = ⊎_elim
    (λ none. absurd (let is = none.1 in cc is))
    (λ some.
    let (t, is, problem) = some in
    let (same, rules) = problem.means in
    subst (λ p. 1 ≤ p.periods) (sym same) (plain problem.model rules.plain).counted.periods.low)
    means

-- in a problem that bytes mean no item is its own component
pub ranked : (bytes : List ℕ) (m : Problem) → BytesMean bytes (Ok m) → (rank : ℕ → ℕ) × IsRanking m rank
ranked bytes m means = ⊎_elim
    (λ none. absurd (let is = none.1 in cc is))
    (λ some. let problem = some.2 in subst (λ p. (rank : ℕ → ℕ) × IsRanking p rank) (sym problem.means.0) problem.means.1.ranked)
    means

-- a plan file's bytes mean one plan
module _ (m : Problem) (bytes : List ℕ) where
  pub same_plan : (p q : Plan) → IsPlanOf m (records_of bytes) p → IsPlanOf m (records_of bytes) q → SamePlan m p q
  same_plan p q a b =
      let same = (means_one m (records_of bytes)).one_plan p q a b in
      record {
        make = λ i t low high t_low t_high. (same i t low high t_low t_high).make;
        setup = λ i t low high t_low t_high. (same i t low high t_low t_high).setup;
        stock = λ i t low high t_low t_high. (same i t low high t_low t_high).stock;
        backlog = λ i t low high t_low t_high. (same i t low high t_low t_high).backlog;
      }

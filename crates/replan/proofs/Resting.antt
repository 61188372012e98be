-- What the draft of the later periods means is what they mean.
use Rattle.std.proofs.Common.{◌≡◌, ◌<◌, ◌∙◌, ℕ, subst, arith}
use Rattle.std.specs.Prelude.{Result, Ok, Err}
use Rattle.lot_sizing.specs.declared.limits.TheConstants.{MAX_AMOUNT}
use Rattle.lot_sizing.specs.Problem.{Problem}
use Rattle.lot_sizing.specs.Plan.{Plan}
use Rattle.lot_draft.specs.Raw.{RawModel}
use Rattle.lot_draft.specs.declared.fault.ModelFault.{ModelFault}
use Rattle.lot_model.specs.Drafted.{written_out}
use Rattle.lot_model.specs.Laws.{MeansOneThing}
use Rattle.lot_model.specs.Meaning.{Means}
use Rattle.lot_model.specs.Views.{IsInstance}
use Rattle.frozen_start.specs.Rests.{IsRestOf, rest_of}
use Rattle.frozen_start.specs.Laws.{ThereIsOneRest}
use Rattle.replan.specs.Answers.{RestMeans}
use Rattle.replan.specs.Capped.{most_written, rest_draft}
use Rattle.replan.specs.Laws.{CapsChangeNothing}
use Rattle.replan.proofs.ReadBack.{rest_back}

pub draft_means : CapsChangeNothing → (m : Problem) (p : Plan) (first : ℕ) (raw : RawModel) (r : Result Problem ModelFault) → raw ≡ rest_draft m p.make first → Means raw r → RestMeans m p first r
draft_means caps m p first raw r is h =
    let more : MAX_AMOUNT < most_written = omega arith in
    (caps most_written (written_out (rest_of m p first)) r more).1 (subst (λ w. Means w r) is h)

pub rest_is : (m : Problem) (p : Plan) (first : ℕ) (rest : Problem) → IsInstance m → RestMeans m p first (Ok rest) → rest ≡ rest_of m p first
rest_is m p first rest is h = h.0 ∙ rest_back m p.make first is

pub is_rest_of : ThereIsOneRest → (m : Problem) (p : Plan) (first : ℕ) (rest : Problem) → first < m.periods → rest ≡ rest_of m p first → IsRestOf m p first rest
is_rest_of one m p first rest inside is = (one m p first rest inside).1 is

-- the later periods mean one thing
pub not_both : MeansOneThing → (m : Problem) (p : Plan) (first : ℕ) (rest : Problem) (fault : ModelFault) → RestMeans m p first (Ok rest) → RestMeans m p first (Err fault) → ⊥
not_both one m p first rest fault is broken = absurd (cc (one (written_out (rest_of m p first)) (Ok rest) (Err fault) is broken))

pub same_fault : MeansOneThing → (m : Problem) (p : Plan) (first : ℕ) (f g : ModelFault) → RestMeans m p first (Err f) → RestMeans m p first (Err g) → f ≡ g
same_fault one m p first f g a b = cc (one (written_out (rest_of m p first)) (Err f) (Err g) a b)

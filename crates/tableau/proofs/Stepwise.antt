-- The end of a run that is made in single steps.
use Rattle.std.proofs.Common.{◌≡◌, ◌≤◌, ◌+◌, ℕ, arith, sym, subst, ⊎_elim}
use Rattle.std.specs.Prelude.{Option, None, Some, Result, Ok, Err, IfOk, true, false}
use Rattle.tableau.specs.declared.run.StepSays.TheVariants.{Ended, Moved}
use Rattle.tableau.specs.declared.outcome.Outcome.{Outcome}
use Rattle.tableau.specs.declared.outcome.Outcome.TheVariants as outcome
use Rattle.tableau.specs.Program.{Program, column_count, row_count}
use Rattle.tableau.specs.Dictionary.{Dictionary, width}
use Rattle.tableau.specs.Run.{IsFittingStep, IsPrimalFeasible, IsLeaving, IsStep, Runs}
use Rattle.tableau.specs.Steps.{HasNoneTo}
use Rattle.tableau.specs.Outcomes.{GivesEmpty, GivesLeast, GoesOn, IsCertain, IsOutcome}
use Rattle.tableau.specs.Stepwise.{DoesSay, HasEnded, IsAtEnd, IsEndAfter, IsEndOf, State, TellsEnd, at}
use Rattle.tableau.specs.RunHeld.{state_of}
use Rattle.tableau.proofs.Single.{one_leaving}
use Rattle.tableau.proofs.Steps.{empty_given, least_given, run_is, run_more}

at_is : (t d : Dictionary) (r : Option (ℕ × ℕ)) → state_of t r ≡ at d → t ≡ d
at_is t d None is = cc
at_is t d (Some place) is = cc

pub record HasRunTo (p : Program) (t : Dictionary) : Type 0 where
  pub made : ℕ
  pub run : Runs IsFittingStep p made t
  pub ended : HasEnded t

pub run_to : (p : Program) (s : State) (t : Dictionary) (r : Option (ℕ × ℕ)) → state_of t r ≡ s → IsAtEnd p s → HasRunTo p t
run_to p s t r view end =
    let (d, is, run, ended) = end in
    let (made, pivots) = run in
    let same : d ≡ t = sym (at_is t d r (subst (λ x. state_of t r ≡ x) is view)) in
    record { made = made; run = subst (Runs IsFittingStep p made) same pivots; ended = subst HasEnded same ended }

end_none : (p : Program) (t : Dictionary) → HasRunTo p t → (k : ℕ) → IsLeaving t k → HasNoneTo t k (width t)
end_none p t to k leaving = ⊎_elim
    (λ last. absurd (leaving.negative (last k leaving.low leaving.high)))
    (λ empty. let (h, other, none) = empty in subst (λ i. HasNoneTo t i (width t)) (one_leaving p t (run_is p to.made t to.run).names h k other leaving) none)
    to.ended

end_of_empty : (p : Program) (n columns rows i : ℕ) (d : Dictionary) (o : Outcome) → GivesEmpty d i columns rows o → IsOutcome p n o → IsEndOf p o
end_of_empty p n columns rows i d (outcome.Least point multipliers value) given is = absurd given
end_of_empty p n columns rows i d (outcome.Empty multipliers) given is = (n, is)
end_of_empty p n columns rows i d (outcome.Stopped made) given is = absurd given
end_of_empty p n columns rows i d (outcome.Passed pivot row column) given is = absurd given

end_of_least : (p : Program) (n columns rows : ℕ) (d : Dictionary) (o : Outcome) → GivesLeast d columns rows o → IsOutcome p n o → IsEndOf p o
end_of_least p n columns rows d (outcome.Least point multipliers value) given is = (n, is)
end_of_least p n columns rows d (outcome.Empty multipliers) given is = absurd given
end_of_least p n columns rows d (outcome.Stopped made) given is = absurd given
end_of_least p n columns rows d (outcome.Passed pivot row column) given is = absurd given

pub empty_ends : (p : Program) (columns rows i : ℕ) (t : Dictionary) (o : Outcome) → HasRunTo p t → IsLeaving t i → columns ≡ column_count p → rows ≡ row_count p → GivesEmpty t i columns rows o → IsEndOf p o × IsCertain p o
empty_ends p columns rows i t o to leaving same_columns same_rows given =
    let both = empty_given p to.made to.made columns rows i t o to.run (omega arith) leaving (end_none p t to i leaving) same_columns same_rows given in
    (end_of_empty p to.made columns rows i t o given both.0, both.1)

pub least_ends : (p : Program) (columns rows : ℕ) (t : Dictionary) (o : Outcome) → HasRunTo p t → IsPrimalFeasible t → columns ≡ column_count p → rows ≡ row_count p → GivesLeast t columns rows o → IsEndOf p o × IsCertain p o
least_ends p columns rows t o to last same_columns same_rows given =
    let both = least_given p to.made to.made columns rows t o to.run (omega arith) last same_columns same_rows given in
    (end_of_least p to.made columns rows t o given both.0, both.1)

-- ---- after a known number of pivots
pub record HasRunAfter (p : Program) (made : ℕ) (t : Dictionary) : Type 0 where
  pub run : Runs IsFittingStep p made t
  pub ended : HasEnded t

pub run_after : (p : Program) (made : ℕ) (s : State) (t : Dictionary) (r : Option (ℕ × ℕ)) → state_of t r ≡ s → IsEndAfter p made s → HasRunAfter p made t
run_after p made s t r view end =
    let (d, is, run, ended) = end in
    let same : d ≡ t = sym (at_is t d r (subst (λ x. state_of t r ≡ x) is view)) in
    record { run = subst (Runs IsFittingStep p made) same run; ended = subst HasEnded same ended }

pub empty_after : (p : Program) (made columns rows i : ℕ) (t : Dictionary) (o : Outcome) → HasRunAfter p made t → IsLeaving t i → columns ≡ column_count p → rows ≡ row_count p → GivesEmpty t i columns rows o → IsOutcome p made o
empty_after p made columns rows i t o to leaving same_columns same_rows given =
    (empty_given p made made columns rows i t o to.run (omega arith) leaving (end_none p t (record { made = made; run = to.run; ended = to.ended }) i leaving) same_columns same_rows given).0

pub least_after : (p : Program) (made columns rows : ℕ) (t : Dictionary) (o : Outcome) → HasRunAfter p made t → IsPrimalFeasible t → columns ≡ column_count p → rows ≡ row_count p → GivesLeast t columns rows o → IsOutcome p made o
least_after p made columns rows t o to last same_columns same_rows given = (least_given p made made columns rows t o to.run (omega arith) last same_columns same_rows given).0

-- an outcome of an end is that of a run that may make more pivots
pub ended_later : (p : Program) (made pivots : ℕ) (o : Outcome) → made ≤ pivots → IsEndOf p o → IsOutcome p made o → IsOutcome p pivots o
ended_later p made pivots (outcome.Least point multipliers value) few end is = (is.0, record { made = is.1.made; few = omega (arith, is.1.few, few); run = is.1.run }, is.2)
ended_later p made pivots (outcome.Empty multipliers) few end is = (is.0, record { made = is.1.made; few = omega (arith, is.1.few, few); run = is.1.run }, is.2)
ended_later p made pivots (outcome.Stopped done) few end is = absurd end
ended_later p made pivots (outcome.Passed pivot row column) few end is = (is.0, is.1, omega (arith, is.2, few), is.3)

-- ---- what is told of the end
pub told_end : (t : Dictionary) (r : Option (ℕ × ℕ)) (s : State) → state_of t r ≡ s → HasEnded t → TellsEnd s true
told_end t None s is ended = subst (λ x. TellsEnd x true) is ended
told_end t (Some place) s is ended = subst (λ x. TellsEnd x true) is tt

pub told_on : (t : Dictionary) (r : Option (ℕ × ℕ)) (s : State) → state_of t r ≡ s → GoesOn t → TellsEnd s false
told_on t None s is on = subst (λ x. TellsEnd x false) is on
told_on t (Some place) s is on = subst (λ x. TellsEnd x false) is tt

pub said_end : (p : Program) (made : ℕ) (s new : State) → ((d : Dictionary) × (s ≡ at d) × Runs IsFittingStep p made d) → DoesSay s new Ended → IsEndAfter p made new
said_end p made s new so_far says =
    let (d, is, run) = so_far in
    let both : HasEnded d × (new ≡ at d) = subst (λ x. DoesSay x new Ended) is says in
    (d, both.1, run, both.0)

pub known_end : (p : Program) (made : ℕ) (s : State) → ((d : Dictionary) × (s ≡ at d) × Runs IsFittingStep p made d) → TellsEnd s true → IsEndAfter p made s
known_end p made s so_far told =
    let (d, is, run) = so_far in
    (d, is, run, subst (λ x. TellsEnd x true) is told)

pub at_end : (p : Program) (made : ℕ) (s : State) → IsEndAfter p made s → IsAtEnd p s
at_end p made s end = let (d, is, run, ended) = end in (d, is, (made, run), ended)

pub known_on : (p : Program) (made pivots : ℕ) (s : State) → made ≡ pivots → ((d : Dictionary) × (s ≡ at d) × Runs IsFittingStep p made d) → TellsEnd s false → (d : Dictionary) × Runs IsFittingStep p pivots d × GoesOn d
known_on p made pivots s same so_far told =
    let (d, is, run) = so_far in
    (d, subst (λ n. Runs IsFittingStep p n d) same run, subst (λ x. TellsEnd x false) is told)

pub if_ended : {E : Type 0} (p : Program) (made pivots : ℕ) (r : Result Outcome E) → made ≤ pivots → IfOk r (IsEndOf p) → IfOk r (IsOutcome p made) → IfOk r (IsOutcome p pivots)
if_ended p made pivots (Ok o) few end is = ended_later p made pivots o few end is
if_ended p made pivots (Err e) few end is = is

pub moved_on : (p : Program) (made : ℕ) (s new : State) → ((d : Dictionary) × (s ≡ at d) × Runs IsFittingStep p made d) → DoesSay s new Moved → (e : Dictionary) × (new ≡ at e) × Runs IsFittingStep p (made + 1) e
moved_on p made s new so_far says =
    let (d, is, run) = so_far in
    let moved : (e : Dictionary) × (new ≡ at e) × IsStep IsFittingStep d e = subst (λ x. DoesSay x new Moved) is says in
    (moved.0, moved.1, run_more p made d moved.0 run moved.2)

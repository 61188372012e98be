use Rattle.std.proofs.Common.{◌≡◌, ◌∙◌, inl, inr, subst, sym, None, Some}
use Rattle.lot_sizing.specs.Problem.{entry}
use Rattle.lot_draft.specs.Raw.{raw_model}
use Rattle.lot_draft.specs.Refusals.{later_fault}
use Rattle.lot_draft.specs.Meaning.{problem_of}
use Rattle.lot_model.specs.Held.{AreRanks, AreTotalsOf}
use Rattle.lot_model.specs.Meaning.{IsPastBound}
use Rattle.lot_model.proofs.making.judged.Goals as goal

pub returns-in-Err-clause-refused : goal.returns-in-Err-clause-refused
returns-in-Err-clause-refused c = inr (c.requires.plain, inl (c.in-Err.ensures.refused (problem_of (raw_model c.args.draft.now)) c.requires.prepared.reach))

pub returns-in-Some-clause-refused : goal.returns-in-Some-clause-refused
returns-in-Some-clause-refused c =
    let m = raw_model c.args.draft.now in
    let ranks : AreRanks (problem_of m) c.in-Ok.ranks.items = c.in-Ok.ensures.ranks (problem_of m) c.requires.prepared.reach in
    let later : later_fault m ≡ Some c.in-Some.fault = sym c.later_fault.ensures.value ∙ c.in-Some.is in
    inr (c.requires.plain, inr ((entry c.in-Ok.ranks.items, ranks.ranks), inl later))

pub totals-requires-clause-ranks : goal.totals-requires-clause-ranks
totals-requires-clause-ranks c =
    let m = raw_model c.args.draft.now in
    let ranks : AreRanks (problem_of m) c.in-Ok.ranks.items = c.in-Ok.ensures.ranks (problem_of m) c.requires.prepared.reach in
    subst (λ p. AreRanks p c.deref.result.now) (sym c.requires.parts) (subst (AreRanks (problem_of m)) (sym c.deref.ensures.value) ranks)

pub returns-in-Ok-totals-clause-found : goal.returns-in-Ok-totals-clause-found
returns-in-Ok-totals-clause-found c =
    let m = raw_model c.args.draft.now in
    let found = c.in-Ok-totals.totals in
    record {
      ranks = c.in-Ok.ensures.ranks (problem_of m) c.requires.prepared.reach;
      totals = subst (λ p. AreTotalsOf p found.totals found.weights) c.requires.parts c.in-Ok-totals.ensures.found;
    }

pub returns-clause-refused : goal.returns-clause-refused
returns-clause-refused c =
    let m = raw_model c.args.draft.now in
    let ranks : AreRanks (problem_of m) c.in-Ok.ranks.items = c.in-Ok.ensures.ranks (problem_of m) c.requires.prepared.reach in
    let later : later_fault m ≡ None = sym c.later_fault.ensures.value ∙ c.in_default.is in
    inr (c.requires.plain, inr ((entry c.in-Ok.ranks.items, ranks.ranks), inr (later, subst (λ p. IsPastBound p c.in-Err-totals.fault) c.requires.parts c.in-Err-totals.ensures.refused)))

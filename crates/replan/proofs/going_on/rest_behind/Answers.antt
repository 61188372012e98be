use Rattle.std.proofs.Common.{inr, refl, subst}
use Rattle.std.specs.Prelude.{Ok, Err}
use Rattle.lot_draft.specs.Raw.{raw_model}
use Rattle.lot_model.specs.Meaning.{IsRefused}
use Rattle.frozen_start.specs.Held.{start_of}
use Rattle.replan.proofs.Resting.{draft_means, is_rest_of, rest_is}
use Rattle.replan.proofs.going_on.rest_behind.Goals as goal

pub returns-in-Ok-clause-rest : goal.returns-in-Ok-clause-rest
returns-in-Ok-clause-rest c =
    let m = c.args.instance.now in
    let p = start_of c.args.make.now c.args.setup.now in
    let first = c.args.first in
    let later = c.in-Ok.later in
    let means = draft_means c.caps_change_nothing.ensures m p first (raw_model c.in_ok-draft.draft) (Ok later) c.in_ok-draft.ensures c.in-Ok.ensures.values in
    let one = rest_is m p first later c.an_instance_breaks_no_rule.ensures means in
    record {
      may = c.requires.may;
      rest = is_rest_of c.rests_decide.ensures.one m p first later c.requires.may.may_go_on.some_later one;
      one = one;
      means = means;
      spent = c.spent.ensures.value;
      small = c.spent.ensures.small;
    }

pub returns-in-Err-Refused-clause-draft : goal.returns-in-Err-Refused-clause-draft
returns-in-Err-Refused-clause-draft c =
    let p = start_of c.args.make.now c.args.setup.now in
    let fault = c.in-Err-Refused.fault in
    let refused = subst (IsRefused c.in_ok-draft.draft) c.in-Err-Refused.field-0-is c.in-Err-Refused.ensures.refused in
    inr (fault, refl, draft_means c.caps_change_nothing.ensures c.args.instance.now p c.args.first (raw_model c.in_ok-draft.draft) (Err fault) c.in_ok-draft.ensures refused.1)

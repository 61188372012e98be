use Rattle.std.proofs.Common.{length}
use Rattle.echelon.specs.Views.{marked}
use Rattle.ls_cuts.proofs.Listed.{backlogs_small, listed_result, setups_small}
use Rattle.ls_cuts.proofs.row.ls_terms_of.Goals as goal

pub terms_of-requires-clause-setups_small : goal.terms_of-requires-clause-setups_small
terms_of-requires-clause-setups_small c =
    let chosen = c.args.chosen.now in
    setups_small c.args.echelon.now (length chosen) (marked chosen) c.in_ok-setups.setups.items c.deref-2.result.now c.requires.within c.requires.high c.deref-2.ensures.value c.in_ok-setups.ensures.each

pub terms_of-requires-clause-backlogs_small : goal.terms_of-requires-clause-backlogs_small
terms_of-requires-clause-backlogs_small c =
    let chosen = c.args.chosen.now in
    backlogs_small (length chosen) (marked chosen) c.in_ok-backlogs.backlogs.items c.deref-3.result.now c.deref-3.ensures.value c.in_ok-backlogs.ensures.each

pub returns : goal.returns
returns c =
    let chosen = c.args.chosen.now in
    listed_result c.args.echelon.now (length chosen) (marked chosen) c.in_ok-units.units.items c.in_ok-setups.setups.items c.in_ok-backlogs.backlogs.items c.deref.result.now c.deref-2.result.now c.deref-3.result.now c.deref.ensures.value c.deref-2.ensures.value c.deref-3.ensures.value c.in_ok-units.ensures.each c.in_ok-setups.ensures.each c.in_ok-backlogs.ensures.each c.terms_of.result c.terms_of.ensures

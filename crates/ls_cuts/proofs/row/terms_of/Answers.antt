use Rattle.std.proofs.Common.{arith}
use Rattle.ls_cuts.proofs.Listed.{ls_put}
use Rattle.ls_cuts.proofs.row.terms_of.Goals as goal

pub returns : goal.returns
returns c = ls_put c.args.echelon.now c.args.units.now c.args.setups.now c.args.backlogs.now c.new-terms.result.items c.push_units.new.terms.items c.push_setups.new.terms.items c.push_backlogs.new.terms.items c.deref.result.now c.deref-2.result.now c.len-periods.result c.new-terms.ensures.items c.deref.ensures.value c.deref-2.ensures.value (omega arith) c.in_ok-push_units.ensures c.in_ok-push_setups.ensures c.in_ok-push_backlogs.ensures

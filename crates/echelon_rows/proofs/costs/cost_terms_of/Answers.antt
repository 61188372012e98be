use Rattle.std.proofs.Common.{arith}
use Rattle.echelon_rows.proofs.Built.{cost_put}
use Rattle.echelon_rows.proofs.costs.cost_terms_of.Goals as goal

pub returns : goal.returns
returns c = λ times has. cost_put c.args.echelon.now times c.args.setup.now c.args.unit.now c.args.hold.now c.args.back.now c.new-terms.result.items c.push_units.new.terms.items c.push_setups.new.terms.items c.push_stocks.new.terms.items c.push_backlogs.new.terms.items
    c.deref.result.now c.deref-2.result.now c.deref-3.result.now c.len-periods.result
    has c.requires.prices.unit.size c.requires.prices.hold.size c.requires.prices.back.size c.new-terms.ensures.items c.deref.ensures.value c.deref-2.ensures.value c.deref-3.ensures.value (omega arith)
    c.in_ok-push_units.ensures c.in_ok-push_setups.ensures c.in_ok-push_stocks.ensures c.in_ok-push_backlogs.ensures

use Rattle.std.proofs.Common.{◌∙◌, ap, arith, subst, sym}
use Rattle.lot_sizing.specs.Problem.{entry, item_count}
use Rattle.lot_sizing.specs.Totals.{AreLargestTotals}
use Rattle.lot_model.specs.Views.{problem_in}
use Rattle.lot_model.proofs.Bills.{some_weights}
use Rattle.lot_model.proofs.instance.Instance.largest_total.Goals as goal

pub returns-clause-value : goal.returns-clause-value
returns-clause-value c =
    let totals = entry c.self.inside.totals.totals in
    (totals, subst (λ m. AreLargestTotals m totals) c.self.view_is c.self.invariant.totals, c.total.ensures)

pub returns-clause-all : goal.returns-clause-all
returns-clause-all c = λ total is.
    let count = ap item_count c.self.view_is in
    let weights = some_weights (problem_in c.self.inside) c.self.invariant.instance.ranked in
    let known = c.self.invariant.all total weights.0 (subst (λ m. AreLargestTotals m total) (sym c.self.view_is) is) weights.1 in
    c.total.ensures ∙ (known.known c.args.item c.requires.low (omega (arith, c.requires.high, count))).in_all

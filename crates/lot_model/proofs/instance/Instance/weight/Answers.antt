use Rattle.std.proofs.Common.{◌∙◌, sym, ap, subst, arith}
use Rattle.lot_sizing.specs.Problem.{item_count}
use Rattle.lot_sizing.specs.Bill.{AreWeights, bill_of}
use Rattle.lot_model.proofs.instance.Instance.weight.Goals as goal

pub weight-requires-clause-high : goal.weight-requires-clause-high
weight-requires-clause-high c = omega (arith, c.requires.high, c.self.invariant.weights_size, ap item_count c.self.view_is)

pub weight-requires-clause-other_high : goal.weight-requires-clause-other_high
weight-requires-clause-other_high c =
    let count = ap item_count c.self.view_is in
    omega (arith, c.requires.other_high, c.self.invariant.row_sizes c.args.item c.requires.low (omega (arith, c.requires.high, count)), count)

pub returns-clause-value : goal.returns-clause-value
returns-clause-value c weight is =
    let count = ap item_count c.self.view_is in
    let totals = c.self.invariant.instance.totals in
    let known = c.self.invariant.all totals.0 weight totals.1 (subst (λ m. AreWeights (bill_of m) weight) (sym c.self.view_is) is) in
    c.weight.ensures ∙ (known.known c.args.item c.requires.low (omega (arith, c.requires.high, count))).each c.args.other c.requires.other_low (omega (arith, c.requires.other_high, count))

pub returns-clause-small : goal.returns-clause-small
returns-clause-small c =
    let count = ap item_count c.self.view_is in
    omega (arith, c.weight.ensures, c.self.invariant.rows_small c.args.item c.args.other c.requires.low (omega (arith, c.requires.high, count)) c.requires.other_low (omega (arith, c.requires.other_high, count)))

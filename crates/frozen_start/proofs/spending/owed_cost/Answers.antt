use Rattle.std.proofs.Common.{◌≤◌, ◌*◌, arith}
use Rattle.std.proofs.lemmas.Nat.{mul-le}
use Rattle.lot_sizing.specs.declared.limits.TheConstants.{MAX_AMOUNT, MAX_PERIODS}
use Rattle.plan_rules.specs.Cells.{table_of}
use Rattle.frozen_start.proofs.Owed.{owed_small}
use Rattle.frozen_start.proofs.spending.owed_cost.Goals as goal

pub overflow_mul-result : goal.overflow_mul-result
overflow_mul-result c =
    let flows = c.requires.flows in
    let most = owed_small c.args.instance.now (table_of c.args.make.now) c.args.item c.args.period c.an_instance_breaks_no_rule.ensures c.requires.item_low c.requires.item_high c.requires.high (λ none. absurd (cc (c.in-Some.ensures.allowed.1 none))) in
    let owed : c.backlog.result ≤ MAX_PERIODS * MAX_AMOUNT = omega (arith, c.backlog.ensures, flows.supply, flows.outflow, most) in
    omega (arith, mul-le c.in-Some.price c.backlog.result MAX_AMOUNT (MAX_PERIODS * MAX_AMOUNT) (omega (arith, c.in-Some.ensures.small)) owed)

pub returns-in-Some-clause-small : goal.returns-in-Some-clause-small
returns-in-Some-clause-small c =
    let flows = c.requires.flows in
    let most = owed_small c.args.instance.now (table_of c.args.make.now) c.args.item c.args.period c.an_instance_breaks_no_rule.ensures c.requires.item_low c.requires.item_high c.requires.high (λ none. absurd (cc (c.in-Some.ensures.allowed.1 none))) in
    let owed : c.backlog.result ≤ MAX_PERIODS * MAX_AMOUNT = omega (arith, c.backlog.ensures, flows.supply, flows.outflow, most) in
    omega (arith, mul-le c.in-Some.price c.backlog.result MAX_AMOUNT (MAX_PERIODS * MAX_AMOUNT) (omega (arith, c.in-Some.ensures.small)) owed)

use Rattle.std.proofs.Common.{subst}
use Rattle.lotplan.specs.Finding.{IsFound}
use Rattle.lotplan.specs.Planning.{plan_meant}
use Rattle.lotplan.proofs.Shown.{shown}
use Rattle.lotplan.proofs.commands.demo.plan_shown.Goals as goal

pub returns : goal.returns
returns ghosts c =
    let is = subst (λ k. IsFound c.args.instance.now k c.in_ok-found.found) c.only.ensures c.in_ok-found.ensures in
    shown c.args.instance.now c.args.budget c.in_ok-found.found is c.requires.own c.an_instance_breaks_no_rule.ensures (plan_meant c.answer_of.result) c.answer_of.ensures

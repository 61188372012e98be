use Rattle.std.proofs.Common.{◌∙◌, sym, subst, map, arith, []}
use Rattle.std.proofs.lemmas.List.Elements.{All-same}
use Rattle.lin_rows.specs.Base.{HasRow}
use Rattle.tableau.specs.Held.{inequality_of}
use Rattle.lp_relaxation.specs.Names.{base_names}
use Rattle.lp_relaxation.specs.Rounds.{IsRound}
use Rattle.lp_relaxation.proofs.Making.{base_fits, first_round, program_with}
use Rattle.lp_relaxation.proofs.rounds.base_program.Goals as goal

pub put_named-requires-clause-named : goal.put_named-requires-clause-named
put_named-requires-clause-named c =
    let m = c.args.instance.now in
    All-same (HasRow m) c.deref.result.now (base_names m) (c.deref.ensures.value ∙ c.in_ok-names.ensures) (c.base_names_are_all.ensures m).each

pub new-requires : goal.new-requires
new-requires c =
    let m = c.args.instance.now in
    let (total, totals, small) = c.an_instance_breaks_no_rule.ensures.totals in
    let costs = c.in_ok-costs.costs.items in
    let rows = map inequality_of c.put_named.new.rows.items in
    let list = c.put_named.new.sides.items in
    let round = first_round m c.deref.result.now costs list rows (c.deref.ensures.value ∙ c.in_ok-names.ensures) c.in_ok-costs.ensures c.in_ok-put_named.ensures.sides c.in_ok-put_named.ensures.rows total totals in
    base_fits m total (program_with costs rows) list round (c.rounds_are_few.ensures m total [] (program_with costs rows) list c.an_instance_breaks_no_rule.ensures.limits (omega arith) round) c.in_ok-put_named.ensures.fit

pub returns-clause-round : goal.returns-clause-round
returns-clause-round c = λ total totals.
    let m = c.args.instance.now in
    let list = c.put_named.new.sides.items in
    subst (λ p. IsRound m total [] p list) (sym c.new.ensures)
    (first_round m c.deref.result.now c.in_ok-costs.costs.items list (map inequality_of c.put_named.new.rows.items) (c.deref.ensures.value ∙ c.in_ok-names.ensures) c.in_ok-costs.ensures c.in_ok-put_named.ensures.sides c.in_ok-put_named.ensures.rows total totals)

pub returns-clause-sized : goal.returns-clause-sized
returns-clause-sized c =
    let m = c.args.instance.now in
    let (total, totals, small) = c.an_instance_breaks_no_rule.ensures.totals in
    c.rounds_are_few.ensures m total [] c.new.result c.put_named.new.sides.items c.an_instance_breaks_no_rule.ensures.limits (omega arith) (returns-clause-round c total totals)

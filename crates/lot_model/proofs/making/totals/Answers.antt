use Rattle.std.proofs.Common.{◌∙◌, ap, length, subst}
use Rattle.std.proofs.lemmas.List.{length-map}
use Rattle.lot_sizing.specs.Problem.{entry}
use Rattle.bill.specs.Over.{HaveSize, IsFirstOver}
use Rattle.lot_model.specs.Held.{problem_of_parts}
use Rattle.lot_model.proofs.Bills.{from_lists, totals_of}
use Rattle.lot_model.proofs.making.totals.Goals as goal

pub returns-in-Ok-clause-found : goal.returns-in-Ok-clause-found
returns-in-Ok-clause-found c =
    let p = problem_of_parts c.args.parts.now in
    let count = ap length c.requires.lines ∙ length-map p.items (λ a. a.needs) in
    totals_of p c.args.lines.now c.write_asked.new.list c.write_there.new.list c.in-Ok.found.totals c.in-Ok.found.weights (entry c.args.ranks.now) c.requires.lines c.write_asked.ensures.each c.write_there.ensures.each c.requires.ranks.ranks (c.in-Ok.ensures.totals_size ∙ count) (c.in-Ok.ensures.weights_size ∙ count) (subst (λ n. HaveSize n c.in-Ok.found.weights) count c.in-Ok.ensures.row_sizes) c.in-Ok.ensures.small c.in-Ok.ensures.ok

pub returns-in-Err-clause-refused : goal.returns-in-Err-clause-refused
returns-in-Err-clause-refused c =
    let p = problem_of_parts c.args.parts.now in
    let i = c.in-Err.fault.item in
    (i, from_lists p c.args.lines.now c.write_asked.new.list c.write_there.new.list (λ b total weight. IsFirstOver b total weight i) c.requires.lines c.write_asked.ensures.each c.write_there.ensures.each c.in-Err.ensures.refused, c.at_item.ensures)

use Rattle.std.proofs.Common.{◌≡◌, ◌∙◌, ⊎_elim, ap, subst, sym, arith}
use Rattle.std.proofs.lemmas.Bool.{cases_lt}
use Rattle.lot_sizing.specs.Problem.{entry}
use Rattle.bill.specs.Lines.{bill_of_lines}
use Rattle.bill.specs.Steps.{IsSettledIn}
use Rattle.bill.proofs.Settling.{settled_kept}
use Rattle.bill.proofs.totals.settle_rank.Goals as goal

pub loop-item-preserved : goal.loop-item-preserved
loop-item-preserved c =
    let b = bill_of_lines c.args.lines.now in
    let old = c.loop-item.known.done.items in
    let new = c.settle_of_rank.new.known.done.items in
    let inv = c.loop-item.invariant in
    let e = c.settle_of_rank.ensures in
    record {
      tables = e.tables;
      progress = e.progress;
      before = λ j low high less total weight are_totals are_weights. settled_kept b total weight old new j (e.keeps j low) (inv.before j low high less total weight are_totals are_weights);
      same = λ j low high rank. ⊎_elim
          (λ before. λ total weight are_totals are_weights. settled_kept b total weight old new j (e.keeps j low) (inv.same j low before rank total weight are_totals are_weights))
          (λ no.
          let here : j ≡ c.loop-item.item = omega (arith, no, high) in
          subst (IsSettledIn c.args.lines.now c.args.asked.now c.args.there.now new) (sym here) (e.settled (ap (entry c.args.ranks.now) (sym here) ∙ rank)))
          (cases_lt j c.loop-item.item);
    }

pub returns-clause-after : goal.returns-clause-after
returns-clause-after c = λ j low high less. ⊎_elim
    (λ before. c.loop-item.invariant.before j low high before)
    (λ no. c.loop-item.invariant.same j low (omega (arith, high)) (omega (arith, no, less)))
    (cases_lt (entry c.args.ranks.now j) c.args.rank)

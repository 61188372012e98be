use Rattle.std.proofs.Common.{◌≡◌, ⊎_elim, length, ap, subst, sym, arith}
use Rattle.std.proofs.lemmas.List.{length_push}
use Rattle.std.proofs.lemmas.Bool.{cases_lt}
use Rattle.bill.specs.Lines.{bill_of_lines}
use Rattle.bill.specs.Sets.{AreComponents, set_of}
use Rattle.bill.proofs.Rows.{rows_of, row_kept, row_new}
use Rattle.bill.proofs.ranking.Reach.of.Goals as goal

pub loop-item-preserved : goal.loop-item-preserved
loop-item-preserved c =
    let b = bill_of_lines c.args.lines.now in
    let vs = c.loop-item.sets.items in
    let v = c.in_ok-components.field-0 in
    let inv = c.loop-item.invariant in
    let pushed = c.in_ok-push.ensures.items in
    record {
      size = omega (arith, ap length pushed, length_push vs v, inv.size);
      each = λ j low high. subst (λ xs. AreComponents b j (set_of (rows_of xs) j)) (sym pushed) (⊎_elim
          (λ before. subst (AreComponents b j) (sym (row_kept vs v j low (omega (arith, before, inv.size)))) (inv.each j low before))
          (λ no. let e : j ≡ c.loop-item.item = omega (arith, no, high) in subst (AreComponents b j) (sym (row_new vs v j (omega (arith, e, inv.size)))) (subst (λ k. AreComponents b k v.items) (sym e) c.in_ok-components.ensures))
          (cases_lt j c.loop-item.item));
    }

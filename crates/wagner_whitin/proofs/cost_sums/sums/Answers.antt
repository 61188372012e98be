use Rattle.std.proofs.Common.{◌≡◌, ◌+◌, ◌-◌, ◌++◌, ◌∷◌, [], suc, ap, sym, subst, arith}
use Rattle.lot_sizing.specs.Problem.{entry}
use Rattle.lot_sizing.specs.Sums.{sum_to}
use Rattle.lot_sizing.proofs.Sums.{sum_to_more}
use Rattle.wagner_whitin.specs.Tables.{AreSums}
use Rattle.wagner_whitin.proofs.Sums.{sums_more}
use Rattle.wagner_whitin.proofs.cost_sums.sums.Goals as goal

pub loop-period-preserved : goal.loop-period-preserved
loop-period-preserved c =
    let f = entry c.args.costs.now in
    let t = c.loop-period.period in
    let e : suc (t - 1) ≡ t + 1 - 1 = omega arith in
    let more = sum_to_more t f (omega arith) in
    let next = c.loop-period.sum + f t in
    let table = sums_more (t - 1) next f c.loop-period.sums.items c.loop-period.invariant.table (omega (arith, c.loop-period.invariant.sum, more, ap (λ k. sum_to k f) e)) in
    record {
      table = subst (λ xs. AreSums (t + 1 - 1) f xs) (sym c.in_ok-push-2.ensures.items) (subst (λ k. AreSums k f (c.loop-period.sums.items ++ next ∷ [])) e table);
      sum = omega (arith, c.loop-period.invariant.sum, more);
      small = omega (arith, c.loop-period.invariant.small, c.requires.small (t - 1) 0 (omega arith));
    }

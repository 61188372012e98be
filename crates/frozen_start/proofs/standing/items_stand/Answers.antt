use Rattle.std.proofs.Common.{◌≡◌, ◌+◌, ◌-◌, ⊎_elim, ℕ, subst, arith}
use Rattle.std.proofs.lemmas.Bool.{cases_lt}
use Rattle.lot_sizing.specs.Plan.{Each}
use Rattle.plan_rules.specs.Order.{HoldsInRow}
use Rattle.frozen_start.specs.Held.{CellStands, start_of}
use Rattle.frozen_start.proofs.standing.items_stand.Goals as goal

-- what holds in the rows before one and in it holds in one row more
row_more : (i columns : ℕ) (R : ℕ → ℕ → Type 0) → Each (i - 1) columns R → HoldsInRow columns R i → Each (i + 1 - 1) columns R
row_more i columns R before here j u low high u_low u_high =
    ⊎_elim
    (λ less. before j u low (omega (arith, less)) u_low u_high)
    (λ more. let e : i ≡ j = omega (arith, more, low, high) in subst (λ k. R k u) e (here u u_low u_high))
    (cases_lt j i)

pub loop-item-preserved : goal.loop-item-preserved
loop-item-preserved c =
    row_more c.loop-item.item c.args.first (CellStands c.args.instance.now (start_of c.args.make.now c.args.setup.now)) c.loop-item.invariant (c.item_stands.ensures.0 (cc c.if-not-item_stands.false))

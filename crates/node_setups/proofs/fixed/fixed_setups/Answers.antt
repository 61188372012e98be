use Rattle.std.proofs.Common.{◌≡◌, ◌+◌, arith, refl}
use Rattle.node_setups.proofs.Places.{put_after, put_last}
use Rattle.node_setups.specs.Holding.{held_at, last_held}
use Rattle.node_setups.proofs.fixed.fixed_setups.Goals as goal

pub loop-bound-preserved : goal.loop-bound-preserved
loop-bound-preserved c few = (number, λ i t cell. put_after c.args.path.now c.loop-bound.bound-index c.saturating_add-number.result i t _ _ c.loop-bound.fixed c.take.new.self (last_held c.args.path.now 1 i t) c.loop-bound-test.true number refl c.take.ensures ((c.loop-bound.invariant few).1 i t cell).0 ((c.loop-bound.invariant few).1 i t cell).1)
  where
    number : c.saturating_add-number.result ≡ c.loop-bound.bound-index + 1
    number = omega (arith, few, (c.loop-bound.invariant few).0, c.loop-bound-test.true, c.saturating_add-number.ensures)

pub returns : goal.returns
returns c = record { last = λ few i t cell. (((c.loop-bound.invariant few).1 i t cell).0, put_last c.args.path.now c.loop-bound.bound-index i t (held_at c.loop-bound.fixed i t) (last_held c.args.path.now 1 i t) (omega (arith, c.loop-bound-test.false)) ((c.loop-bound.invariant few).1 i t cell).1) }

use Rattle.std.proofs.Common.{◌<◌, ◌^◌, arith, rules}
use Rattle.std.specs.Int.{w128}
use mir.Val.{bits}
use Rattle.std.proofs.lemmas.Nat.Gcd.{IsGcd-from_zero, IsGcd-from_mod}
use Rattle.frac128.proofs.Halves.{stepped}
use Rattle.frac128.proofs.divisor.gcd_odd_wide.Goals as goal

pub loop-y-preserved : goal.loop-y-preserved
loop-y-preserved c =
    let fits : c.loop-y.y < 2 ^ bits w128 = search rules in
    let s = stepped w128 c.loop-y.x c.loop-y.y c.loop-y.invariant.0 (omega arith) fits in
    rw (c.min-x.ensures, c.abs_diff-y.ensures) (s.odd, λ g h. c.loop-y.invariant.1 g (s.back g h))

pub returns-then-y-eq0 : goal.returns-then-y-eq0
returns-then-y-eq0 c = c.loop-y.invariant.1 _ (IsGcd-from_zero _ _ (omega arith))

pub returns : goal.returns
returns c = c.loop-y.invariant.1 _ (IsGcd-from_mod _ _ _ c.gcd_small.ensures)

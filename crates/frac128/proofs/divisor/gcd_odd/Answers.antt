use Rattle.std.proofs.Common.{◌<◌, ◌^◌, arith, rules}
use Rattle.std.specs.Int.{w64}
use mir.Val.{bits}
use Rattle.std.proofs.lemmas.Nat.Gcd.{IsGcd-from_zero}
use Rattle.frac128.proofs.Halves.{stepped}
use Rattle.frac128.proofs.divisor.gcd_odd.Goals as goal

pub loop-y-preserved : goal.loop-y-preserved
loop-y-preserved c =
    let fits : c.loop-y.y < 2 ^ bits w64 = search rules in
    let s = stepped w64 c.loop-y.x c.loop-y.y c.loop-y.invariant.0 (omega arith) fits in
    rw (c.min-x.ensures, c.abs_diff-y.ensures) (s.odd, λ g h. c.loop-y.invariant.1 g (s.back g h))

pub returns : goal.returns
returns c = c.loop-y.invariant.1 c.loop-y.x (IsGcd-from_zero _ _ (omega arith))

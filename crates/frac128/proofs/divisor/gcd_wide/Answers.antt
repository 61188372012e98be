use Rattle.std.proofs.Common.{◌*◌, ◌^◌, arith, rules, subst}
use Rattle.std.specs.Int.{IsGcd, trailing_zeros, w128}
use Rattle.std.proofs.lemmas.Nat.Gcd.{IsGcd-swap}
use Rattle.frac128.proofs.Halves.{halved, odd_part}
use Rattle.frac128.proofs.divisor.gcd_wide.Goals as goal

pub gcd_odd_wide-requires : goal.gcd_odd_wide-requires
gcd_odd_wide-requires c = odd_part w128 c.args.a (omega (arith, c.requires.a)) (search rules)

pub gcd_odd_wide-requires-else-twos-others : goal.gcd_odd_wide-requires-else-twos-others
gcd_odd_wide-requires-else-twos-others c = odd_part w128 c.args.b (omega (arith, c.requires.b)) (search rules)

pub returns-then-twos-others : goal.returns-then-twos-others
returns-then-twos-others c =
    let h = halved w128 c.args.a c.args.b c.gcd_odd_wide.result (omega (arith, c.requires.a)) (search rules) (omega (arith, c.requires.b)) (search rules) c.if-twos-others.true c.gcd_odd_wide.ensures in
    subst (λ z. IsGcd c.args.a c.args.b z) (omega (arith, h.fits)) h.is

pub returns-else-twos-others : goal.returns-else-twos-others
returns-else-twos-others c =
    let g = c.gcd_odd_wide-else-twos-others.result in
    let h = halved w128 c.args.b c.args.a g (omega (arith, c.requires.b)) (search rules) (omega (arith, c.requires.a)) (search rules) (omega (arith, c.if-twos-others.false)) c.gcd_odd_wide-else-twos-others.ensures in
    subst (λ z. IsGcd c.args.a c.args.b z) (omega (arith, h.fits)) (IsGcd-swap c.args.b c.args.a (g * 2 ^ trailing_zeros w128 c.args.b) h.is)

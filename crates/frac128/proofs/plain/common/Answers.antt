use Rattle.std.proofs.Common.{◌≡◌, ◌<◌, ◌≤◌, ◌^◌, arith, rules, pos, subst, unsigned_abs}
use Prim.Native.Nat.{◌∣◌}
use native.Mathlib.Nat.{one-dvd}
use Rattle.std.specs.Int.{w128}
use Rattle.std.proofs.lemmas.Int.{ints, to_z_pos}
use Rattle.std.proofs.lemmas.Nat.Gcd.{le_of_dvd}
use native.Mathlib.Nat.{pos_of_dvd_of_pos}
use Rattle.frac128.proofs.plain.common.Goals as goal

small : (c : goal.After-gcd) → c.gcd.result < 2 ^ 127
small c =
    let p = c.requires in
    let r = c.ranges.den in
    let e : c.unsigned_abs-2.result ≡ unsigned_abs c.args.den = omega (arith, ints) in
    let le : c.gcd.result ≤ c.unsigned_abs-2.result = le_of_dvd (omega (arith, ints)) c.gcd.ensures.1 in
    omega (arith, ints)

pub overflow_cast-result : goal.overflow_cast-result
overflow_cast-result c = omega (arith, ints, small c)

pub returns-clause-is : goal.returns-clause-is
returns-clause-is c =
    let n : c.unsigned_abs.result ≡ unsigned_abs c.args.num = omega (arith, ints) in
    let d : c.unsigned_abs-2.result ≡ unsigned_abs c.args.den = omega (arith, ints) in
    rw (to_z_pos w128 c.gcd.result (small c), ← n, ← d) c.gcd.ensures

pub returns-clause-positive : goal.returns-clause-positive
returns-clause-positive c =
    let p = c.requires in
    let r = c.ranges.den in
    let e : c.unsigned_abs-2.result ≡ unsigned_abs c.args.den = omega (arith, ints) in
    let some : 0 < c.gcd.result = pos_of_dvd_of_pos c.gcd.ensures.1 (omega (arith, ints)) in
    omega (arith, ints, small c)

pub returns-clause-most : goal.returns-clause-most
returns-clause-most c =
    let p = c.requires in
    let r = c.ranges.den in
    let e : c.unsigned_abs-2.result ≡ unsigned_abs c.args.den = omega (arith, ints) in
    let le : c.gcd.result ≤ c.unsigned_abs-2.result = le_of_dvd (omega (arith, ints)) c.gcd.ensures.1 in
    omega (arith, ints, small c)

pub returns-then-den-eq1-clause-is : goal.returns-then-den-eq1-clause-is
returns-then-den-eq1-clause-is c =
    let r = c.ranges.den in
    let e : c.args.den ≡ pos 1 = search (rules, c.if-den-eq1.true) in
    (one-dvd (unsigned_abs c.args.num), one-dvd (unsigned_abs c.args.den), λ d p q. subst (λ z. d ∣ unsigned_abs z) e q)

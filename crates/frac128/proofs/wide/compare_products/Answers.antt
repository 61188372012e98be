use Rattle.std.proofs.Common.{rules, ◌≡◌, pos, ◌≤ℤ◌, ◌<ℤ◌, arith, unsigned_abs}
use Rattle.std.proofs.lemmas.Int.{ints}
use Rattle.frac128.proofs.Orders.{cmp_above, cmp_below}
use Rattle.frac128.proofs.wide.compare_products.Goals as goal

pub returns-then-a-lt0 : goal.returns-then-a-lt0
returns-then-a-lt0 c =
    let ra = c.ranges.a in
    let rb = c.ranges.b in
    let rc = c.ranges.c in
    let rd = c.ranges.d in
    let pb = c.requires.b_positive in
    let pd = c.requires.d_positive in
    let ea : c.unsigned_abs-left.result ≡ unsigned_abs c.args.a = omega (arith, ints) in
    let ec : c.unsigned_abs-right.result ≡ unsigned_abs c.args.c = omega (arith, ints) in
    let eb : c.unsigned_abs-b.result ≡ unsigned_abs c.args.b = omega (arith, ints) in
    let ed : c.unsigned_abs-d.result ≡ unsigned_abs c.args.d = omega (arith, ints) in
    let pa : c.args.a <ℤ pos 0 = search rules in
    let pc : c.args.c <ℤ pos 0 = search rules in
    rw (c.compare_wide.ensures, ea, eb, ec, ed) (cmp_below c.args.a c.args.b c.args.c c.args.d pa pb pc pd)

pub returns : goal.returns
returns c =
    let ra = c.ranges.a in
    let rb = c.ranges.b in
    let rc = c.ranges.c in
    let rd = c.ranges.d in
    let pb = c.requires.b_positive in
    let pd = c.requires.d_positive in
    let ea : c.unsigned_abs-left.result ≡ unsigned_abs c.args.a = omega (arith, ints) in
    let ec : c.unsigned_abs-right.result ≡ unsigned_abs c.args.c = omega (arith, ints) in
    let eb : c.unsigned_abs-b.result ≡ unsigned_abs c.args.b = omega (arith, ints) in
    let ed : c.unsigned_abs-d.result ≡ unsigned_abs c.args.d = omega (arith, ints) in
    let pa : pos 0 ≤ℤ c.args.a = search rules in
    let pc : pos 0 ≤ℤ c.args.c = search rules in
    rw (c.compare_wide-2.ensures, ea, eb, ec, ed) (cmp_above c.args.a c.args.b c.args.c c.args.d pa pb pc pd)

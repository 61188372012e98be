use Rattle.std.proofs.Common.{rules, ◌≡◌, ◌∙◌, sym, subst, ap}
use Rattle.std.specs.Prelude.{pos, ◌<ℤ◌, unsigned_abs}
use Rattle.std.specs.Int.{div_ceil}
use mir.Facts.{to_z-of_z}
use mir.Val.{of_z, to_z}
use mir.Syntax.{w128}
use Rattle.cert_meaning.specs.Says.{IsRoundedUp}
use Rattle.cert_checker.proofs.LeafBounds.{rounded_is}
use Rattle.cert_checker.proofs.leaf_sum.rounded_up.Goals as goal

pub returns : goal.returns
returns c =
    let d : to_z w128 (of_z w128 c.args.den) ≡ c.args.den = to_z-of_z c.ranges.den in
    let e : to_z w128 (of_z w128 c.args.sum) ≡ c.args.sum = to_z-of_z c.ranges.sum in
    let more : pos 0 <ℤ c.args.sum = search rules in
    let a : c.unsigned_abs.result ≡ unsigned_abs c.args.sum = rw e at c.unsigned_abs.ensures.value in
    let b : c.unsigned_abs-2.result ≡ unsigned_abs c.args.den = rw d at c.unsigned_abs-2.ensures.value in
    subst (IsRoundedUp c.args.den c.args.sum) (sym (c.div_ceil.ensures ∙ ap (λ x. div_ceil x c.unsigned_abs-2.result) a ∙ ap (div_ceil (unsigned_abs c.args.sum)) b)) (rounded_is c.args.den c.args.sum c.requires more)

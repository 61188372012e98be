use Rattle.std.proofs.Common.{◌≡◌, refl}
use Rattle.std.specs.Prelude.{IfSome}
use mir.Facts.{to_z-of_z}
use mir.Val.{of_z, to_z}
use mir.Syntax.{w128}
use Rattle.cert_checker.specs.declared.columns.Kind.TheVariants as kinds
use Rattle.cert_checker.specs.Named.{IsFirstLarge, IsOfKind}
use Rattle.cert_checker.proofs.Firsts.{AreWithin, all_kinds, before_r, before_s, before_x, before_y, first_found, first_of_all}
use Rattle.cert_checker.proofs.columns.first_large.Goals as goal

pub returns-in-Some-clause-some : goal.returns-in-Some-clause-some
returns-in-Some-clause-some c =
    let m = c.args.instance.now in
    let s = c.args.sums.now in
    let column = c.in-Some.column in
    let same : to_z w128 (of_z w128 c.args.den) ≡ c.args.den = to_z-of_z c.ranges.den in
    let first : IsFirstLarge m c.args.den s (IsOfKind kinds.X) column = rw same at c.in-Some.ensures.some in
    first_of_all m c.args.den s kinds.X column first (before_x m c.args.den s)

pub returns-in-Some-first_of_kind-clause-some : goal.returns-in-Some-first_of_kind-clause-some
returns-in-Some-first_of_kind-clause-some c =
    let m = c.args.instance.now in
    let s = c.args.sums.now in
    let column = c.in-Some-first_of_kind.column in
    let same : to_z w128 (of_z w128 c.args.den) ≡ c.args.den = to_z-of_z c.ranges.den in
    let in_x : AreWithin m c.args.den s kinds.X = λ d of. rw same at c.in_default.ensures.none refl d of in
    let first : IsFirstLarge m c.args.den s (IsOfKind kinds.Y) column = rw same at c.in-Some-first_of_kind.ensures.some in
    first_of_all m c.args.den s kinds.Y column first (before_y m c.args.den s in_x)

pub returns-in-Some-first_of_kind-2-clause-some : goal.returns-in-Some-first_of_kind-2-clause-some
returns-in-Some-first_of_kind-2-clause-some c =
    let m = c.args.instance.now in
    let s = c.args.sums.now in
    let column = c.in-Some-first_of_kind-2.column in
    let same : to_z w128 (of_z w128 c.args.den) ≡ c.args.den = to_z-of_z c.ranges.den in
    let in_x : AreWithin m c.args.den s kinds.X = λ d of. rw same at c.in_default.ensures.none refl d of in
    let in_y : AreWithin m c.args.den s kinds.Y = λ d of. rw same at c.in_default-first_of_kind.ensures.none refl d of in
    let first : IsFirstLarge m c.args.den s (IsOfKind kinds.S) column = rw same at c.in-Some-first_of_kind-2.ensures.some in
    first_of_all m c.args.den s kinds.S column first (before_s m c.args.den s in_x in_y)

pub returns-clause-some : goal.returns-clause-some
returns-clause-some c =
    let m = c.args.instance.now in
    let s = c.args.sums.now in
    let found = c.first_of_kind-4.result in
    let same : to_z w128 (of_z w128 c.args.den) ≡ c.args.den = to_z-of_z c.ranges.den in
    let in_x : AreWithin m c.args.den s kinds.X = λ d of. rw same at c.in_default.ensures.none refl d of in
    let in_y : AreWithin m c.args.den s kinds.Y = λ d of. rw same at c.in_default-first_of_kind.ensures.none refl d of in
    let in_s : AreWithin m c.args.den s kinds.S = λ d of. rw same at c.in_default-first_of_kind-2.ensures.none refl d of in
    let first : IfSome found (IsFirstLarge m c.args.den s (IsOfKind kinds.R)) = rw same at c.first_of_kind-4.ensures.some in
    first_found m c.args.den s kinds.R found first (before_r m c.args.den s in_x in_y in_s)

pub returns-clause-none : goal.returns-clause-none
returns-clause-none c = λ none.
    let m = c.args.instance.now in
    let s = c.args.sums.now in
    let same : to_z w128 (of_z w128 c.args.den) ≡ c.args.den = to_z-of_z c.ranges.den in
    let in_x : AreWithin m c.args.den s kinds.X = λ d of. rw same at c.in_default.ensures.none refl d of in
    let in_y : AreWithin m c.args.den s kinds.Y = λ d of. rw same at c.in_default-first_of_kind.ensures.none refl d of in
    let in_s : AreWithin m c.args.den s kinds.S = λ d of. rw same at c.in_default-first_of_kind-2.ensures.none refl d of in
    let in_r : AreWithin m c.args.den s kinds.R = λ d of. rw same at c.first_of_kind-4.ensures.none none d of in
    all_kinds m c.args.den s in_x in_y in_s in_r

use Rattle.std.proofs.Common.{◌≡◌, ℕ, refl, ap, rules, Err}
use mir.Facts.{to_z-of_z}
use mir.Val.{of_z, to_z}
use mir.Syntax.{w128}
use Rattle.cert_meaning.specs.Named.{names}
use Rattle.cert_checker.specs.Named.{IsAny, IsFirstLarge}
use Rattle.cert_checker.proofs.Leaves.{first_column, good_sum, named_parts}
use Rattle.cert_checker.proofs.leaf_sum.sum_within_costs.Goals as goal

pub sum_parts-requires-clause-parts : goal.sum_parts-requires-clause-parts
sum_parts-requires-clause-parts c =
    let none : ℕ → ℕ = λ i. 0 in
    named_parts (names c.args.instance.now none c.args.cuts.now c.args.path.now) c.args.parts.now (c.requires.parts none)

pub returns-in-Err-TooLarge-clause-fault : goal.returns-in-Err-TooLarge-clause-fault
returns-in-Err-TooLarge-clause-fault c = λ total totals. (refl, c.requires.parts total, c.in-Err-TooLarge.ensures.large (ap Err c.in-Err-TooLarge.field-0-is) total totals)

pub returns-in-Some-clause-fault : goal.returns-in-Some-clause-fault
returns-in-Some-clause-fault c = λ total totals.
    let n = names c.args.instance.now total c.args.cuts.now c.args.path.now in
    let s = c.sum_parts.new.self.sums in
    let same : to_z w128 (of_z w128 c.args.den) ≡ c.args.den = to_z-of_z c.ranges.den in
    let first : IsFirstLarge c.args.instance.now c.args.den s IsAny c.in-Some.column = rw same at c.in-Some.ensures.some in
    (refl, c.requires.parts total, c.in-Ok.ensures.small total totals, first_column n c.args.den c.args.parts.now s c.in-Some.column (c.in-Ok.ensures.sums total totals) first)

pub returns-in-None-clause-good : goal.returns-in-None-clause-good
returns-in-None-clause-good c = λ total totals.
    let n = names c.args.instance.now total c.args.cuts.now c.args.path.now in
    let same : to_z w128 (of_z w128 c.args.den) ≡ c.args.den = to_z-of_z c.ranges.den in
    good_sum n c.args.den c.args.parts.now c.sum_parts.new.self.sums (c.requires.parts total) (c.in-Ok.ensures.small total totals) (c.in-Ok.ensures.sums total totals) (λ column. rw same at c.in-None.ensures.none refl column)

pub returns-in-None-clause-right : goal.returns-in-None-clause-right
returns-in-None-clause-right c = λ total totals.
    let right = (c.in-Ok.ensures.sums total totals).right in
    search rules

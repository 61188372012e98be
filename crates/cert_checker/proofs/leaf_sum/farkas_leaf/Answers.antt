use Rattle.std.proofs.Common.{rules, refl}
use Rattle.std.specs.Prelude.{pos, ◌≤ℤ◌, ◌<ℤ◌}
use Rattle.cert_trees.specs.Ranges.{WithTotals}
use Rattle.cert_meaning.specs.Named.{names}
use Rattle.cert_checker.specs.Leaves.{IsFarkasFault, IsSumFault, linear_most}
use Rattle.cert_checker.proofs.Leaves.{farkas_fault, farkas_is, rejected_as, short_is}
use Rattle.cert_checker.proofs.leaf_sum.farkas_leaf.Goals as goal

pub returns-in-Err-clause-fault : goal.returns-in-Err-clause-fault
returns-in-Err-clause-fault c =
    let m = c.args.instance.now in
    let cuts = c.args.cuts.now in
    let path = c.args.path.now in
    let parts = c.args.parts.now in
    let line = c.args.line in
    rejected_as c.in-Err.fault
    (λ at w. WithTotals m (λ total. IsSumFault (names m total cuts path) (linear_most (names m total cuts path) (pos 0)) parts line at w))
    (λ at w. WithTotals m (λ total. IsFarkasFault (names m total cuts path) parts line at w))
    (λ at w sum total totals. farkas_fault (names m total cuts path) parts line at w (sum total totals))
    c.in-Err.ensures.fault

pub returns-then-right-le0-clause-fault : goal.returns-then-right-le0-clause-fault
returns-then-right-le0-clause-fault c = λ total totals.
    let n = names c.args.instance.now total c.args.cuts.now c.args.path.now in
    let none : c.in-Ok.right ≤ℤ pos 0 = search rules in
    (refl, refl, short_is n c.args.parts.now c.in-Ok.right (c.in-Ok.ensures.good total totals) (c.in-Ok.ensures.right total totals) none)

pub returns-clause-says : goal.returns-clause-says
returns-clause-says c = λ total totals.
    let n = names c.args.instance.now total c.args.cuts.now c.args.path.now in
    let some : pos 0 <ℤ c.in-Ok.right = search rules in
    farkas_is n c.args.parts.now c.in-Ok.right (c.in-Ok.ensures.good total totals) (c.in-Ok.ensures.right total totals) some

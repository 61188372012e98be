use Rattle.std.proofs.Common.{◌≡◌, ◌∙◌, ap, subst}
use Rattle.std.specs.Prelude.{pos}
use Rattle.rational.specs.Rational.{whole, ◌≤ℚ◌}
use Rattle.lin_rows.specs.Points.{read_at}
use Rattle.echelon_rows.specs.Rows.{echelon_in}
use Rattle.ls_cuts.specs.Points.{asked_part}
use Rattle.ls_cuts.proofs.Separating.{stable}
use Rattle.ls_cuts.proofs.separation.find.Goals as goal

pub returns-else-is_less-clause-answer : goal.returns-else-is_less-clause-answer
returns-else-is_less-clause-answer c =
    let e = echelon_in c.args.echelon.now in
    let x = read_at c.args.point.now in
    let found = c.in_ok-found.found in
    let value : c.whole.result ≡ asked_part e c.args.l = c.whole.ensures ∙ ap (λ n. whole (pos n)) c.demand_to-asked.ensures.value in
    let high = stable c.whole.result found.left (λ less. cc (c.if-is_less.ensures.1 less)) in
    (found.chosen.items, c.in_ok-found.ensures.lesser, subst (λ v. asked_part e c.args.l ≤ℚ v) c.in_ok-found.ensures.left (subst (λ v. v ≤ℚ found.left) value high))

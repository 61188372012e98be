use Rattle.std.proofs.Common.{inr, refl}
use Rattle.tableau.proofs.Stepwise.{told_end, told_on}
use Rattle.tableau.proofs.run.Run.has_ended.Goals as goal

pub returns-then-has_candidate : goal.returns-then-has_candidate
returns-then-has_candidate c =
    let (t, candidate) = c.if-has_candidate.ensures.some refl in
    told_on c.self.inside.tableau c.self.inside.refused c.args.self.now c.self.view_is (record { row = c.in-Some.row; leaving = c.in-Some.ensures.some; column = t; candidate = candidate })

pub returns : goal.returns
returns c = told_end c.self.inside.tableau c.self.inside.refused c.args.self.now c.self.view_is (inr (c.in-Some.row, c.in-Some.ensures.some, λ t high candidate. c.if-has_candidate.ensures.none refl t candidate))

use Rattle.std.proofs.Common.{ap, arith, length, subst, sym}
use Rattle.std.specs.Prelude.{MatchOption}
use Rattle.bill.specs.Sets.{HasNoCycle, IsFirstOnCycle, IsReachOf, set_of}
use Rattle.bill.proofs.Paths.{entries_small, fewer_others}
use Rattle.bill.proofs.ranking.Ranking.into_ranks.Goals as goal

pub returns-in-Some-clause-refused : goal.returns-in-Some-clause-refused
returns-in-Some-clause-refused c = λ b reach.
    subst (λ o. MatchOption o (HasNoCycle b) (IsFirstOnCycle b)) c.in-Some.is (c.first_on_cycle.ensures b (subst (IsReachOf b) (sym c.self.view_is) reach))

pub returns-clause-small : goal.returns-clause-small
returns-clause-small c = λ i.
    omega (arith, entries_small c.all_others.result.items (length c.self.inside.reach) (λ j low high. c.all_others.ensures.small j low (omega (arith, high, c.all_others.ensures.size))) i, ap length c.self.view_is)

pub returns-clause-ranks : goal.returns-clause-ranks
returns-clause-ranks c = λ b is i j low high j_low j_high some.
    let sets = c.self.inside.reach in
    let reach = subst (IsReachOf b) (sym c.self.view_is) is in
    let none = subst (λ o. MatchOption o (HasNoCycle b) (IsFirstOnCycle b)) c.in_default.is (c.first_on_cycle.ensures b reach) in
    omega (
      arith,
      c.all_others.ensures.each i low (omega (arith, high, reach.size)),
      c.all_others.ensures.each j j_low (omega (arith, j_high, reach.size)),
      fewer_others b i j (set_of sets j) (set_of sets i) (reach.each j j_low j_high) (reach.each i low high) (none i low high) low high some,
    )

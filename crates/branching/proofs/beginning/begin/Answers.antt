use Rattle.std.proofs.Common.{arith}
use Rattle.branching.proofs.Evidence.{ok_on}
use Rattle.branching.proofs.Openings.{closed_by}
use Rattle.branching.proofs.beginning.begin.Goals as goal

pub begin_closed-requires : goal.begin_closed-requires
begin_closed-requires c = closed_by c.args.instance.now c.args.root c.in-Some.leaf c.in-Closed.amount c.requires.figures c.requires.means c.requires.writable c.requires.bounds c.in-Closed.is c.in-Some.is

pub returns-else-apart-amount-clause-begins : goal.returns-else-apart-amount-clause-begins
returns-else-apart-amount-clause-begins c = ok_on c.begin_apart.result _ _ (λ b all version known. all c.args.instance.now version known c.requires.apart) c.begin_apart.ensures.begins

pub returns-in_default : goal.returns-in_default
returns-in_default c = record {
  begins = ok_on c.begin_apart-in_default.result _ _ (λ b all version known. all c.args.instance.now version known c.requires.apart) c.begin_apart-in_default.ensures.begins;
  apart = ok_on c.begin_apart-in_default.result _ _ (λ b same. omega (arith, same)) c.begin_apart-in_default.ensures.least;
  closed = ok_on c.begin_apart-in_default.result _ _ (λ b same amount closed. absurd (c.in_default.not-Closed amount closed)) c.begin_apart-in_default.ensures.least;
}

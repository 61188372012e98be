use Rattle.std.proofs.Common.{◌∙◌, sym}
use Rattle.rational.specs.Rational.{neg_ℚ}
use Rattle.rational.proofs.Rationals as Q
use Rattle.tableau.proofs.tableau.opposite.Goals as goal

pub returns : goal.returns
returns c = c.neg.ensures ∙ sym (Q.zero_add (neg_ℚ c.args.number))

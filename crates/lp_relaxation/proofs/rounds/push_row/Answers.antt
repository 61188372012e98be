use Rattle.std.proofs.Common.{sym, subst}
use Rattle.tableau.specs.Held.{inequality_of}
use Rattle.tableau.specs.Program.{IsProgram, IsRow}
use Rattle.lp_relaxation.proofs.Making.{pushed_fits}
use Rattle.lp_relaxation.proofs.rounds.push_row.Goals as goal

pub push-requires-2 : goal.push-requires-2
push-requires-2 c =
    let one = inequality_of c.in_ok-made.made in
    pushed_fits c.args.round.now.lp one c.requires.program (subst (λ n. IsRow n one) (sym c.requires.width) c.in_ok-made.ensures.fits) c.requires.few

pub returns-clause-fits : goal.returns-clause-fits
returns-clause-fits c =
    let one = inequality_of c.in_ok-made.made in
    subst IsProgram (sym c.in_ok-push-2.ensures.pushed)
    (pushed_fits c.args.round.now.lp one c.requires.program (subst (λ n. IsRow n one) (sym c.requires.width) c.in_ok-made.ensures.fits) c.requires.few)

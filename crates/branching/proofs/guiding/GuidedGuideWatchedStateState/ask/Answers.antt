use Rattle.branching.specs.Branching.{after_same_with}
use Rattle.branching.proofs.Evidence.{anyway, ok_on}
use Rattle.branching.proofs.guiding.GuidedGuideWatchedStateState.ask.Goals as goal

pub returns-clause-grows : goal.returns-clause-grows
returns-clause-grows ghosts c = anyway c.with_evidence.result _ (after_same_with c.args._state.now.work.known (ghosts.W.Watch.may_stop c.args._state.now.watch))

pub returns-clause-holds : goal.returns-clause-holds
returns-clause-holds ghosts c = ok_on c.with_evidence.result _ _ (λ p kept. kept c.args.self.now.model.least c.args._state.now.work.known.rows.items c.requires.holds) c.with_evidence.ensures.kept

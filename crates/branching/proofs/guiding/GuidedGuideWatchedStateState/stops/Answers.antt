use Rattle.std.proofs.Common.{◌∙◌, sym}
use Rattle.branching.specs.Branching.{after_same}
use Rattle.branching.proofs.guiding.GuidedGuideWatchedStateState.stops.Goals as goal

pub returns-clause-state : goal.returns-clause-state
returns-clause-state ghosts c = record { known = c.requires.state.known; ended = λ still. c.is_stopped-state.ensures.never (sym c.is_stopped-state.ensures.may ∙ still) }

pub returns-clause-grows : goal.returns-clause-grows
returns-clause-grows ghosts c = record { after = after_same c.args.state.now.work.known; may = sym c.is_stopped-state.ensures.may }

use Rattle.branching.specs.Knowing.{KnowsMore}
use Rattle.branching.proofs.pricing.improve.Given as goal

abbrev pub invariant-loop-time : goal.invariant-loop-time
invariant-loop-time g l = KnowsMore l.guided.model l.initial.state.known l.state.known

use Rattle.std.specs.Prelude.{IfSome}
use Rattle.node_domains.specs.Nodes.{IsOpenAt}
use Rattle.node_branching.proofs.splitting.best_of_item.Given as goal

abbrev pub invariant-loop-number : goal.invariant-loop-number
invariant-loop-number l = IfSome l.best (λ choice. IsOpenAt l.ranges choice.place)

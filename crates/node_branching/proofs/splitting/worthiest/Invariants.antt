use Rattle.std.specs.Prelude.{IfSome}
use Rattle.node_domains.specs.Nodes.{IsOpenAt}
use Rattle.node_branching.proofs.splitting.worthiest.Given as goal

abbrev pub invariant-loop-item : goal.invariant-loop-item
invariant-loop-item l = IfSome l.best (λ choice. IsOpenAt l.ranges choice.place)

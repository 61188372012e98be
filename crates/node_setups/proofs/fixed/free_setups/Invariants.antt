use Rattle.std.specs.Prelude.{◌≡◌, map, replicate}
use Rattle.node_setups.specs.declared.fixed.Held.TheVariants.{Free}
use Rattle.node_setups.proofs.fixed.free_setups.Given as goal

abbrev pub invariant-loop : goal.invariant-loop
invariant-loop l = map (λ line. line.items) l.all.items ≡ replicate l.counter (replicate l.periods Free)

use Rattle.std.proofs.lemmas.Option.{IfSome_then}
use Rattle.heur_plugin.proofs.lagging.walk_further.Goals as goal

pub lagged_from-requires : goal.lagged_from-requires
lagged_from-requires c = IfSome_then c.args.best.now c.requires.made (λ planned is. is.made)

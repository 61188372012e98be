use Rattle.std.proofs.lemmas.Option.{IfSome_then}
use Rattle.heur_plugin.proofs.programs.walk.Goals as goal

pub walked_from-requires : goal.walked_from-requires
walked_from-requires c = IfSome_then c.args.best.now c.requires.made (λ planned is. is.made)

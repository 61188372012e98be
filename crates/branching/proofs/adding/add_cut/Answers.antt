use Rattle.std.proofs.Common.{refl}
use Rattle.branching.proofs.Points.{after_kept, known_kept}
use Rattle.branching.proofs.adding.add_cut.Goals as goal

pub returns-then-len : goal.returns-then-len
returns-then-len c = record {
  known = known_kept c.args.model.now c.args.known.now _ refl refl refl c.requires.known.best c.requires.known;
  after = after_kept c.args.known.now _ refl;
  best = refl;
}

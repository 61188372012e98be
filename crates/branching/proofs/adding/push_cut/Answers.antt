use Rattle.std.proofs.Common.{[], ◌∷◌, refl}
use Rattle.branching.proofs.Added.{known_more}
use Rattle.branching.proofs.adding.push_cut.Goals as goal

pub returns : goal.returns
returns c = record {
  known = known_more c.args.model.now c.args.known.now _ c.args.cut c.args.row c.cut_rows_go_on.ensures.more c.cut_rows_go_on.ensures.small c.requires.few c.requires.block c.requires.form c.requires.row c.in_ok-push.ensures.items c.in_ok-push-2.ensures.items refl refl c.requires.known;
  after = record { more = c.args.row ∷ []; rows = c.in_ok-push-2.ensures.items };
  best = refl;
}

use Rattle.std.proofs.Common.{All, sym, subst}
use Rattle.first_plans.specs.Made.{IsMade, those}
use Rattle.first_plans.proofs.Lists.{all_more}
use Rattle.first_plans.proofs.listing.keep_improved.Goals as goal

pub returns : goal.returns
returns c =
    let m = c.args.instance.now in
    record {
      each = subst (All (IsMade m)) (sym c.in_ok-keep.ensures) (all_more m c.args.list.now.items c.in_ok-found.found c.requires.each c.in_ok-found.ensures);
      longer = (those c.in_ok-found.found, c.in_ok-keep.ensures);
    }

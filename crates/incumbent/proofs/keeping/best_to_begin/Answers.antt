use Rattle.incumbent.proofs.Best.{given_on, own_kept}
use Rattle.incumbent.proofs.keeping.best_to_begin.Goals as goal

pub returns : goal.returns
returns c =
    let own = c.in_ok-own.ensures in
    record {
      made = c.keep_within.ensures.best.made;
      kept = given_on c.args.instance.now c.args.first c.given-best.result c.keep_within.new.best c.keep_within.ensures.best.kept c.given-best.ensures.kept;
      own = own_kept c.args.instance.now c.args.ranges.now c.in_ok-own.own c.keep_within.new.best own.plan own.one own.none c.keep_within.ensures.found;
    }

use Rattle.std.proofs.Common.{sym, subst}
use Rattle.std.specs.Prelude.{IfOk}
use Rattle.must_start.specs.Rows.{start_in}
use Rattle.reduced_groups.specs.Prices.{price_in}
use Rattle.reduced_groups.specs.Floors.{IsWithinWork, shape_of}
use Rattle.reduced_groups.proofs.floors.floor_in.Goals as goal

pub returns-in-Pair-clause-within : goal.returns-in-Pair-clause-within
returns-in-Pair-clause-within c =
    subst (λ g. IfOk c.pair_group.result (λ _. IsWithinWork c.args.given.instance.now (start_in c.args.given.started.now) (start_in c.args.given.on_time.now) (price_in c.args.given.prices.now) (shape_of g)))
    (sym c.in-Pair.is) c.pair_group.ensures.within

pub returns-in-Triple-clause-within : goal.returns-in-Triple-clause-within
returns-in-Triple-clause-within c =
    subst (λ g. IfOk c.triple_group.result (λ _. IsWithinWork c.args.given.instance.now (start_in c.args.given.started.now) (start_in c.args.given.on_time.now) (price_in c.args.given.prices.now) (shape_of g)))
    (sym c.in-Triple.is) c.triple_group.ensures.within

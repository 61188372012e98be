use Rattle.std.proofs.Common.{◌^◌, ◌-◌, sym, subst}
use Rattle.std.specs.Prelude.{IfOk}
use Rattle.std.proofs.lemmas.Result.{MatchResult-weaker}
use Rattle.late_starts.specs.Choices.{IsLeastUpTo}
use Rattle.late_starts.specs.Pricing.{IsRising, late_lots_of}
use Rattle.reduced_groups.specs.Prices.{price_in}
use Rattle.reduced_groups.proofs.LateLots.{late_known, late_rises}
use Rattle.reduced_groups.proofs.Limits.{small_of}
use Rattle.reduced_groups.proofs.late.late_floor.Goals as goal

pub least_late_price-requires-clause-rising : goal.least_late_price-requires-clause-rising
least_late_price-requires-clause-rising c =
    let m = c.args.instance.now in
    let (rank, ranks) = c.an_instance_breaks_no_rule.ensures.ranked in
    subst (λ xs. IsRising (late_lots_of xs 0)) (sym c.deref.ensures.value)
    (late_rises m rank ranks c.args.on_time.now c.requires.on_time (price_in c.args.prices.now) c.args.item c.args.shares.now (c.requires.low, c.requires.high) c.in_ok-lots.lots.items c.in_ok-lots.ensures c.on_time_is_one.ensures.rises)

pub returns : goal.returns
returns c =
    let m = c.args.instance.now in
    let price = price_in c.args.prices.now in
    let (rank, ranks) = c.an_instance_breaks_no_rule.ensures.ranked in
    let small = small_of m c.args.prices.now c.args.item c.requires.prices (c.requires.low, c.requires.high) (c.requires.setups, c.requires.units) in
    MatchResult-weaker c.least_late_price.result
    (subst (λ xs. IfOk c.least_late_price.result (IsLeastUpTo (late_lots_of xs c.settled_from.result) (2 ^ 128 - 1))) c.deref.ensures.value c.least_late_price.ensures)
    (λ cost least. late_known m rank ranks c.args.on_time.now c.requires.on_time price c.args.item c.args.shares.now (c.requires.low, c.requires.high) c.in_ok-lots.lots.items c.in_ok-lots.ensures c.settled_from.result cost c.an_instance_breaks_no_rule.ensures.limits.periods c.on_time_is_one.ensures.one small c.settled_from.ensures.value least)
    (λ e h. h)

use Rattle.std.proofs.Common.{subst}
use Rattle.std.specs.Prelude.{IfErr, IfOk}
use Rattle.std.proofs.lemmas.Result.{MatchResult-weaker}
use Rattle.must_start.specs.Rows.{start_in}
use Rattle.quantity_dp.specs.Limits.{IsWithinLimits}
use Rattle.reduced_groups.specs.Floors.{IsFoundOf, IsLotsFault}
use Rattle.reduced_groups.specs.Prices.{price_in}
use Rattle.reduced_groups.proofs.QuantityLots.{few_entries, none_asked, quantities_fault, quantities_known}
use Rattle.reduced_groups.proofs.quantities.quantity_floor.Goals as goal

pub returns-clause-floor : goal.returns-clause-floor
returns-clause-floor c =
    let m = c.args.given.instance.now in
    let (rank, ranks) = c.an_instance_breaks_no_rule.ensures.ranked in
    MatchResult-weaker c.floor_of.result
    (subst (λ xs. IfOk c.floor_of.result (IsFoundOf xs)) c.deref.ensures.value c.floor_of.ensures.floor)
    (λ floor found. quantities_known m rank c.args.given.started.now c.args.given.prices.now c.args.item c.in_ok-lots.lots.items c.must_start_holds.ensures.one c.lots_hold.ensures.one ranks c.requires.started (c.requires.low, c.requires.high) floor c.in_ok-lots.ensures found)
    (λ e h. h)

pub returns-clause-few : goal.returns-clause-few
returns-clause-few c =
    let start = start_in c.args.given.started.now in
    MatchResult-weaker c.floor_of.result
    (subst (λ xs. IfOk c.floor_of.result (λ _. IsWithinLimits xs)) c.deref.ensures.value c.floor_of.ensures.within)
    (λ floor within. few_entries c.args.given.instance.now start (start c.args.item) (λ t. 0) (λ t. 0) (price_in c.args.given.prices.now) c.args.item c.in_ok-lots.lots.items (λ t low high. none_asked (start c.args.item t)) c.in_ok-lots.ensures within)
    (λ e h. h)

pub returns-clause-fault : goal.returns-clause-fault
returns-clause-fault c =
    MatchResult-weaker c.floor_of.result
    (subst (λ xs. IfErr c.floor_of.result (IsLotsFault xs)) c.deref.ensures.value c.floor_of.ensures.fault)
    (λ floor h. h)
    (λ e is. quantities_fault c.args.given.instance.now (start_in c.args.given.started.now) (start_in c.args.given.on_time.now) c.args.given.prices.now c.args.item c.in_ok-lots.lots.items c.an_instance_breaks_no_rule.ensures.limits.periods (c.requires.low, c.requires.high) c.requires.prices (c.requires.setups, c.requires.units) c.in_ok-lots.ensures e is)

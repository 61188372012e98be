use Rattle.std.proofs.Common.{subst}
use Rattle.std.specs.Prelude.{IfErr, IfOk}
use Rattle.std.proofs.lemmas.Result.{MatchResult-weaker}
use Rattle.lot_sizing.specs.Problem.{entry}
use Rattle.must_start.specs.Rows.{start_in}
use Rattle.quantity_dp.specs.Limits.{IsWithinLimits}
use Rattle.reduced_groups.specs.Floors.{IsFoundOf, IsLotsFault, settled_start}
use Rattle.reduced_groups.specs.Prices.{price_in}
use Rattle.reduced_groups.proofs.QuantityLots.{few_entries, on_time_most, short_fault, short_known}
use Rattle.reduced_groups.proofs.quantities.late_quantity_floor.Goals as goal

pub returns-clause-floor : goal.returns-clause-floor
returns-clause-floor c =
    let m = c.args.given.instance.now in
    let (rank, ranks) = c.an_instance_breaks_no_rule.ensures.ranked in
    MatchResult-weaker c.floor_of.result
    (subst (λ xs. IfOk c.floor_of.result (IsFoundOf xs)) c.deref.ensures.value c.floor_of.ensures.floor)
    (λ floor found. short_known m rank c.args.given.started.now c.args.given.prices.now c.args.item c.in_ok-lots.lots.items c.must_start_holds.ensures.one c.lots_hold.ensures.one ranks c.requires.started (c.requires.low, c.requires.high) c.args.given.on_time.now c.on_time_is_one.ensures.one c.requires.on_time c.args.shares.now floor c.in_ok-lots.ensures found)
    (λ e h. h)

pub returns-clause-few : goal.returns-clause-few
returns-clause-few c =
    let m = c.args.given.instance.now in
    let i = c.args.item in
    let start = start_in c.args.given.started.now in
    let on_time = start_in c.args.given.on_time.now in
    let (rank, ranks) = c.an_instance_breaks_no_rule.ensures.ranked in
    MatchResult-weaker c.floor_of.result
    (subst (λ xs. IfOk c.floor_of.result (λ _. IsWithinLimits xs)) c.deref.ensures.value c.floor_of.ensures.within)
    (λ floor within. few_entries m on_time (settled_start m start on_time i) (on_time i) (entry c.args.shares.now) (price_in c.args.given.prices.now) i c.in_ok-lots.lots.items
    (λ t low high. on_time_most m start on_time i t (c.on_time_is_one.ensures.must m rank start on_time ranks c.requires.started.starts c.requires.on_time.starts i t c.requires.low c.requires.high low high))
    c.in_ok-lots.ensures within)
    (λ e h. h)

pub returns-clause-fault : goal.returns-clause-fault
returns-clause-fault c =
    let m = c.args.given.instance.now in
    let i = c.args.item in
    let start = start_in c.args.given.started.now in
    let on_time = start_in c.args.given.on_time.now in
    let (rank, ranks) = c.an_instance_breaks_no_rule.ensures.ranked in
    MatchResult-weaker c.floor_of.result
    (subst (λ xs. IfErr c.floor_of.result (IsLotsFault xs)) c.deref.ensures.value c.floor_of.ensures.fault)
    (λ floor h. h)
    (λ e is. short_fault m start on_time c.args.given.prices.now i c.args.shares.now c.in_ok-lots.lots.items c.an_instance_breaks_no_rule.ensures.limits.periods (c.requires.low, c.requires.high) c.requires.prices (c.requires.setups, c.requires.units)
    (λ t low high. c.on_time_is_one.ensures.must m rank start on_time ranks c.requires.started.starts c.requires.on_time.starts i t c.requires.low c.requires.high low high)
    c.in_ok-lots.ensures e is)

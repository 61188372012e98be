use Rattle.std.proofs.Common.{◌≡◌, arith, length}
use Rattle.std.specs.Prelude.{map}
use Rattle.std.proofs.lemmas.Result.{MatchResult-weaker}
use Rattle.must_start.specs.Rows.{start_in}
use Rattle.reduced_groups.specs.Prices.{price_in}
use Rattle.reduced_groups.specs.Floors.{shape_of}
use Rattle.reduced_leaf.specs.Found.{left_price}
use Rattle.reduced_leaf.proofs.Answering.{floors_priced, groups_of, stops_known, within_known}
use Rattle.reduced_leaf.proofs.Charging.{none_charged, none_free}
use Rattle.reduced_leaf.proofs.sums.floors_at.Goals as goal

pub returns-then-is_empty-clause-charged : goal.returns-then-is_empty-clause-charged
returns-then-is_empty-clause-charged c = λ total known totals are.
    let m = c.args.instance.now in
    let groups = c.args.groups.now in
    let (rank, ranks) = c.an_instance_breaks_no_rule.ensures.ranked in
    let laws = c.charges_cover.ensures in
    let none : length groups ≡ 0 = grind (arith, c.is_empty.ensures, c.if-is_empty.true) in
    none_charged m rank known (left_price m c.args.sums.now c.args.den) (map shape_of groups) laws.exist laws.none ranks (none_free groups none)

pub floors_of-requires-clause-groups : goal.floors_of-requires-clause-groups
floors_of-requires-clause-groups c = groups_of c.args.instance.now c.args.groups.now c.requires.apart.groups

pub returns-clause-floor : goal.returns-clause-floor
returns-clause-floor c =
    let m = c.args.instance.now in
    let price = left_price m c.args.sums.now c.args.den in
    let laws = c.numbers_are_one.ensures in
    MatchResult-weaker c.floors_of.result c.floors_of.ensures.floor (λ floor is. floors_priced m (price_in c.in_ok-prices.prices) price c.args.groups.now floor laws.both laws.none c.requires.apart c.in_ok-prices.ensures.same is) (λ e h. h)

pub returns-clause-within : goal.returns-clause-within
returns-clause-within c =
    let m = c.args.instance.now in
    let (rank, ranks) = c.an_instance_breaks_no_rule.ensures.ranked in
    let price = left_price m c.args.sums.now c.args.den in
    let laws = c.numbers_are_one.ensures in
    MatchResult-weaker c.floors_of.result c.floors_of.ensures.within (λ floor is. within_known m rank (start_in c.in_ok-started.started) (start_in c.in_ok-on_time.on_time) (price_in c.in_ok-prices.prices) price c.args.groups.now laws.known laws.work ranks c.in_ok-started.ensures.starts.starts c.in_ok-on_time.ensures.starts.starts c.requires.apart c.in_ok-prices.ensures.same is) (λ e h. h)

pub returns-clause-fault : goal.returns-clause-fault
returns-clause-fault c =
    let m = c.args.instance.now in
    let (rank, ranks) = c.an_instance_breaks_no_rule.ensures.ranked in
    let price = left_price m c.args.sums.now c.args.den in
    let laws = c.numbers_are_one.ensures in
    MatchResult-weaker c.floors_of.result c.floors_of.ensures.fault (λ floor h. h) (λ e is. stops_known m rank (start_in c.in_ok-started.started) (start_in c.in_ok-on_time.on_time) (price_in c.in_ok-prices.prices) price c.args.groups.now laws.known laws.work ranks c.in_ok-started.ensures.starts.starts c.in_ok-on_time.ensures.starts.starts c.requires.apart c.in_ok-prices.ensures.same e c.in_ok-pay_shares.ensures.charged is)

use Rattle.std.proofs.Common.{subst}
use Rattle.std.specs.Prelude.{map}
use Rattle.std.proofs.lemmas.Result.{MatchResult-weaker}
use Rattle.lot_sizing.specs.Problem.{item_count}
use Rattle.must_start.specs.Rows.{start_in}
use Rattle.late_starts.specs.Rows.{AreCappedCharges, cell_in, rows_of}
use Rattle.reduced_groups.specs.Floors.{shape_of}
use Rattle.reduced_leaf.specs.Found.{ArePaidTo, IsOverAs, left_price}
use Rattle.reduced_leaf.proofs.Charging.{none_charged, over_known, shares_paid}
use Rattle.reduced_leaf.proofs.charges.pay_shares.Goals as goal

pub returns-then-are_free-clause-charged : goal.returns-then-are_free-clause-charged
returns-then-are_free-clause-charged c = λ total known totals are.
    let m = c.args.instance.now in
    let (rank, ranks) = c.an_instance_breaks_no_rule.ensures.ranked in
    let laws = c.charges_cover.ensures in
    none_charged m rank known (left_price m c.args.sums.now c.args.den) (map shape_of c.args.groups.now) laws.exist laws.none ranks (c.are_free.ensures c.if-are_free.true)

pub returns-clause-charged : goal.returns-clause-charged
returns-clause-charged c =
    let m = c.args.instance.now in
    let start = start_in c.args.on_time.now in
    let rows = rows_of c.in_ok-rows.rows.items in
    let (rank, ranks) = c.an_instance_breaks_no_rule.ensures.ranked in
    let found = subst (λ list. AreCappedCharges m start (cell_in (rows_of list)) rows) c.deref.ensures.value c.in_ok-rows.ensures in
    MatchResult-weaker c.pay.result c.pay.ensures.paid (λ done paid. shares_paid m c.args.sums.now c.args.den rank start (rows_of c.in_ok-shares.shares.items) rows (map shape_of c.args.groups.now) c.on_time_is_one.ensures.one c.charges_cover.ensures.agree ranks c.requires.on_time.starts c.in_ok-shares.ensures found (subst (λ list. ArePaidTo m c.args.sums.now c.args.den (rows_of list) (item_count m)) c.deref-2.ensures.value paid)) (λ e h. h)

pub returns-clause-fault : goal.returns-clause-fault
returns-clause-fault c =
    let m = c.args.instance.now in
    let start = start_in c.args.on_time.now in
    let rows = rows_of c.in_ok-rows.rows.items in
    let (rank, ranks) = c.an_instance_breaks_no_rule.ensures.ranked in
    let found = subst (λ list. AreCappedCharges m start (cell_in (rows_of list)) rows) c.deref.ensures.value c.in_ok-rows.ensures in
    MatchResult-weaker c.pay.result c.pay.ensures.fault (λ done h. h) (λ e is. over_known m c.args.sums.now c.args.den rank start (rows_of c.in_ok-shares.shares.items) rows (map shape_of c.args.groups.now) c.on_time_is_one.ensures.one c.charges_cover.ensures.agree ranks c.requires.on_time.starts c.in_ok-shares.ensures found e (subst (λ list. IsOverAs m c.args.sums.now c.args.den (rows_of list) e) c.deref-2.ensures.value is))

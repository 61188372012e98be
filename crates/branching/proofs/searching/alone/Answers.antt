use Rattle.node_domains.specs.Within.{given_ranges}
use Rattle.branching.proofs.Answering.{all_alone, alone_within, fits_alone, plan_alone}
use Rattle.branching.proofs.searching.alone.Goals as goal

pub plan_uncoupled-requires : goal.plan_uncoupled-requires
plan_uncoupled-requires ghosts c = c.requires.start.root.uncoupled.0 c.requires.uncoupled

pub lies_within-requires-clause-plan : goal.lies_within-requires-clause-plan
lies_within-requires-clause-plan ghosts c =
    let m = c.args.start.instance.now in
    let found = c.in_ok-found.found in
    let (total, weight, totals, weights) = c.requires.start.root.figures in
    fits_alone m found.plan (plan_alone m total weight found totals weights c.in_ok-found.ensures.proved c.in_ok-found.ensures.decided)

pub returns-then-lies_within : goal.returns-then-lies_within
returns-then-lies_within ghosts c =
    alone_within c.args.start.instance.now (given_ranges c.args.start.ranges.now) c.args.wanted (ghosts.W.Watch.may_stop c.args.watch) c.in_ok-found.found c.args.start.said c.args.start.apart c.requires.start.room c.requires.start.oldest c.requires.start.good c.requires.start.root c.requires.uncoupled c.requires.start.apart c.apart_is_one.ensures c.in_ok-found.ensures.proved c.in_ok-found.ensures.decided (c.lies_within.ensures.0 c.if-lies_within.true)

pub searched-requires-clause-coupled : goal.searched-requires-clause-coupled
searched-requires-clause-coupled ghosts c = λ all same.
    let m = c.args.start.instance.now in
    let ranges = given_ranges c.args.start.ranges.now in
    let found = c.in_ok-found.found in
    let (total, weight, totals, weights) = c.requires.start.root.figures in
    let good = plan_alone m total weight found totals weights c.in_ok-found.ensures.proved c.in_ok-found.ensures.decided in
    let yes = c.lies_within.ensures.1 (all_alone m ranges found.plan (c.lie_in_whole.ensures ranges all) good) in
    let no = c.if-lies_within.false in
    cc (yes, no)

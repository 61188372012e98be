use Rattle.std.proofs.Common.{refl}
use Rattle.branching.specs.declared.guiding.Model.{Model}
use Rattle.branching.specs.Finishing.{IsSearched}
use Rattle.branching.proofs.Answering.{ended_on, searched_ok}
use Rattle.branching.proofs.LeastVersion.{version_known}
use Rattle.branching.proofs.searching.searched.Goals as goal

pub search-requires-clause-state : goal.search-requires-clause-state
search-requires-clause-state g c =
    let newest = c.args.wanted.newest in
    let begins = c.in_ok-begun.ensures.begins newest (version_known c.args.start.instance.now newest c.requires.start.oldest c.requires.start.latest) in
    record { known = record { given = c.requires.start.given; begun = begins.begun; cuts = begins.cuts; best = c.in_ok-best.ensures.made; sums = c.in_ok-sums.ensures; explosion = c.in_ok-explosion.ensures }; ended = λ _. refl }

pub finish-requires-clause-searched : goal.finish-requires-clause-searched
finish-requires-clause-searched g c =
    let found = c.in_ok-found.ensures in (
      c.args.wanted.budget,
      c.args.wanted.limits,
      g.W.Watch.may_stop c.args.watch,
      c.in_ok-list.list.items,
      record {
        known = found.state.known;
        listed = c.in_ok-list.ensures.listed;
        node = c.in_ok-list.ensures.node;
        nodes = found.nodes;
        within = found.within;
        short = found.short;
        split = found.split;
        holds = found.holds;
        shown = found.shown;
        evident = found.evidence;
        cause = found.cause;
        decided = found.decided;
      },
    )

pub returns : goal.returns
returns ghosts c =
    let g : Model = record {
      instance = c.args.start.instance;
      ranges = c.args.start.ranges;
      explosion = c.in_ok-explosion.explosion;
      version = c.args.wanted.newest;
      root = c.args.start.said.says;
      least = c.in_ok-begun.begun.least;
      first = c.in_ok-begun.begun.first;
    } in
    let k = c.search.new.state.work.known in
    let stopping = ghosts.W.Watch.may_stop c.args.watch in
    let rs = c.in_ok-list.list.items in
    let found = c.in_ok-found.ensures in
    let is : IsSearched g k c.args.wanted.budget c.args.wanted.limits stopping rs c.in_ok-found.found = record {
      known = found.state.known;
      listed = c.in_ok-list.ensures.listed;
      node = c.in_ok-list.ensures.node;
      nodes = found.nodes;
      within = found.within;
      short = found.short;
      split = found.split;
      holds = found.holds;
      shown = found.shown;
      evident = found.evidence;
      cause = found.cause;
      decided = found.decided;
    } in
    searched_ok g k c.args.wanted stopping c.finish.result c.args.start.said c.args.start.apart c.in_ok-best.best refl c.requires.start.root c.requires.coupled c.requires.some c.requires.start.apart c.apart_is_one.ensures c.lie_in_whole.ensures c.whole_is_proved.ensures
    c.finish.ensures.proved
    (ended_on g k c.args.wanted.budget c.args.wanted.limits stopping rs c.in_ok-found.found c.finish.result is c.finish.ensures.shown)
    c.finish.ensures.plan c.finish.ensures.root c.finish.ensures.version c.in_ok-begun.ensures.apart c.in_ok-begun.ensures.closed found.state.known.best found.kept c.in_ok-best.ensures.kept c.in_ok-best.ensures.own

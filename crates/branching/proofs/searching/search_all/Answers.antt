use Rattle.node_domains.specs.Within.{given_ranges}
use Rattle.branching.proofs.Best.{first_within}
use Rattle.branching.proofs.Evidence.{ok_on}
use Rattle.branching.proofs.searching.search_all.Goals as goal

pub search-requires-clause-first : goal.search-requires-clause-first
search-requires-clause-first ghosts c =
    let ranges = given_ranges c.in_ok-ranges.ranges in
    first_within c.args.instance.now ranges c.args.wanted.first (c.lie_in_whole.ensures ranges c.in_ok-ranges.ensures.whole) c.requires.first

pub returns : goal.returns
returns ghosts c =
    let all = c.in_ok-ranges.ensures.whole in
    let r = c.search.result in
    let is = c.search.ensures.whole in
    record {
      proved = ok_on r _ _ (λ found answer. (answer all).proved) is;
      plan = ok_on r _ _ (λ found answer. (answer all).plan) is;
      within = ok_on r _ _ (λ found answer. (answer all).within) is;
      kept = ok_on r _ _ (λ found answer. (answer all).kept) is;
      own = ok_on r _ _ (λ found answer. (answer all).own) is;
      goes = ok_on r _ _ (λ found answer. (answer all).goes) is;
      cause = ok_on r _ _ (λ found answer. (answer all).cause) is;
      evidence = ok_on r _ _ (λ found answer. (answer all).evidence) is;
      root = ok_on r _ _ (λ found answer. (answer all).root) is;
      uncoupled = ok_on r _ _ (λ found answer. (answer all).uncoupled) is;
      uses = ok_on r _ _ (λ found answer. (answer all).uses) is;
      apart = ok_on r _ _ (λ found answer. (answer all).apart) is;
      complete = ok_on r _ _ (λ found answer. (answer all).complete) is;
      version = ok_on r _ _ (λ found answer. (answer all).version) is;
    }

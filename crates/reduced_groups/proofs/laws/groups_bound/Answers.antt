use Rattle.reduced_groups.proofs.Bounds.{Grounds, groups_bound, groups_refute}
use Rattle.reduced_groups.proofs.laws.groups_bound.Goals as goal

pub returns-clause-bound : goal.returns-clause-bound
returns-clause-bound c = λ m rank total known some ranks totals are price shapes amounts apart is p f.
    let by : Grounds = record {
      holds = c.must_start_holds.ensures.holds;
      rises = c.must_start_holds.ensures.rises;
      levels = c.must_start_holds.ensures.levels;
      lots = c.lots_hold.ensures.holds;
      exist = c.late_starts_hold.ensures.exist;
      late = c.late_items_bound.ensures.plans;
      cover = c.charges_cover.ensures.cover;
    } in
    groups_bound by m rank total known some ranks totals are p f price shapes amounts apart is

pub returns-clause-refute : goal.returns-clause-refute
returns-clause-refute c = λ m rank total known some ranks totals are price shapes here lacks p f.
    let by : Grounds = record {
      holds = c.must_start_holds.ensures.holds;
      rises = c.must_start_holds.ensures.rises;
      levels = c.must_start_holds.ensures.levels;
      lots = c.lots_hold.ensures.holds;
      exist = c.late_starts_hold.ensures.exist;
      late = c.late_items_bound.ensures.plans;
      cover = c.charges_cover.ensures.cover;
    } in
    groups_refute by m rank total known some ranks totals are p f price shapes here lacks

use Rattle.answers_exist.proofs.Bounding.{come_out}
use Rattle.answers_exist.proofs.bounds_come_out.Goals as goal

pub returns : goal.returns
returns c = come_out (record {
  totals = c.totals_exist.ensures.totals;
  one = c.totals_are_one.ensures;
  names = c.base_names_are_all.ensures;
  least = c.least_is_said.ensures;
  empty = c.empty_is_said.ensures;
  runs = c.runs_come_out.ensures;
  floors = c.base_bounds_are_floors.ensures.bound;
  impossible = c.base_bounds_are_floors.ensures.empty;
})

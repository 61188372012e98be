use Rattle.std.proofs.Common.{arith}
use Rattle.std.proofs.lemmas.List.{length-map}
use Rattle.cert_lines.specs.Shapes.{cut_shape}
use Rattle.branching.proofs.searching.search.Goals as goal

pub answer-requires : goal.answer-requires
answer-requires ghosts c = record {
  start = record {
    room = c.requires.budget;
    oldest = c.requires.oldest;
    latest = c.requires.latest;
    given = c.requires.ranges;
    good = c.requires.first;
    root = record {
      means = c.in_ok-said.ensures.means;
      writable = c.in_ok-said.ensures.writable;
      uncoupled = c.in_ok-said.ensures.uncoupled;
      bounds = c.in_ok-said.ensures.bounds;
      figures = c.in_ok-said.ensures.figures;
    };
    apart = record {
      amount = c.in_ok-apart.ensures.amount;
      floor = c.in_ok-apart.ensures.floor;
      small = c.in_ok-apart.ensures.small;
      cuts = c.in_ok-apart.ensures.cuts;
      columns_exist = c.in_ok-apart.ensures.columns_exist;
      says = c.in_ok-apart.ensures.leaf;
      few = omega (arith, c.in_ok-apart.ensures.cuts.few, length-map c.in_ok-apart.apart.cuts.items cut_shape);
    };
  };
}

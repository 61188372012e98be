use Rattle.cert_trees.proofs.Left.{numbers_left, ranges_left}
use Rattle.cert_trees.proofs.laws.ranges_are_left.Goals as goal

pub returns : goal.returns
returns c = record {
  numbers = λ ranges path column n. numbers_left path column (ranges column) n;
  plans = λ m ranges path choices p. ranges_left m ranges path choices p;
}

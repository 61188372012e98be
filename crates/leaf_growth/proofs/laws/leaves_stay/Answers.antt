use Rattle.leaf_growth.proofs.Growing.{said_stay, says_stay}
use Rattle.leaf_growth.proofs.laws.leaves_stay.Goals as goal

pub returns : goal.returns
returns c = record {
  leaves = λ m total ranges cuts more path leaf says is. says_stay m total ranges cuts more path leaf says is;
  said = λ m cuts more path leaf says is. said_stay m cuts more path leaf says is;
}

use Rattle.leaf_growth.proofs.Growing.{said_on, says_on}
use Rattle.leaf_growth.proofs.laws.leaves_go_on.Goals as goal

pub returns : goal.returns
returns c = record {
  leaves = λ m total ranges cuts more path further leaf says of is. says_on m total cuts more path further ranges leaf says of is;
  said = λ m cuts more path further leaf says of is. said_on m cuts more path further leaf says of is;
}

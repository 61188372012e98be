use Rattle.leaf_growth.proofs.Trees.{made_writable, tree_lines}
use Rattle.leaf_growth.proofs.laws.made_is_writable.Goals as goal

pub returns : goal.returns
returns c = record {
  trees = λ m total version path tree limits small split each. tree_lines m total version path tree limits small split each;
  shapes = λ m total s limits small made. made_writable m total s limits small made;
}

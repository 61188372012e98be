use Rattle.leaf_growth.proofs.Trees.{lines_few}
use Rattle.leaf_growth.proofs.laws.few_lines.Goals as goal

pub returns : goal.returns
returns c = λ s is nodes. lines_few s is nodes

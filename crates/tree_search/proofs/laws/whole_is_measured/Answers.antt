use Rattle.tree_search.proofs.Whole as whole
use Rattle.tree_search.proofs.laws.whole_is_measured.Goals as goal

pub returns : goal.returns
returns c = whole.whole_is_measured

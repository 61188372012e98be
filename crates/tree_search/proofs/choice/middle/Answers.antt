use Rattle.std.proofs.Common.{refl}
use Rattle.tree_search.proofs.Ranges.{allowed_if_lowered, split_in_middle}
use Rattle.tree_search.proofs.choice.middle.Goals as goal

pub returns-clause-lowered : goal.returns-clause-lowered
returns-clause-lowered c = (split_in_middle c.args.ranges.now c.args.place _ c.requires.place c.requires.wide refl).1

pub returns-clause-allowed : goal.returns-clause-allowed
returns-clause-allowed c = λ depth. allowed_if_lowered depth c.args.ranges.now c.args.place _ (split_in_middle c.args.ranges.now c.args.place _ c.requires.place c.requires.wide refl).1

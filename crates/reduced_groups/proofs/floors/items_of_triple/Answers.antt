use Rattle.std.proofs.Common.{[], ◌∷◌}
use Rattle.reduced_groups.proofs.Placed.{first_item, second_item, third_item}
use Rattle.reduced_groups.proofs.floors.items_of_triple.Goals as goal

pub returns-clause-low_low : goal.returns-clause-low_low
returns-clause-low_low c = (first_item c.args.instance.now c.args.low.now.item (c.args.mid.now.item ∷ (c.args.top.now.item ∷ [])) c.requires.group.items).0

pub returns-clause-low_high : goal.returns-clause-low_high
returns-clause-low_high c = (first_item c.args.instance.now c.args.low.now.item (c.args.mid.now.item ∷ (c.args.top.now.item ∷ [])) c.requires.group.items).1

pub returns-clause-mid_low : goal.returns-clause-mid_low
returns-clause-mid_low c = (second_item c.args.instance.now c.args.low.now.item c.args.mid.now.item (c.args.top.now.item ∷ []) c.requires.group.items).0

pub returns-clause-mid_high : goal.returns-clause-mid_high
returns-clause-mid_high c = (second_item c.args.instance.now c.args.low.now.item c.args.mid.now.item (c.args.top.now.item ∷ []) c.requires.group.items).1

pub returns-clause-top_low : goal.returns-clause-top_low
returns-clause-top_low c = (third_item c.args.instance.now c.args.low.now.item c.args.mid.now.item c.args.top.now.item [] c.requires.group.items).0

pub returns-clause-top_high : goal.returns-clause-top_high
returns-clause-top_high c = (third_item c.args.instance.now c.args.low.now.item c.args.mid.now.item c.args.top.now.item [] c.requires.group.items).1

use Rattle.branching.proofs.searching.answer.Goals as goal

pub returns-in-Empty : goal.returns-in-Empty
returns-in-Empty g c = c.impossible.ensures (g.W.Watch.may_stop c.args.watch)

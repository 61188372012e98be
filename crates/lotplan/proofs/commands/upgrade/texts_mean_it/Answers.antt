use Rattle.lotplan.proofs.commands.upgrade.texts_mean_it.Goals as goal

pub returns : goal.returns
returns c bytes text = c.model_texts_are_read.ensures c.args.instance.now bytes c.an_instance_breaks_no_rule.ensures text

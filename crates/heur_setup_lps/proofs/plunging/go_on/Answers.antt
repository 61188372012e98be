use Rattle.heur_setup_lps.proofs.plunging.go_on.Goals as goal

pub returns-in-None-clause-after : goal.returns-in-None-clause-after
returns-in-None-clause-after c = c.go_back.ensures.after c.args.instance.now

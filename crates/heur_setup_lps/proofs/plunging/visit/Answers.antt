use Rattle.heur_setup_lps.proofs.plunging.visit.Goals as goal

pub returns-in_default-clause-after : goal.returns-in_default-clause-after
returns-in_default-clause-after c = c.go_back.ensures.after c.args.instance.now

use Rattle.lotplan.specs.Finding.{limits_of}
use Rattle.lotplan.proofs.Searched.{cause, kept, small}
use Rattle.lotplan.proofs.commands.plan.found_of.Goals as goal

pub returns : goal.returns
returns g c =
    let m = c.args.instance.now in
    let sought = c.args.sought in
    let found = c.in_ok-found.found in
    let e = c.in_ok-found.ensures in
    record {
      proved = e.proved;
      version = e.version;
      within = e.within;
      plan = e.plan;
      together = e.goes;
      kept = kept m sought.begins c.args.first found.plan c.requires.begins e.kept;
      own = e.own;
      cause = cause m sought.budget (limits_of sought) sought.may_stop _ found e.cause;
      evidence = e.evidence;
      small = small m sought.budget (limits_of sought) sought.may_stop _ found.certificate.claim e.complete;
      root = e.root;
      uncoupled = e.uncoupled;
      used = e.uses;
      apart = e.apart;
    }

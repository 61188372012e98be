use Rattle.std.proofs.Common.{rules, subst, List, ℕ}
use Rattle.plan_file.specs.Faults.{IsPlanFault}
use Rattle.plan_file.specs.Records.{records_of}
use Rattle.lotplan.proofs.model_file.read_plan_file.Goals as goal

pub returns : goal.returns
returns g c = record {
  fits = tt;
  plan = tt;
  stop = λ told. (
    c.in-Ok.bytes.items,
    c.in-Ok.ensures.bytes told,
    c.in-Ok.ensures.short,
    record {
      cause = search rules;
      is = subst (λ (bytes : List ℕ). IsPlanFault c.args.instance.now (records_of bytes) c.in-Err.fault) c.as_slice.ensures.value c.in-Err.ensures.refused;
    },
  );
  reads = c.read_bytes.ensures.reads;
  found = tt;
  stopped = c.in-Ok.ensures.found;
  given = c.read_bytes.ensures.given;
}

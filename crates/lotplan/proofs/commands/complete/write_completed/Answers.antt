use Rattle.std.proofs.Common.{arith, ap, inl, inr, length, subst, sym}
use Rattle.plan_rules.specs.Held.{plan_of}
use Rattle.plan_file.specs.Records.{IsPlanOf, records_of}
use Rattle.lotplan.proofs.commands.complete.write_completed.Goals as goal

pub returns-in-Ok-clause-said : goal.returns-in-Ok-clause-said
returns-in-Ok-clause-said g c =
    let bytes = c.as_slice.result.now in
    let same = c.as_slice.ensures.value in
    inl (
      c.in_ok-written.ensures,
      bytes,
      omega (arith, c.in_ok-bytes.ensures.short, ap length same),
      subst (λ b. IsPlanOf c.args.instance.now (records_of b) (plan_of c.args.planned.now.plan)) (sym same) c.in_ok-bytes.ensures.read,
      record {
        written = c.in-Ok.ensures.written;
        fine = c.in-Ok.ensures.fine;
        appends = c.in-Ok.ensures.appends;
        touches = record { told = c.write_file.ensures.writes.told; others = λ t other apart. c.write_file.ensures.writes.others t other apart.0; starts = c.write_file.ensures.starts };
      },
    )

pub returns-clause-said : goal.returns-clause-said
returns-clause-said g c =
    let failed = c.in-Err.ensures.failed in
    inr (
      c.in_ok-unwritten.ensures,
      record {
        failed = failed.0;
        touches = record { told = c.write_file.ensures.writes.told; others = λ t other apart. c.write_file.ensures.writes.others t other apart.0; starts = c.write_file.ensures.starts };
      },
    )

use Rattle.std.proofs.Common.{refl, sym, subst, [], ◌∷◌}
use Rattle.instance_reader.specs.Written.{IsModelText}
use Rattle.lotplan.specs.Upgrading.{unwritten, written, upgrade_line}
use Rattle.lotplan.proofs.Appended.{file_appends, unwritten_appends}
use Rattle.lotplan.proofs.commands.upgrade.write_upgraded.Goals as goal

pub returns-in-Ok-clause-said : goal.returns-in-Ok-clause-said
returns-in-Ok-clause-said g c =
    let m = c.args.instance.now in
    let text = subst (λ b. IsModelText m b) (sym c.as_slice.ensures.value) c.in_ok-bytes.ensures in (
      written c.args.upgraded.now,
      (
        refl,
        λ t. record {
          bytes = c.as_slice.result.now;
          written = c.in-Ok.ensures.written t;
          text = text;
          means = c.texts_mean_it.ensures c.as_slice.result.now text;
        },
        record { told = c.write_file.ensures.writes.told; others = λ t other apart. c.write_file.ensures.writes.others t other apart.0; starts = c.write_file.ensures.starts },
      ),
      c.in_ok-written.ensures,
    )

pub returns-clause-said : goal.returns-clause-said
returns-clause-said g c =
    let failed = c.in-Err.ensures.failed in (
      unwritten c.args.upgraded.now,
      (
        refl,
        failed.0,
        record { told = c.write_file.ensures.writes.told; others = λ t other apart. c.write_file.ensures.writes.others t other apart.0; starts = c.write_file.ensures.starts },
      ),
      c.in_ok-unwritten.ensures,
    )

pub returns-in-Ok-clause-appended : goal.returns-in-Ok-clause-appended
returns-in-Ok-clause-appended g c = file_appends c.args.upgraded.now c.as_slice.result.now (g.S.Shelf.shown c.args.shelf.now) (g.S.Shelf.shown c.write_file.new.shelf) c.in_ok-written.written.status c.in-Ok.ensures.written c.write_file.ensures.appends_bound

pub returns-clause-appended : goal.returns-clause-appended
returns-clause-appended g c = unwritten_appends (c.args.upgraded.now ∷ []) (g.S.Shelf.shown c.args.shelf.now) (g.S.Shelf.shown c.write_file.new.shelf) (upgrade_line (unwritten c.args.upgraded.now)) c.in_ok-unwritten.unwritten c.in_ok-unwritten.ensures

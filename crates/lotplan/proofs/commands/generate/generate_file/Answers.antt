use Rattle.std.proofs.Common.{refl, sym, subst, [], ◌∷◌}
use Rattle.lotplan.specs.Generating.{IsGenerated, unwritten, written, generate_line}
use Rattle.lotplan.specs.Fetching.{FetchesAs}
use Rattle.lotplan.proofs.Fetched.{writes_find}
use Rattle.lotplan.proofs.Appended.{file_appends, unwritten_appends}
use Rattle.lotplan.proofs.commands.generate.generate_file.Goals as goal

pub returns-in-Ok-clause-said : goal.returns-in-Ok-clause-said
returns-in-Ok-clause-said g c =
    let is = subst (λ b. IsGenerated c.args.seed c.args.items c.args.periods b) (sym c.as_slice.ensures.value) c.in_ok-text.ensures in record {
      answer = written c.args.model.now;
      why = (
        refl,
        λ t. record { bytes = c.as_slice.result.now; written = c.in-Ok.ensures.written t; is = is },
        record { told = c.write_file.ensures.writes.told; others = λ t other apart. c.write_file.ensures.writes.others t other apart.0; starts = c.write_file.ensures.starts },
        c.write_file.ensures.writes,
      );
      says = c.in_ok-written.ensures.line;
      ends = c.in_ok-written.ensures.status;
    }

pub returns-clause-said : goal.returns-clause-said
returns-clause-said g c =
    let failed = c.in-Err.ensures.failed in
    record {
      answer = unwritten c.args.model.now;
      why = (
        refl,
        failed.0,
        record { told = c.write_file.ensures.writes.told; others = λ t other apart. c.write_file.ensures.writes.others t other apart.0; starts = c.write_file.ensures.starts },
        c.write_file.ensures.writes,
      );
      says = c.in_ok-unwritten.ensures.line;
      ends = c.in_ok-unwritten.ensures.status;
    }

pub returns-in-Ok-clause-found : goal.returns-in-Ok-clause-found
returns-in-Ok-clause-found g c =
    let old = g.S.Shelf.shown c.args.shelf.now in
    let new = g.S.Shelf.shown c.write_file.new.shelf in
    subst (λ s. FetchesAs s old new) (sym c.in_ok-written.ensures.status) (writes_find c.args.model.now old new c.write_file.ensures.writes)

pub returns-clause-found : goal.returns-clause-found
returns-clause-found g c =
    let old = g.S.Shelf.shown c.args.shelf.now in
    let new = g.S.Shelf.shown c.write_file.new.shelf in
    subst (λ s. FetchesAs s old new) (sym c.in_ok-unwritten.ensures.status) (writes_find c.args.model.now old new c.write_file.ensures.writes)

pub returns-in-Ok-clause-appended : goal.returns-in-Ok-clause-appended
returns-in-Ok-clause-appended g c = file_appends c.args.model.now c.as_slice.result.now (g.S.Shelf.shown c.args.shelf.now) (g.S.Shelf.shown c.write_file.new.shelf) c.in_ok-written.written.status c.in-Ok.ensures.written c.write_file.ensures.appends_bound

pub returns-clause-appended : goal.returns-clause-appended
returns-clause-appended g c = unwritten_appends (c.args.model.now ∷ []) (g.S.Shelf.shown c.args.shelf.now) (g.S.Shelf.shown c.write_file.new.shelf) (generate_line (unwritten c.args.model.now)) c.in_ok-unwritten.unwritten c.in_ok-unwritten.ensures

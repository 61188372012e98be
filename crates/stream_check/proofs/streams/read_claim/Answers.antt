use Rattle.std.proofs.Common.{rules}
use Rattle.lot_io.specs.Outside.{Shelved}
use Rattle.stream_check.specs.Faults.{of_claim}
use Rattle.stream_check.specs.Streams.{IsStreamFault, never_refused}
use Rattle.stream_check.proofs.Files.{claim_fault, claim_whole}
use Rattle.stream_check.proofs.Ways.{err_is}
use Rattle.stream_check.proofs.streams.read_claim.Goals as goal

pub returns-in_err-read_claim-clause-fault : goal.returns-in_err-read_claim-clause-fault
returns-in_err-read_claim-clause-fault g c =
    let old : Shelved = g.S.Shelf.shown c.args.shelf.now in
    let new : Shelved = g.S.Shelf.shown c.read_claim.new.shelf in
    let f = c.in_err-read_claim.field-0.0 in
    let e = c.in_err-read_claim.ensures in
    let why : IsStreamFault c.args.name.now old new never_refused (of_claim f) = claim_fault c.args.name.now old new f (record {
      text = e.text;
      plain = e.plain;
      within = e.within;
      given = e.given;
      missing = e.missing;
      absent = e.absent;
      failed = e.failed;
      too_much = e.too_much;
      too_long = e.too_long;
    }) in
    search (rules, why)

pub returns-in_err-read_claim-clause-whole : goal.returns-in_err-read_claim-clause-whole
returns-in_err-read_claim-clause-whole g c =
    let old : Shelved = g.S.Shelf.shown c.args.shelf.now in
    let new : Shelved = g.S.Shelf.shown c.read_claim.new.shelf in
    let f = c.in_err-read_claim.field-0.0 in
    let e = c.in_err-read_claim.ensures in
    claim_whole c.args.name.now old new c.from_residual.result f (err_is c.from_residual.result (of_claim f) c.from_residual.ensures.1) (record {
      text = e.text;
      plain = e.plain;
      within = e.within;
      given = e.given;
      missing = e.missing;
      absent = e.absent;
      failed = e.failed;
      too_much = e.too_much;
      too_long = e.too_long;
    })

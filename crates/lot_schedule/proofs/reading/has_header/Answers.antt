use Rattle.std.proofs.Common.{map, sym, subst}
use Rattle.csv.specs.Records.{fields_of}
use Rattle.csv_records.specs.Records.{BeginsWith}
use Rattle.lot_schedule.proofs.reading.has_header.Goals as goal

pub returns : goal.returns
returns c =
    let rs = map fields_of c.args.rows.now in (
      λ yes. subst (BeginsWith rs) c.header.ensures (c.has_header.ensures.0 yes),
      λ has. c.has_header.ensures.1 (subst (BeginsWith rs) (sym c.header.ensures) has),
    )

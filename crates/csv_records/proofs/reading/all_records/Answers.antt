use Rattle.std.proofs.Common.{◌∙◌}
use Rattle.std.proofs.lemmas.List.{take_all}
use Rattle.csv_records.specs.Records.{records_of}
use Rattle.csv_records.proofs.Reached.{records-few}
use Rattle.csv_records.proofs.reading.all_records.Goals as goal

pub returns : goal.returns
returns c = c.in_ok-rows.ensures ∙ take_all _ (records_of c.args.bytes.now) (records-few c.args.bytes.now)

use Rattle.csv_records.proofs.ReadBack.{written_read}
use Rattle.csv_records.proofs.laws.written_records_are_read.Goals as goal

pub returns : goal.returns
returns c = written_read

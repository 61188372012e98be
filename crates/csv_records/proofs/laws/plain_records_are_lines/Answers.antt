use Rattle.csv_records.proofs.Plain.{rows_are_lines}
use Rattle.csv_records.proofs.laws.plain_records_are_lines.Goals as goal

pub returns : goal.returns
returns c = rows_are_lines

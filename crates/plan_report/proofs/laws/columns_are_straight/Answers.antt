use Rattle.plan_report.proofs.Columns.{head_length, row_length}
use Rattle.plan_report.proofs.laws.columns_are_straight.Goals as goal

pub returns : goal.returns
returns c = record { heads = head_length; lines = row_length }

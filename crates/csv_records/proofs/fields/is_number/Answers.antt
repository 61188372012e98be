use Rattle.std.proofs.Common.{arith}
use Rattle.csv_records.proofs.Numbers.{is_written, isnt_written}
use Rattle.csv_records.proofs.fields.is_number.Goals as goal

pub returns-in-Ok : goal.returns-in-Ok
returns-in-Ok c = is_written c.args.text.now c.in-Ok.n c.args.number (omega (arith, c.in-Ok.ensures.most)) (omega (arith, c.ranges.number.fits)) c.in-Ok.ensures.written

pub returns-in-Err : goal.returns-in-Err
returns-in-Err c = isnt_written c.args.text.now c.args.number (c.in-Err.ensures.unwritten c.args.number (omega (arith, c.ranges.number.fits)))

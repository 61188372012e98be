use Rattle.std.proofs.Common.{arith, inl}
use Rattle.lot_quantities.proofs.reading.read_records.Goals as goal

pub returns-clause-read : goal.returns-clause-read
returns-clause-read c = λ i t low high t_low t_high. c.loop-item.invariant.1 i t low high t_low t_high (inl (omega (arith, c.loop-item-test.false, c.items-item-end.ensures.value, high)))

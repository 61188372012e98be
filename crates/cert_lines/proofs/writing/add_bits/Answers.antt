use Rattle.std.proofs.Common.{string_bytes, false}
use Rattle.cert_lines.specs.Text.{bit_text}
use Rattle.cert_lines.proofs.Joins.{grows}
use Rattle.cert_lines.proofs.writing.add_bits.Goals as goal

pub loop-bit-preserved : goal.loop-bit-preserved
loop-bit-preserved c = grows bit_text c.args.bits.now c.loop-bit.bit-index false (string_bytes c.args.text.now) (string_bytes c.loop-bit.text) (string_bytes c.add_bit.new.text) c.loop-bit-test.true c.loop-bit.invariant c.in_ok-add_bit.ensures

use Rattle.std.proofs.Common.{string_bytes}
use Rattle.std.specs.Prelude.{pos}
use Rattle.cert_lines.specs.Text.{signed_text}
use Rattle.cert_lines.proofs.Joins.{grows}
use Rattle.cert_lines.proofs.writing.add_signed_list.Goals as goal

pub loop-number-preserved : goal.loop-number-preserved
loop-number-preserved c = grows signed_text c.args.list.now c.loop-number.number-index (pos 0) (string_bytes c.args.text.now) (string_bytes c.loop-number.text) (string_bytes c.write.new.self) c.loop-number-test.true c.loop-number.invariant c.in_ok-write.ensures.bytes

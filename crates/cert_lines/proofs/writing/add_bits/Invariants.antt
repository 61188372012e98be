use Rattle.std.proofs.Common.{◌≡◌, ◌++◌, take, string_bytes}
use Rattle.cert_lines.specs.Text.{bits_text}
use Rattle.cert_lines.proofs.writing.add_bits.Given as goal

abbrev pub invariant-loop-bit : goal.invariant-loop-bit
invariant-loop-bit l = string_bytes l.text ≡ string_bytes l.fn.text ++ bits_text (take l.bit-index l.bits)

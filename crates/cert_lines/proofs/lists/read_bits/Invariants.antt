use Rattle.std.proofs.Common.{◌≡◌, take}
use Rattle.cert_lines.specs.Text.{bits_text}
use Rattle.cert_lines.proofs.lists.read_bits.Given as goal

abbrev pub invariant-loop-place : goal.invariant-loop-place
invariant-loop-place l = take l.place l.word ≡ bits_text l.bits.items

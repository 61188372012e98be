use Rattle.std.proofs.Common.{◌≡◌, ◌≤◌, ◌*◌, length, take}
use Rattle.cert_lines.specs.Text.{signed_list_text}
use Rattle.cert_lines.proofs.lengths.signed_list_length.Given as goal

abbrev pub invariant-loop-number : goal.invariant-loop-number
invariant-loop-number l = (l.sum ≡ length (signed_list_text (take l.number-index l.list))) × (l.sum ≤ 41 * l.number-index)

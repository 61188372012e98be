use Rattle.std.proofs.Common.{◌≡◌, ◌≤◌, ◌*◌, length, take}
use Rattle.cert_lines.specs.Text.{list_text}
use Rattle.cert_lines.proofs.lengths.wide_list_length.Given as goal

abbrev pub invariant-loop-number : goal.invariant-loop-number
invariant-loop-number l = (l.sum ≡ length (list_text (take l.number-index l.list))) × (l.sum ≤ 40 * l.number-index)

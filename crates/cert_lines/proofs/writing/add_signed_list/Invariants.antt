use Rattle.std.proofs.Common.{◌≡◌, ◌++◌, take, string_bytes}
use Rattle.cert_lines.specs.Text.{signed_list_text}
use Rattle.cert_lines.proofs.writing.add_signed_list.Given as goal

abbrev pub invariant-loop-number : goal.invariant-loop-number
invariant-loop-number l = string_bytes l.text ≡ string_bytes l.fn.text ++ signed_list_text (take l.number-index l.list)

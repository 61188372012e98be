use Rattle.std.proofs.Common.{◌^◌}
use Rattle.cert_lines.proofs.Splits.{words_in}
use Rattle.cert_lines.proofs.Listed.{IsListTo}
use Rattle.cert_lines.proofs.lists.numbers_from.Given as goal

abbrev pub invariant-loop-place : goal.invariant-loop-place
invariant-loop-place l = IsListTo (words_in l.words) (2 ^ 64) l.from l.place l.list.items

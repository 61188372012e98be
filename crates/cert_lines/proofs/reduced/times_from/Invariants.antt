use Rattle.cert_lines.proofs.Splits.{words_in}
use Rattle.cert_lines.proofs.Listed.{AreTimesTo}
use Rattle.cert_lines.proofs.reduced.times_from.Given as goal

abbrev pub invariant-loop-place : goal.invariant-loop-place
invariant-loop-place l = AreTimesTo (words_in l.words) l.from l.place l.times.items

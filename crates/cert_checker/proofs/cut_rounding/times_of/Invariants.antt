use Rattle.std.proofs.Common.{◌≡◌, take}
use Rattle.cert_meaning.specs.Parts.{times_of}
use Rattle.cert_checker.proofs.cut_rounding.times_of.Given as goal

abbrev pub invariant-loop-place : goal.invariant-loop-place
invariant-loop-place l = l.times.items ≡ times_of (take l.place l.parts)

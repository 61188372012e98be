use Rattle.std.proofs.Common.{ℕ, take}
use Rattle.cert_meaning.specs.Named.{names}
use Rattle.cert_meaning.specs.Parts.{AreParts}
use Rattle.cert_checker.proofs.parts.test_parts.Given as goal

abbrev pub invariant-loop-place : goal.invariant-loop-place
invariant-loop-place l = (total : ℕ → ℕ) → AreParts (names l.instance total l.cuts l.path) (take l.place l.parts)

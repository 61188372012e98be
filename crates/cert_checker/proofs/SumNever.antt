-- Parts that may be taken, and whose sum is good, aren't refused.
use Rattle.std.proofs.Common.{⊎_elim, ℕ, arith, List, slice_index_or}
use Rattle.std.specs.Prelude.{ℤ}
use Rattle.std.proofs.lemmas.List.Elements.{All-get_or}
use Rattle.algebra.proofs.Order.{linear}
use Rattle.lin_rows.specs.declared.column.Column.{Column}
use Rattle.cert_lines.specs.declared.parts.Part.{Part}
use Rattle.cert_meaning.specs.Named.{Named}
use Rattle.cert_meaning.specs.Parts.{AreParts, AreSmall, IsPart}
use Rattle.cert_checker.specs.declared.fault.Why.{Why}
use Rattle.cert_checker.specs.Leaves.{AreWithinMost, IsFirstWrong, IsSumFault, IsWrongPart, no_part}
use Rattle.cert_checker.proofs.CheckKinds.{part_kind, sum_kind}

-- parts
pub no_wrong_part : (n : Named) (part : Part) (w : Why) → IsPart n part → IsWrongPart n part w → ⊥
no_wrong_part n part w is wrong = ⊎_elim (λ kind. kind.none is.named) (λ kind. omega (arith, linear, is.signed kind.unequal, kind.negative)) (part_kind n part w wrong)

pub no_first_wrong : (n : Named) (parts : List Part) (line at : ℕ) (w : Why) → AreParts n parts → IsFirstWrong n parts line at w → ⊥
no_first_wrong n parts line at w are first =
    no_wrong_part n (slice_index_or parts first.place no_part) w (All-get_or (IsPart n) parts first.place no_part first.exists are) first.wrong

pub no_sum_fault : (n : Named) (most : Column → ℤ) (parts : List Part) (line at : ℕ) (w : Why) → AreParts n parts → AreSmall n parts → AreWithinMost n most parts → IsSumFault n most parts line at w → ⊥
no_sum_fault n most parts line at w are small within bad =
    ⊎_elim
    (λ first. no_first_wrong n parts line at w are first)
    (⊎_elim (λ kind. kind.large small) (λ kind. omega (arith, linear, kind.first.large, within kind.column kind.first.column)))
    (sum_kind n most parts line at w bad)

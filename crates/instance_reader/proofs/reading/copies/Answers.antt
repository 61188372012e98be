use Rattle.std.proofs.Common.{◌∙◌, arith}
use mir.Facts.{to_z-of_z}
use Rattle.std.proofs.lemmas.List.{replicate_more}
use Rattle.instance_reader.proofs.reading.copies.Goals as goal

pub loop-period-preserved : goal.loop-period-preserved
loop-period-preserved c = simp (to_z-of_z c.ranges.number) (simp (to_z-of_z c.ranges.number, c.loop-period.invariant.0) at c.in_ok-push.ensures.items ∙ replicate_more c.loop-period._period c.args.number, omega arith)

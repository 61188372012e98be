use Rattle.std.proofs.Common.{refl}
use Rattle.plan_page.specs.Proving.{gap_text}
use Rattle.plan_page.proofs.proving.add_gap.Goals as goal

pub returns : goal.returns
unfolding gap_text
returns c = rw (c.in_ok-write.ensures.bytes, c.permille-thousandths.ensures, c.saturating_sub-gap.ensures) refl

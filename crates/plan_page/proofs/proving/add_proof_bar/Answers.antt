use Rattle.std.proofs.Common.{refl}
use Rattle.plan_page.specs.Proving.{proof_bar}
use Rattle.plan_page.proofs.proving.add_proof_bar.Goals as goal

pub returns : goal.returns
unfolding proof_bar
returns c = rw (c.in_ok-write.ensures.bytes, c.saturating_sub-rest.ensures, c.saturating_sub.ensures, c.bound_width-width.ensures) refl

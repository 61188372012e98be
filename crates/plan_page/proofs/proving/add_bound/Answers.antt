use Rattle.std.proofs.Common.{append_assoc}
use Rattle.plan_page.specs.Proving.{bound_text}
use Rattle.plan_page.proofs.proving.add_bound.Goals as goal

pub returns : goal.returns
unfolding bound_text
returns c = rw (c.in_ok-push_str-2.ensures.bytes, c.in_ok-add_proof_bar.ensures, c.in_ok-add_sentence.ensures, c.in_ok-push_str.ensures.bytes) (simp append_assoc)

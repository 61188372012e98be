use Rattle.std.proofs.Common.{refl}
use Rattle.cert_lines.specs.declared.head.HeadLine.TheVariants.{Mark, Claim}
use Rattle.certificate.proofs.Heads.{first_fault, second_fault, third_fault}
use Rattle.certificate.proofs.opening.read_heads.Goals as goal

pub returns-in_default-clause-refused : goal.returns-in_default-clause-refused
returns-in_default-clause-refused c = first_fault c.args.rest.now.text.now (c.in_default.ensures.none refl)

pub returns-in_default-next_claim-clause-refused : goal.returns-in_default-next_claim-clause-refused
returns-in_default-next_claim-clause-refused c = second_fault c.args.rest.now.text.now c.next_mark.new.rest.text.now (Mark c.in-Some.version) c.in-Some.ensures.text c.in-Some.ensures.line (c.in_default-next_claim.ensures.none refl)

pub returns-in_default-next_count-clause-refused : goal.returns-in_default-next_count-clause-refused
returns-in_default-next_count-clause-refused c = third_fault c.args.rest.now.text.now c.next_mark.new.rest.text.now c.next_claim.new.rest.text.now (Mark c.in-Some.version) (Claim c.in-Some-next_claim.claim) c.in-Some.ensures.text c.in-Some-next_claim.ensures.text c.in-Some.ensures.line c.in-Some-next_claim.ensures.line (c.in_default-next_count.ensures.none refl)

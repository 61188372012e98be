use Rattle.std.proofs.Common.{refl}
use Rattle.certificate.proofs.Heads.{no_head, other_head}
use Rattle.certificate.proofs.opening.next_head.Goals as goal

pub returns-in_default-clause-none : goal.returns-in_default-clause-none
returns-in_default-clause-none c = λ _ h. no_head c.args.place c.args.rest.now.text.now h (c.in_default.ensures.none refl)

pub returns-in-None-clause-none : goal.returns-in-None-clause-none
returns-in-None-clause-none c = λ _ h. other_head c.args.place c.args.rest.now.text.now c.in-Some.line.now c.in-Some.text.now h c.in-Some.ensures.some c.in-Some.ensures.plain (c.in-None.ensures.none refl h)

use Rattle.std.proofs.Common.{refl, ap}
use Rattle.std.specs.Prelude.{Err}
use Rattle.certificate.proofs.Feeds.{no_form, no_start, some_text}
use Rattle.certificate.proofs.rest.next_line.Goals as goal

pub returns-in_default-clause-refused : goal.returns-in_default-clause-refused
returns-in_default-clause-refused c = λ dues some. (refl, some_text c.args.rest.now.text.now c.is_empty.result c.is_empty.ensures c.if-is_empty.false, λ l. no_start c.args.rest.now.text.now l (c.in_default.ensures.none refl))

pub returns-in-Err-NoForm-clause-refused : goal.returns-in-Err-NoForm-clause-refused
returns-in-Err-NoForm-clause-refused c = λ dues some. (refl, some_text c.args.rest.now.text.now c.is_empty.result c.is_empty.ensures c.if-is_empty.false, λ l. no_form c.args.rest.now.text.now c.in-Some.line.now c.in-Some.text.now l c.in-Some.ensures.some c.in-Some.ensures.plain (c.in-Err-NoForm.ensures.no_form (ap Err c.in-Err-NoForm.field-0-is) l))

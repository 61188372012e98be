use Rattle.plan_page.proofs.Plainness.{plain_grouped, plain_name, plain_number}
use Rattle.plan_page.proofs.laws.shown_texts_are_plain.Goals as goal

pub returns : goal.returns
returns c = record { names = plain_name; numbers = plain_number; grouped = plain_grouped }

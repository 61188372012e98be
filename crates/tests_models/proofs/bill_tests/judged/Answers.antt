use Rattle.bill.specs.Lines.{bill_of_lines}
use Rattle.tests_models.proofs.bill_tests.judged.Goals as goal

pub of-requires-in-Ok-2-clause-ranks : goal.of-requires-in-Ok-2-clause-ranks
of-requires-in-Ok-2-clause-ranks c = rw c.deref-in-Ok.ensures.value (c.in-Ok.ensures.ranks (bill_of_lines c.of-lines.result) c.in_ok-of.ensures)

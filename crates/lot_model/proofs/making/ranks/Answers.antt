use Rattle.std.proofs.Common.{◌∙◌, arith}
use Rattle.lot_sizing.specs.Bill.{bill_of}
use Rattle.lot_model.proofs.making.ranks.Goals as goal

pub returns-in-Ok-clause-ranks : goal.returns-in-Ok-clause-ranks
returns-in-Ok-clause-ranks c = λ p reach. record {
  size = c.in-Ok.ensures.size ∙ reach.size;
  small = λ i. omega (arith, c.in-Ok.ensures.small i, reach.size);
  ranks = c.in-Ok.ensures.ranks (bill_of p) reach;
}

pub returns-in-Err-clause-refused : goal.returns-in-Err-clause-refused
returns-in-Err-clause-refused c = λ p reach. (c.in-Err.fault.item, c.in-Err.ensures.refused (bill_of p) reach, c.at_item.ensures)

use Rattle.std.proofs.Common.{◌≡◌, length}
use Rattle.bill.specs.Lines.{bill_of_lines}
use Rattle.bill.specs.Sets.{AllGoInto, HasLinesOf, missing}
use Rattle.bill.proofs.reach.components.Given as goal

abbrev pub invariant-loop : goal.invariant-loop
invariant-loop l =
    let b = bill_of_lines l.lines in
    record {
      size : length l.set.items ≡ length l.lines;
      sound : AllGoInto b l.item l.set.items;
      first : HasLinesOf b l.item l.set.items;
    }

abbrev pub decreases-loop : goal.decreases-loop
decreases-loop l = missing l.set.items

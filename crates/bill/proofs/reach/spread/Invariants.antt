use Rattle.std.proofs.Common.{◌≡◌, ◌≤◌, ◌<◌, ℕ, length, true, false}
use Rattle.bill.specs.Lines.{bill_of_lines}
use Rattle.bill.specs.Sets.{AllGoInto, HasLinesOf, has, missing}
use Rattle.bill.proofs.reach.spread.Given as goal

abbrev pub invariant-loop-item : goal.invariant-loop-item
invariant-loop-item l =
    let b = bill_of_lines l.lines in
    record {
      size : length l.set ≡ length l.fn.set;
      keeps : (i : ℕ) → has l.fn.set i ≡ true → has l.set i ≡ true;
      sound : (j : ℕ) → AllGoInto b j l.fn.set → AllGoInto b j l.set;
      closed : l.grown ≡ false → (k : ℕ) → 1 ≤ k → k < l.item → has l.set k ≡ true → HasLinesOf b k l.set;
      same : l.grown ≡ false → l.set ≡ l.fn.set;
      grown : l.grown ≡ true → missing l.set < missing l.fn.set;
      fewer : missing l.set ≤ missing l.fn.set;
    }

use Rattle.std.proofs.Common.{◌≡◌, take}
use Rattle.lin_rows.specs.Sums.{AddsTerms, SameShape}
use Rattle.lin_rows.proofs.adding.add_terms.Given as goal

abbrev pub invariant-loop-place : goal.invariant-loop-place
invariant-loop-place l = record {
  adds : AddsTerms l.fn.sums l.sums (take l.place l.terms) l.times;
  shape : SameShape l.fn.sums l.sums;
  right : l.sums.right ≡ l.fn.sums.right;
}

use Rattle.std.proofs.Common.{◌≡◌, ◌++◌, take}
use Rattle.std.specs.List.{All}
use Rattle.round_cuts.specs.Merging.{IsSmallTerm, products}
use Rattle.round_cuts.proofs.products.push_products.Given as goal

abbrev pub invariant-loop-place : goal.invariant-loop-place
invariant-loop-place l = record {
  made : l.made.items ≡ l.initial.made.items ++ products l.times (take l.place l.terms);
  small : All IsSmallTerm l.made.items;
}

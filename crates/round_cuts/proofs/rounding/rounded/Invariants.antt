use Rattle.std.proofs.Common.{◌≡◌, take}
use Rattle.std.specs.Prelude.{pos}
use Rattle.round_cuts.specs.Merging.{rounded_terms}
use Rattle.round_cuts.specs.Rounding.{HasShortColumns}
use Rattle.round_cuts.proofs.rounding.rounded.Given as goal

abbrev pub invariant-loop-place : goal.invariant-loop-place
invariant-loop-place l = record {
  terms : l.rounded.items ≡ rounded_terms (pos l.divisor) (take l.place l.terms);
  short : HasShortColumns l.rounded.items;
}

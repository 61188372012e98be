use Rattle.std.proofs.Common.{◌≡◌, ◌≤◌, ℕ, length, map, take}
use Rattle.std.specs.List.{sum_by}
use Rattle.lot_sizing.specs.declared.limits.TheConstants.{MAX_BILL_LINES}
use Rattle.lot_draft.specs.Raw.{raw_item}
use Rattle.lot_draft.proofs.checks.has_few_lines.Given as goal

abbrev pub invariant-loop-at : goal.invariant-loop-at
invariant-loop-at l = record {
  count : l.count ≡ sum_by (λ i. length i.needs) (take l.at (map raw_item l.items));
  few : l.count ≤ MAX_BILL_LINES;
}

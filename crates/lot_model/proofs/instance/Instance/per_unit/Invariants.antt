use Rattle.std.proofs.Common.{◌≡◌, ◌≤◌, ◌*◌, ◌==◌, take, if◌then◌else◌}
use Rattle.std.specs.List.{sum_by}
use Rattle.lot_sizing.specs.declared.limits.TheConstants.{MAX_QUANTITY}
use Rattle.lot_model.proofs.instance.Instance.per_unit.Given as goal

abbrev pub invariant-loop-need : goal.invariant-loop-need
invariant-loop-need l = record {
  total : l.total ≡ sum_by (λ need. if need.item == l.item then need.quantity else 0) (take l.need-index l.need-items);
  small : l.total ≤ l.need-index * MAX_QUANTITY;
}

use Rattle.std.proofs.Common.{◌≡◌, ◌≤◌, ◌*◌, ◌==◌, take, if◌then◌else◌}
use Rattle.std.specs.List.{sum_by}
use Rattle.lot_sizing.specs.declared.limits.TheConstants.{MAX_AMOUNT}
use Rattle.lot_model.proofs.instance.Instance.unit_time.Given as goal

abbrev pub invariant-loop-usage : goal.invariant-loop-usage
invariant-loop-usage l = record {
  total : l.total ≡ sum_by (λ usage. if usage.resource == l.resource then usage.unit else 0) (take l.usage-index l.usage-items);
  small : l.total ≤ l.usage-index * MAX_AMOUNT;
}

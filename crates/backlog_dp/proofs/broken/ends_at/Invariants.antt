use Rattle.std.proofs.Common.{◌≡◌, ◌≤◌, ◌<◌, ◌+◌, ◌-◌, ◌^◌, ℕ}
use Rattle.lot_sizing.specs.Sums.{sum_from, sum_to}
use Rattle.lot_sizing.specs.Problem.{entry}
use Rattle.lot_sizing.specs.Single.{potential}
use Rattle.echelon_rows.specs.declared.limits.TheConstants.{MAX_STEP}
use Rattle.backlog_dp.specs.Search.{rise_most}
use Rattle.backlog_dp.proofs.broken.ends_at.Given as goal

abbrev pub invariant-loop-last : goal.invariant-loop-last
invariant-loop-last l = record {
  cost : l.cost ≡ potential l.steps (l.first - 1) + (l.setup + sum_from l.first (l.last - l.first) (entry l.costs));
  small : l.cost ≤ MAX_STEP + 2 ^ 64 + sum_to (l.last - 1) (entry l.costs);
  holds : (last : ℕ) → l.first ≤ last → last < l.last → potential l.steps last ≤ rise_most l.steps l.costs l.setup l.first last;
}

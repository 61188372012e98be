use Rattle.std.proofs.Common.{◌≡◌, take}
use Rattle.lin_rows.specs.Combining.{right_sum}
use Rattle.lin_rows.specs.Sums.{IsTotal}
use Rattle.round_cuts.specs.Rounding.{right_amount}
use Rattle.round_cuts.proofs.products.right_total.Given as goal

abbrev pub invariant-loop-place : goal.invariant-loop-place
invariant-loop-place l = record {
  sum : l.total.sum ≡ right_sum (take l.place l.rows) (take l.place l.multipliers);
  amount : l.total.amount ≡ right_amount (take l.place l.rows) (take l.place l.multipliers);
  total : IsTotal l.total;
}

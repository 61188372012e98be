use Rattle.std.proofs.Common.{◌≡◌, take}
use Rattle.backlog_dp.proofs.block_rows.wide.Given as goal

abbrev pub invariant-loop-place : goal.invariant-loop-place
invariant-loop-place l = l.found.items ≡ take l.place l.list

use Rattle.std.proofs.Common.{◌-◌}
use Rattle.backlog_dp.specs.Search.{AnswersTo}
use Rattle.echelon_rows.specs.Rows.{single_with}
use Rattle.backlog_dp.proofs.broken.first_broken.Given as goal

abbrev pub invariant-loop-server : goal.invariant-loop-server
invariant-loop-server l = AnswersTo (single_with l.net l.setup l.rates.unit.now l.rates.hold.now l.rates.back.now l.rates.backlogged) l.steps (l.server - 1) l.found

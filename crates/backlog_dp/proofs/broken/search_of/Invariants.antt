use Rattle.std.proofs.Common.{◌≤◌, ◌<◌, ℕ, length}
use Rattle.backlog_dp.specs.Search.{HoldsFrom}
use Rattle.backlog_dp.proofs.broken.search_of.Given as goal

abbrev pub invariant-loop-first : goal.invariant-loop-first
invariant-loop-first l = (first last : ℕ) → 1 ≤ first → first < l.first → first ≤ last → last ≤ length l.steps → HoldsFrom l.steps l.costs l.periods l.setup l.backlogged l.server first last

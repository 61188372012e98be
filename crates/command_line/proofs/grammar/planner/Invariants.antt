use Rattle.std.proofs.Common.{◌≡◌, take}
use Rattle.clap.specs.Words.{app_of}
use Rattle.command_line.proofs.Rows.{grown}
use Rattle.command_line.proofs.grammar.planner.Given as goal

-- the program has the commands so far
abbrev pub invariant-loop-row : goal.invariant-loop-row
invariant-loop-row l = app_of l.program ≡ grown (take l.row-index l.row-items)

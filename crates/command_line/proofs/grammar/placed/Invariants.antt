use Rattle.std.proofs.Common.{◌≡◌, false, map, take}
use Rattle.clap.specs.Words.{app_of}
use Rattle.clap.specs.declared.builder.command.Command.TheViews.{out-Command}
use Rattle.command_line.specs.Grammar.{placed}
use Rattle.command_line.proofs.grammar.placed.Given as goal

-- the command has the arguments so far
abbrev pub invariant-loop-argument : goal.invariant-loop-argument
invariant-loop-argument l = (app_of l.command ≡ placed l.row.name.now (map (λ a. a.id.now) (take l.argument-index l.row.arguments.now))) × ((out-Command l.command).has_globals ≡ false)

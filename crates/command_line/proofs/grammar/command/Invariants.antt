use Rattle.std.proofs.Common.{◌≡◌, false, map, take}
use Rattle.clap.specs.Words.{app_of}
use Rattle.clap.specs.declared.builder.command.Command.TheViews.{out-Command}
use Rattle.command_line.specs.Choices.{choice_of}
use Rattle.command_line.specs.Grammar.{subcommand}
use Rattle.command_line.proofs.grammar.command.Given as goal

-- the command has the options so far
abbrev pub invariant-loop-option : goal.invariant-loop-option
invariant-loop-option l = (app_of l.command ≡ subcommand l.row.name.now (map (λ a. a.id.now) l.row.arguments.now) (map choice_of (take l.option-index l.row.options.now))) × ((out-Command l.command).has_globals ≡ false)

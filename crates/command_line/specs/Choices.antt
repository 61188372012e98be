-- What an option of the source's table is.
use Rattle.std.specs.Prelude.{Bool, is_some}
use Rattle.clap.specs.Words.{Text}
use Rattle.command_line.specs.declared.table.Choice.{Choice}

-- its name, and whether it takes a text
abbrev pub choice_of : Choice → Text × Bool
choice_of o = (o.id.now, is_some o.text)

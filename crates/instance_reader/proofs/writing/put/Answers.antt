use Rattle.std.proofs.Common.{refl}
use Rattle.instance_reader.proofs.Written.{members_view-insert}
use Rattle.instance_reader.proofs.writing.put.Goals as goal

pub returns : goal.returns
returns c = record { table = rw (c.in_ok-insert.ensures.entries, members_view-insert c.args.table.now.entries c.in_ok-name.name c.args.value, c.in_ok-name.ensures.ok, c.name.ensures) refl }

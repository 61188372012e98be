use Rattle.std.specs.Prelude.{Ok, Err}
use Rattle.instance_reader.specs.declared.versions.TheConstants.{NEWEST_VERSION}
use Rattle.instance_reader.proofs.Meanings.{bytes_one}
use Rattle.lotplan.proofs.commands.demo.meant_instance.Goals as goal

pub unreachable-requires : goal.unreachable-requires
unreachable-requires c =
    let bytes = c.args.text.now in
    let fault = rw (c.in-Err-Refused.field-0-is) at c.in-Err-Refused.ensures.refused in
    let same = bytes_one NEWEST_VERSION bytes (Ok c.requires.0) (Err c.in-Err-Refused.field-0-0) c.requires.1 fault in
    cc same

use Rattle.std.proofs.lemmas.Str.{is_utf8-from_IsUtf8, IsUtf8-had}
use Rattle.instance_reader.proofs.Depth.{model_depth}
use Rattle.instance_reader.proofs.writing.write_model.Goals as goal

pub returns-in-Ok : goal.returns-in-Ok
returns-in-Ok c =
    let read = rw c.in_ok-table.ensures at c.in-Ok.ensures.reads_back (model_depth c.args.instance.now) in
    rw (c.into_bytes.ensures.value, is_utf8-from_IsUtf8 _ (IsUtf8-had _ c.in-Ok.text.ok)) read

use Rattle.std.proofs.Common.{codes, string_bytes}
use Rattle.lin_rows.specs.Texts.{one_text}
use Rattle.cert_lines.specs.Text.{kind_text, signed_list_text}
use Rattle.cert_lines.proofs.Joins.{list_joined}
use Rattle.cert_lines.proofs.writing.add_list_line.Goals as goal

pub returns : goal.returns
returns c =
    let a = c.args.list.now in
    rw (c.in_ok-write-3.ensures.bytes, c.in_ok-add_signed_list.ensures, c.in_ok-write-2.ensures.bytes, c.in_ok-add_kind.ensures, c.in_ok-write.ensures.bytes, c.deref.ensures.value)
    (list_joined (string_bytes c.args.text.now) (codes "parts ") (kind_text a.kind) (one_text a.index) (signed_list_text a.times.items) (codes "\n"))

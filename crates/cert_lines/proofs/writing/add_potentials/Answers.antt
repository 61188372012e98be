use Rattle.std.proofs.Common.{codes, string_bytes}
use Rattle.cert_lines.specs.Text.{block_head, list_text}
use Rattle.cert_lines.proofs.Joins.{block_joined}
use Rattle.cert_lines.proofs.writing.add_potentials.Goals as goal

pub returns : goal.returns
returns c =
    let a = c.args.potentials.now in
    rw (c.in_ok-write-5.ensures.bytes, c.in_ok-add_wide_list.ensures, c.in_ok-write-4.ensures.bytes, c.in_ok-add_list-4.ensures, c.in_ok-write-3.ensures.bytes, c.in_ok-add_list-3.ensures, c.in_ok-write-2.ensures.bytes, c.in_ok-add_list-2.ensures, c.in_ok-write.ensures.bytes, c.in_ok-add_list.ensures, c.in_ok-add_block_head.ensures, c.deref.ensures.value, c.deref-2.ensures.value, c.deref-3.ensures.value, c.deref-4.ensures.value, c.deref-5.ensures.value)
    (block_joined (string_bytes c.args.text.now) (block_head c.args.item) (list_text a.setup.items) (codes " g") (list_text a.unit.items) (codes " h") (list_text a.hold.items) (codes " b") (list_text a.back.items) (codes " p") (list_text a.steps.items) (codes "\n"))

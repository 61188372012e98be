use Rattle.std.proofs.Common.{codes, string_bytes}
use Rattle.cert_lines.specs.Text.{link_text}
use Rattle.cert_lines.proofs.Joins.{triple_joined}
use Rattle.cert_lines.proofs.writing.add_triple.Goals as goal

pub returns : goal.returns
returns c =
    rw (c.in_ok-write-2.ensures.bytes, c.in_ok-add_link-3.ensures, c.in_ok-add_link-2.ensures, c.in_ok-add_link.ensures, c.in_ok-write.ensures.bytes)
    (triple_joined (string_bytes c.args.text.now) (codes "triple") (link_text c.args.low) (link_text c.args.mid) (link_text c.args.top) (codes "\n"))

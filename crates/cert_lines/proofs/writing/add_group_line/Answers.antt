use Rattle.std.proofs.Common.{codes, string_bytes}
use Rattle.cert_lines.specs.Text.{shares_text}
use Rattle.cert_lines.proofs.Joins.{word_joined}
use Rattle.cert_lines.proofs.writing.add_group_line.Goals as goal

pub returns-in_ok-add_shares-in-LateQuantities : goal.returns-in_ok-add_shares-in-LateQuantities
returns-in_ok-add_shares-in-LateQuantities c =
    let there = c.in-LateQuantities in
    rw (there.is, c.in_ok-add_shares-in-LateQuantities.ensures, c.in_ok-write-in-LateQuantities.ensures.bytes)
    (word_joined (string_bytes c.args.text.now) (codes "late_quantities") (shares_text there.item there.shares) (codes "\n"))

use Rattle.std.proofs.Common.{codes, string_bytes}
use Rattle.cert_lines.specs.Text.{list_text, price_head}
use Rattle.cert_lines.proofs.Joins.{price_joined}
use Rattle.cert_lines.proofs.writing.add_prices.Goals as goal

pub returns : goal.returns
returns c =
    let a = c.args.prices.now in
    rw (c.in_ok-write-4.ensures.bytes, c.in_ok-add_list-4.ensures, c.in_ok-write-3.ensures.bytes, c.in_ok-add_list-3.ensures, c.in_ok-write-2.ensures.bytes, c.in_ok-add_list-2.ensures, c.in_ok-write.ensures.bytes, c.in_ok-add_list.ensures, c.in_ok-add_price_head.ensures, c.deref.ensures.value, c.deref-2.ensures.value, c.deref-3.ensures.value, c.deref-4.ensures.value)
    (price_joined (string_bytes c.args.text.now) (price_head c.args.item) (list_text a.price.items) (codes " g") (list_text a.unit.items) (codes " h") (list_text a.hold.items) (codes " b") (list_text a.back.items) (codes "\n"))

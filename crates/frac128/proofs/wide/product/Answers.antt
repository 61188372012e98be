use Rattle.std.proofs.Common.{◌+◌, ◌*◌, ◌/◌, ◌%◌, ℕ, arith}
use Rattle.frac128.proofs.Products.{halves}
use Rattle.frac128.proofs.wide.product.Goals as goal

abbrev half : ℕ
half = 18446744073709551616

pub returns : goal.returns
returns c =
    let ah = c.args.a / half in
    let al = c.args.a % half in
    let bh = c.args.b / half in
    let bl = c.args.b % half in
    let low = al * bl in
    let cross = ah * bl + low / half in
    let middle = al * bh + cross % half in
    halves c.args.a c.args.b ah al bh bl (low / half) (low % half) (cross / half) (cross % half) (middle / half) (middle % half) (omega arith) (omega arith) (omega arith) (omega arith) (omega arith)

use Rattle.std.proofs.Common.{arith}
use Rattle.certificate.specs.Shapes.{shape_of}
use Rattle.tests_search.proofs.price_leaves_tests.is_taken.Goals as goal

pub check-requires-clause-lines : goal.check-requires-clause-lines
check-requires-clause-lines c =
    omega (arith, c.lines_are_bytes.ensures c.args.bytes.now (shape_of c.in-Ok.read) c.in-Ok.ensures.text)

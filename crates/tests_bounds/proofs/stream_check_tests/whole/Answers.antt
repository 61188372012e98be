use Rattle.std.proofs.Common.{arith}
use Rattle.certificate.specs.Shapes.{shape_of}
use Rattle.tests_bounds.proofs.stream_check_tests.whole.Goals as goal

pub check-requires-clause-lines : goal.check-requires-clause-lines
check-requires-clause-lines c =
    omega (arith, c.lines_are_bytes.ensures c.as_bytes-bytes.result.now (shape_of c.in-Ok.certificate) c.in-Ok.ensures.text, c.if-bytes-gt1000.false)

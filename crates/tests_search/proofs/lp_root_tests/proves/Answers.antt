use Rattle.std.proofs.Common.{ap, arith, length}
use Rattle.certificate.specs.Shapes.{shape_of}
use Rattle.tests_search.proofs.lp_root_tests.proves.Goals as goal

pub check-requires-clause-lines : goal.check-requires-clause-lines
check-requires-clause-lines g c =
    omega (arith, c.lines_are_bytes.ensures c.deref.result.now (shape_of c.in-Ok.read) c.in-Ok.ensures.text, ap length c.deref.ensures.value, c.len.ensures, c.if-len-gt10000.false)

use Rattle.cert_stream.specs.Reader.{IsSound}
use Rattle.tests_bounds.proofs.cert_stream_tests.lines_are_given_in_order.Given as goal

-- the numbers of the pass fit together
abbrev pub invariant-loop-want : goal.invariant-loop-want
invariant-loop-want g l = IsSound l.reader

use Rattle.std.proofs.Common.{None, arith}
use Rattle.std.proofs.lemmas.Str.Pattern.{split_parts}
use Rattle.command_line.proofs.Gaps.{whole_is, whole_value}
use Rattle.command_line.proofs.conditions.read_hundredths.Goals as goal

pub returns-in_ok-read_number-in-None-clause-some : goal.returns-in_ok-read_number-in-None-clause-some
returns-in_ok-read_number-in-None-clause-some c =
    let text = c.args.text.now in
    let lacks = split_parts 46 text None c.in-None.ensures.cases (omega arith) in
    let read = c.in_ok-read_number-in-None.ensures in
    (whole_is text lacks read.some.0, whole_value text lacks _ read.some.1)

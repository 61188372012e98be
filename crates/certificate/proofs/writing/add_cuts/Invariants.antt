use Rattle.std.proofs.Common.{◌≡◌, ◌++◌, take, string_bytes}
use Rattle.std.specs.List.{flat_map}
use Rattle.certificate.proofs.Joins.{cut_text}
use Rattle.certificate.proofs.writing.add_cuts.Given as goal

abbrev pub invariant-loop-cut : goal.invariant-loop-cut
invariant-loop-cut l = string_bytes l.text ≡ string_bytes l.fn.text ++ flat_map cut_text (take l.cut-index l.cuts)

use Rattle.std.proofs.Common.{◌≡◌, ◌++◌, take, string_bytes}
use Rattle.std.specs.List.{flat_map}
use Rattle.certificate.proofs.Joins.{list_text}
use Rattle.certificate.proofs.writing.add_lists.Given as goal

abbrev pub invariant-loop-list : goal.invariant-loop-list
invariant-loop-list l = string_bytes l.text ≡ string_bytes l.fn.text ++ flat_map list_text (take l.list-index l.lists)

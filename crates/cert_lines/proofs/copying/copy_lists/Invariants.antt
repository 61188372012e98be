use Rattle.std.proofs.Common.{◌≡◌, map, take}
use Rattle.cert_lines.specs.Shapes.{list_shape}
use Rattle.cert_lines.proofs.copying.copy_lists.Given as goal

abbrev pub invariant-loop-list : goal.invariant-loop-list
invariant-loop-list l = map list_shape l.copy.items ≡ map list_shape (take l.list-index l.lists)

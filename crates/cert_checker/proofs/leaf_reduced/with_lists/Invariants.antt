use Rattle.std.proofs.Common.{◌≡◌, ℕ, map, take}
use Rattle.std.specs.List.{All}
use Rattle.cert_lines.specs.Shapes.{list_shape}
use Rattle.cert_meaning.specs.Named.{names}
use Rattle.cert_meaning.specs.Lists.{all_parts}
use Rattle.cert_checker.specs.Leaves.{IsList}
use Rattle.cert_checker.proofs.leaf_reduced.with_lists.Given as goal

abbrev pub invariant-loop-place : goal.invariant-loop-place
invariant-loop-place l = record {
  all : l.all.items ≡ all_parts l.parts (take l.place (map list_shape l.lists));
  lists : (total : ℕ → ℕ) → All (IsList (names l.instance total l.cuts l.path)) (take l.place (map list_shape l.lists));
}

use Rattle.std.proofs.Common.{◌≡◌, ◌≤◌, ◌<◌, ℕ}
use Rattle.certificate.specs.Limits.{IsWritable}
use Rattle.certificate.specs.Shapes.{shape_of}
use Rattle.branching.specs.Search.{in_version}
use Rattle.branching.proofs.versions.in_least_version.Given as goal

-- none of the versions that were tried has a text of it
abbrev pub invariant-loop-version : goal.invariant-loop-version
invariant-loop-version l = record {
  claim : l.certificate.claim ≡ l.fn.certificate.claim;
  cuts : l.certificate.cuts ≡ l.fn.certificate.cuts;
  tree : l.certificate.tree ≡ l.fn.certificate.tree;
  least : (version : ℕ) → l.usual ≤ version → version < l.version → IsWritable (in_version version (shape_of l.certificate)) → ⊥;
}

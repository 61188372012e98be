-- Lines that are taken as they are needed are those of a certificate.
use Rattle.std.specs.Prelude.{◌≡◌, ◌≤◌, ℕ, List, [], ◌∷◌, ◌++◌, length}
use Rattle.cert_lines.specs.declared.limits.TheConstants.{MAX_BRANCHES}
use Rattle.cert_lines.specs.Shapes.{CutShape, EndLine}
use Rattle.certificate.specs.Shapes.{TreeShape}
use Rattle.certificate.specs.Counts.{longest_path}
use Rattle.certificate.specs.Values.{AreLines, Values, all_cut_values, tree_values}
use Rattle.certificate.specs.Dues.{TakesAll}
use Rattle.certificate.specs.Faults.{body_dues}

-- the lines are those of so many cuts, a tree and the end
pub record IsBody (count : ℕ) (ls : Values) : Type 0 where
  pub cuts : List CutShape
  pub tree : TreeShape
  pub count_is : length cuts ≡ count
  pub values : ls ≡ all_cut_values cuts ++ (tree_values tree ++ EndLine ∷ [])
  pub paths : longest_path tree ≤ MAX_BRANCHES

-- lines that meet all that is needed after the first three
abbrev pub TakenAreBodies : Type 0
TakenAreBodies = (version count : ℕ) (ls : Values) → AreLines version ls → TakesAll (body_dues count) ls [] → IsBody count ls

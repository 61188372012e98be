-- Cuts that can stand in a certificate, and a leaf over them that holds at each node.
use Rattle.std.specs.Prelude.{◌≡◌, ◌≤◌, ℕ, List, [], length, Some}
use Rattle.lot_sizing.specs.Best.{IsFloor}
use Rattle.lot_sizing.specs.Problem.{Problem}
use Rattle.lin_rows.specs.Combining.{AreOfProblem}
use Rattle.lin_rows.specs.Rows.{LinRow}
use Rattle.cert_lines.specs.declared.limits.TheConstants.{MAX_CUTS}
use Rattle.cert_lines.specs.Shapes.{CutShape}
use Rattle.certificate.specs.Values.{AreLines, all_cut_values}
use Rattle.cert_checker.specs.Checks.{HaveGoodRows}
use Rattle.leaf_growth.specs.Written.{HasVersion}
use Rattle.tree_search.specs.declared.proposal.Proposal.{Proposal}
use Rattle.branching.specs.Leaves.{IsLasting}

-- cuts with their rows, few enough for a certificate, each with its lines
pub record AreKnownCuts (m : Problem) (version : ℕ) (cuts : List CutShape) (rows : List LinRow) : Type 0 where
  pub good : HaveGoodRows m cuts rows
  pub few : length cuts ≤ MAX_CUTS
  pub lines : AreLines version (all_cut_values cuts)
  pub columns_exist : AreOfProblem m rows

-- the leaf to begin with says the amount below which no plan costs
pub record IsBegun (m : Problem) (version least : ℕ) (first : Proposal) (rows : List LinRow) : Type 0 where
  pub known : HasVersion m version
  pub floor : IsFloor m least
  pub lasting : IsLasting m version least rows [] first
  pub amount : first.says ≡ Some least

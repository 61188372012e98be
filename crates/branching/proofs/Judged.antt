-- A leaf whose lines are those of texts, and what the checker says of it.
use Rattle.std.proofs.Common.{◌≡◌, ◌≤◌, ◌<◌, ◌+◌, ◌^◌, ℕ, refl, sym, subst, false, List, length, Option, Some, None}
use Rattle.std.specs.Prelude.{IfSome}
use Rattle.lot_sizing.specs.Problem.{Problem}
use Rattle.lot_sizing.specs.Totals.{AreLargestTotals}
use Rattle.lin_rows.specs.declared.bound.Bound.{Bound}
use Rattle.lin_rows.specs.Rows.{LinRow}
use Rattle.cert_lines.specs.declared.limits.TheConstants.{MAX_GROUPS, MAX_LISTS, MAX_PARTS}
use Rattle.cert_lines.specs.Shapes.{FarkasLeaf, LeafShape, LinearLeaf, PointLeaf, ReducedLeaf, leaf_shape}
use Rattle.certificate.specs.Values.{leaf_values}
use Rattle.cert_trees.specs.Ranges.{whole_ranges}
use Rattle.cert_meaning.specs.declared.says.LeafSays.{LeafSays}
use Rattle.cert_meaning.specs.Named.{names}
use Rattle.cert_checker.specs.Leaves.{HasDenominator, LeafIsSmall, LeafSaysThis}
use Rattle.leaf_growth.specs.Growth.{IsOfRows, LeafSaysSmall}
use Rattle.leaf_growth.specs.Written.{LeafHasLines}
use Rattle.leaf_growth.proofs.Amounts.{amount_small}
use Rattle.leaf_growth.proofs.Trees.{leaf_few}
use Rattle.tree_search.specs.declared.proposal.Proposal.{Proposal}
use Rattle.tree_search.specs.Costs.{IsAtMost}
use Rattle.tree_search.proofs.Endless.{at_most-trans as at_most_on}
use Rattle.branching.specs.Adding.{IsJudged, IsTested}
use Rattle.branching.specs.Leaves.{IsLasting, said}

pub tested_den : (version : ℕ) (leaf : LeafShape) → IsTested version leaf → HasDenominator leaf
tested_den version (LinearLeaf den parts) is = is.lines.0.form.small.0
tested_den version (FarkasLeaf parts) is = tt
tested_den version PointLeaf is = tt
tested_den version (ReducedLeaf den parts lists groups) is = tt

pub tested_few : (version : ℕ) (leaf : LeafShape) → IsTested version leaf → length (leaf_values leaf) ≤ MAX_PARTS + MAX_LISTS + MAX_GROUPS + 1
tested_few version leaf is = leaf_few version leaf is.lines

small_said : (m : Problem) (total : ℕ → ℕ) (rows : List LinRow) (path : List Bound) (leaf : LeafShape) (s : Option ℕ) → AreLargestTotals m total → IsOfRows leaf → LeafSaysSmall m rows path leaf (said s) → IfSome s (λ amount. amount < 2 ^ 127)
small_said m total rows path leaf None totals of is = tt
small_said m total rows path leaf (Some amount) totals of is =
    amount_small (names m total rows path) (whole_ranges total) leaf amount of (record { said = is.said total totals; small = is.small total totals })

pub judged_of : (m : Problem) (version : ℕ) (total : ℕ → ℕ) (rows : List LinRow) (path : List Bound) (leaf : LeafShape) (says : LeafSays) (p : Proposal) → AreLargestTotals m total → IsTested version leaf → LeafSaysThis m rows path leaf says → LeafIsSmall m rows path leaf → leaf_shape p.leaf ≡ leaf → said p.says ≡ says → p.examined ≡ false → IsJudged m version rows path p
judged_of m version total rows path leaf says p totals tested is small same amount unexamined =
    let here : LeafSaysSmall m rows path leaf says = record { said = is; small = small } in
    let evident : LeafSaysSmall m rows path leaf (said p.says) = subst (λ s. LeafSaysSmall m rows path leaf s) (sym amount) here in
    record {
      says = subst (λ l. LeafSaysSmall m rows path l (said p.says)) (sym same) evident;
      lines = subst (LeafHasLines version) (sym same) tested.lines;
      small = small_said m total rows path leaf p.says totals tested.of_rows evident;
      of_rows = subst IsOfRows (sym same) tested.of_rows;
      unexamined = unexamined;
    }

-- ---- the stronger one
pub judged_lasts : (m : Problem) (version least : ℕ) (rows : List LinRow) (path : List Bound) (old new : Proposal) → IsLasting m version least rows path old → IsAtMost old.says new.says → IsJudged m version rows path new → IsLasting m version least rows path new
judged_lasts m version least rows path old new was more is = record {
  good = record {
    says = is.says;
    lines = is.lines;
    no_less = at_most_on (Some least) old.says new.says was.good.no_less more;
    small = is.small;
  };
  of_rows = is.of_rows;
}

-- the same with another note
pub lasting_as : (m : Problem) (version least : ℕ) (rows : List LinRow) (path : List Bound) (old new : Proposal) → new.leaf ≡ old.leaf → new.says ≡ old.says → IsLasting m version least rows path old → IsLasting m version least rows path new
lasting_as m version least rows path old new leaf says is = record {
  good = record {
    says = subst (λ s. LeafSaysSmall m rows path (leaf_shape new.leaf) (said s)) (sym says) (subst (λ l. LeafSaysSmall m rows path (leaf_shape l) (said old.says)) (sym leaf) is.good.says);
    lines = subst (λ l. LeafHasLines version (leaf_shape l)) (sym leaf) is.good.lines;
    no_less = subst (IsAtMost (Some least)) (sym says) is.good.no_less;
    small = subst (λ s. IfSome s (λ amount. amount < 2 ^ 127)) (sym says) is.good.small;
  };
  of_rows = subst (λ l. IsOfRows (leaf_shape l)) (sym leaf) is.of_rows;
}

-- The leaf of a node that is one choice of quantities and setups.
use Rattle.std.proofs.Common.{◌≡◌, ◌<◌, ◌+◌, ◌^◌, ◌∙◌, inl, inr, ℕ, refl, sym, ap, subst, arith, List, [], append-nil, Option, Some, None}
use Rattle.std.specs.Prelude.{IfNone, IfSome, map}
use Rattle.lot_sizing.specs.Best.{IsFloor}
use Rattle.lot_sizing.specs.Least.{HasChoice, SameCells}
use Rattle.lot_sizing.specs.Problem.{Problem}
use Rattle.lot_sizing.specs.Plan as terms
use Rattle.plan_rules.specs.Held.{plan_of}
use Rattle.plan_rules.specs.declared.plan.Planned.{Planned}
use Rattle.lin_rows.specs.declared.bound.Bound.{Bound}
use Rattle.lin_rows.specs.declared.column.Column.{Column}
use Rattle.lin_rows.specs.declared.column.Column.TheVariants.{X, Y}
use Rattle.lin_rows.specs.Columns.{IsCell, cell_count}
use Rattle.lin_rows.specs.Rows.{LinRow}
use Rattle.cert_lines.specs.declared.parts.Leaf.TheVariants as leaf
use Rattle.cert_lines.specs.Shapes.{PointLeaf, cut_shape, leaf_shape}
use Rattle.cert_trees.specs.Paths.{left_by}
use Rattle.cert_trees.specs.Laws.{RangesAreLeft}
use Rattle.cert_trees.specs.Ranges.{Ranges}
use Rattle.cert_trees.specs.Ranges as split
use Rattle.cert_trees.specs.Spans.{Span}
use Rattle.cert_meaning.specs.Named.{names}
use Rattle.cert_meaning.specs.Says as says
use Rattle.cert_meaning.specs.Says.{HasNone, IsLeastCost, Says, point_make, point_setup}
use Rattle.own_plan.specs.Made.{IsMade}
use Rattle.leaf_growth.specs.Written.{LeafHasLines}
use Rattle.tree_search.specs.declared.node.Range.{Range}
use Rattle.tree_search.specs.declared.proposal.Proposal.{Proposal}
use Rattle.tree_search.specs.Costs.{IsAtMost, IsBelow}
use Rattle.tree_search.specs.Ranges.{IsPoint, range_at}
use Rattle.branching.specs.declared.guiding.Model.{Model}
use Rattle.branching.specs.declared.knowing.Known.{Known}
use Rattle.cert_checker.specs.Named.{IsReadyFor}
use Rattle.branching.specs.Begun.{AreKnownCuts, IsBegun}
use Rattle.branching.specs.Branching.{good_within}
use Rattle.node_domains.specs.Sides.{point_at}
use Rattle.branching.specs.Knowing.{IsAfter, IsKeptIn, IsKnown, IsLastingIn, ranges_in, shapes}
use Rattle.incumbent.specs.Kept.{IsMadeWithin, IsNoWorse, cost_kept}
use Rattle.incumbent.proofs.Chosen.{least_on, none_on}
use Rattle.branching.specs.Leaves.{IsKept, LeafSaysWithin, said}
use Rattle.node_domains.specs.Nodes.{IsNodeOf, cell_place, choice_place, least_make, least_setup, span_in}
use Rattle.node_domains.specs.Numbering.{place_below, place_x, place_y}

-- ---- the node
module _ (m : Problem) (ranges : Ranges) (rs : List Range) (path : List Bound) (node : IsNodeOf m ranges rs path) where
  make_left : (i t : ℕ) → IsCell m i t → span_in (range_at rs (cell_place m i t)) ≡ left_by ranges path (X i t)
  make_left i t is = ap (λ k. span_in (range_at rs k)) (sym (place_x m i t is)) ∙ node.left (X i t) is

  setup_left : (i t : ℕ) → IsCell m i t → span_in (range_at rs (cell_count m + cell_place m i t)) ≡ left_by ranges path (Y i t)
  setup_left i t is = ap (λ k. span_in (range_at rs k)) (sym (place_y m i t is)) ∙ node.left (Y i t) is

  makes_left : (total : ℕ → ℕ) (rows : List LinRow) → SameCells m (least_make m rs) (point_make (names m total rows path) ranges)
  makes_left total rows = λ i t low high t_low t_high. ap (λ (s : Span). s.low) (make_left i t (low, high, t_low, t_high))

  setups_left : (total : ℕ → ℕ) (rows : List LinRow) → SameCells m (least_setup m rs) (point_setup (names m total rows path) ranges)
  setups_left total rows = λ i t low high t_low t_high. ap (λ (s : Span). s.low) (setup_left i t (low, high, t_low, t_high))

  one_value : (c : Column) → IsPoint rs → split.IsChoice m c → says.HasOneValue (left_by ranges path c)
  one_value c point choice =
      let one = point_at rs (choice_place m c) (omega (arith, place_below m c choice, node.size)) point in
      subst (λ (s : Span). s.low ≡ s.high) (node.left c choice) one

  leaf_point : (total : ℕ → ℕ) (rows : List LinRow) → IsPoint rs → says.IsPoint (names m total rows path) ranges
  leaf_point total rows point = λ i t low high t_low t_high. (one_value (X i t) point (low, high, t_low, t_high), one_value (Y i t) point (low, high, t_low, t_high))

  point_says : (total : ℕ → ℕ) (rows : List LinRow) (found : Option Planned) → IsPoint rs → IfSome found (λ made. IsLeastCost m (least_make m rs) (least_setup m rs) made.cost) → IfNone found (HasNone m (least_make m rs) (least_setup m rs)) → Says (names m total rows path) ranges PointLeaf (said (cost_kept found))
  point_says total rows None point some none = (leaf_point total rows point, none_on m (least_make m rs) (point_make (names m total rows path) ranges) (least_setup m rs) (point_setup (names m total rows path) ranges) (makes_left total rows) (setups_left total rows) none)
  point_says total rows (Some made) point some none = (leaf_point total rows point, least_on m (least_make m rs) (point_make (names m total rows path) ranges) (least_setup m rs) (point_setup (names m total rows path) ranges) made.cost (makes_left total rows) (setups_left total rows) some)

  -- a plan that has the numbers is within what the path leaves, and so within the ranges
  in_left : IsPoint rs → (p : terms.Plan) → HasChoice m (least_make m rs) (least_setup m rs) p → split.IsWithin m (left_by ranges path) p
  in_left point p has = λ i t low high t_low t_high.
      let cell : IsCell m i t = (low, high, t_low, t_high) in
      let make = has.make i t low high t_low t_high ∙ ap (λ (s : Span). s.low) (make_left i t cell) in
      let setup = has.setup i t low high t_low t_high ∙ ap (λ (s : Span). s.low) (setup_left i t cell) in
      let one = one_value (X i t) point cell in
      let other = one_value (Y i t) point cell in
      ((omega (arith, make), omega (arith, make, one)), (omega (arith, setup), omega (arith, setup, other)))

  pub in_ranges : RangesAreLeft → IsPoint rs → (p : terms.Plan) → HasChoice m (least_make m rs) (least_setup m rs) p → split.IsWithin m ranges p
  in_ranges left point p has = ((left m ranges path node.choices p).0 (in_left point p has)).0

  pub point_better : RangesAreLeft → IsPoint rs → (best found : Option Planned) → IfSome found (λ made. HasChoice m (least_make m rs) (least_setup m rs) (plan_of made.plan)) → IfSome found (λ made. split.IsWithin m ranges (plan_of made.plan) → IsNoWorse best (Some made)) → IsNoWorse best found
  point_better left point best None has better = tt
  point_better left point best (Some made) has better = better (in_ranges left point (plan_of made.plan) has)

point_lines : (version : ℕ) → LeafHasLines version PointLeaf
point_lines version = (record { text = refl; form = record { small = tt; short = omega arith }; known = tt }, tt)

no_less_found : (m : Problem) (least : ℕ) (found : Option Planned) → IsFloor m least → IfSome found (IsMade m) → IsAtMost (Some least) (cost_kept found)
no_less_found m least None floor made = tt
no_less_found m least (Some p) floor made = omega (arith, floor (plan_of p.plan) made.feasible, made.cost)

small_found : (m : Problem) (found : Option Planned) → IfSome found (IsMade m) → IfSome (cost_kept found) (λ amount. amount < 2 ^ 127)
small_found m None made = tt
small_found m (Some p) made = made.small

pub point_kept : (m : Problem) (ranges : Ranges) (version least : ℕ) (rows : List LinRow) (rs : List Range) (path : List Bound) (found : Option Planned) (p : Proposal) → IsNodeOf m ranges rs path → IsPoint rs → IsFloor m least → IfSome found (IsMade m) → IfSome found (λ made. IsLeastCost m (least_make m rs) (least_setup m rs) made.cost) → IfNone found (HasNone m (least_make m rs) (least_setup m rs)) → p.leaf ≡ leaf.Point → p.says ≡ cost_kept found → IsKept m ranges version least rows rs path p
point_kept m ranges version least rows rs path found p node point floor made some none is amount =
    let shape = ap leaf_shape is in
    record {
      good = record {
        says = subst (λ s. LeafSaysWithin m ranges rows path (leaf_shape p.leaf) (said s)) (sym amount) (subst (λ l. LeafSaysWithin m ranges rows path l (said (cost_kept found))) (sym shape) (record {
          said = λ total totals. point_says m ranges rs path node total rows found point some none;
          small = λ total totals. tt;
        }));
        lines = subst (LeafHasLines version) (sym shape) (point_lines version);
        no_less = subst (IsAtMost (Some least)) (sym amount) (no_less_found m least found floor made);
        small = subst (λ s. IfSome s (λ n. n < 2 ^ 127)) (sym amount) (small_found m found made);
      };
      kind = inr point;
    }

-- ---- what is known stays known with another plan
pub known_kept : (g : Model) (old new : Known) → new.cuts ≡ old.cuts → new.rows ≡ old.rows → new.sums ≡ old.sums → IfSome new.best (IsMadeWithin g.instance.now (ranges_in g)) → IsKnown g old → IsKnown g new
known_kept g old new cuts rows sums best is = record {
  given = is.given;
  begun = subst (λ r. IsBegun g.instance.now g.version g.least g.first r) (sym (ap (λ v. v.items) rows)) is.begun;
  cuts = subst (λ r. AreKnownCuts g.instance.now g.version (shapes new) r) (sym (ap (λ v. v.items) rows)) (subst (λ s. AreKnownCuts g.instance.now g.version s old.rows.items) (sym (ap (λ v. map cut_shape v.items) cuts)) is.cuts);
  best = best;
  sums = subst (IsReadyFor g.instance.now) (sym sums) is.sums;
  explosion = is.explosion;
}

pub after_kept : (old new : Known) → new.rows ≡ old.rows → IsAfter old new
after_kept old new rows = record { more = []; rows = ap (λ v. v.items) rows ∙ sym (append-nil old.rows.items) }

pub not_below : (a b : Option ℕ) → IsAtMost a b → IsBelow b a → ⊥
not_below a None less below = below
not_below None (Some y) less below = less
not_below (Some x) (Some y) less below = omega (arith, less, below)

-- a leaf that goes on to hold is kept, also over the same rows in another state
pub kept_from : (g : Model) (a b : Known) (rs : List Range) (path : List Bound) (p : Proposal) → b.rows ≡ a.rows → IsLastingIn g a path p → IsKeptIn g b rs path p
kept_from g a b rs path p rows is =
    subst (λ r. IsKept g.instance.now (ranges_in g) g.version g.least r rs path p) (sym (ap (λ v. v.items) rows)) (record { good = good_within g.instance.now (ranges_in g) g.version g.least a.rows.items path p is.of_rows is.good; kind = inl is.of_rows })

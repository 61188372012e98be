-- Ranges that are the whole ones, and a certificate of one leaf over any ranges.
use Rattle.std.proofs.Common.{◌≡◌, ◌≤◌, ⊎_elim, inl, inr, ℕ, Bool, sym, ap, subst, arith, List, [], Option, Some, None}
use Rattle.std.specs.Prelude.{IfSome}
use Rattle.lot_sizing.specs.Bill.{AreWeights, bill_of}
use Rattle.lot_sizing.specs.Least.{SameCells}
use Rattle.lot_sizing.specs.Problem.{Problem, item_count}
use Rattle.lot_sizing.specs.Plan as terms
use Rattle.lot_sizing.specs.Totals.{AreLargestTotals}
use Rattle.lot_model.specs.Views.{IsInstance}
use Rattle.plan_rules.specs.declared.plan.Plan.{Plan}
use Rattle.plan_rules.specs.Held.{plan_of}
use Rattle.lin_rows.specs.declared.bound.Bound.{Bound}
use Rattle.lin_rows.specs.declared.column.Column.{Column}
use Rattle.lin_rows.specs.declared.column.Column.TheVariants.{X, Y}
use Rattle.lin_rows.specs.Columns.{IsCell}
use Rattle.lin_rows.specs.Rows.{LinRow}
use Rattle.cert_lines.specs.declared.parts.Claim.{Claim}
use Rattle.cert_lines.specs.declared.parts.Claim.TheVariants.{Optimal, Infeasible, Bound as BoundOf}
use Rattle.cert_lines.specs.Shapes.{FarkasLeaf, LeafShape, LinearLeaf, PointLeaf, ReducedLeaf}
use Rattle.certificate.specs.Counts.{node_count}
use Rattle.certificate.specs.Shapes.{End, Split, TreeShape, shape_of}
use Rattle.cert_trees.specs.Paths.{left_to}
use Rattle.cert_trees.specs.Ranges.{IsChoice, IsWithin, Ranges, whole_ranges}
use Rattle.cert_trees.specs.Spans.{Span}
use Rattle.cert_trees.specs.Trees.{EachLeaf, IsSplitTree, high_path, low_path}
use Rattle.cert_meaning.specs.declared.says.LeafSays.{LeafSays}
use Rattle.cert_meaning.specs.declared.says.LeafSays.TheVariants.{NoPlan, AtLeast}
use Rattle.cert_meaning.specs.Accepts.{Fits, IsAccepted, IsTrueOf, IsTrueWithin, SaysEnough}
use Rattle.cert_meaning.specs.Laws.{AcceptedByBoth, AcceptedIsTrue, CutRowsAreOne}
use Rattle.cert_meaning.specs.Named.{Named, names}
use Rattle.cert_meaning.specs.Says as says
use Rattle.cert_meaning.specs.Says.{Says, point_make, point_setup}
use Rattle.cert_checker.specs.Checks.{plan_given}
use Rattle.tree_search.specs.declared.limits.Limits.{Limits}
use Rattle.search_result.specs.declared.found.Found.{Found}
use Rattle.search_result.specs.Found.{IsProved}
use Rattle.lp_root.specs.Root.{HasFigures}
use Rattle.branching.specs.Search.{HasEvidence, IfBound, IsDeepIfOpen, IsEvidence, IsOutOfRoom, IsUndecided, SaysAmount, SomeLeaf, WithRows, tree_in}
use Rattle.branching.specs.SearchWithin.{HasEvidenceWithin, IsDeepIfOpenWithin, IsOutOfRoomWithin, IsProvedWithin, IsUndecidedWithin, SaysAmountWithin, WholeIsProved}
use Rattle.node_domains.specs.Within.{IsWhole}
use Rattle.incumbent.proofs.Chosen.{least_on, none_on}
use Rattle.branching.proofs.Proved.{each_map, goes_within}

-- ---- certificates
pub proved_whole : (m : Problem) → IsInstance m → HasFigures m → AcceptedByBoth → CutRowsAreOne → AcceptedIsTrue → WholeIsProved m
proved_whole m instance figures both one true ranges all found is =
    let c = shape_of found.certificate in
    let given = plan_given found.plan in
    let accepted : (total : ℕ → ℕ) (weight : ℕ → ℕ → ℕ) → AreLargestTotals m total → AreWeights (bill_of m) weight → IsAccepted m total weight (whole_ranges total) c given = λ total weight totals weights.
    both m total total weight weight (record { rank = instance.ranked.0; ranks = instance.ranked.1; totals = (totals, totals); weights = (weights, weights) }) ranges (whole_ranges total) (all total totals) c given (is.certified total weight totals weights).accepted in
    record {
      writable = is.writable;
      lines = is.lines;
      certified = λ total weight totals weights.
          let old = is.certified total weight totals weights in
          let new = accepted total weight totals weights in
          let same : old.accepted.rows ≡ new.rows = one m total weight c.cuts old.accepted.rows new.rows instance.limits old.accepted.cuts new.cuts in
          record { accepted = new; fits = subst (λ (rows : List LinRow). Fits m total rows c) same old.fits; plan = old.plan };
      claim =
          let (total, weight, totals, weights) = figures in
          true m instance.ranked.0 total weight instance.limits.some_period instance.ranked.1 totals weights c given (accepted total weight totals weights);
      nodes = is.nodes;
    }

-- ---- leaves over the same ranges
makes_same : (n : Named) (r s : Ranges) → ((c : Column) → IsChoice n.problem c → r c ≡ s c) → SameCells n.problem (point_make n r) (point_make n s)
makes_same n r s same = λ i t i_low i_high t_low t_high. ap (λ (a : Span). (left_to a n.path (X i t)).low) (same (X i t) (i_low, i_high, t_low, t_high))

setups_same : (n : Named) (r s : Ranges) → ((c : Column) → IsChoice n.problem c → r c ≡ s c) → SameCells n.problem (point_setup n r) (point_setup n s)
setups_same n r s same = λ i t i_low i_high t_low t_high. ap (λ (a : Span). (left_to a n.path (Y i t)).low) (same (Y i t) (i_low, i_high, t_low, t_high))

point_same : (n : Named) (r s : Ranges) → ((c : Column) → IsChoice n.problem c → r c ≡ s c) → says.IsPoint n r → says.IsPoint n s
point_same n r s same is = λ i t i_low i_high t_low t_high.
    let both = is i t i_low i_high t_low t_high in
    let cell : IsCell n.problem i t = (i_low, i_high, t_low, t_high) in (
      subst (λ (a : Span). says.HasOneValue (left_to a n.path (X i t))) (same (X i t) cell) both.0,
      subst (λ (a : Span). says.HasOneValue (left_to a n.path (Y i t))) (same (Y i t) cell) both.1,
    )

says_over : (n : Named) (r s : Ranges) → ((c : Column) → IsChoice n.problem c → r c ≡ s c) → (leaf : LeafShape) (what : LeafSays) → Says n r leaf what → Says n s leaf what
says_over n r s same (LinearLeaf den parts) NoPlan is = absurd is
says_over n r s same (LinearLeaf den parts) (AtLeast bound) is = is
says_over n r s same (FarkasLeaf parts) NoPlan is = is
says_over n r s same (FarkasLeaf parts) (AtLeast bound) is = absurd is
says_over n r s same (ReducedLeaf den parts lists groups) NoPlan is = is
says_over n r s same (ReducedLeaf den parts lists groups) (AtLeast bound) is = is
says_over n r s same PointLeaf NoPlan is = (point_same n r s same is.0, none_on n.problem (point_make n r) (point_make n s) (point_setup n r) (point_setup n s) (makes_same n r s same) (setups_same n r s same) is.1)
says_over n r s same PointLeaf (AtLeast bound) is = (point_same n r s same is.0, least_on n.problem (point_make n r) (point_make n s) (point_setup n r) (point_setup n s) bound (makes_same n r s same) (setups_same n r s same) is.1)

-- ---- what is shown over the whole ranges
module _ (m : Problem) (ranges : Ranges) (all : IsWhole m ranges) (rows : List LinRow) where
  to_whole : (amount : ℕ) (path : List Bound) (leaf : LeafShape) → SaysAmountWithin m ranges rows amount path leaf → SaysAmount m rows amount path leaf
  to_whole amount path leaf is = λ total totals. says_over (names m total rows path) ranges (whole_ranges total) (all total totals) leaf (AtLeast amount) (is total totals)

  from_whole : (amount : ℕ) (path : List Bound) (leaf : LeafShape) → SaysAmount m rows amount path leaf → SaysAmountWithin m ranges rows amount path leaf
  from_whole amount path leaf is = λ total totals. says_over (names m total rows path) (whole_ranges total) ranges (λ c choice. sym (all total totals c choice)) leaf (AtLeast amount) (is total totals)

  some_whole : (amount : ℕ) (path : List Bound) (t : TreeShape) → SomeLeaf (SaysAmountWithin m ranges rows amount) path t → SomeLeaf (SaysAmount m rows amount) path t
  some_whole amount path (Split c at low high) some =
      ⊎_elim
      (λ first. inl (some_whole amount (low_path path c at) low first))
      (λ next. inr (some_whole amount (high_path path c at) high next))
      some
  some_whole amount path (End leaf) some = to_whole amount path leaf some

  pub evidence_whole : (found : Found) (amount : ℕ) → HasEvidenceWithin m ranges found amount rows → HasEvidence m found amount rows
  evidence_whole found amount is = record {
    some = some_whole amount [] (tree_in found) is.some;
    each = each_map (λ path leaf. SaysAmountWithin m ranges rows amount path leaf → IsEvidence m found.root path amount) (λ path leaf. SaysAmount m rows amount path leaf → IsEvidence m found.root path amount) (λ path leaf has says. has (from_whole amount path leaf says)) [] (tree_in found) is.each;
  }

  no_room_whole : (budget : ℕ) (found : Found) → IsOutOfRoomWithin m ranges budget found rows → IsOutOfRoom m budget found rows
  no_room_whole budget found is =
      ⊎_elim
      (λ less. inl less)
      (λ deep. inr (record {
        longest = deep.longest;
        height = deep.height;
        leaves = each_map (IsDeepIfOpenWithin m ranges found.plan rows) (IsDeepIfOpen m found.plan rows) (λ path leaf has amount says below. has amount (from_whole amount path leaf says) below) [] (tree_in found) deep.leaves;
      }))
      is

  pub undecided_whole : (budget : ℕ) (limits : Limits) (stopping : Bool) (found : Found) → IsUndecidedWithin m ranges budget limits stopping found rows → IsUndecided m budget limits stopping found rows
  undecided_whole budget limits stopping found is = ⊎_elim (λ left. inl (no_room_whole budget found left)) (λ other. inr other) is

pub bound_whole : (claim : Claim) (P Q : ℕ → Type 0) → ((amount : ℕ) → P amount → Q amount) → IfBound claim P → IfBound claim Q
bound_whole (Optimal amount) P Q f is = tt
bound_whole Infeasible P Q f is = tt
bound_whole (BoundOf amount) P Q f is = f amount is

pub cause_whole : (m : Problem) (ranges : Ranges) (budget : ℕ) (limits : Limits) (stopping : Bool) (found : Found) → IsWhole m ranges → IfBound found.certificate.claim (λ amount. WithRows m found (IsUndecidedWithin m ranges budget limits stopping found)) → IfBound found.certificate.claim (λ amount. WithRows m found (IsUndecided m budget limits stopping found))
cause_whole m ranges budget limits stopping found all is =
    bound_whole found.certificate.claim (λ amount. WithRows m found (IsUndecidedWithin m ranges budget limits stopping found)) (λ amount. WithRows m found (IsUndecided m budget limits stopping found))
    (λ amount has. let (rows, good, left) = has in (rows, good, undecided_whole m ranges all rows budget limits stopping found left))
    is

pub shows_whole : (m : Problem) (ranges : Ranges) (found : Found) → IsWhole m ranges → IfBound found.certificate.claim (λ amount. WithRows m found (HasEvidenceWithin m ranges found amount)) → IfBound found.certificate.claim (λ amount. WithRows m found (HasEvidence m found amount))
shows_whole m ranges found all is =
    bound_whole found.certificate.claim (λ amount. WithRows m found (HasEvidenceWithin m ranges found amount)) (λ amount. WithRows m found (HasEvidence m found amount))
    (λ amount has. let (rows, good, shows) = has in (rows, good, evidence_whole m ranges all rows found amount shows))
    is

-- ---- one leaf
some_node : (t : TreeShape) → 1 ≤ node_count t
some_node (Split c at low high) = omega arith
some_node (End leaf) = omega arith

one_tree : (m : Problem) (ranges : Ranges) (t : TreeShape) → node_count t ≡ 1 → IsSplitTree m ranges [] t
one_tree m ranges (Split c at low high) one = absurd (omega (arith, one, some_node low, some_node high))
one_tree m ranges (End leaf) one = tt

-- the whole range of a setup has two values
no_cell : (m : Problem) (total : ℕ → ℕ) (rows : List LinRow) → says.IsPoint (names m total rows []) (whole_ranges total) → (i t : ℕ) → 1 ≤ i → i ≤ item_count m → 1 ≤ t → t ≤ m.periods → ⊥
no_cell m total rows is i t i_low i_high t_low t_high = let two : 0 ≡ 1 = (is i t i_low i_high t_low t_high).1 in omega (arith, two)

one_says : (m : Problem) (total : ℕ → ℕ) (rows : List LinRow) (ranges : Ranges) (leaf : LeafShape) (what : LeafSays) → Says (names m total rows []) (whole_ranges total) leaf what → Says (names m total rows []) ranges leaf what
one_says m total rows ranges (LinearLeaf den parts) NoPlan is = absurd is
one_says m total rows ranges (LinearLeaf den parts) (AtLeast bound) is = is
one_says m total rows ranges (FarkasLeaf parts) NoPlan is = is
one_says m total rows ranges (FarkasLeaf parts) (AtLeast bound) is = absurd is
one_says m total rows ranges (ReducedLeaf den parts lists groups) NoPlan is = is
one_says m total rows ranges (ReducedLeaf den parts lists groups) (AtLeast bound) is = is
one_says m total rows ranges PointLeaf NoPlan is =
    let n = names m total rows [] in
    let none = no_cell m total rows is.0 in (
      λ i t i_low i_high t_low t_high. absurd (none i t i_low i_high t_low t_high),
      none_on m (point_make n (whole_ranges total)) (point_make n ranges) (point_setup n (whole_ranges total)) (point_setup n ranges) (λ i t i_low i_high t_low t_high. absurd (none i t i_low i_high t_low t_high)) (λ i t i_low i_high t_low t_high. absurd (none i t i_low i_high t_low t_high)) is.1,
    )
one_says m total rows ranges PointLeaf (AtLeast bound) is =
    let n = names m total rows [] in
    let none = no_cell m total rows is.0 in (
      λ i t i_low i_high t_low t_high. absurd (none i t i_low i_high t_low t_high),
      least_on m (point_make n (whole_ranges total)) (point_make n ranges) (point_setup n (whole_ranges total)) (point_setup n ranges) bound (λ i t i_low i_high t_low t_high. absurd (none i t i_low i_high t_low t_high)) (λ i t i_low i_high t_low t_high. absurd (none i t i_low i_high t_low t_high)) is.1,
    )

one_leaf : (m : Problem) (total : ℕ → ℕ) (rows : List LinRow) (ranges : Ranges) (claim : Claim) (t : TreeShape) → node_count t ≡ 1 → EachLeaf (SaysEnough m total rows (whole_ranges total) claim) [] t → EachLeaf (SaysEnough m total rows ranges claim) [] t
one_leaf m total rows ranges claim (Split c at low high) one is = absurd (omega (arith, one, some_node low, some_node high))
one_leaf m total rows ranges claim (End leaf) one (what, is, enough) = (what, one_says m total rows ranges leaf what is, enough)

pub some_is : (a b : terms.Plan) → Some a ≡ Some b → a ≡ b
some_is a b same = cc same

true_within : (m : Problem) (ranges : Ranges) (claim : Claim) (given : Option Plan) → IsTrueOf m claim (plan_given given) → IfSome given (λ p. IsWithin m ranges (plan_of p)) → IsTrueWithin m ranges claim (plan_given given)
true_within m ranges (Optimal c) None (p, same, best, cost) within = absurd (cc same)
true_within m ranges (Optimal c) (Some q) (p, same, best, cost) within = (
  p,
  same,
  record { feasible = best.feasible; within = subst (λ (x : terms.Plan). IsWithin m ranges x) (some_is (plan_of q) p same) within; least = λ other feasible _. best.least other feasible },
  cost,
)
true_within m ranges Infeasible given none within = λ p feasible _. none p feasible
true_within m ranges (BoundOf c) given floor within = λ p feasible _. floor p feasible

-- what one node proves of all plans it proves over ranges in which the plan lies
pub one_within : (m : Problem) (ranges : Ranges) (found : Found) → IsProved m found → found.nodes ≡ 1 → IfSome found.plan (λ p. IsWithin m ranges (plan_of p)) → IsProvedWithin m ranges found
one_within m ranges found is alone within =
    let c = shape_of found.certificate in
    let one : node_count c.tree ≡ 1 = omega (arith, alone, is.nodes) in
    record {
      writable = is.writable;
      lines = is.lines;
      certified = λ total weight totals weights.
          let old = is.certified total weight totals weights in
          let rows = old.accepted.rows in
          record {
            accepted = record {
              rows = rows;
              cuts = old.accepted.cuts;
              tree = one_tree m ranges c.tree one;
              leaves = one_leaf m total rows ranges c.claim c.tree one old.accepted.leaves;
              plan = goes_within m ranges c.claim found.plan old.plan within;
            };
            fits = record { cuts = old.fits.cuts; leaves = old.fits.leaves };
            plan = old.plan;
          };
      claim = true_within m ranges found.certificate.claim found.plan is.claim within;
      nodes = is.nodes;
    }

-- Values go one way down a tree, and a split tree leaves no empty range.
use Rattle.std.proofs.Common.{◌≤◌, ◌+◌, ⊎_elim, ℕ, sym, subst, arith, Bool, true, false, List, [], ◌∷◌, ◌++◌}
use Rattle.std.specs.List.{All}
use Rattle.std.proofs.lemmas.Bool.{cases_Bool, cases_lt}
use Rattle.std.proofs.lemmas.List.Elements.{All-append, All-cons, All-nil, All-push}
use Rattle.lot_sizing.specs.Problem.{Problem}
use Rattle.lin_rows.specs.declared.bound.Bound.{Bound}
use Rattle.lin_rows.specs.declared.column.Column.TheVariants.{X, Y, S, R}
use Rattle.lin_rows.specs.Rows.{Values}
use Rattle.lin_rows.specs.Sums.{same_column}
use Rattle.lin_rows.proofs.Below.{one_by_parts}
use Rattle.cert_lines.specs.Shapes.{LeafShape}
use Rattle.certificate.specs.Shapes.{End, Split, TreeShape}
use Rattle.cert_trees.specs.Spans.{IsIn, Span}
use Rattle.cert_trees.specs.Ranges.{AreOpen, IsChoice, Ranges, whole_ranges}
use Rattle.cert_trees.specs.Paths.{AreChoices, AreMet, IsMet, at_least, at_most, cut_span, left_by}
use Rattle.cert_trees.specs.Trees.{EachLeaf, IsSplitTree, high_path, leaf_paths, low_path}
use Rattle.cert_trees.proofs.Left.{left_more, narrowed_other, narrowed_own}

is_choice : Problem → Bound → Type 0
is_choice m b = IsChoice m b.column

choice_more : (m : Problem) (path : List Bound) (b : Bound) → AreChoices m path → IsChoice m b.column → AreChoices m (path ++ (b ∷ []))
unfolding is_choice
choice_more m path b choices choice = All-push (is_choice m) path b choices choice

-- a leaf at which the values lie
pub record Found (m : Problem) (v : Values) (P : List Bound → LeafShape → Type 0) : Type 0 where
  pub path : List Bound
  pub leaf : LeafShape
  pub is : P path leaf
  pub choices : AreChoices m path
  pub met : AreMet v path

pub find : (m : Problem) (ranges : Ranges) (v : Values) (P : List Bound → LeafShape → Type 0) (path : List Bound) (t : TreeShape) → IsSplitTree m ranges path t → EachLeaf P path t → AreChoices m path → AreMet v path → Found m v P
find m ranges v P path (End leaf) split each choices met = record { path = path; leaf = leaf; is = each; choices = choices; met = met }
find m ranges v P path (Split c at low high) split each choices met =
    ⊎_elim
    (λ above. find m ranges v P (high_path path c at) high split.2 each.1 (choice_more m path (at_least c (at + 1)) choices split.0.column) (All-push (IsMet v) path (at_least c (at + 1)) met (omega (arith, above))))
    (λ below. find m ranges v P (low_path path c at) low split.1 each.0 (choice_more m path (at_most c at) choices split.0.column) (All-push (IsMet v) path (at_most c at) met below))
    (cases_lt at (v c))

-- what holds of the path to each leaf holds of each path to one
pub each_path : (P : List Bound → Type 0) (path : List Bound) (t : TreeShape) → EachLeaf (λ q leaf. P q) path t → All P (leaf_paths path t)
each_path P path (End leaf) each = All-cons P path [] each (All-nil P)
each_path P path (Split c at low high) each = All-append P (leaf_paths (low_path path c at) low) (leaf_paths (high_path path c at) high) (each_path P (low_path path c at) low each.0) (each_path P (high_path path c at) high each.1)

-- the bounds on the paths are on quantities and setups
pub choice_leaves : (m : Problem) (ranges : Ranges) (path : List Bound) (t : TreeShape) → IsSplitTree m ranges path t → AreChoices m path → EachLeaf (λ q leaf. AreChoices m q) path t
choice_leaves m ranges path (End leaf) split choices = choices
choice_leaves m ranges path (Split c at low high) split choices = (
  choice_leaves m ranges (low_path path c at) low split.1 (choice_more m path (at_most c at) choices split.0.column),
  choice_leaves m ranges (high_path path c at) high split.2 (choice_more m path (at_least c (at + 1)) choices split.0.column),
)

pub whole_open : (m : Problem) (total : ℕ → ℕ) → AreOpen m (whole_ranges total)
whole_open m total (X i t) is = omega arith
whole_open m total (Y i t) is = omega arith
whole_open m total (S i t) is = absurd is
whole_open m total (R i t) is = absurd is

open_side : (b : Bool) (n : ℕ) (s : Span) → s.low ≤ s.high → IsIn s n → (cut_span b n s).low ≤ (cut_span b n s).high
open_side true n s some is = omega (arith, some, is.0)
open_side false n s some is = omega (arith, some, is.1)

open_more : (m : Problem) (ranges : Ranges) (path : List Bound) (b : Bound) → AreOpen m (left_by ranges path) → IsIn (left_by ranges path b.column) b.number → AreOpen m (left_by ranges (path ++ (b ∷ [])))
open_more m ranges path b some is c choice =
    let s = left_by ranges path c in
    subst (λ r. r.low ≤ r.high) (sym (left_more (ranges c) path b c))
    (⊎_elim
    (λ own. subst (λ r. r.low ≤ r.high) (sym (narrowed_own s b c own)) (open_side b.most b.number s (some c choice) (subst (λ d. IsIn (left_by ranges path d) b.number) (one_by_parts b.column c own) is)))
    (λ other. subst (λ r. r.low ≤ r.high) (sym (narrowed_other s b c other)) (some c choice))
    (cases_Bool (same_column b.column c)))

pub open_leaves : (m : Problem) (ranges : Ranges) (path : List Bound) (t : TreeShape) → IsSplitTree m ranges path t → AreOpen m (left_by ranges path) → EachLeaf (λ q leaf. AreOpen m (left_by ranges q)) path t
open_leaves m ranges path (End leaf) is some = some
open_leaves m ranges path (Split c at low high) is some =
    let here = is.0 in (
      open_leaves m ranges (low_path path c at) low is.1 (open_more m ranges path (at_most c at) some (here.low, omega (arith, here.high))),
      open_leaves m ranges (high_path path c at) high is.2 (open_more m ranges path (at_least c (at + 1)) some (omega (arith, here.low), omega (arith, here.high))),
    )

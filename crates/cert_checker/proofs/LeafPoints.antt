-- The one value that a path leaves to each quantity and each setup.
use Rattle.std.proofs.Common.{◌≡◌, ◌∙◌, ℕ, sym, ap, subst, List}
use Rattle.lot_sizing.specs.Problem.{Problem}
use Rattle.lot_sizing.specs.Plan.{Plan, Table, EachCell, IsFeasible, cost}
use Rattle.lot_sizing.specs.Least.{HasChoice, SameCells}
use Rattle.lot_sizing.specs.Totals.{AreLargestTotals}
use Rattle.lin_rows.specs.declared.bound.Bound.{Bound}
use Rattle.lin_rows.specs.declared.column.Column.{Column}
use Rattle.lin_rows.specs.declared.column.Column.TheVariants.{X, Y, S, R}
use Rattle.lin_rows.specs.Rows.{LinRow}
use Rattle.plan_rules.specs.Rows.{HasNoPlan, IsLeastWith}
use Rattle.cert_trees.specs.Paths.{left_by}
use Rattle.cert_trees.specs.Ranges.{IsChoice, whole_ranges}
use Rattle.cert_meaning.specs.Named.{names}
use Rattle.cert_meaning.specs.Says.{HasNone, HasOneValue, IsLeastCost, IsPoint, point_make, point_setup}
use Rattle.cert_checker.specs.Leaves.{HasOpenChoice, IsLeftOne, IsPointAt}

open_at : (m : Problem) (total : ℕ → ℕ) (cuts : List LinRow) (path : List Bound) (c : Column) → IsChoice m c → (HasOneValue (left_by (whole_ranges total) path c) → ⊥) → IsPoint (names m total cuts path) (whole_ranges total) → ⊥
open_at m total cuts path (X i t) is apart point = apart (point i t is.0 is.1 is.2 is.3).0
open_at m total cuts path (Y i t) is apart point = apart (point i t is.0 is.1 is.2 is.3).1
open_at m total cuts path (S i t) is apart point = absurd is
open_at m total cuts path (R i t) is apart point = absurd is

pub no_point : (m : Problem) (total : ℕ → ℕ) (cuts : List LinRow) (path : List Bound) → AreLargestTotals m total → HasOpenChoice m path → IsPoint (names m total cuts path) (whole_ranges total) → ⊥
no_point m total cuts path totals (c, is, apart) point = open_at m total cuts path c is (apart total totals) point

-- where the numbers stay as they were
pub moved : (total : ℕ → ℕ) (path : List Bound) (a b make setup : Table) (i t : ℕ) → make i t ≡ a i t → setup i t ≡ b i t → IsPointAt total path a b i t → IsPointAt total path make setup i t
moved total path a b make setup i t e f at = (subst (IsLeftOne total path (X i t)) (sym e) at.0, subst (IsLeftOne total path (Y i t)) (sym f) at.1)

same_choice : (m : Problem) (make setup others also : Table) (p : Plan) → SameCells m make others → SameCells m setup also → HasChoice m make setup p → HasChoice m others also p
same_choice m make setup others also p a b has = record {
  make = λ i t low high t_low t_high. has.make i t low high t_low t_high ∙ a i t low high t_low t_high;
  setup = λ i t low high t_low t_high. has.setup i t low high t_low t_high ∙ b i t low high t_low t_high;
}

module _ (m : Problem) (total : ℕ → ℕ) (cuts : List LinRow) (path : List Bound) (make setup : Table) (cells : EachCell m (IsPointAt total path make setup)) where
  pub is_point : IsPoint (names m total cuts path) (whole_ranges total)
  is_point i t low high t_low t_high = let at = cells i t low high t_low t_high in (at.0.one, at.1.one)

  pub none_at_point : HasNoPlan m make setup → HasNone m (point_make (names m total cuts path) (whole_ranges total)) (point_setup (names m total cuts path) (whole_ranges total))
  none_at_point none p feasible has =
      none p feasible (same_choice m _ _ make setup p
      (λ i t low high t_low t_high. sym (cells i t low high t_low t_high).0.value)
      (λ i t low high t_low t_high. sym (cells i t low high t_low t_high).1.value) has)

  pub least_at_point : (p : Plan) (amount : ℕ) → IsFeasible m p → p.make ≡ make → p.setup ≡ setup → IsLeastWith m make setup p → amount ≡ cost m p → IsLeastCost m (point_make (names m total cuts path) (whole_ranges total)) (point_setup (names m total cuts path) (whole_ranges total)) amount
  least_at_point p amount feasible a b least costs = record {
    plan = p;
    feasible = feasible;
    chosen = record {
      make = λ i t low high t_low t_high. ap (λ f. f i t) a ∙ (cells i t low high t_low t_high).0.value;
      setup = λ i t low high t_low t_high. ap (λ f. f i t) b ∙ (cells i t low high t_low t_high).1.value;
    };
    costs = sym costs;
    least = λ q f has. rw costs (least.spent q f (same_choice m _ _ make setup q
        (λ i t low high t_low t_high. sym (cells i t low high t_low t_high).0.value)
        (λ i t low high t_low t_high. sym (cells i t low high t_low t_high).1.value) has));
  }

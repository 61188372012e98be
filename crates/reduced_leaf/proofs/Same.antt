-- Rows and groups have one sum.
use Rattle.std.proofs.Common.{◌≡◌, ◌≤◌, ◌∙◌, ℕ, sym, ap, subst, arith, List}
use Rattle.std.specs.Prelude.{ℤ, pos, ◌+ℤ◌, ◌*ℤ◌, ◌≤ℤ◌}
use Rattle.std.proofs.lemmas.Int.{ints}
use Rattle.lot_sizing.specs.Laws.{TotalsAreOne}
use Rattle.lot_sizing.specs.Problem.{Problem}
use Rattle.lot_sizing.specs.Plan.{Plan, IsFeasible, cost}
use Rattle.lot_sizing.specs.Totals.{AreLargestTotals, IsRanking}
use Rattle.lin_rows.specs.declared.column.Column.{Column}
use Rattle.lin_rows.specs.declared.column.Column.TheVariants.{X, Y}
use Rattle.lin_rows.specs.Columns.{IsColumn, value_in}
use Rattle.lin_rows.specs.Combining.{AllHold, AreOfProblem, AreSigned, right_sum}
use Rattle.lin_rows.specs.Rows.{LinRow, whole_point}
use Rattle.reduced_groups.specs.Groups.{GroupShape}
use Rattle.reduced_groups.specs.Numbers.{sum_of}
use Rattle.reduced_groups.specs.Rows.{AreReduced}
use Rattle.reduced_groups.specs.Laws.{AreSamePrices, GroupsRefute, KnownAreAlike, NumbersAreChoices, NumbersAreOne, NumbersByBoth, RowsAndGroupsBound}
use Rattle.reduced_leaf.specs.Leaf.{AreGroupsFor, IsReducedSum, LacksOneChoice}
use Rattle.reduced_leaf.proofs.Known.{known_by_both}

pos_same : (a b : ℕ) → pos a ≡ pos b → a ≡ b
pos_same a b e = grind (arith, ints, e)

-- a column has one price
pub price_one : (m : Problem) (rows : List LinRow) (times : List ℤ) (den : ℕ) (price other : Column → ℕ) → AreReduced m rows times den price → AreReduced m rows times den other → (c : Column) → IsColumn m c → price c ≡ other c
price_one m rows times den price other is also c has = pos_same (price c) (other c) (sym (is c has) ∙ also c has)

pub prices_one : (m : Problem) (rows : List LinRow) (times : List ℤ) (den : ℕ) (price other : Column → ℕ) → AreReduced m rows times den price → AreReduced m rows times den other → AreSamePrices m price other
prices_one m rows times den price other is also = λ i t low high t_low t_high. (
  price_one m rows times den price other is also (X i t) (low, high, t_low, t_high),
  price_one m rows times den price other is also (Y i t) (low, high, t_low, t_high),
)

module _ (m : Problem) (rank total more : ℕ → ℕ) (rows : List LinRow) (times : List ℤ) (den : ℕ) (shapes : List GroupShape) (ranks : IsRanking m rank) (totals : AreLargestTotals m total) (others : AreLargestTotals m more) where
  pub sums_one : KnownAreAlike → NumbersByBoth → NumbersAreOne → (a b : ℤ) → IsReducedSum m total rows times den shapes a → IsReducedSum m more rows times den shapes b → a ≡ b
  sums_one alike both one a b is also =
      let by = is.groups in
      let to = also.groups in
      let over = both m by.known to.known by.price to.price shapes is.amounts
      (alike m rank total more by.known to.known ranks totals others by.is_known to.is_known)
      (prices_one m rows times den by.price to.price by.reduced to.reduced) by.apart.lie.groups is.numbers in
      let same = one m to.known to.price shapes is.amounts also.amounts over also.numbers in
      is.sum_is ∙ (ap (λ xs. right_sum rows times +ℤ pos (sum_of xs)) same ∙ sym also.sum_is)

  pub choices_one : KnownAreAlike → NumbersByBoth → NumbersAreChoices → (a : ℤ) → IsReducedSum m total rows times den shapes a → LacksOneChoice m more rows times den shapes → ⊥
  choices_one alike both choices a is lacks =
      let by = is.groups in
      let to = lacks.groups in
      choices m to.known to.price shapes is.amounts
      (both m by.known to.known by.price to.price shapes is.amounts
      (alike m rank total more by.known to.known ranks totals others by.is_known to.is_known)
      (prices_one m rows times den by.price to.price by.reduced to.reduced) by.apart.lie.groups is.numbers)
      lacks.lacks

  abbrev groups_by_both : TotalsAreOne → AreGroupsFor m total rows times den shapes → AreGroupsFor m more rows times den shapes
  groups_by_both one is = record {
    known = is.known;
    is_known = known_by_both m rank total more is.known one ranks totals others is.is_known;
    price = is.price;
    reduced = is.reduced;
    apart = is.apart;
    within = is.within;
  }

  pub sum_by_both : TotalsAreOne → (sum : ℤ) → IsReducedSum m total rows times den shapes sum → IsReducedSum m more rows times den shapes sum
  sum_by_both one sum is = record { groups = groups_by_both one is.groups; amounts = is.amounts; numbers = is.numbers; sum_is = is.sum_is }

  pub lacks_by_both : TotalsAreOne → LacksOneChoice m total rows times den shapes → LacksOneChoice m more rows times den shapes
  lacks_by_both one is = record { groups = groups_by_both one is.groups; lacks = is.lacks }

-- what groups bound, the sum does
pub sum_bounds : (m : Problem) (rank total : ℕ → ℕ) (rows : List LinRow) (times : List ℤ) (den : ℕ) (shapes : List GroupShape) (sum : ℤ) → RowsAndGroupsBound → 1 ≤ m.periods → IsRanking m rank → AreLargestTotals m total → AreSigned rows times → AreOfProblem m rows → IsReducedSum m total rows times den shapes sum → (p : Plan) → IsFeasible m p → AllHold (whole_point (value_in p)) rows → sum ≤ℤ (pos den *ℤ pos (cost m p))
sum_bounds m rank total rows times den shapes sum bound some ranks totals signed columns is p f hold =
    let by = is.groups in
    subst (λ z. z ≤ℤ (pos den *ℤ pos (cost m p))) (sym is.sum_is)
    (bound m rank total by.known some ranks totals by.is_known rows times den by.price shapes is.amounts signed columns by.reduced by.apart is.numbers p f hold)

pub lacks_refutes : (m : Problem) (rank total : ℕ → ℕ) (rows : List LinRow) (times : List ℤ) (den : ℕ) (shapes : List GroupShape) → GroupsRefute → 1 ≤ m.periods → IsRanking m rank → AreLargestTotals m total → LacksOneChoice m total rows times den shapes → (p : Plan) → IsFeasible m p → ⊥
lacks_refutes m rank total rows times den shapes refute some ranks totals is p f =
    let by = is.groups in
    refute m rank total by.known some ranks totals by.is_known by.price shapes by.apart.lie.groups is.lacks p f

-- The sum of multiples of rows and the numbers of groups.
use Rattle.std.specs.Prelude.{◌≡◌, ℕ, ◌^◌, ℤ, pos, ◌+ℤ◌, ◌-ℤ◌, ◌<ℤ◌, List}
use Rattle.std.specs.List.{All}
use Rattle.lot_sizing.specs.Problem.{Problem}
use Rattle.lin_rows.specs.declared.column.Column.{Column}
use Rattle.lin_rows.specs.Combining.{right_sum}
use Rattle.lin_rows.specs.Rows.{LinRow}
use Rattle.reduced_groups.specs.Groups.{AreKnown, GroupShape, Known}
use Rattle.reduced_groups.specs.Numbers.{AreNumbersOf, SomeLacksChoice, sum_of}
use Rattle.reduced_groups.specs.Apart.{AreApart}
use Rattle.reduced_groups.specs.Rows.{AreReduced}
use Rattle.reduced_groups.specs.Floors.{IsWithinWork}
use Rattle.reduced_leaf.specs.declared.sums.ReducedSum.{ReducedSum}
use Rattle.reduced_leaf.specs.declared.sums.ReducedSum.TheVariants.{NoChoice, Sum}

-- reduced costs, of which none is below 0, groups that lie apart, with what is known of the problem, and whose work is within the limits
pub record AreGroupsFor (m : Problem) (total : ℕ → ℕ) (rows : List LinRow) (times : List ℤ) (den : ℕ) (shapes : List GroupShape) : Type 0 where
  pub known : Known
  pub is_known : AreKnown m total known
  pub price : Column → ℕ
  pub reduced : AreReduced m rows times den price
  pub apart : AreApart m known price shapes
  pub within : All (IsWithinWork m known.start known.on_time price) shapes

-- the right sides and the numbers of the groups add to this
pub record IsReducedSum (m : Problem) (total : ℕ → ℕ) (rows : List LinRow) (times : List ℤ) (den : ℕ) (shapes : List GroupShape) (sum : ℤ) : Type 0 where
  pub groups : AreGroupsFor m total rows times den shapes
  pub amounts : List ℕ
  pub numbers : AreNumbersOf m groups.known groups.price shapes amounts
  pub sum_is : sum ≡ right_sum rows times +ℤ pos (sum_of amounts)

-- one of the groups has no choice
pub record LacksOneChoice (m : Problem) (total : ℕ → ℕ) (rows : List LinRow) (times : List ℤ) (den : ℕ) (shapes : List GroupShape) : Type 0 where
  pub groups : AreGroupsFor m total rows times den shapes
  pub lacks : SomeLacksChoice m groups.known groups.price shapes

-- what is added to the right sides, and the sum, stay below 2^127
pub record IsSmallSum (rows : List LinRow) (times : List ℤ) (sum : ℤ) : Type 0 where
  pub added : (sum -ℤ right_sum rows times) <ℤ pos (2 ^ 127)
  pub small : sum <ℤ pos (2 ^ 127)

-- what rows and groups say: a sum that is small, or that a group has no choice
abbrev pub IsAnswerOf : Problem → (ℕ → ℕ) → List LinRow → List ℤ → ℕ → List GroupShape → ReducedSum → Type 0
IsAnswerOf m total rows times den shapes (Sum sum) = IsReducedSum m total rows times den shapes sum × IsSmallSum rows times sum
IsAnswerOf m total rows times den shapes NoChoice = LacksOneChoice m total rows times den shapes

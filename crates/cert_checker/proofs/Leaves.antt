-- What sums of parts say, and why they say nothing.
use Rattle.std.proofs.Common.{◌≡◌, ℕ, ap, subst, List}
use Rattle.std.specs.Prelude.{ℤ, pos, ◌*ℤ◌, ◌≤ℤ◌, ◌<ℤ◌, Result, Ok, Err, IfErr, IfOk}
use Rattle.std.specs.List.{All}
use Rattle.std.proofs.lemmas.List.Elements.{All-weaker}
use Rattle.algebra.proofs.Integers.{zero_mul}
use Rattle.lin_rows.specs.declared.column.Column.{Column}
use Rattle.lin_rows.specs.Columns.{column_cost}
use Rattle.lin_rows.specs.Sums.{Summed}
use Rattle.cert_lines.specs.declared.parts.Part.{Part}
use Rattle.cert_meaning.specs.Named.{IsNamed, Named}
use Rattle.cert_meaning.specs.Parts.{AreParts, AreSmall, IsPart, sum_of_column, sum_of_right}
use Rattle.cert_meaning.specs.Says.{IsFarkas, IsLinear, IsRoundedUp}
use Rattle.cert_checker.specs.declared.fault.CheckFault.{CheckFault}
use Rattle.cert_checker.specs.declared.fault.CheckFault.TheVariants.{Memory, Rejected}
use Rattle.cert_checker.specs.declared.fault.Why.{Why}
use Rattle.cert_checker.specs.declared.fault.Why.TheVariants.{Range, Sign, Column as LargeColumn, Short, NotPoint, Block, TooLarge, Plan, Costs, PlanMissing, Lead, Work}
use Rattle.cert_checker.specs.Leaves.{AreWithinMost, IfRejected, IsFarkasFault, IsFirstColumn, IsFirstWrong, IsGoodSum, IsShortSum, IsSumFault, farkas_most, linear_most}
use Rattle.cert_checker.specs.Named.{AreSumsOf, IsAny, IsFirstLarge, IsWithinCost}

pub named_parts : (n : Named) (parts : List Part) → AreParts n parts → All (λ part. IsNamed n part.row) parts
named_parts n parts are = All-weaker (IsPart n) (λ part. IsNamed n part.row) (λ part is. is.named) parts are

-- of a refusal, and of what was found
pub rejected_as : (fault : CheckFault) (P Q : ℕ → Why → Type 0) → ((at : ℕ) (w : Why) → P at w → Q at w) → IfRejected fault P → IfRejected fault Q
rejected_as (Rejected r) P Q so is = so r.line r.why is
rejected_as Memory P Q so is = tt

pub if_ok_with : {T F : Type 0} (r : Result T F) (P Q : T → Type 0) → ((x : T) → P x → Q x) → IfOk r P → IfOk r Q
if_ok_with (Ok x) P Q so is = so x is
if_ok_with (Err e) P Q so is = tt

pub if_err_with : {T F : Type 0} (r : Result T F) (P Q : F → Type 0) → ((e : F) → P e → Q e) → IfErr r P → IfErr r Q
if_err_with (Ok x) P Q so is = tt
if_err_with (Err e) P Q so is = so e is

-- a part that may not be taken is why the sum is refused
pub part_fault : (n : Named) (most : Column → ℤ) (parts : List Part) (line at : ℕ) (w : Why) → IsFirstWrong n parts line at w → IsSumFault n most parts line at w
part_fault n most parts line at Range first = first
part_fault n most parts line at Sign first = first
part_fault n most parts line at (LargeColumn c) first = absurd first.wrong
part_fault n most parts line at (Short says) first = absurd first.wrong
part_fault n most parts line at NotPoint first = absurd first.wrong
part_fault n most parts line at (Block i j k) first = absurd first.wrong
part_fault n most parts line at TooLarge first = absurd first.wrong
part_fault n most parts line at (Plan broken) first = absurd first.wrong
part_fault n most parts line at (Costs plan claim) first = absurd first.wrong
part_fault n most parts line at PlanMissing first = absurd first.wrong
part_fault n most parts line at Lead first = absurd first.wrong
part_fault n most parts line at Work first = absurd first.wrong

-- the sums of columns are those of the parts
pub first_column : (n : Named) (den : ℤ) (parts : List Part) (s : Summed) (c : Column) → AreSumsOf n parts s → IsFirstLarge n.problem den s IsAny c → IsFirstColumn n (linear_most n den) parts c
first_column n den parts s c are first = record {
  column = first.large.column;
  large = subst (λ z. (den *ℤ pos (column_cost n.problem c)) <ℤ z) (ap (λ t. t.sum) (are.columns c)) first.large.more;
  before = λ d has less. subst (λ z. z ≤ℤ (den *ℤ pos (column_cost n.problem d))) (ap (λ t. t.sum) (are.columns d)) (first.before d tt less has);
}

pub good_sum : (n : Named) (den : ℤ) (parts : List Part) (s : Summed) → AreParts n parts → AreSmall n parts → AreSumsOf n parts s → ((c : Column) → IsWithinCost n.problem den s c) → IsGoodSum n (linear_most n den) parts
good_sum n den parts s exist small are within = record {
  parts_exist = exist;
  small = small;
  columns = λ c has. subst (λ z. z ≤ℤ (den *ℤ pos (column_cost n.problem c))) (ap (λ t. t.sum) (are.columns c)) (within c has);
}

pub linear_is : (n : Named) (den : ℤ) (parts : List Part) (right : ℤ) (bound : ℕ) → pos 1 ≤ℤ den → IsGoodSum n (linear_most n den) parts → right ≡ sum_of_right n parts → IsRoundedUp den right bound → IsLinear n den parts bound
linear_is n den parts right bound some good same up = record {
  positive = some;
  parts_exist = good.parts_exist;
  columns = good.columns;
  right = subst (λ z. IsRoundedUp den z bound) same up;
}

-- ---- where no column may be taken
no_cost : (n : Named) (c : Column) → linear_most n (pos 0) c ≡ farkas_most c
no_cost n c = zero_mul (pos (column_cost n.problem c))

none_within : (n : Named) (parts : List Part) → AreWithinMost n (linear_most n (pos 0)) parts → AreWithinMost n farkas_most parts
none_within n parts within c has = subst (λ z. sum_of_column n parts c ≤ℤ z) (no_cost n c) (within c has)

none_first : (n : Named) (parts : List Part) (c : Column) → IsFirstColumn n (linear_most n (pos 0)) parts c → IsFirstColumn n farkas_most parts c
none_first n parts c first = record {
  column = first.column;
  large = subst (λ z. z <ℤ sum_of_column n parts c) (no_cost n c) first.large;
  before = λ d has less. subst (λ z. sum_of_column n parts d ≤ℤ z) (no_cost n d) (first.before d has less);
}

pub farkas_fault : (n : Named) (parts : List Part) (line at : ℕ) (w : Why) → IsSumFault n (linear_most n (pos 0)) parts line at w → IsFarkasFault n parts line at w
farkas_fault n parts line at Range is = is
farkas_fault n parts line at Sign is = is
farkas_fault n parts line at (LargeColumn c) is = (is.0, is.1, is.2, none_first n parts c is.3)
farkas_fault n parts line at (Short says) is = absurd is
farkas_fault n parts line at NotPoint is = absurd is
farkas_fault n parts line at (Block i j k) is = absurd is
farkas_fault n parts line at TooLarge is = is
farkas_fault n parts line at (Plan broken) is = absurd is
farkas_fault n parts line at (Costs plan claim) is = absurd is
farkas_fault n parts line at PlanMissing is = absurd is
farkas_fault n parts line at Lead is = absurd is
farkas_fault n parts line at Work is = absurd is

pub farkas_is : (n : Named) (parts : List Part) (right : ℤ) → IsGoodSum n (linear_most n (pos 0)) parts → right ≡ sum_of_right n parts → pos 0 <ℤ right → IsFarkas n parts
farkas_is n parts right good same some = record {
  parts_exist = good.parts_exist;
  columns = none_within n parts good.columns;
  right = subst (λ z. pos 0 <ℤ z) same some;
}

pub short_is : (n : Named) (parts : List Part) (right : ℤ) → IsGoodSum n (linear_most n (pos 0)) parts → right ≡ sum_of_right n parts → right ≤ℤ pos 0 → IsShortSum n parts
short_is n parts right good same none = record {
  parts_exist = good.parts_exist;
  small = good.small;
  columns = none_within n parts good.columns;
  right = subst (λ z. z ≤ℤ pos 0) same none;
}

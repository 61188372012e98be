-- The numbers of groups, group by group.
use Rattle.std.proofs.Common.{◌≡◌, ◌<◌, ◌+◌, ◌∙◌, ⊎_elim, inl, inr, ℕ, zero, suc, refl, sym, ap, subst, arith, List, [], ◌∷◌, ◌++◌}
use Rattle.std.specs.Prelude.{length, map, slice_index_or, take}
use Rattle.std.specs.List.{All}
use Rattle.std.proofs.lemmas.List.{map_push, take_more}
use Rattle.std.proofs.lemmas.List.Elements.{All-push}
use Rattle.lot_sizing.specs.Problem.{Problem}
use Rattle.lot_sizing.specs.Plan.{Table}
use Rattle.lin_rows.specs.declared.column.Column.{Column}
use Rattle.chain_dp.specs.Numbers.{IsCapped}
use Rattle.item_groups.specs.declared.group.Group.{Group}
use Rattle.reduced_groups.specs.declared.floors.Floor.{Floor}
use Rattle.reduced_groups.specs.declared.floors.Floor.TheVariants.{Least, NoChoice}
use Rattle.reduced_groups.specs.declared.floors.FloorFault.{FloorFault}
use Rattle.reduced_groups.specs.declared.floors.FloorFault.TheVariants as floor
use Rattle.reduced_groups.specs.Groups.{GroupShape, Known}
use Rattle.reduced_groups.specs.Numbers.{AreNumbersOf, IsNumberOf, LacksChoice, SomeLacksChoice, sum_of}
use Rattle.reduced_groups.specs.Prices.{PriceLists, price_in}
use Rattle.reduced_groups.specs.Floors.{IsFloorOf, IsPastLimits, IsWithinWork, WhateverIsKnown, no_group, shape_of}
use Rattle.reduced_leaf.specs.declared.sums.ReducedFault.{ReducedFault}
use Rattle.reduced_leaf.specs.Faults.{IsFirstPastAt}
use Rattle.reduced_leaf.specs.Found.{AreBoth, IsSumIn, IsSumOfFloors, IsWorkFault, StopsAt}
use Rattle.reduced_leaf.proofs.Faulty.{at_shapes, length_shapes}

-- ONE GROUP MORE

pub shapes_next : (groups : List Group) (k : ℕ) (g : Group) → k < length groups → g ≡ slice_index_or groups k g → map shape_of (take (k + 1) groups) ≡ map shape_of (take k groups) ++ shape_of g ∷ []
shapes_next groups k g less is = ap (map shape_of) (take_more groups k g less ∙ ap (λ x. take k groups ++ x ∷ []) (sym is)) ∙ map_push shape_of (take k groups) g

pub take_shapes : (k : ℕ) (groups : List Group) → take k (map shape_of groups) ≡ map shape_of (take k groups)
take_shapes zero [] = refl
take_shapes zero (g ∷ groups) = refl
take_shapes (suc k) [] = refl
take_shapes (suc k) (g ∷ groups) = ap (λ xs. shape_of g ∷ xs) (take_shapes k groups)

module _ (m : Problem) (known : Known) (price : Column → ℕ) where
  numbers_push : (shapes : List GroupShape) (s : GroupShape) (amounts : List ℕ) (a : ℕ) → AreNumbersOf m known price shapes amounts → IsNumberOf m known price s a → AreNumbersOf m known price (shapes ++ s ∷ []) (amounts ++ a ∷ [])
  numbers_push [] s [] a are is = (is, tt)
  numbers_push [] s (b ∷ amounts) a are is = absurd are
  numbers_push (u ∷ shapes) s [] a are is = absurd are
  numbers_push (u ∷ shapes) s (b ∷ amounts) a are is = (are.0, numbers_push shapes s amounts a are.1 is)

  sum_push : (amounts : List ℕ) (a : ℕ) → sum_of (amounts ++ a ∷ []) ≡ sum_of amounts + a
  sum_push [] a = omega arith
  sum_push (b ∷ amounts) a = omega (arith, sum_push amounts a)

  lacks_front : (shapes : List GroupShape) (s : GroupShape) → SomeLacksChoice m known price shapes → SomeLacksChoice m known price (shapes ++ s ∷ [])
  lacks_front [] s lacks = absurd lacks
  lacks_front (u ∷ shapes) s lacks = ⊎_elim (λ own. inl own) (λ rest. inr (lacks_front shapes s rest)) lacks

  lacks_last : (shapes : List GroupShape) (s : GroupShape) → LacksChoice m known price s → SomeLacksChoice m known price (shapes ++ s ∷ [])
  lacks_last [] s lacks = inl lacks
  lacks_last (u ∷ shapes) s lacks = inr (lacks_last shapes s lacks)

  -- a number past 128 bits stands for all above
  capped_sum : (number a x c : ℕ) → IsCapped number x → IsCapped (x + a) c → IsCapped (number + a) c
  capped_sum number a x c is also = record {
    within = omega (arith, is.within, also.within);
    fits = λ small. omega (arith, also.fits small, is.fits (omega (arith, small, also.fits small)));
  }

  -- what is found of a group, by what is known
  abbrev pub FloorIs : GroupShape → Floor → Type 0
  FloorIs s (Least a) = IsNumberOf m known price s a
  FloorIs s NoChoice = LacksChoice m known price s

  pub sum_next : (shapes : List GroupShape) (s : GroupShape) (one other result : Floor) → IsSumIn m known price shapes one → FloorIs s other → AreBoth one other result → IsSumIn m known price (shapes ++ s ∷ []) result
  sum_next shapes s (Least a) (Least b) (Least c) is own both =
      let (amounts, numbers, capped) = is in
      (amounts ++ b ∷ [], numbers_push shapes s amounts b numbers own, subst (λ n. IsCapped n c) (sym (sum_push amounts b)) (capped_sum (sum_of amounts) b a c capped both))
  sum_next shapes s (Least a) (Least b) NoChoice is own both = absurd both
  sum_next shapes s (Least a) NoChoice result is own both = subst (IsSumIn m known price (shapes ++ s ∷ [])) (sym both) (lacks_last shapes s own)
  sum_next shapes s NoChoice other result is own both = subst (IsSumIn m known price (shapes ++ s ∷ [])) (sym both) (lacks_front shapes s is)

floor_is : (m : Problem) (prices : PriceLists) (s : GroupShape) (f : Floor) → IsFloorOf m prices s f → WhateverIsKnown m (λ known. FloorIs m known (price_in prices) s f)
floor_is m prices s (Least a) is = is
floor_is m prices s NoChoice is = is

-- the sum with the floor of the next group
pub floors_next : (m : Problem) (prices : PriceLists) (groups : List Group) (k : ℕ) (g : Group) (one other result : Floor) → k < length groups → g ≡ slice_index_or groups k g → IsSumOfFloors m (price_in prices) (map shape_of (take k groups)) one → IsFloorOf m prices (shape_of g) other → AreBoth one other result → IsSumOfFloors m (price_in prices) (map shape_of (take (k + 1) groups)) result
floors_next m prices groups k g one other result less is sum own both = λ total known totals are.
    subst (λ shapes. IsSumIn m known (price_in prices) shapes result) (sym (shapes_next groups k g less is))
    (sum_next m known (price_in prices) (map shape_of (take k groups)) (shape_of g) one other result (sum total known totals are) (floor_is m prices (shape_of g) other own total known totals are) both)

pub within_next : (m : Problem) (start on_time : Table) (price : Column → ℕ) (groups : List Group) (k : ℕ) (g : Group) → k < length groups → g ≡ slice_index_or groups k g → All (IsWithinWork m start on_time price) (map shape_of (take k groups)) → IsWithinWork m start on_time price (shape_of g) → All (IsWithinWork m start on_time price) (map shape_of (take (k + 1) groups))
within_next m start on_time price groups k g less is before own =
    subst (All (IsWithinWork m start on_time price)) (sym (shapes_next groups k g less is)) (All-push (IsWithinWork m start on_time price) (map shape_of (take k groups)) (shape_of g) before own)

-- the fault of the next group
first_past : (m : Problem) (start on_time : Table) (prices : PriceLists) (groups : List Group) (k : ℕ) (g : Group) → k < length groups → g ≡ slice_index_or groups k no_group → All (IsWithinWork m start on_time (price_in prices)) (map shape_of (take k groups)) → (IsWithinWork m start on_time (price_in prices) (shape_of g) → ⊥) → IsFirstPastAt m start on_time (price_in prices) (map shape_of groups) k
first_past m start on_time prices groups k g less is before past = record {
  place = omega (arith, less, length_shapes groups);
  before = subst (All (IsWithinWork m start on_time (price_in prices))) (sym (take_shapes k groups)) before;
  past = λ within. past (subst (IsWithinWork m start on_time (price_in prices)) (at_shapes groups k ∙ ap shape_of (sym is)) within);
}

pub stops : (m : Problem) (start on_time : Table) (prices : PriceLists) (groups : List Group) (k : ℕ) (g : Group) (e : FloorFault) (result : ReducedFault) → k < length groups → g ≡ slice_index_or groups k no_group → All (IsWithinWork m start on_time (price_in prices)) (map shape_of (take k groups)) → IsPastLimits m start on_time prices (shape_of g) e → IsWorkFault k e result → StopsAt m start on_time (price_in prices) (map shape_of groups) result
stops m start on_time prices groups k g floor.Memory result less is before past told = subst (StopsAt m start on_time (price_in prices) (map shape_of groups)) (sym told) tt
stops m start on_time prices groups k g (floor.Price i t) result less is before past told = subst (StopsAt m start on_time (price_in prices) (map shape_of groups)) (sym told) (first_past m start on_time prices groups k g less is before (past (λ e. cc e)))
stops m start on_time prices groups k g floor.Entries result less is before past told = subst (StopsAt m start on_time (price_in prices) (map shape_of groups)) (sym told) (first_past m start on_time prices groups k g less is before (past (λ e. cc e)))
stops m start on_time prices groups k g floor.Horizon result less is before past told = subst (StopsAt m start on_time (price_in prices) (map shape_of groups)) (sym told) (first_past m start on_time prices groups k g less is before (past (λ e. cc e)))
stops m start on_time prices groups k g floor.TooDear result less is before past told = subst (StopsAt m start on_time (price_in prices) (map shape_of groups)) (sym told) (first_past m start on_time prices groups k g less is before (past (λ e. cc e)))

-- What the shares of groups charge, and whether reduced costs pay for it.
use Rattle.std.proofs.Common.{◌≡◌, ◌≤◌, ◌<◌, ◌+◌, ◌-◌, ◌*◌, ◌^◌, ◌∙◌, ⊎_elim, ℕ, zero, suc, refl, sym, ap, subst, arith, List, [], ◌∷◌, ◌++◌, length}
use Rattle.std.specs.Prelude.{min, map, slice_index_or, take}
use Rattle.std.proofs.lemmas.Bool.{cases_lt}
use Rattle.lot_sizing.specs.Problem.{Problem, entry, item_count}
use Rattle.lot_sizing.specs.Bill.{one_if_same}
use Rattle.lot_sizing.specs.Plan.{EachCell, Table}
use Rattle.lot_sizing.specs.Totals.{IsRanking}
use Rattle.lin_rows.specs.declared.column.Column.{Column}
use Rattle.lin_rows.specs.declared.column.Column.TheVariants.{R}
use Rattle.lin_rows.specs.Columns.{IsColumn}
use Rattle.lin_rows.specs.Sums.{Summed}
use Rattle.must_start.specs.Rows.{row_in}
use Rattle.late_starts.specs.OnTime.{AreOnTime, OnTimeIsOne}
use Rattle.late_starts.specs.Charges.{AreCharges, ChargesAgree, ChargesExist, NoShareIsCharged}
use Rattle.late_starts.specs.Rows.{AreCappedCharges, HaveCells, cell_in}
use Rattle.item_groups.specs.declared.group.Group.{Group}
use Rattle.reduced_groups.specs.Groups.{ChainGroup, GroupShape, ItemGroup, Known, LateGroup, LateQuantityGroup, QuantityGroup}
use Rattle.reduced_groups.specs.Apart.{AreCharged, items_in, share_in, share_of, times_in, times_of}
use Rattle.reduced_groups.specs.Floors.{WhateverIsKnown, shape_of}
use Rattle.reduced_leaf.specs.declared.sums.ReducedFault.{ReducedFault}
use Rattle.reduced_leaf.specs.declared.sums.ReducedFault.TheVariants as fault
use Rattle.reduced_leaf.specs.Faults.{IsFirstOver}
use Rattle.reduced_leaf.specs.Found.{ArePaidBefore, ArePaidOf, ArePaidTo, HasShares, HaveSeries, IsFirstOverIn, IsOverAs, IsPaid, StopsBy, left_price}
use Rattle.reduced_leaf.proofs.Adding.{shapes_next}

-- SHARES, group by group

share_push : (shapes : List GroupShape) (s : GroupShape) (i t : ℕ) → share_in (shapes ++ s ∷ []) i t ≡ share_in shapes i t + share_of s i t
share_push [] s i t = omega arith
share_push (u ∷ shapes) s i t = omega (arith, share_push shapes s i t)

pub share_next : (groups : List Group) (k : ℕ) (g : Group) (i t : ℕ) → k < length groups → g ≡ slice_index_or groups k g → share_in (map shape_of (take (k + 1) groups)) i t ≡ share_in (map shape_of (take k groups)) i t + share_of (shape_of g) i t
share_next groups k g i t less is = ap (λ shapes. share_in shapes i t) (shapes_next groups k g less is) ∙ share_push (map shape_of (take k groups)) (shape_of g) i t

no_times : (n x : ℕ) → n ≡ 0 → n * x ≡ 0
no_times n x none = subst (λ k. k * x ≡ 0) (sym none) (omega arith)

-- a group without the item has no share of it
none_of : (s : GroupShape) (i t : ℕ) → times_of (items_in s) i ≡ 0 → share_of s i t ≡ 0
none_of (ItemGroup k) i t none = refl
none_of (LateGroup k shares) i t none = no_times (one_if_same k i) (entry shares t) (omega (arith, none))
none_of (QuantityGroup k) i t none = refl
none_of (LateQuantityGroup k shares) i t none = no_times (one_if_same k i) (entry shares t) (omega (arith, none))
none_of (ChainGroup low rest) i t none = refl

none_in : (shapes : List GroupShape) (i t : ℕ) → times_in shapes i ≡ 0 → share_in shapes i t ≡ 0
none_in [] i t none = refl
none_in (s ∷ shapes) i t none = omega (arith, none_of s i t (omega (arith, none)), none_in shapes i t (omega (arith, none)))

-- where one group at most has an item, its share in the groups is that in the first that has it
first_shares : (groups : List Group) (k : ℕ) (d : Group) (i t : ℕ) → k < length groups → times_in (map shape_of groups) i ≤ 1 → 1 ≤ times_of (items_in (shape_of (slice_index_or groups k d))) i → share_in (map shape_of (take k groups)) i t ≡ 0 → share_in (map shape_of groups) i t ≡ share_of (shape_of (slice_index_or groups k d)) i t
first_shares [] k d i t less once has before = absurd (omega (arith, less))
first_shares (g ∷ groups) zero d i t less once has before = omega (arith, none_in (map shape_of groups) i t (omega (arith, once, has)))
first_shares (g ∷ groups) (suc k) d i t less once has before =
    let rest = first_shares groups k d i t (omega (arith, less)) (omega (arith, once)) has (omega (arith, before)) in
    omega (arith, before, rest)

pub one_shares : (groups : List Group) (k : ℕ) (d : Group) (i : ℕ) (shares : List ℕ) → k < length groups → times_in (map shape_of groups) i ≤ 1 → HasShares (shape_of (slice_index_or groups k d)) i shares → ((t : ℕ) → share_in (map shape_of (take k groups)) i t ≡ 0) → (t : ℕ) → share_in (map shape_of groups) i t ≡ entry shares t
one_shares groups k d i shares less once is before = λ t. first_shares groups k d i t less once is.has (before t) ∙ is.each t

-- no group has a share
pub none_free : (groups : List Group) → length groups ≡ 0 → (i t : ℕ) → share_in (map shape_of groups) i t ≡ 0
none_free [] none i t = refl
none_free (g ∷ groups) none i t = absurd (omega (arith, none))

pub series_cells : (m : Problem) (f : Table) (rows : List (List ℕ)) → HaveSeries (item_count m) m.periods f rows → HaveCells m rows
series_cells m f rows are = record { size = are.size; row_sizes = λ i low high. (are.each i low high).size }

-- CHARGES OF SHARES

-- shares that are the same at each item and period charge the same
charges_same : (m : Problem) (start share other charge : Table) → EachCell m (λ i t. share i t ≡ other i t) → AreCharges m start share charge → AreCharges m start other charge
charges_same m start share other charge same are = record {
  load = are.load;
  loads = record { each = λ j v low high v_low v_high. omega (arith, (are.loads).each j v low high v_low v_high, same j v low high v_low v_high) };
  each = are.each;
}

-- no share charges anything
pub none_charged : (m : Problem) (rank : ℕ → ℕ) (known : Known) (price : Column → ℕ) (shapes : List GroupShape) → ChargesExist → NoShareIsCharged → IsRanking m rank → ((i t : ℕ) → share_in shapes i t ≡ 0) → AreCharged m known price shapes
none_charged m rank known price shapes exist none ranks free =
    let (charge, are) = exist m rank known.on_time (share_in shapes) ranks in
    record {
      charge = charge;
      charges = are;
      within = λ j t has. omega (arith, none m rank known.on_time (share_in shapes) charge ranks (λ i u low high u_low u_high. free i u) are j t (has.0).0 (has.0).1 (has.0).2 (has.0).3);
    }

capped_within : (x most price : ℕ) → min x most ≤ price → price < most → x ≤ price
capped_within x most price within small = omega (arith, within, small)

capped_above : (x most price : ℕ) → price < min x most → price < x
capped_above x most price above = omega (arith, above)

module _ (m : Problem) (summed : Summed) (den : ℕ) where
  abbrev pub price : Column → ℕ
  price = left_price m summed den

  -- ONE MORE BACKLOG

  pub paid_before : (i period n : ℕ) (row : List ℕ) (left : ℕ) → n ≡ period + 1 → ArePaidBefore m summed den i row period → left ≡ price (R i period) → left < 2 ^ 128 - 1 → entry row period ≤ left → ArePaidBefore m summed den i row n
  paid_before i period n row left next before is small within = λ t low high.
      ⊎_elim
      (λ less. before t low less)
      (λ no.
      let e : period ≡ t = omega (arith, no, high, next) in
      subst (λ u. IsPaid m summed den i u (entry row u)) e (record { within = omega (arith, within, is); small = subst (λ x. x < 2 ^ 128 - 1) is small }))
      (cases_lt t period)

  pub paid_to : (item n : ℕ) (rows : List (List ℕ)) → n ≡ item + 1 → ArePaidTo m summed den rows item → ArePaidOf m summed den n (row_in rows n) → ArePaidTo m summed den rows n
  paid_to item n rows next before own = λ i low high.
      ⊎_elim
      (λ less. before i low (omega (arith, less, next)))
      (λ no. let e : n ≡ i = omega (arith, no, high) in subst (λ j. ArePaidOf m summed den j (row_in rows j)) e own)
      (cases_lt i n)

  -- ALL THAT IS KNOWN

  module _ (rank : ℕ → ℕ) (start : Table) (shares rows : List (List ℕ)) (shapes : List GroupShape) (one : OnTimeIsOne) (agree : ChargesAgree) (ranks : IsRanking m rank) (on_time : AreOnTime m start) (series : HaveSeries (item_count m) m.periods (share_in shapes) shares) (found : AreCappedCharges m start (cell_in shares) rows) where
    charges_known : (total : ℕ → ℕ) (known : Known) → AreOnTime m known.on_time → AreCharges m known.on_time (share_in shapes) found.charge
    charges_known total known are =
        agree m start known.on_time (share_in shapes) found.charge (one m rank start known.on_time ranks on_time are)
        (charges_same m start (cell_in shares) (share_in shapes) found.charge (λ i t low high t_low t_high. (series.each i low high).each t t_low t_high) found.charges)

    paid_within : (j t : ℕ) → IsColumn m (R j t) → IsPaid m summed den j t (cell_in rows j t) → found.charge j t ≤ price (R j t)
    paid_within j t has is =
        capped_within (found.charge j t) (2 ^ 128 - 1) (price (R j t)) (subst (λ x. x ≤ price (R j t)) (found.each j t (has.0).0 (has.0).1 (has.0).2 (has.0).3) is.within) is.small

    pub shares_paid : ArePaidTo m summed den rows (item_count m) → WhateverIsKnown m (λ known. AreCharged m known price shapes)
    shares_paid paid = λ total known totals are. record {
      charge = found.charge;
      charges = charges_known total known are.on_time;
      within = λ j t has. paid_within j t has (paid j (has.0).0 (has.0).1 has.2 t (has.0).2 has.1);
    }

    first_over : (item period : ℕ) → IsFirstOverIn m summed den rows item period → IsFirstOver m price found.charge item period
    first_over item period is =
        let own = is.over in
        record {
          column = ((is.low, is.high, own.some, omega (arith, own.early)), own.early, own.late);
          above = capped_above (found.charge item period) (2 ^ 128 - 1) (price (R item period)) (subst (λ x. price (R item period) < x) (found.each item period is.low is.high own.some (omega (arith, own.early))) own.above);
          before = λ j t has comes. paid_within j t has (⊎_elim
              (λ less. is.before j (has.0).0 (omega (arith, less)) has.2 t (has.0).2 has.1)
              (λ same. subst (λ k. IsPaid m summed den k t (cell_in rows k t)) (sym same.0) (own.before t (has.0).2 same.1))
              comes);
        }

    pub over_known : (e : ReducedFault) → IsOverAs m summed den rows e → WhateverIsKnown m (StopsBy m price shapes e)
    over_known (fault.Group k) is = absurd is
    over_known (fault.Twice i) is = absurd is
    over_known (fault.Charge i t) is = λ total known totals are. record {
      charge = found.charge;
      charges = charges_known total known are.on_time;
      first = first_over i t is;
    }
    over_known (fault.Work k) is = absurd is
    over_known fault.TooLarge is = absurd is
    over_known fault.Memory is = absurd is

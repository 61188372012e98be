-- Each leaf over reduced costs says enough for a claim or has a fault: whichever largest totals are taken.
use Rattle.std.proofs.Common.{◌≡◌, ◌≤◌, ◌<◌, ◌+◌, ◌^◌, ◌⊎◌, ⊎_elim, inl, inr, ℕ, suc, refl, sym, subst, arith, List, [], ◌∷◌, length, take, slice_index_or}
use Rattle.std.specs.Prelude.{ℤ, pos, negsuc, ◌+ℤ◌, ◌-ℤ◌, ◌*ℤ◌, ◌≤ℤ◌, ◌<ℤ◌, map, unsigned_abs}
use Rattle.std.specs.List.{All, flat_map}
use Rattle.std.proofs.lemmas.Bool.{cases_eq}
use Rattle.std.proofs.lemmas.Int.{by_lt_z}
use Rattle.std.proofs.lemmas.List.Elements.{All-append, All-cons, All-head, All-nil, All-tail}
use Rattle.algebra.proofs.Order.{linear}
use Rattle.lot_sizing.specs.Problem.{EachItem, IsWithinLimits, Problem}
use Rattle.lot_sizing.specs.Plan.{Table}
use Rattle.lot_sizing.specs.Totals.{AreLargestTotals, IsRanking}
use Rattle.lin_rows.specs.declared.bound.Bound.{Bound}
use Rattle.lin_rows.specs.declared.column.Column.{Column}
use Rattle.lin_rows.specs.declared.column.Column.TheVariants.{R}
use Rattle.lin_rows.specs.Columns.{column_cost}
use Rattle.lin_rows.specs.Combining.{AreOfProblem, right_sum}
use Rattle.lin_rows.specs.Rows.{LinRow}
use Rattle.must_start.specs.Lots.{IsLargestLot}
use Rattle.late_starts.specs.Charges.{AreCharges, ChargesExist}
use Rattle.item_groups.specs.declared.group.Group.{Group}
use Rattle.reduced_groups.specs.declared.apart.GroupFault.{GroupFault}
use Rattle.reduced_groups.specs.declared.apart.GroupFault.TheVariants as place
use Rattle.reduced_groups.specs.Groups.{AreKnown, GroupShape, Known}
use Rattle.reduced_groups.specs.Numbers.{SomeLacksChoice, sum_of}
use Rattle.reduced_groups.specs.Rows.{AreReduced, reduced_cost}
use Rattle.reduced_groups.specs.Apart.{AreApart, LieApart, share_in}
use Rattle.reduced_groups.specs.Floors.{IsGroupFaultOf, IsWithinWork, shape_of}
use Rattle.reduced_leaf.specs.declared.sums.ReducedFault.TheVariants as reduced
use Rattle.reduced_leaf.specs.Leaf.{AreGroupsFor, IsReducedSum, IsSmallSum, LacksOneChoice}
use Rattle.reduced_leaf.specs.Faults.{IsFirstOver, IsFirstPast, IsOvercharged}
use Rattle.reduced_leaf.specs.Laws.{ChoicesAreOne, KnownExists, LacksByBoth, SumByBoth, SumsAreOne}
use Rattle.group_existence.specs.Laws.{GroupsAreJudged, IsPastFirst, NumbersExist, WorkIsJudged}
use Rattle.cert_lines.specs.declared.parts.Claim.{Claim}
use Rattle.cert_lines.specs.declared.parts.Part.{Part}
use Rattle.cert_lines.specs.Shapes.{ListShape, ReducedLeaf}
use Rattle.cert_trees.specs.Paths.{AreChoices}
use Rattle.cert_trees.specs.Ranges.{WithTotals, whole_ranges}
use Rattle.cert_meaning.specs.declared.says.LeafSays.TheVariants.{NoPlan, AtLeast}
use Rattle.cert_meaning.specs.Named.{Named, names}
use Rattle.cert_meaning.specs.Parts.{AreParts, IsPart, rows_of, times_of}
use Rattle.cert_meaning.specs.Lists.{AreListed, all_parts, parts_of_list}
use Rattle.cert_meaning.specs.Says.{GroupLacksChoice, IsRanked, IsSumOf, Says}
use Rattle.cert_meaning.specs.Accepts.{IsSmallLeaf}
use Rattle.cert_checker.specs.declared.fault.Why.{Why}
use Rattle.cert_checker.specs.declared.fault.Why.TheVariants as why
use Rattle.cert_checker.specs.Leaves.{IsGoodSum, IsGroupsFault, IsList, IsWrongList, no_list}
use Rattle.cert_checker.specs.Checks.{IsGoodLeaf, IsNodeFault, ground}
use Rattle.existence.proofs.Deciding.{Decided}
use Rattle.answers_exist.proofs.Enough.{enough_or_not, has_rounded_up, none_is_enough}
use Rattle.answers_exist.proofs.Grouping.{charged_or_over}
use Rattle.answers_exist.proofs.Sums.{good_same, not_both, parts_out, parts_same, range_wrong, rows_same, sign_wrong, sum_out}

-- what the laws below say
pub record ReducedGrounds : Type 0 where
  pub exists : KnownExists
  pub charges : ChargesExist
  pub numbers : NumbersExist
  pub judged : GroupsAreJudged
  pub work : WorkIsJudged
  pub sums : SumByBoth
  pub lacks : LacksByBoth
  pub one : SumsAreOne
  pub choices : ChoicesAreOne

-- a number of at least 0
natural : (z : ℤ) → pos 0 ≤ℤ z → z ≡ pos (unsigned_abs z)
natural (pos k) low = refl
natural (negsuc k) low = absurd (omega (arith, linear, low))

module _
    (by : ReducedGrounds) (m : Problem) (limits : IsWithinLimits m) (rank : ℕ → ℕ) (ranks : IsRanking m rank)
    (a : ℕ → ℕ) (totals_a : AreLargestTotals m a) (one : (b : ℕ → ℕ) → AreLargestTotals m b → EachItem m (λ i. a i ≡ b i))
    (cuts : List LinRow) (of_cuts : AreOfProblem m cuts) (claim : Claim) (path : List Bound) (choices : AreChoices m path) where
  abbrev here : (ℕ → ℕ) → Named
  here b = names m b cuts path

  abbrev Same : (ℕ → ℕ) → Type 0
  Same b = EachItem m (λ i. a i ≡ b i)

  ranked : (b : ℕ → ℕ) → AreLargestTotals m b → IsRanked m b
  ranked b totals = record { rank = rank; ranks = ranks; totals = totals }

  -- ---- lists of parts
  list_out : (x : ListShape) → IsList (here a) x ⊎ ((w : Why) × WithTotals m (λ b. IsWrongList (here b) x w))
  list_out x =
      ⊎_elim
      (λ each. ⊎_elim
      (λ are. inl (record { each = each; parts_exist = are }))
      (λ wrong. ⊎_elim
      (λ range. inr (why.Range, λ b totals. inr (each, 0 + 1 + range.0, range_wrong m limits a one cuts path b (one b totals) (parts_of_list x) 0 range)))
      (λ sign. inr (why.Sign, λ b totals. inr (each, 0 + 1 + sign.0, sign_wrong m limits a one cuts path b (one b totals) (parts_of_list x) 0 sign)))
      wrong)
      (parts_out m limits a one cuts path (parts_of_list x)))
      (λ no. inr (why.Range, λ b totals. inl (refl, no)))
      (cases_eq (length x.times) m.periods)

  abbrev WrongList : List ListShape → Type 0
  WrongList lists =
      (place : ℕ) × (place < length lists) × All (IsList (here a)) (take place lists)
      × ((w : Why) × WithTotals m (λ b. IsWrongList (here b) (slice_index_or lists place no_list) w))

  lists_out : (lists : List ListShape) → All (IsList (here a)) lists ⊎ WrongList lists
  lists_out [] = inl (All-nil (IsList (here a)))
  lists_out (x ∷ lists) =
      let P = IsList (here a) in
      ⊎_elim
      (λ is. ⊎_elim
      (λ are. inl (All-cons P x lists is are))
      (λ wrong. inr (suc wrong.0, omega (arith, wrong.1), All-cons P x (take wrong.0 lists) is wrong.2, wrong.3))
      (lists_out lists))
      (λ wrong. inr (0, omega arith, All-nil P, wrong))
      (list_out x)

  lists_to : (b : ℕ → ℕ) → Same b → (lists : List ListShape) → All (IsList (here a)) lists → All (IsList (here b)) lists
  lists_to b same lists are = λ k d less.
      let is = are k d less in
      record { each = is.each; parts_exist = parts_same m limits a one cuts path b same (parts_of_list (slice_index_or lists k d)) is.parts_exist }

  flat_are : (lists : List ListShape) → All (IsList (here a)) lists → AreParts (here a) (flat_map parts_of_list lists)
  flat_are [] are = All-nil (IsPart (here a))
  flat_are (x ∷ lists) are =
      let P = IsList (here a) in
      All-append (IsPart (here a)) (parts_of_list x) (flat_map parts_of_list lists) (All-head P x lists are).parts_exist (flat_are lists (All-tail P x lists are))

  listed : (parts : List Part) (lists : List ListShape) → AreParts (here a) parts → All (IsList (here a)) lists → AreListed (here a) parts lists
  listed parts lists are lists_are = record {
    parts_exist = All-append (IsPart (here a)) parts (flat_map parts_of_list lists) are (flat_are lists lists_are);
    each = λ k d less. (lists_are k d less).each;
  }

  listed_to : (b : ℕ → ℕ) → Same b → (parts : List Part) (lists : List ListShape) → AreListed (here a) parts lists → AreListed (here b) parts lists
  listed_to b same parts lists is = record { parts_exist = parts_same m limits a one cuts path b same (all_parts parts lists) is.parts_exist; each = is.each }

  -- ---- what is known by one of the largest totals is known by the others
  lot_to : (b : ℕ → ℕ) (i t lot : ℕ) → a i ≡ b i → IsLargestLot m a i t lot → IsLargestLot m b i t lot
  lot_to b i t lot same is = record {
    possible = ⊎_elim (λ p. inl (record { in_all = subst (λ n. lot ≤ n) same p.in_all; most = p.most; time = p.time })) (λ none. inr none) is.possible;
    largest = λ x p. is.largest x (record { in_all = subst (λ n. x ≤ n) (sym same) p.in_all; most = p.most; time = p.time });
  }

  known_to : (b : ℕ → ℕ) → Same b → (known : Known) → AreKnown m a known → AreKnown m b known
  known_to b same known are = record {
    start = are.start;
    on_time = are.on_time;
    lot = λ i t low high t_low t_high. lot_to b i t (known.lot i t) (same i low high) (are.lot i t low high t_low t_high);
  }

  -- ---- a leaf whose parts and lists may be taken, and whose sums are good
  module _
      (parts : List Part) (lists : List ListShape) (groups : List Group) (parts_are : AreParts (here a) parts) (lists_are : All (IsList (here a)) lists) where
    abbrev all : List Part
    all = all_parts parts lists

    abbrev shapes : List GroupShape
    shapes = map shape_of groups

    abbrev rows : List LinRow
    rows = rows_of (here a) all

    abbrev times : List ℤ
    times = times_of all

    is_listed : AreListed (here a) parts lists
    is_listed = listed parts lists parts_are lists_are

    same_rows : (b : ℕ → ℕ) → Same b → rows ≡ rows_of (here b) all
    same_rows b same = rows_same m limits a one cuts path b same all is_listed.parts_exist

    module _ (den line : ℕ) (good : IsGoodSum (here a) (λ c. pos den *ℤ pos (column_cost m c)) all) where
      abbrev Good : Type 0
      Good = WithTotals m (λ b. IsGoodLeaf (ground m b cuts claim) path (ReducedLeaf den parts lists groups))

      abbrev Fault : Type 0
      Fault = (at : ℕ) × (w : Why) × WithTotals m (λ b. IsNodeFault (ground m b cuts claim) path (ReducedLeaf den parts lists groups) line at w)

      first : ℕ
      first = line + 1 + length parts + length lists

      good_to : (b : ℕ → ℕ) → Same b → IsGoodSum (here b) (λ c. pos den *ℤ pos (column_cost m c)) all
      good_to b same = good_same m limits a one cuts path of_cuts choices b same (λ c. pos den *ℤ pos (column_cost m c)) all good

      -- a fault of the groups
      group_fault : (at : ℕ) (w : Why) → WithTotals m (λ b. IsGroupsFault (here b) den all groups line (line + 1 + length parts + length lists) at w) → Fault
      group_fault at w faults = (
        at,
        w,
        λ b totals.
            let same = one b totals in
            inl (inr (parts_same m limits a one cuts path b same parts parts_are, inr (lists_to b same lists lists_are, inr (good_to b same, faults b totals)))),
      )

      price : Column → ℕ
      price c = unsigned_abs (reduced_cost m rows times den c)

      is_reduced : AreReduced m rows times den price
      unfolding price
      is_reduced c has = natural (reduced_cost m rows times den c) (omega (arith, linear, good.columns c has))

      -- ---- groups that lie apart, and whose shares are paid for by the backlogs
      module _ (known : Known) (are : AreKnown m a known) (apart : AreApart m known price shapes) where
        past_fault : (k : ℕ) → IsPastFirst m known.start known.on_time price shapes k → Fault
        past_fault k past =
            group_fault (line + 1 + length parts + length lists + k) why.Work
            (λ b totals.
            let same = one b totals in (
              ranked b totals,
              inl (
                reduced.Work k,
                (refl, refl),
                subst (λ rs. IsFirstPast m b rs times den shapes k) (same_rows b same) (record {
                  known = known;
                  is_known = known_to b same known are;
                  price = price;
                  reduced = is_reduced;
                  apart = apart;
                  first = record { place = past.place; before = past.before; past = past.past };
                }),
              ),
            ))

        module _ (within : All (IsWithinWork m known.start known.on_time price) shapes) where
          are_groups : AreGroupsFor m a rows times den shapes
          are_groups = record { known = known; is_known = are; price = price; reduced = is_reduced; apart = apart; within = within }

          sum_to : (sum : ℤ) → IsReducedSum m a rows times den shapes sum → (b : ℕ → ℕ) → AreLargestTotals m b → IsSumOf (here b) den all groups sum
          sum_to sum is b totals = subst (λ rs. IsReducedSum m b rs times den shapes sum) (same_rows b (one b totals)) (by.sums m rank a b rows times den shapes ranks totals_a totals sum is)

          small_to : (sum : ℤ) → IsSmallSum rows times sum → (b : ℕ → ℕ) → AreLargestTotals m b → IsSmallSum (rows_of (here b) all) times sum
          small_to sum is b totals = subst (λ rs. IsSmallSum rs times sum) (same_rows b (one b totals)) is

          lacks_out : SomeLacksChoice m known price shapes → Good
          unfolding are_groups
          lacks_out lacks b totals =
              let same = one b totals in
              let none : LacksOneChoice m a rows times den shapes = record { groups = are_groups; lacks = lacks } in
              let other : GroupLacksChoice (here b) den all groups = subst (λ rs. LacksOneChoice m b rs times den shapes) (same_rows b same) (by.lacks m rank a b rows times den shapes ranks totals_a totals none) in (
                (NoPlan, record { ranked = ranked b totals; listed = listed_to b same parts lists is_listed; refuted = inl other }, none_is_enough claim),
                ((good_to b same).small, λ sum adds. absurd (by.choices m rank b b (rows_of (here b) all) times den shapes ranks totals totals sum adds other)),
              )

          module _ (sum : ℤ) (adds : IsReducedSum m a rows times den shapes sum) where
            large_fault : (IsSmallSum rows times sum → ⊥) → Fault
            large_fault large =
                group_fault line why.TooLarge
                (λ b totals. (
                  ranked b totals,
                  inl (
                    reduced.TooLarge,
                    (refl, refl),
                    (sum, sum_to sum adds b totals, λ is. large (subst (λ rs. IsSmallSum rs times sum) (sym (same_rows b (one b totals))) is)),
                  ),
                ))

            module _ (small : IsSmallSum rows times sum) where
              all_small : (b : ℕ → ℕ) → AreLargestTotals m b → IsSmallLeaf (here b) (ReducedLeaf den parts lists groups)
              all_small b totals = (
                (good_to b (one b totals)).small,
                λ other also.
                    let e = by.one m rank b b (rows_of (here b) all) times den shapes ranks totals totals sum other (sum_to sum adds b totals) also in
                    subst (λ z. IsSmallSum (rows_of (here b) all) times z) e (small_to sum small b totals),
              )

              refuted_out : den ≡ 0 → pos 0 <ℤ sum → Good
              refuted_out none some b totals = (
                (
                  NoPlan,
                  record { ranked = ranked b totals; listed = listed_to b (one b totals) parts lists is_listed; refuted = inr (none, sum, sum_to sum adds b totals, some) },
                  none_is_enough claim,
                ),
                all_small b totals,
              )

              short_out : den ≡ 0 → sum ≤ℤ pos 0 → Fault
              short_out none low =
                  group_fault line (why.Short 0)
                  (λ b totals. (
                    ranked b totals,
                    inr (
                      refl,
                      refl,
                      none,
                      record { sum = sum; adds = subst (λ d. IsSumOf (here b) d all groups sum) none (sum_to sum adds b totals); small = small_to sum small b totals; none = low },
                    ),
                  ))

              bound_out : 1 ≤ den → Good ⊎ Fault
              bound_out some =
                  let rounded = has_rounded_up (pos den) sum (omega (arith, linear, some)) in
                  let says : (b : ℕ → ℕ) → AreLargestTotals m b → Says (here b) (whole_ranges b) (ReducedLeaf den parts lists groups) (AtLeast rounded.0) = λ b totals.
                  record {
                    ranked = ranked b totals;
                    listed = listed_to b (one b totals) parts lists is_listed;
                    positive = some;
                    sum = sum;
                    adds = sum_to sum adds b totals;
                    right = rounded.1;
                  } in
                  ⊎_elim
                  (λ enough. inl (λ b totals. ((AtLeast rounded.0, says b totals, enough), all_small b totals)))
                  (λ short. inr (line, why.Short rounded.0, λ b totals. inr (rounded.0, refl, refl, record { says = says b totals; small = all_small b totals; short = short })))
                  (enough_or_not claim rounded.0)

              small_out : Good ⊎ Fault
              small_out =
                  ⊎_elim
                  (λ none. by_lt_z (pos 0) sum (λ some. inl (refuted_out none some)) (λ low. inr (short_out none low)))
                  (λ some. bound_out (omega (arith, some)))
                  (cases_eq den 0)

            amount_out : Good ⊎ Fault
            amount_out =
                ⊎_elim
                (λ added. ⊎_elim
                (λ less. small_out (record { added = added; small = less }))
                (λ no. inr (large_fault (λ is. no is.small)))
                (less_or_not sum (pos (2 ^ 127))))
                (λ no. inr (large_fault (λ is. no is.added)))
                (less_or_not (sum -ℤ right_sum rows times) (pos (2 ^ 127)))
              where
                less_or_not : (x y : ℤ) → Decided (x <ℤ y)
                less_or_not x y = by_lt_z x y (λ less. inl less) (λ le. inr (λ less. not_both x y less le))

          numbers_out : Good ⊎ Fault
          unfolding are_groups
          numbers_out =
              ⊎_elim
              (λ found. amount_out (right_sum rows times +ℤ pos (sum_of found.0)) (record { groups = are_groups; amounts = found.0; numbers = found.1; sum_is = refl }))
              (λ lacks. inl (lacks_out lacks))
              (by.numbers m known price groups)

        apart_out : Good ⊎ Fault
        apart_out = ⊎_elim (λ within. numbers_out within) (λ past. inr (past_fault past.0 past.1)) (by.work m known.start known.on_time price groups)

      -- ---- groups that lie apart
      module _ (lie : LieApart m shapes) (known : Known) (are : AreKnown m a known) (charge : Table) (charges : AreCharges m known.on_time (share_in shapes) charge) where
        over_fault : (i t : ℕ) → IsFirstOver m price charge i t → Fault
        over_fault i t over =
            group_fault line (why.Column (R i t))
            (λ b totals.
            let same = one b totals in (
              ranked b totals,
              inl (
                reduced.Charge i t,
                (refl, refl),
                subst (λ rs. IsOvercharged m b rs times den shapes i t) (same_rows b same) (record {
                  known = known;
                  is_known = known_to b same known are;
                  price = price;
                  reduced = is_reduced;
                  lie = lie;
                  charge = charge;
                  charges = charges;
                  first = over;
                }),
              ),
            ))

        charged_out : Good ⊎ Fault
        charged_out =
            ⊎_elim
            (λ within. apart_out known are (record { lie = lie; charged = record { charge = charge; charges = charges; within = within } }))
            (λ over. inr (over_fault over.0 over.1 over.2))
            (charged_or_over m limits price charge)

      place_fault : (fault : GroupFault) → IsGroupFaultOf m groups fault → Fault
      place_fault (place.Group k) is = group_fault (line + 1 + length parts + length lists + k) why.Range (λ b totals. (ranked b totals, inl (reduced.Group k, (refl, refl), is)))
      place_fault (place.Twice i) is = group_fault line why.Range (λ b totals. (ranked b totals, inl (reduced.Twice i, (refl, refl), is)))

      groups_are_out : Good ⊎ Fault
      groups_are_out =
          ⊎_elim
          (λ lie.
          let known = by.exists m rank a ranks totals_a in
          let charged = by.charges m rank known.0.on_time (share_in shapes) ranks in
          charged_out lie known.0 known.1 charged.0 charged.1)
          (λ other. inr (place_fault other.0 other.1))
          (by.judged m groups)

  pub reduced_out : (den : ℕ) (parts : List Part) (lists : List ListShape) (groups : List Group) (line : ℕ)
      → WithTotals m (λ b. IsGoodLeaf (ground m b cuts claim) path (ReducedLeaf den parts lists groups))
      ⊎ ((at : ℕ) × (w : Why) × WithTotals m (λ b. IsNodeFault (ground m b cuts claim) path (ReducedLeaf den parts lists groups) line at w))
  reduced_out den parts lists groups line =
      ⊎_elim
      (λ parts_are. ⊎_elim
      (λ lists_are. ⊎_elim
      (λ good. groups_are_out parts lists groups parts_are lists_are den line good)
      (λ fault. inr (
        fault.0,
        fault.1,
        λ b totals. let same = one b totals in inl (inr (parts_same m limits a one cuts path b same parts parts_are, inr (lists_to b same lists lists_are, inl (fault.2 b totals)))),
      ))
      (sum_out m limits a one cuts path of_cuts choices (λ c. pos den *ℤ pos (column_cost m c)) (all_parts parts lists) line))
      (λ wrong. inr (
        line + length parts + 1 + wrong.0,
        wrong.3.0,
        λ b totals.
            let same = one b totals in
            inl (inr (
              parts_same m limits a one cuts path b same parts parts_are,
              inl (record { place = wrong.0; exists = wrong.1; before = lists_to b same (take wrong.0 lists) wrong.2; wrong = wrong.3.1 b totals; number = refl }),
            )),
      ))
      (lists_out lists))
      (λ wrong. ⊎_elim
      (λ range. inr (line + 1 + range.0, why.Range, λ b totals. inl (inl (range_wrong m limits a one cuts path b (one b totals) parts line range))))
      (λ sign. inr (line + 1 + sign.0, why.Sign, λ b totals. inl (inl (sign_wrong m limits a one cuts path b (one b totals) parts line sign))))
      wrong)
      (parts_out m limits a one cuts path parts)

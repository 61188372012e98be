-- What a leaf over reduced costs says, and why it says nothing.
use Rattle.std.proofs.Common.{◌≡◌, ◌+◌, ◌<◌, ◌^◌, ℕ, inl, inr, ap, subst, arith, List, length, map}
use Rattle.std.specs.Prelude.{ℤ, pos}
use Rattle.std.specs.List.{All}
use Rattle.std.proofs.lemmas.List.{length-map}
use Rattle.lot_sizing.specs.Problem.{Problem}
use Rattle.lot_sizing.specs.Totals.{AreLargestTotals, IsRanking}
use Rattle.lin_rows.specs.declared.bound.Bound.{Bound}
use Rattle.lin_rows.specs.Rows.{LinRow}
use Rattle.lin_rows.specs.Sums.{Summed}
use Rattle.item_groups.specs.declared.group.Group.{Group}
use Rattle.reduced_groups.specs.Floors.{shape_of}
use Rattle.reduced_leaf.specs.declared.sums.ReducedFault.{ReducedFault}
use Rattle.reduced_leaf.specs.declared.sums.ReducedFault.TheVariants as fault
use Rattle.reduced_leaf.specs.declared.sums.ReducedSum.{ReducedSum}
use Rattle.reduced_leaf.specs.declared.sums.ReducedSum.TheVariants.{NoChoice, Sum}
use Rattle.reduced_leaf.specs.Faults.{AreSumsOf as AreSumsOfRows, IsReducedFaultOf, OfSums}
use Rattle.reduced_leaf.specs.Laws.{ChoicesAreOne, SumsAreOne}
use Rattle.reduced_leaf.specs.Leaf.{IsAnswerOf, IsSmallSum}
use Rattle.cert_lines.specs.declared.parts.Part.{Part}
use Rattle.cert_lines.specs.Shapes.{LeafShape, ListShape, ReducedLeaf}
use Rattle.cert_trees.specs.Ranges.{Ranges, WithTotals, whole_ranges}
use Rattle.cert_meaning.specs.declared.says.LeafSays.{LeafSays}
use Rattle.cert_meaning.specs.declared.says.LeafSays.TheVariants.{AtLeast, NoPlan}
use Rattle.cert_meaning.specs.Named.{Named, names}
use Rattle.cert_meaning.specs.Parts.{AreParts, AreSmall, rows_of, times_of}
use Rattle.cert_meaning.specs.Lists.{all_parts}
use Rattle.cert_meaning.specs.Says.{GroupLacksChoice, IsRanked, IsSumOf, Says}
use Rattle.cert_meaning.specs.Accepts.{IsSmallLeaf}
use Rattle.cert_checker.specs.declared.fault.CheckFault.{CheckFault}
use Rattle.cert_checker.specs.declared.fault.Why.{Why}
use Rattle.cert_checker.specs.Leaves.{HasLine, IfRejected, IsFaultOfLeaf, IsFirstWrong, IsFirstWrongList, IsGoodSum, IsLeafFault, IsList, IsReducedFault, IsRefusedAs, IsSaidBy, IsShortBy, IsShortReduced, IsSumFault, LeafIsSmall, LeafSaysThis, WithNames, linear_most}
use Rattle.cert_checker.specs.Named.{AreSumsOf}
use Rattle.cert_checker.proofs.CheckRefusals.{rejected_weaker}
use Rattle.cert_checker.proofs.Listed.{listed}

-- the answer of the groups of a leaf is of its parts
pub rows_summed : (n : Named) (parts : List Part) (s : Summed) → AreSumsOf n parts s → AreSumsOfRows n.problem s (rows_of n parts) (times_of parts)
rows_summed n parts s are = record {
  columns = λ c is. ap (λ t. t.sum) (are.columns c);
  right = ap (λ t. t.sum) are.right;
}

module _ (n : Named) (den : ℕ) (parts : List Part) (lists : List ListShape) (groups : List Group) where
  -- ---- what it says
  pub says_sum : (ranges : Ranges) (sum : ℤ) (says : LeafSays) → IsRanked n.problem n.total → AreParts n parts → All (IsList n) lists → IsSumOf n den (all_parts parts lists) groups sum → IsSaidBy den sum says → Says n ranges (ReducedLeaf den parts lists groups) says
  says_sum ranges sum NoPlan ranked are also adds said = record { ranked = ranked; listed = listed n parts lists are also; refuted = inr (said.0, sum, adds, said.1) }
  says_sum ranges sum (AtLeast bound) ranked are also adds said =
      record { ranked = ranked; listed = listed n parts lists are also; positive = said.0; sum = sum; adds = adds; right = said.1 }

  pub says_none : (ranges : Ranges) → IsRanked n.problem n.total → AreParts n parts → All (IsList n) lists → GroupLacksChoice n den (all_parts parts lists) groups → Says n ranges (ReducedLeaf den parts lists groups) NoPlan
  says_none ranges ranked are also lacks = record { ranked = ranked; listed = listed n parts lists are also; refuted = inl lacks }

  -- ---- its sums are small
  pub small_sum : (sum : ℤ) → SumsAreOne → IsRanked n.problem n.total → AreSmall n (all_parts parts lists) → IsSumOf n den (all_parts parts lists) groups sum → IsSmallSum (rows_of n (all_parts parts lists)) (times_of (all_parts parts lists)) sum → IsSmallLeaf n (ReducedLeaf den parts lists groups)
  small_sum sum one ranked small adds is =
      let all = all_parts parts lists in
      let rows = rows_of n all in
      (small, λ other also. subst (IsSmallSum rows (times_of all)) (one n.problem ranked.rank n.total n.total rows (times_of all) den (map shape_of groups) ranked.ranks ranked.totals ranked.totals sum other adds also) is)

  pub small_none : ChoicesAreOne → IsRanked n.problem n.total → AreSmall n (all_parts parts lists) → GroupLacksChoice n den (all_parts parts lists) groups → IsSmallLeaf n (ReducedLeaf den parts lists groups)
  small_none choices ranked small lacks =
      let all = all_parts parts lists in
      (small, λ other also. absurd (choices n.problem ranked.rank n.total n.total (rows_of n all) (times_of all) den (map shape_of groups) ranked.ranks ranked.totals ranked.totals other also lacks))

  -- ---- why it is refused
  module _ (line at : ℕ) (w : Why) where
    pub refused_part : IsFirstWrong n parts line at w → IsReducedFault n den parts lists groups line at w
    refused_part first = inl first

    pub refused_list : AreParts n parts → IsFirstWrongList n lists (line + length parts) at w → IsReducedFault n den parts lists groups line at w
    refused_list are first = inr (are, inl first)

    pub refused_sum : AreParts n parts → All (IsList n) lists → IsSumFault n (linear_most n (pos den)) (all_parts parts lists) line at w → IsReducedFault n den parts lists groups line at w
    refused_sum are also sum = inr (are, inr (also, inl sum))

    pub refused_groups : (first : ℕ) (f : ReducedFault) → IsRanked n.problem n.total → AreParts n parts → All (IsList n) lists → IsGoodSum n (linear_most n (pos den)) (all_parts parts lists) → first ≡ line + 1 + length parts + length lists → IsRefusedAs f line first at w → IsReducedFaultOf n.problem n.total (rows_of n (all_parts parts lists)) (times_of (all_parts parts lists)) den groups f → IsReducedFault n den parts lists groups line at w
    refused_groups first f ranked are also good place told is =
        inr (are, inr (also, inr (good, (ranked, inl (f, subst (λ x. IsRefusedAs f line x at w) place told, is)))))

    pub refused_short : (sum : ℤ) → IsRanked n.problem n.total → AreParts n parts → All (IsList n) lists → IsGoodSum n (linear_most n (pos den)) (all_parts parts lists) → IsSumOf n den (all_parts parts lists) groups sum → IsSmallSum (rows_of n (all_parts parts lists)) (times_of (all_parts parts lists)) sum → IsShortBy den sum line at w → IsReducedFault n den parts lists groups line at w
    refused_short sum ranked are also good adds small short =
        let all = all_parts parts lists in
        let adds_none : IsSumOf n 0 all groups sum = subst (λ d. IsSumOf n d all groups sum) short.2 adds in
        let nothing : IsShortReduced n all groups = record { sum = sum; adds = adds_none; small = small; none = short.3 } in
        inr (are, inr (also, inr (good, (ranked, inr (short.0, short.1, short.2, nothing)))))

-- a fault of a group is on a line that is there
pub has_line : (m : Problem) (total : ℕ → ℕ) (rows : List LinRow) (times : List ℤ) (den : ℕ) (groups : List Group) (f : ReducedFault) (first : ℕ) → IsReducedFaultOf m total rows times den groups f → first + length groups < 2 ^ 64 → HasLine f first
has_line m total rows times den groups (fault.Group k) first is few = omega (arith, is.place, few)
has_line m total rows times den groups (fault.Twice i) first is few = tt
has_line m total rows times den groups (fault.Charge i t) first is few = tt
has_line m total rows times den groups (fault.Work k) first is few = omega (arith, is.first.place, few, length-map groups shape_of)
has_line m total rows times den groups fault.TooLarge first is few = tt
has_line m total rows times den groups fault.Memory first is few = tt

-- ---- whatever the largest totals are: parts and lists that may be taken, whose sums are good and these
module _ (m : Problem) (cuts : List LinRow) (path : List Bound) (den : ℕ) (parts : List Part) (lists : List ListShape) (groups : List Group) (line : ℕ) (s : Summed) (ranked : (rank : ℕ → ℕ) × IsRanking m rank) (are : (total : ℕ → ℕ) → AreParts (names m total cuts path) parts) (also : (total : ℕ → ℕ) → All (IsList (names m total cuts path)) lists) (good : WithTotals m (λ total. IsGoodSum (names m total cuts path) (linear_most (names m total cuts path) (pos den)) (all_parts parts lists))) (sums : WithTotals m (λ total. AreSumsOf (names m total cuts path) (all_parts parts lists) s)) where
  abbrev pub leaf : LeafShape
  leaf = ReducedLeaf den parts lists groups

  abbrev pub all : List Part
  all = all_parts parts lists

  -- what is said of the sums is said of the rows of the leaf
  of_rows : (P : (ℕ → ℕ) → List LinRow → List ℤ → Type 0) → OfSums m s P → (total : ℕ → ℕ) → AreLargestTotals m total → P total (rows_of (names m total cuts path) all) (times_of all)
  of_rows P is total totals =
      let n = names m total cuts path in
      is total (rows_of n all) (times_of all) totals (rows_summed n all s (sums total totals))

  ranked_by : (total : ℕ → ℕ) → AreLargestTotals m total → IsRanked m total
  ranked_by total totals = record { rank = ranked.0; ranks = ranked.1; totals = totals }

  abbrev pub IsAnswer : ReducedSum → Type 0
  IsAnswer answer = OfSums m s (λ total rows times. IsAnswerOf m total rows times den (map shape_of groups) answer)

  answer_at : (answer : ReducedSum) → IsAnswer answer → (total : ℕ → ℕ) → AreLargestTotals m total → IsAnswerOf m total (rows_of (names m total cuts path) all) (times_of all) den (map shape_of groups) answer
  answer_at answer is total totals = of_rows (λ total rows times. IsAnswerOf m total rows times den (map shape_of groups) answer) is total totals

  -- a sum
  pub sum_says : (sum : ℤ) (says : LeafSays) → IsAnswer (Sum sum) → IsSaidBy den sum says → LeafSaysThis m cuts path leaf says
  sum_says sum says is said total totals =
      says_sum (names m total cuts path) den parts lists groups (whole_ranges total) sum says (ranked_by total totals) (are total) (also total) (answer_at (Sum sum) is total totals).0 said

  pub sum_small : (sum : ℤ) → SumsAreOne → IsAnswer (Sum sum) → LeafIsSmall m cuts path leaf
  sum_small sum one is total totals =
      let here = answer_at (Sum sum) is total totals in
      small_sum (names m total cuts path) den parts lists groups sum one (ranked_by total totals) (good total totals).small here.0 here.1

  pub sum_short : (sum : ℤ) (f : CheckFault) → IsAnswer (Sum sum) → IfRejected f (IsShortBy den sum line) → IsFaultOfLeaf m cuts path leaf line f
  sum_short sum f is bad =
      rejected_weaker f (IsShortBy den sum line) (λ at w. WithNames m cuts path (λ n ranges. IsLeafFault n ranges leaf line at w))
      (λ at w short total totals.
      let here = answer_at (Sum sum) is total totals in
      refused_short (names m total cuts path) den parts lists groups line at w sum (ranked_by total totals) (are total) (also total) (good total totals) here.0 here.1 short)
      bad

  -- a group without a choice
  pub none_says : IsAnswer NoChoice → LeafSaysThis m cuts path leaf NoPlan
  none_says is total totals =
      says_none (names m total cuts path) den parts lists groups (whole_ranges total) (ranked_by total totals) (are total) (also total) (answer_at NoChoice is total totals)

  pub none_small : ChoicesAreOne → IsAnswer NoChoice → LeafIsSmall m cuts path leaf
  none_small choices is total totals =
      small_none (names m total cuts path) den parts lists groups choices (ranked_by total totals) (good total totals).small (answer_at NoChoice is total totals)

  -- a fault of groups
  abbrev pub HasFault : ReducedFault → Type 0
  HasFault g = OfSums m s (λ total rows times. IsReducedFaultOf m total rows times den groups g)

  pub fault_line : (g : ReducedFault) (first : ℕ) → (total : ℕ → ℕ) → AreLargestTotals m total → HasFault g → first + length groups < 2 ^ 64 → HasLine g first
  fault_line g first total totals is few =
      has_line m total (rows_of (names m total cuts path) all) (times_of all) den groups g first (of_rows (λ total rows times. IsReducedFaultOf m total rows times den groups g) is total totals) few

  pub fault_refused : (g : ReducedFault) (first : ℕ) (f : CheckFault) → first ≡ line + 1 + length parts + length lists → HasFault g → IfRejected f (IsRefusedAs g line first) → IsFaultOfLeaf m cuts path leaf line f
  fault_refused g first f place is bad =
      rejected_weaker f (IsRefusedAs g line first) (λ at w. WithNames m cuts path (λ n ranges. IsLeafFault n ranges leaf line at w))
      (λ at w told total totals.
      refused_groups (names m total cuts path) den parts lists groups line at w first g (ranked_by total totals) (are total) (also total) (good total totals) place told
      (of_rows (λ total rows times. IsReducedFaultOf m total rows times den groups g) is total totals))
      bad

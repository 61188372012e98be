-- A leaf over reduced costs that says something isn't refused.
use Rattle.std.proofs.Common.{◌≡◌, ◌≢◌, ◌+◌, ⊎_elim, ℕ, sym, subst, arith, List, length, map}
use Rattle.std.specs.Prelude.{ℤ, pos, ◌<ℤ◌}
use Rattle.algebra.proofs.Order.{linear}
use Rattle.item_groups.specs.declared.group.Group.{Group}
use Rattle.reduced_groups.specs.Floors.{shape_of}
use Rattle.reduced_leaf.specs.declared.sums.ReducedFault.{ReducedFault}
use Rattle.reduced_leaf.specs.declared.sums.ReducedFault.TheVariants as reduced
use Rattle.reduced_leaf.specs.declared.sums.ReducedSum.{ReducedSum}
use Rattle.reduced_leaf.specs.declared.sums.ReducedSum.TheVariants.{NoChoice, Sum}
use Rattle.reduced_leaf.specs.Faults.{IsReducedFaultOf}
use Rattle.reduced_leaf.specs.Laws.{ChoicesAreOne, FaultsAreOne, FaultsExclude, SumsAreOne}
use Rattle.reduced_leaf.specs.Leaf.{AreGroupsFor, IsAnswerOf, IsSmallSum}
use Rattle.cert_lines.specs.declared.parts.Part.{Part}
use Rattle.cert_lines.specs.Shapes.{ListShape, ReducedLeaf}
use Rattle.cert_trees.specs.Ranges.{Ranges}
use Rattle.cert_meaning.specs.declared.says.LeafSays.{LeafSays}
use Rattle.cert_meaning.specs.declared.says.LeafSays.TheVariants.{AtLeast, NoPlan}
use Rattle.cert_meaning.specs.Named.{Named}
use Rattle.cert_meaning.specs.Parts.{AreSmall, rows_of, times_of}
use Rattle.cert_meaning.specs.Lists.{AreListed, all_parts}
use Rattle.cert_meaning.specs.Says.{GroupLacksChoice, IsRanked, IsSumOf, Says}
use Rattle.cert_meaning.specs.Accepts.{IsSmallLeaf}
use Rattle.cert_meaning.specs.Laws.{SaysAreOne}
use Rattle.cert_checker.specs.declared.fault.Why.{Why}
use Rattle.cert_checker.specs.Leaves.{AreWithinMost, IsGroupsFault, IsReducedFault, IsRefusedAs, IsShortReduced, linear_most}
use Rattle.cert_checker.proofs.Listed.{listed_lists, listed_parts, no_first_wrong_list}
use Rattle.cert_checker.proofs.SumNever.{no_first_wrong, no_sum_fault}

-- what is known of leaves: they say one thing; sums over reduced costs are one, as is why there is none
pub record AreLeafLaws : Type 0 where
  pub says : SaysAreOne
  pub sums : SumsAreOne
  pub choices : ChoicesAreOne
  pub exclude : FaultsExclude
  pub faults : FaultsAreOne

pub leaf_laws : SaysAreOne → SumsAreOne → ChoicesAreOne → FaultsExclude → FaultsAreOne → AreLeafLaws
leaf_laws says sums choices exclude faults = record { says = says; sums = sums; choices = choices; exclude = exclude; faults = faults }

-- a refusal isn't want of memory
pub not_memory : (f : ReducedFault) (line first at : ℕ) (w : Why) → IsRefusedAs f line first at w → f ≢ reduced.Memory
not_memory f line first at w told is = subst (λ g. IsRefusedAs g line first at w) is told

-- where there are prices that are the reduced costs, none is below 0
within_costs : (n : Named) (den : ℕ) (parts : List Part) (groups : List Group) → AreGroupsFor n.problem n.total (rows_of n parts) (times_of parts) den (map shape_of groups) → AreWithinMost n (linear_most n (pos den)) parts
within_costs n den parts groups are c is = omega (arith, linear, are.reduced c is)

module _ (n : Named) (den : ℕ) (parts : List Part) (groups : List Group) (laws : AreLeafLaws) (ranked : IsRanked n.problem n.total) where
  abbrev pub AnswerOf : ReducedSum → Type 0
  AnswerOf answer = IsAnswerOf n.problem n.total (rows_of n parts) (times_of parts) den (map shape_of groups) answer

  -- where the groups have an answer, none of them is refused
  pub answer_excludes : (answer : ReducedSum) (f : ReducedFault) (line first at : ℕ) (w : Why) → AnswerOf answer → IsRefusedAs f line first at w → IsReducedFaultOf n.problem n.total (rows_of n parts) (times_of parts) den groups f → ⊥
  answer_excludes answer f line first at w is told fault =
      laws.exclude n.problem ranked.rank n.total (rows_of n parts) (times_of parts) den groups f answer ranked.ranks ranked.totals (not_memory f line first at w told) fault is

  -- there is one sum, and where there is one each group has a choice
  one_sum : (a b : ℤ) → IsSumOf n den parts groups a → IsSumOf n den parts groups b → a ≡ b
  one_sum a b is also =
      laws.sums n.problem ranked.rank n.total n.total (rows_of n parts) (times_of parts) den (map shape_of groups) ranked.ranks ranked.totals ranked.totals a b is also

  no_choice : (sum : ℤ) → IsSumOf n den parts groups sum → GroupLacksChoice n den parts groups → ⊥
  no_choice sum is lacks =
      laws.choices n.problem ranked.rank n.total n.total (rows_of n parts) (times_of parts) den (map shape_of groups) ranked.ranks ranked.totals ranked.totals sum is lacks

  -- so the groups of a leaf that says something aren't refused
  no_groups_fault : (answer : ReducedSum) (line first at : ℕ) (w : Why) → AnswerOf answer → (den ≡ 0 → IsShortReduced n parts groups → ⊥) → IsGroupsFault n den parts groups line first at w → ⊥
  no_groups_fault answer line first at w is enough bad =
      ⊎_elim
      (λ fault. answer_excludes answer fault.0 line first at w is fault.1 fault.2)
      (λ short. enough short.2 short.3)
      bad.1

  abbrev sum_none : den ≡ 0 → (short : IsShortReduced n parts groups) → IsSumOf n den parts groups short.sum
  sum_none zero short = subst (λ d. IsSumOf n d parts groups short.sum) (sym zero) short.adds

  enough_positive : (sum : ℤ) → IsSumOf n den parts groups sum → pos 0 <ℤ sum → den ≡ 0 → IsShortReduced n parts groups → ⊥
  enough_positive sum is some zero short = omega (arith, linear, some, short.none, one_sum sum short.sum is (sum_none zero short))

  enough_lacking : GroupLacksChoice n den parts groups → den ≡ 0 → IsShortReduced n parts groups → ⊥
  enough_lacking lacks zero short = no_choice short.sum (sum_none zero short) lacks

  -- of a sum, and of a group without a choice
  pub no_fault_of_sum : (sum : ℤ) (line first at : ℕ) (w : Why) → IsSumOf n den parts groups sum → IsSmallSum (rows_of n parts) (times_of parts) sum → (den ≡ 0 → pos 0 <ℤ sum) → IsGroupsFault n den parts groups line first at w → ⊥
  no_fault_of_sum sum line first at w is small some bad =
      no_groups_fault (Sum sum) line first at w (is, small) (λ zero short. enough_positive sum is (some zero) zero short) bad

  pub no_fault_of_none : (line first at : ℕ) (w : Why) → GroupLacksChoice n den parts groups → IsGroupsFault n den parts groups line first at w → ⊥
  no_fault_of_none line first at w lacks bad = no_groups_fault NoChoice line first at w lacks (enough_lacking lacks) bad

module _ (n : Named) (den : ℕ) (parts : List Part) (lists : List ListShape) (groups : List Group) where
  -- parts and lists may be taken, and no reduced cost is below 0
  no_earlier_fault : (line at : ℕ) (w : Why) → AreListed n parts lists → AreSmall n (all_parts parts lists) → AreWithinMost n (linear_most n (pos den)) (all_parts parts lists) → ((first : ℕ) → IsGroupsFault n den (all_parts parts lists) groups line first at w → ⊥) → IsReducedFault n den parts lists groups line at w → ⊥
  no_earlier_fault line at w are small within none bad =
      ⊎_elim
      (λ part. no_first_wrong n parts line at w (listed_parts n parts lists are) part)
      (λ later. ⊎_elim
      (λ list. no_first_wrong_list n lists (line + length parts) at w (listed_lists n parts lists are) list)
      (λ last. ⊎_elim
      (λ sum. no_sum_fault n (linear_most n (pos den)) (all_parts parts lists) line at w are.parts_exist small within sum)
      (λ end. none (line + 1 + length parts + length lists) end.1)
      last.1)
      later.1)
      bad

  no_fault_with_sum : (line at : ℕ) (w : Why) (sum : ℤ) → AreLeafLaws → IsRanked n.problem n.total → AreListed n parts lists → IsSumOf n den (all_parts parts lists) groups sum → (den ≡ 0 → pos 0 <ℤ sum) → IsSmallLeaf n (ReducedLeaf den parts lists groups) → IsReducedFault n den parts lists groups line at w → ⊥
  no_fault_with_sum line at w sum laws ranked are is some small bad =
      let all = all_parts parts lists in
      no_earlier_fault line at w are small.0 (within_costs n den all groups is.groups)
      (λ first fault. no_fault_of_sum n den all groups laws ranked sum line first at w is (small.1 sum is) some fault)
      bad

  no_fault_without : (line at : ℕ) (w : Why) → AreLeafLaws → IsRanked n.problem n.total → AreListed n parts lists → GroupLacksChoice n den (all_parts parts lists) groups → IsSmallLeaf n (ReducedLeaf den parts lists groups) → IsReducedFault n den parts lists groups line at w → ⊥
  no_fault_without line at w laws ranked are lacks small bad =
      let all = all_parts parts lists in
      no_earlier_fault line at w are small.0 (within_costs n den all groups lacks.groups)
      (λ first fault. no_fault_of_none n den all groups laws ranked line first at w lacks fault)
      bad

  pub no_reduced_fault : (ranges : Ranges) (says : LeafSays) (line at : ℕ) (w : Why) → AreLeafLaws → Says n ranges (ReducedLeaf den parts lists groups) says → IsSmallLeaf n (ReducedLeaf den parts lists groups) → IsReducedFault n den parts lists groups line at w → ⊥
  no_reduced_fault ranges NoPlan line at w laws is small bad =
      ⊎_elim
      (λ lacks. no_fault_without line at w laws is.ranked is.listed lacks small bad)
      (λ refutes. no_fault_with_sum line at w refutes.1 laws is.ranked is.listed refutes.2 (λ zero. refutes.3) small bad)
      is.refuted
  no_reduced_fault ranges (AtLeast bound) line at w laws is small bad =
      no_fault_with_sum line at w is.sum laws is.ranked is.listed is.adds (λ zero. absurd (omega (arith, zero, is.positive))) small bad

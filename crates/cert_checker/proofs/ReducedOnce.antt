-- A leaf over reduced costs is refused on one line, and for one cause.
use Rattle.std.proofs.Common.{◌≡◌, ◌∙◌, ◌+◌, ◌⊎◌, ℕ, inl, inr, sym, subst, List, length}
use Rattle.std.specs.Prelude.{pos}
use Rattle.std.specs.List.{All}
use Rattle.lot_sizing.specs.Problem.{IsWithinLimits}
use Rattle.item_groups.specs.declared.group.Group.{Group}
use Rattle.reduced_leaf.specs.declared.sums.ReducedFault.{ReducedFault}
use Rattle.reduced_leaf.specs.declared.sums.ReducedFault.TheVariants as reduced
use Rattle.reduced_leaf.specs.declared.sums.ReducedSum.TheVariants.{Sum}
use Rattle.reduced_leaf.specs.Faults.{IsReducedFaultOf}
use Rattle.cert_lines.specs.declared.parts.Part.{Part}
use Rattle.cert_lines.specs.Shapes.{ListShape}
use Rattle.cert_meaning.specs.Named.{Named}
use Rattle.cert_meaning.specs.Parts.{AreParts, rows_of, times_of}
use Rattle.cert_meaning.specs.Lists.{all_parts}
use Rattle.cert_meaning.specs.Says.{IsRanked, IsSumOf}
use Rattle.cert_checker.specs.declared.fault.Why.{Why}
use Rattle.cert_checker.specs.declared.fault.Why.TheVariants as why
use Rattle.cert_checker.specs.Laws.{IsSameFault}
use Rattle.cert_checker.specs.Leaves.{IsFirstWrong, IsFirstWrongList, IsGoodSum, IsGroupsFault, IsList, IsReducedFault, IsRefusedAs, IsShortReduced, IsSumFault, linear_most}
use Rattle.cert_checker.proofs.Listed.{no_first_wrong_list, one_first_list}
use Rattle.cert_checker.proofs.ReducedNever.{AreLeafLaws, answer_excludes, not_memory}
use Rattle.cert_checker.proofs.SumNever.{no_first_wrong, no_sum_fault}
use Rattle.cert_checker.proofs.SumOnce.{one_first, one_sum}

-- two refusals of this kind name one line, and one cause
abbrev IsOne : (ℕ → Why → Type 0) → Type 0
IsOne A = (at other : ℕ) (w v : Why) → A at w → A other v → IsSameFault at w other v

-- a stage, and what comes where all is good in it
abbrev Then : (ℕ → Why → Type 0) → Type 0 → (ℕ → Why → Type 0) → ℕ → Why → Type 0
Then A Good B at w = A at w ⊎ (Good × B at w)

one_stage : (A B : ℕ → Why → Type 0) (Good : Type 0) → IsOne A → IsOne B → ((at : ℕ) (w : Why) → Good → A at w → ⊥) → IsOne (Then A Good B)
one_stage A B Good one next none at other w v (inl x) (inl y) = one at other w v x y
one_stage A B Good one next none at other w v (inl x) (inr y) = absurd (none at w y.0 x)
one_stage A B Good one next none at other w v (inr x) (inl y) = absurd (none other v x.0 y)
one_stage A B Good one next none at other w v (inr x) (inr y) = next at other w v x.1 y.1

-- the same fault of groups is refused in the same way
same_refusal : (f : ReducedFault) (line first : ℕ) → IsOne (IsRefusedAs f line first)
same_refusal (reduced.Group k) line first at other w v a b = (a.0 ∙ sym b.0, a.1 ∙ sym b.1)
same_refusal (reduced.Twice i) line first at other w v a b = (a.0 ∙ sym b.0, a.1 ∙ sym b.1)
same_refusal (reduced.Charge i t) line first at other w v a b = (a.0 ∙ sym b.0, a.1 ∙ sym b.1)
same_refusal (reduced.Work k) line first at other w v a b = (a.0 ∙ sym b.0, a.1 ∙ sym b.1)
same_refusal reduced.TooLarge line first at other w v a b = (a.0 ∙ sym b.0, a.1 ∙ sym b.1)
same_refusal reduced.Memory line first at other w v a b = absurd a

module _ (n : Named) (den : ℕ) (parts : List Part) (groups : List Group) (laws : AreLeafLaws) (line first : ℕ) where
  -- a fault of groups as it is refused, and numbers that refute nothing
  abbrev Refused : ℕ → Why → Type 0
  Refused at w = (f : ReducedFault) × IsRefusedAs f line first at w × IsReducedFaultOf n.problem n.total (rows_of n parts) (times_of parts) den groups f

  abbrev Shorter : ℕ → Why → Type 0
  Shorter at w = (at ≡ line) × (w ≡ why.Short 0) × (den ≡ 0) × IsShortReduced n parts groups

  one_refused : IsRanked n.problem n.total → IsOne Refused
  one_refused ranked at other w v a b =
      let same : a.0 ≡ b.0 = laws.faults n.problem ranked.rank n.total (rows_of n parts) (times_of parts) den groups a.0 b.0 ranked.ranks ranked.totals (not_memory a.0 line first at w a.1) (not_memory b.0 line first other v b.1) a.2 b.2 in
      same_refusal b.0 line first at other w v (subst (λ f. IsRefusedAs f line first at w) same a.1) b.1

  not_both : (at other : ℕ) (w v : Why) → IsRanked n.problem n.total → Refused at w → Shorter other v → ⊥
  not_both at other w v ranked a b =
      let short = b.3 in
      let adds : IsSumOf n den parts groups short.sum = subst (λ d. IsSumOf n d parts groups short.sum) (sym b.2) short.adds in
      answer_excludes n den parts groups laws ranked (Sum short.sum) a.0 line first at w (adds, short.small) a.1 a.2

  by_groups : (at other : ℕ) (w v : Why) → IsRanked n.problem n.total → Refused at w ⊎ Shorter at w → Refused other v ⊎ Shorter other v → IsSameFault at w other v
  by_groups at other w v ranked (inl a) (inl b) = one_refused ranked at other w v a b
  by_groups at other w v ranked (inl a) (inr b) = absurd (not_both at other w v ranked a b)
  by_groups at other w v ranked (inr a) (inl b) = absurd (not_both other at v w ranked b a)
  by_groups at other w v ranked (inr a) (inr b) = (a.0 ∙ sym b.0, a.1 ∙ sym b.1)

  one_of_groups : IsOne (IsGroupsFault n den parts groups line first)
  one_of_groups at other w v a b = by_groups at other w v a.0 a.1 b.1

module _ (n : Named) (den : ℕ) (parts : List Part) (lists : List ListShape) (groups : List Group) (laws : AreLeafLaws) (limits : IsWithinLimits n.problem) (line : ℕ) where
  abbrev all : List Part
  all = all_parts parts lists

  abbrev OfGroups : ℕ → Why → Type 0
  OfGroups = IsGroupsFault n den all groups line (line + 1 + length parts + length lists)

  abbrev OfSums : ℕ → Why → Type 0
  OfSums = IsSumFault n (linear_most n (pos den)) all line

  abbrev OfLists : ℕ → Why → Type 0
  OfLists = IsFirstWrongList n lists (line + length parts)

  from_sums : IsOne (Then OfSums (IsGoodSum n (linear_most n (pos den)) all) OfGroups)
  from_sums =
      one_stage OfSums OfGroups (IsGoodSum n (linear_most n (pos den)) all)
      (λ at other w v a b. one_sum n all line (linear_most n (pos den)) at other w v limits a b)
      (one_of_groups n den all groups laws line (line + 1 + length parts + length lists))
      (λ at w good bad. no_sum_fault n (linear_most n (pos den)) all line at w good.parts_exist good.small good.columns bad)

  from_lists : IsOne (Then OfLists (All (IsList n) lists) (Then OfSums (IsGoodSum n (linear_most n (pos den)) all) OfGroups))
  from_lists =
      one_stage OfLists (Then OfSums (IsGoodSum n (linear_most n (pos den)) all) OfGroups) (All (IsList n) lists)
      (one_first_list n lists (line + length parts))
      from_sums
      (λ at w are bad. no_first_wrong_list n lists (line + length parts) at w are bad)

  pub one_reduced : (at other : ℕ) (w v : Why) → IsReducedFault n den parts lists groups line at w → IsReducedFault n den parts lists groups line other v → IsSameFault at w other v
  one_reduced =
      one_stage (IsFirstWrong n parts line) (Then OfLists (All (IsList n) lists) (Then OfSums (IsGoodSum n (linear_most n (pos den)) all) OfGroups)) (AreParts n parts)
      (one_first n parts line)
      from_lists
      (λ at w are bad. no_first_wrong n parts line at w are bad)

-- Parts and their sums are refused on one line, and for one cause.
use Rattle.std.proofs.Common.{◌≡◌, ◌∙◌, ◌<◌, ◌≤◌, ◌+◌, ◌^◌, ◌⊎◌, ℕ, ⊎_elim, inl, inr, refl, sym, ap, subst, arith, List, length, slice_index_or, take}
use Rattle.std.specs.Prelude.{ℤ}
use Rattle.std.proofs.lemmas.Bool.{cases_order}
use Rattle.std.proofs.lemmas.List.{get_or-take, length-take-le}
use Rattle.std.proofs.lemmas.List.Elements.{All-get_or}
use Rattle.algebra.proofs.Order.{linear}
use Rattle.lot_sizing.specs.Problem.{IsWithinLimits, Problem, item_count}
use Rattle.lin_rows.specs.declared.column.Column.{Column}
use Rattle.lin_rows.specs.Columns.{IsColumn, order_of}
use Rattle.cert_lines.specs.declared.parts.Part.{Part}
use Rattle.cert_meaning.specs.Named.{Named}
use Rattle.cert_meaning.specs.Parts.{AreParts, IsPart}
use Rattle.cert_meaning.proofs.Columns.{column_small, one_place}
use Rattle.cert_checker.specs.declared.fault.Why.{Why}
use Rattle.cert_checker.specs.declared.fault.Why.TheVariants as why
use Rattle.cert_checker.specs.Leaves.{IsFirstColumn, IsFirstWrong, IsSumFault, IsWrongPart, farkas_most, no_part}
use Rattle.cert_checker.specs.Laws.{IsSameFault}
use Rattle.cert_checker.proofs.CheckKinds.{IsLargeColumn, IsLargeSum, IsShortFarkas, IsUnnamed, IsUnsigned, part_kind, sum_kind}
use Rattle.cert_checker.proofs.SumNever.{no_first_wrong, no_sum_fault, no_wrong_part}

-- columns of a problem at one place are the same
same_place : (m : Problem) (c d : Column) → IsWithinLimits m → IsColumn m c → IsColumn m d → order_of c ≡ order_of d → c ≡ d
same_place m c d limits is also same =
    let items : item_count m < 2 ^ 32 = omega (arith, limits.items) in
    let periods : m.periods < 2 ^ 32 = omega (arith, limits.periods) in
    one_place c d (column_small m c items periods is) (column_small m d items periods also) same

one_column : (n : Named) (most : Column → ℤ) (parts : List Part) (c d : Column) → IsWithinLimits n.problem → IsFirstColumn n most parts c → IsFirstColumn n most parts d → c ≡ d
one_column n most parts c d limits a b =
    ⊎_elim
    (λ same. same_place n.problem c d limits a.column b.column same)
    (⊎_elim
    (λ sooner. absurd (omega (arith, linear, a.large, b.before c a.column sooner)))
    (λ later. absurd (omega (arith, linear, b.large, a.before d b.column later))))
    (cases_order (order_of c) (order_of d))

-- parts
one_wrong : (n : Named) (part : Part) (w v : Why) → IsUnnamed n part w ⊎ IsUnsigned n part w → IsUnnamed n part v ⊎ IsUnsigned n part v → w ≡ v
one_wrong n part w v (inl a) (inl b) = a.cause ∙ sym b.cause
one_wrong n part w v (inl a) (inr b) = absurd (a.none b.named)
one_wrong n part w v (inr a) (inl b) = absurd (b.none a.named)
one_wrong n part w v (inr a) (inr b) = a.cause ∙ sym b.cause

-- none of the parts that may be taken is wrong
pub none_before : (n : Named) (parts : List Part) (k j : ℕ) (w : Why) → AreParts n (take k parts) → j < k → k < length parts → IsWrongPart n (slice_index_or parts j no_part) w → ⊥
none_before n parts k j w are less within wrong =
    let few : k ≤ length parts = omega (arith, within) in
    let in_front : j < length (take k parts) = omega (arith, less, length-take-le k parts few) in
    let is : IsPart n (slice_index_or parts j no_part) = subst (IsPart n) (get_or-take k parts j no_part less) (All-get_or (IsPart n) (take k parts) j no_part in_front are) in
    no_wrong_part n (slice_index_or parts j no_part) w is wrong

pub one_first : (n : Named) (parts : List Part) (line at other : ℕ) (w v : Why) → IsFirstWrong n parts line at w → IsFirstWrong n parts line other v → IsSameFault at w other v
one_first n parts line at other w v a b =
    ⊎_elim
    (λ same. (
      a.number ∙ ap (λ k. line + 1 + k) same ∙ sym b.number,
      one_wrong n (slice_index_or parts b.place no_part) w v
          (part_kind n (slice_index_or parts b.place no_part) w (subst (λ k. IsWrongPart n (slice_index_or parts k no_part) w) same a.wrong))
          (part_kind n (slice_index_or parts b.place no_part) v b.wrong),
    ))
    (⊎_elim
    (λ sooner. absurd (none_before n parts b.place a.place w b.before sooner b.exists a.wrong))
    (λ later. absurd (none_before n parts a.place b.place v a.before later a.exists b.wrong)))
    (cases_order a.place b.place)

-- sums
module _ (n : Named) (parts : List Part) (line : ℕ) where
  by_kinds : (most : Column → ℤ) (at other : ℕ) (w v : Why) → IsWithinLimits n.problem → IsFirstWrong n parts line at w ⊎ (IsLargeSum n parts line at w ⊎ IsLargeColumn n most parts line at w) → IsFirstWrong n parts line other v ⊎ (IsLargeSum n parts line other v ⊎ IsLargeColumn n most parts line other v) → IsSameFault at w other v
  by_kinds most at other w v limits (inl a) (inl b) = one_first n parts line at other w v a b
  by_kinds most at other w v limits (inl a) (inr (inl b)) = absurd (no_first_wrong n parts line at w b.parts_exist a)
  by_kinds most at other w v limits (inl a) (inr (inr b)) = absurd (no_first_wrong n parts line at w b.parts_exist a)
  by_kinds most at other w v limits (inr (inl a)) (inl b) = absurd (no_first_wrong n parts line other v a.parts_exist b)
  by_kinds most at other w v limits (inr (inl a)) (inr (inl b)) = (a.place ∙ sym b.place, a.cause ∙ sym b.cause)
  by_kinds most at other w v limits (inr (inl a)) (inr (inr b)) = absurd (a.large b.small)
  by_kinds most at other w v limits (inr (inr a)) (inl b) = absurd (no_first_wrong n parts line other v a.parts_exist b)
  by_kinds most at other w v limits (inr (inr a)) (inr (inl b)) = absurd (b.large a.small)
  by_kinds most at other w v limits (inr (inr a)) (inr (inr b)) =
      (a.place ∙ sym b.place, a.cause ∙ ap why.Column (one_column n most parts a.column b.column limits a.first b.first) ∙ sym b.cause)

  pub one_sum : (most : Column → ℤ) (at other : ℕ) (w v : Why) → IsWithinLimits n.problem → IsSumFault n most parts line at w → IsSumFault n most parts line other v → IsSameFault at w other v
  one_sum most at other w v limits a b = by_kinds most at other w v limits (sum_kind n most parts line at w a) (sum_kind n most parts line other v b)

  pub by_farkas : (at other : ℕ) (w v : Why) → IsWithinLimits n.problem → IsShortFarkas n parts line at w ⊎ IsSumFault n farkas_most parts line at w → IsShortFarkas n parts line other v ⊎ IsSumFault n farkas_most parts line other v → IsSameFault at w other v
  by_farkas at other w v limits (inl a) (inl b) = (a.place ∙ sym b.place, a.cause ∙ sym b.cause)
  by_farkas at other w v limits (inl a) (inr b) = absurd (no_sum_fault n farkas_most parts line other v a.short.parts_exist a.short.small a.short.columns b)
  by_farkas at other w v limits (inr a) (inl b) = absurd (no_sum_fault n farkas_most parts line at w b.short.parts_exist b.short.small b.short.columns a)
  by_farkas at other w v limits (inr a) (inr b) = one_sum farkas_most at other w v limits a b

  pub by_rounding : (at other : ℕ) (w v : Why) → IsFirstWrong n parts line at w ⊎ IsLargeSum n parts line at w → IsFirstWrong n parts line other v ⊎ IsLargeSum n parts line other v → IsSameFault at w other v
  by_rounding at other w v (inl a) (inl b) = one_first n parts line at other w v a b
  by_rounding at other w v (inl a) (inr b) = absurd (no_first_wrong n parts line at w b.parts_exist a)
  by_rounding at other w v (inr a) (inl b) = absurd (no_first_wrong n parts line other v a.parts_exist b)
  by_rounding at other w v (inr a) (inr b) = (a.place ∙ sym b.place, a.cause ∙ sym b.cause)

-- What a path leaves of a range is what its bounds allow.
use Rattle.std.proofs.Common.{◌≡◌, ◌*◌, ⊎_elim, ℕ, refl, sym, ap, subst, arith, Bool, true, false, List, [], ◌∷◌, ◌++◌, slice_index_or}
use Rattle.std.specs.Prelude.{◌↔◌, if◌then◌else◌}
use Rattle.std.proofs.lemmas.Bool.{cases_Bool}
use Rattle.std.proofs.lemmas.List.Elements.{All-cons, All-head, All-nil, All-tail}
use Rattle.lot_sizing.specs.Problem.{Problem}
use Rattle.lot_sizing.specs.Plan.{Plan}
use Rattle.lin_rows.specs.declared.bound.Bound.{Bound}
use Rattle.lin_rows.specs.declared.column.Column.{Column}
use Rattle.lin_rows.specs.declared.column.Column.TheVariants.{X, Y, S, R}
use Rattle.lin_rows.specs.Bounds.{MeetsBound, IsWithinNumber}
use Rattle.lin_rows.specs.Columns.{IsColumn, value_in}
use Rattle.lin_rows.specs.Rows.{Values, whole_point}
use Rattle.lin_rows.specs.Sums.{same_column}
use Rattle.lin_rows.proofs.Below.{one_by_parts}
use Rattle.lin_rows.proofs.Cells.{same_self}
use Rattle.cert_trees.specs.Spans.{IsIn, Span}
use Rattle.cert_trees.specs.Ranges.{IsChoice, IsWithin, Ranges}
use Rattle.cert_trees.specs.Paths.{AreChoices, AreMet, IsMet, MeetsOn, cut_span, left_by, left_to, narrowed}

-- a bound is met by a value as by one over 1
once_within : (most : Bool) (number value : ℕ) → IsWithinNumber most number value ↔ IsWithinNumber most (number * 1) value
once_within true number value = (λ is. omega (arith, is), λ is. omega (arith, is))
once_within false number value = (λ is. omega (arith, is), λ is. omega (arith, is))

pub bound_met : (v : Values) (b : Bound) → IsMet v b ↔ MeetsBound (whole_point v) b
bound_met v b = once_within b.most b.number (v b.column)

-- a quantity or a setup is a column
pub choice_column : (m : Problem) (c : Column) → IsChoice m c → IsColumn m c
choice_column m (X i t) is = is
choice_column m (Y i t) is = is
choice_column m (S i t) is = absurd is
choice_column m (R i t) is = absurd is

-- a number is left by a bound where it was there and meets it
cut_in : (b : Bool) (number n : ℕ) (s : Span) → IsIn (cut_span b number s) n ↔ (IsIn s n × IsWithinNumber b number n)
cut_in true number n s = (λ is. ((is.0, omega (arith, is.1)), omega (arith, is.1)), λ both. (both.0.0, omega (arith, both.0.1, both.1)))
cut_in false number n s = (λ is. ((omega (arith, is.0), is.1), omega (arith, is.0)), λ both. (omega (arith, both.0.0, both.1), both.0.1))

pub narrowed_own : (s : Span) (b : Bound) (c : Column) → same_column b.column c ≡ true → narrowed s b c ≡ cut_span b.most b.number s
narrowed_own s b c is = ap (λ k. if k then cut_span b.most b.number s else s) is

pub narrowed_other : (s : Span) (b : Bound) (c : Column) → same_column b.column c ≡ false → narrowed s b c ≡ s
narrowed_other s b c is = ap (λ k. if k then cut_span b.most b.number s else s) is

not_same : (b c : Column) → same_column b c ≡ false → b ≡ c → ⊥
not_same b c other same = let own : same_column b c ≡ true = subst (λ d. same_column b d ≡ true) same (same_self b) in cc

narrowed_in : (s : Span) (b : Bound) (c : Column) (n : ℕ) → IsIn (narrowed s b c) n ↔ (IsIn s n × (b.column ≡ c → IsWithinNumber b.most b.number n))
narrowed_in s b c n =
    let cut = cut_in b.most b.number n s in
    ⊎_elim
    (λ own.
    let e = narrowed_own s b c own in (
      λ is. let both = cut.0 (subst (λ r. IsIn r n) e is) in (both.0, λ _. both.1),
      λ both. subst (λ r. IsIn r n) (sym e) (cut.1 (both.0, both.1 (one_by_parts b.column c own))),
    ))
    (λ other.
    let e = narrowed_other s b c other in (
      λ is. (subst (λ r. IsIn r n) e is, λ same. absurd (not_same b.column c other same)),
      λ both. subst (λ r. IsIn r n) (sym e) both.0,
    ))
    (cases_Bool (same_column b.column c))

on : Column → ℕ → Bound → Type 0
on c n b = b.column ≡ c → IsWithinNumber b.most b.number n

-- a number is left by a path where it was there and meets each bound on the column
pub numbers_left : (path : List Bound) (c : Column) (s : Span) (n : ℕ) → IsIn (left_to s path c) n ↔ (IsIn s n × MeetsOn path c n)
unfolding on
numbers_left [] c s n = (λ is. (is, All-nil (on c n)), λ both. both.0)
numbers_left (b ∷ path) c s n =
    let step = narrowed_in s b c n in
    let later = numbers_left path c (narrowed s b c) n in (
      λ is. let (here, rest) = later.0 is in let (whole, own) = step.0 here in (whole, All-cons (on c n) b path own rest),
      λ both. later.1 (step.1 (both.0, All-head (on c n) b path both.1), All-tail (on c n) b path both.1),
    )

-- values that meet a path meet it on each column
meets_on : (v : Values) (path : List Bound) (c : Column) → AreMet v path → MeetsOn path c (v c)
meets_on v path c met k d less same = let b = slice_index_or path k d in subst (λ e. IsWithinNumber b.most b.number (v e)) same (met k d less)

pub left_keeps : (v : Values) (path : List Bound) (c : Column) (s : Span) → IsIn s (v c) → AreMet v path → IsIn (left_to s path c) (v c)
left_keeps v path c s is met = (numbers_left path c s (v c)).1 (is, meets_on v path c met)

choice_in : (m : Problem) (ranges : Ranges) (p : Plan) (c : Column) → IsChoice m c → IsWithin m ranges p → IsIn (ranges c) (value_in p c)
choice_in m ranges p (X i t) is within = (within i t is.0 is.1 is.2 is.3).0
choice_in m ranges p (Y i t) is within = (within i t is.0 is.1 is.2 is.3).1
choice_in m ranges p (S i t) is within = absurd is
choice_in m ranges p (R i t) is within = absurd is

-- the plans within what a path leaves
pub ranges_left : (m : Problem) (ranges : Ranges) (path : List Bound) → AreChoices m path → (p : Plan) → IsWithin m (left_by ranges path) p ↔ (IsWithin m ranges p × AreMet (value_in p) path)
ranges_left m ranges path choices p =
    let v = value_in p in (
      λ within. (
        λ i t low high t_low t_high.
            let both = within i t low high t_low t_high in
            (((numbers_left path (X i t) (ranges (X i t)) (p.make i t)).0 both.0).0, ((numbers_left path (Y i t) (ranges (Y i t)) (p.setup i t)).0 both.1).0),
        λ k d less.
            let c = (slice_index_or path k d).column in
            ((numbers_left path c (ranges c) (v c)).0 (choice_in m (left_by ranges path) p c (choices k d less) within)).1 k d less refl,
      ),
      λ both i t low high t_low t_high.
          let here = both.0 i t low high t_low t_high in
          (left_keeps v path (X i t) (ranges (X i t)) here.0 both.1, left_keeps v path (Y i t) (ranges (Y i t)) here.1 both.1),
    )

-- what one bound more leaves
pub left_more : (s : Span) (path : List Bound) (b : Bound) (c : Column) → left_to s (path ++ (b ∷ [])) c ≡ narrowed (left_to s path c) b c
left_more s [] b c = refl
left_more s (a ∷ path) b c = left_more (narrowed s a c) path b c

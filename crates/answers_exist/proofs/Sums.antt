-- Parts may be taken or one of them may not; and their sums are small and within bounds, or they aren't: whichever largest totals are taken.
use Rattle.std.proofs.Common.{◌≡◌, ◌≤◌, ◌<◌, ◌+◌, ◌-◌, ◌^◌, ◌∙◌, ◌⊎◌, ⊎_elim, inl, inr, ℕ, zero, suc, refl, sym, ap, subst, arith, true, false, List, [], ◌∷◌, length, take, slice_index_or}
use Rattle.std.specs.Prelude.{Option, ℤ, pos, negsuc, neg_ℤ, ◌+ℤ◌, ◌*ℤ◌, ◌≤ℤ◌, ◌<ℤ◌, unsigned_abs}
use Rattle.std.specs.Int.{int_div_euclid}
use Rattle.std.specs.List.{All}
use Rattle.std.proofs.lemmas.Bool.{cases_Bool}
use Rattle.std.proofs.lemmas.Int.{by_lt_z, ints}
use Rattle.std.proofs.lemmas.List.Elements.{All-cons, All-filter, All-head, All-nil, All-tail}
use Rattle.algebra.proofs.Integers.{add_mul, mul_comm, mul_neg, mul_zero, one_mul, zero_add}
use Rattle.algebra.proofs.Lowest.{floor_is}
use Rattle.algebra.proofs.Order.{linear}
use Rattle.lot_sizing.specs.Problem.{EachItem, IsWithinLimits, Problem, item_at, item_count, resource_count}
use Rattle.lot_sizing.specs.Totals.{AreLargestTotals}
use Rattle.lin_rows.specs.declared.bound.Bound.{Bound}
use Rattle.lin_rows.specs.declared.column.Column.{Column}
use Rattle.lin_rows.specs.declared.column.Column.TheVariants.{X, Y, S, R}
use Rattle.lin_rows.specs.declared.base.RowName.{RowName}
use Rattle.lin_rows.specs.declared.base.RowName.TheVariants.{Balance, Link, Capacity, EndMin, EndMax, Top, Least, Late, Path, Cut}
use Rattle.lin_rows.specs.Base.{HasRow, all_terms, is_some_term, some_terms, term, within_bound}
use Rattle.lin_rows.specs.Columns.{IsColumn}
use Rattle.lin_rows.specs.Combining.{AreOfProblem, column_sum, right_sum}
use Rattle.lin_rows.specs.Rows.{LinRow}
use Rattle.lin_rows.specs.Sums.{coefficient}
use Rattle.lin_rows.proofs.Columns.{base_exists}
use Rattle.lin_rows.proofs.Terms.{all_one}
use Rattle.round_cuts.specs.Merging.{ceiling}
use Rattle.round_cuts.specs.Rounding.{IsCeiling, IsRounded, column_amount, right_amount}
use Rattle.cert_lines.specs.declared.parts.Part.{Part}
use Rattle.cert_trees.specs.Paths.{AreChoices, no_bound}
use Rattle.cert_trees.specs.Ranges.{IsChoice, WithTotals}
use Rattle.cert_meaning.specs.Named.{IsNamed, Named, names, no_row, row_named}
use Rattle.cert_meaning.specs.Parts.{AreParts, AreSmall, IsPart, rows_of, times_of}
use Rattle.cert_checker.specs.declared.fault.Why.{Why}
use Rattle.cert_checker.specs.declared.fault.Why.TheVariants as why
use Rattle.cert_checker.specs.Leaves.{IsFirstWrong, IsGoodSum, IsSumFault, IsWrongPart, no_part}
use Rattle.existence.proofs.Deciding.{Decided, both_or_not, le_or_not, lt_or_not}
use Rattle.answers_exist.proofs.Columns.{cell_or_not, column_or_not, first_column, four_or_not, takes_none, terms_are, terms_out, terms_rise, terms_with}

-- ---- whole numbers
pub not_both : (x y : ℤ) → x <ℤ y → y ≤ℤ x → ⊥
not_both x y less le = omega (arith, ints, less, le)

pub le_z_or_not : (x y : ℤ) → Decided (x ≤ℤ y)
le_z_or_not x y = by_lt_z y x (λ less. inr (λ le. not_both y x less le)) (λ le. inl le)

pub above_z : (x y : ℤ) → (x ≤ℤ y → ⊥) → y <ℤ x
above_z x y above = by_lt_z y x (λ less. less) (λ le. absurd (above le))

-- a number over q has a ceiling
ceiling_is : (q : ℕ) (a : ℤ) → 1 ≤ q → IsCeiling q a (ceiling (pos q) a)
ceiling_is q a some =
    let low = int_div_euclid (neg_ℤ a) (pos q) in
    let floor = floor_is (neg_ℤ a) (pos q) (omega (arith, linear, some)) in
    let turned : pos q *ℤ neg_ℤ low ≡ neg_ℤ (low *ℤ pos q) = mul_neg (pos q) low ∙ ap neg_ℤ (mul_comm (pos q) low) in
    record {
      above = omega (arith, linear, floor.0, turned);
      least = omega (arith, linear, floor.1, turned, add_mul low (pos 1) (pos q), one_mul (pos q));
    }

zero_is : (q : ℕ) → 1 ≤ q → IsCeiling q (pos 0) (pos 0)
zero_is q some = record { above = omega (arith, linear, mul_zero (pos q)); least = omega (arith, linear, some, mul_zero (pos q)) }

-- ---- sums of rows of a problem
amount_out : (m : Problem) (rows : List LinRow) (times : List ℤ) (c : Column) → AreOfProblem m rows → (IsColumn m c → ⊥) → column_amount rows times c ≡ 0
amount_out m [] times c are out = refl
amount_out m (r ∷ rows) [] c are out = refl
amount_out m (r ∷ rows) (z ∷ times) c are out =
    let none : unsigned_abs (z *ℤ coefficient r.terms c) ≡ 0 = ap (λ x. unsigned_abs (z *ℤ x)) (takes_none m r.terms c are.0 out) ∙ ap unsigned_abs (mul_zero z) in
    omega (arith, none, amount_out m rows times c are.1 out)

sum_out_of : (m : Problem) (rows : List LinRow) (times : List ℤ) (c : Column) → AreOfProblem m rows → (IsColumn m c → ⊥) → column_sum rows times c ≡ pos 0
sum_out_of m [] times c are out = refl
sum_out_of m (r ∷ rows) [] c are out = refl
sum_out_of m (r ∷ rows) (z ∷ times) c are out =
    ap (λ x. z *ℤ x +ℤ column_sum rows times c) (takes_none m r.terms c are.0 out) ∙ ap (λ x. x +ℤ column_sum rows times c) (mul_zero z)
    ∙ zero_add (column_sum rows times c) ∙ sum_out_of m rows times c are.1 out

pub has_rounded : (m : Problem) → IsWithinLimits m → (rows : List LinRow) (times : List ℤ) (q : ℕ) → AreOfProblem m rows → 1 ≤ q → (row : LinRow) × IsRounded rows times q row
has_rounded m limits rows times q are some =
    let f = λ (c : Column). ceiling (pos q) (column_sum rows times c) in
    let row : LinRow = record { terms = terms_with m limits f; right = ceiling (pos q) (right_sum rows times); equal = false } in
    (row, record { terms = terms_rise m limits f; columns = each f refl; right = ceiling_is q (right_sum rows times) some; equal = refl })
  where
    each : (f : Column → ℤ) → f ≡ (λ c. ceiling (pos q) (column_sum rows times c)) → (c : Column) → IsCeiling q (column_sum rows times c) (coefficient (terms_with m limits f) c)
    each f is c =
        ⊎_elim
        (λ has. subst (IsCeiling q (column_sum rows times c)) (sym (terms_are m limits f c has ∙ ap (λ g. g c) is)) (ceiling_is q (column_sum rows times c) some))
        (λ out. subst (λ z. IsCeiling q z (coefficient (terms_with m limits f) c)) (sym (sum_out_of m rows times c are out)) (subst (IsCeiling q (pos 0)) (sym (terms_out m limits f c out)) (zero_is q some)))
        (column_or_not m limits c)

-- whether amounts are below 2^127
pub amounts_or_not : (m : Problem) → IsWithinLimits m → (rows : List LinRow) (times : List ℤ) → AreOfProblem m rows → Decided (((c : Column) → column_amount rows times c < 2 ^ 127) × (right_amount rows times < 2 ^ 127))
amounts_or_not m limits rows times are =
    both_or_not
    (⊎_elim
    (λ each. inl (λ c. ⊎_elim (λ has. each c has) (λ out. omega (arith, amount_out m rows times c are out)) (column_or_not m limits c)))
    (λ first. inr (λ all. first.1.1 (all first.0)))
    (first_column m limits (λ c. column_amount rows times c < 2 ^ 127) (λ c. lt_or_not (column_amount rows times c) (2 ^ 127))))
    (lt_or_not (right_amount rows times) (2 ^ 127))

-- ---- named rows
link_with : ℕ → ℕ → Option ℕ → ℕ → LinRow
link_with i t most u = record { terms = some_terms (term (X i t) (negsuc 0) ∷ (term (Y i t) (pos (within_bound u most)) ∷ [])); right = pos 0; equal = false }

-- the columns of a row of the problem
base_columns : (m : Problem) (total : ℕ → ℕ) (name : RowName) → IsWithinLimits m → HasRow m name → All (λ a. IsColumn m a.column) (some_terms (all_terms m total name))
base_columns m total name limits has = All-filter (λ a. is_some_term a.times) (λ a. IsColumn m a.column) (all_terms m total name) (base_exists m total name limits.some_period has)

choice_column : (m : Problem) (c : Column) → IsChoice m c → IsColumn m c
choice_column m (X i t) is = is
choice_column m (Y i t) is = is
choice_column m (S i t) is = absurd is
choice_column m (R i t) is = absurd is

row_at : (m : Problem) (rows : List LinRow) (k : ℕ) → AreOfProblem m rows → k < length rows → All (λ a. IsColumn m a.column) (slice_index_or rows k no_row).terms
row_at m [] k are less = absurd (omega (arith, less))
row_at m (r ∷ rows) zero are less = are.0
row_at m (r ∷ rows) (suc k) are less = row_at m rows k are.1 (omega (arith, less))

abbrev pub WrongAt : Named → List Part → Why → Type 0
WrongAt n parts w = (place : ℕ) × (place < length parts) × AreParts n (take place parts) × IsWrongPart n (slice_index_or parts place no_part) w

module _ (m : Problem) (limits : IsWithinLimits m) (a : ℕ → ℕ) (one : (b : ℕ → ℕ) → AreLargestTotals m b → EachItem m (λ i. a i ≡ b i)) (cuts : List LinRow) (path : List Bound) where
  abbrev Same : (ℕ → ℕ) → Type 0
  Same b = EachItem m (λ i. a i ≡ b i)

  -- only a link has a largest total
  pub row_same : (b : ℕ → ℕ) → Same b → (name : RowName) → IsNamed (names m a cuts path) name → row_named (names m a cuts path) name ≡ row_named (names m b cuts path) name
  unfolding link_with
  row_same b same (Balance i t) has = refl
  row_same b same (Link i t) has = ap (link_with i t (item_at m i).max_lot) (same i has.0 has.1)
  row_same b same (Capacity k t) has = refl
  row_same b same (EndMin i) has = refl
  row_same b same (EndMax i) has = refl
  row_same b same (Top i t) has = refl
  row_same b same (Least i t) has = refl
  row_same b same (Late i t) has = refl
  row_same b same (Path k) has = refl
  row_same b same (Cut k) has = refl

  pub rows_same : (b : ℕ → ℕ) → Same b → (parts : List Part) → AreParts (names m a cuts path) parts → rows_of (names m a cuts path) parts ≡ rows_of (names m b cuts path) parts
  rows_same b same [] are = refl
  rows_same b same (p ∷ parts) are =
      let n = names m a cuts path in
      ap (λ r. r ∷ rows_of n parts) (row_same b same p.row (All-head (IsPart n) p parts are).named)
      ∙ ap (λ rs. row_named (names m b cuts path) p.row ∷ rs) (rows_same b same parts (All-tail (IsPart n) p parts are))

  pub parts_same : (b : ℕ → ℕ) → Same b → (parts : List Part) → AreParts (names m a cuts path) parts → AreParts (names m b cuts path) parts
  parts_same b same [] are = All-nil (IsPart (names m b cuts path))
  parts_same b same (p ∷ parts) are =
      let P = IsPart (names m a cuts path) in
      let here = All-head P p parts are in
      All-cons (IsPart (names m b cuts path)) p parts
      (record { named = here.named; signed = subst (λ r. r.equal ≡ false → pos 0 ≤ℤ p.times) (row_same b same p.row here.named) here.signed })
      (parts_same b same parts (All-tail P p parts are))

  -- ---- whether a part may be taken
  named_or_not : (name : RowName) → Decided (IsNamed (names m a cuts path) name)
  named_or_not (Balance i t) = cell_or_not m limits i t
  named_or_not (Link i t) = cell_or_not m limits i t
  named_or_not (Capacity k t) = four_or_not (le_or_not 1 k) (le_or_not k (resource_count m)) (le_or_not 1 t) (le_or_not t m.periods)
  named_or_not (EndMin i) = both_or_not (le_or_not 1 i) (le_or_not i (item_count m))
  named_or_not (EndMax i) = both_or_not (le_or_not 1 i) (le_or_not i (item_count m))
  named_or_not (Top i t) = cell_or_not m limits i t
  named_or_not (Least i t) = both_or_not (cell_or_not m limits i t) (le_or_not 1 (item_at m i).min_lot)
  named_or_not (Late i t) = both_or_not (cell_or_not m limits i t) (lt_or_not m.periods (t + (item_at m i).lead))
  named_or_not (Path k) = both_or_not (le_or_not 1 k) (le_or_not k (length path))
  named_or_not (Cut k) = both_or_not (le_or_not 1 k) (le_or_not k (length cuts))

  abbrev Wrong : List Part → Type 0
  Wrong parts = WrongAt (names m a cuts path) parts why.Range ⊎ WrongAt (names m a cuts path) parts why.Sign

  part_out : (p : Part) → IsPart (names m a cuts path) p ⊎ (IsWrongPart (names m a cuts path) p why.Range ⊎ IsWrongPart (names m a cuts path) p why.Sign)
  part_out p =
      ⊎_elim
      (λ named. by_lt_z p.times (pos 0)
      (λ less. ⊎_elim
      (λ equal. inl (record { named = named; signed = λ free. let e : true ≡ false = sym equal ∙ free in cc e }))
      (λ free. inr (inr (named, free, less)))
      (cases_Bool (row_named (names m a cuts path) p.row).equal))
      (λ le. inl (record { named = named; signed = λ _. le })))
      (λ none. inr (inl none))
      (named_or_not p.row)

  later : (w : Why) (p : Part) (parts : List Part) → IsPart (names m a cuts path) p → WrongAt (names m a cuts path) parts w → WrongAt (names m a cuts path) (p ∷ parts) w
  later w p parts is (place, less, before, wrong) = (suc place, omega (arith, less), All-cons (IsPart (names m a cuts path)) p (take place parts) is before, wrong)

  now : (w : Why) (p : Part) (parts : List Part) → IsWrongPart (names m a cuts path) p w → WrongAt (names m a cuts path) (p ∷ parts) w
  now w p parts wrong = (0, omega arith, All-nil (IsPart (names m a cuts path)), wrong)

  pub parts_out : (parts : List Part) → AreParts (names m a cuts path) parts ⊎ Wrong parts
  parts_out [] = inl (All-nil (IsPart (names m a cuts path)))
  parts_out (p ∷ parts) =
      ⊎_elim
      (λ is. ⊎_elim
      (λ are. inl (All-cons (IsPart (names m a cuts path)) p parts is are))
      (λ wrong. inr (⊎_elim (λ range. inl (later why.Range p parts is range)) (λ sign. inr (later why.Sign p parts is sign)) wrong))
      (parts_out parts))
      (λ wrong. inr (⊎_elim (λ range. inl (now why.Range p parts range)) (λ sign. inr (now why.Sign p parts sign)) wrong))
      (part_out p)

  pub range_wrong : (b : ℕ → ℕ) → Same b → (parts : List Part) (line : ℕ) → (at : WrongAt (names m a cuts path) parts why.Range) → IsFirstWrong (names m b cuts path) parts line (line + 1 + at.0) why.Range
  range_wrong b same parts line at = record { place = at.0; exists = at.1; before = parts_same b same (take at.0 parts) at.2; wrong = at.3; number = refl }

  pub sign_wrong : (b : ℕ → ℕ) → Same b → (parts : List Part) (line : ℕ) → (at : WrongAt (names m a cuts path) parts why.Sign) → IsFirstWrong (names m b cuts path) parts line (line + 1 + at.0) why.Sign
  sign_wrong b same parts line at =
      let wrong = at.3 in
      record {
        place = at.0;
        exists = at.1;
        before = parts_same b same (take at.0 parts) at.2;
        wrong = (wrong.0, subst (λ r. r.equal ≡ false) (row_same b same (slice_index_or parts at.0 no_part).row wrong.0) wrong.1, wrong.2);
        number = refl;
      }

  -- ---- their sums
  pub small_same : (b : ℕ → ℕ) → Same b → (parts : List Part) → AreParts (names m a cuts path) parts → AreSmall (names m a cuts path) parts → AreSmall (names m b cuts path) parts
  small_same b same parts are is =
      let e = rows_same b same parts are in
      record {
        columns = λ c. subst (λ rows. column_amount rows (times_of parts) c < 2 ^ 127) e (is.columns c);
        right = subst (λ rows. right_amount rows (times_of parts) < 2 ^ 127) e is.right;
      }

  pub small_back : (b : ℕ → ℕ) → Same b → (parts : List Part) → AreParts (names m a cuts path) parts → AreSmall (names m b cuts path) parts → AreSmall (names m a cuts path) parts
  small_back b same parts are is =
      let e = sym (rows_same b same parts are) in
      record {
        columns = λ c. subst (λ rows. column_amount rows (times_of parts) c < 2 ^ 127) e (is.columns c);
        right = subst (λ rows. right_amount rows (times_of parts) < 2 ^ 127) e is.right;
      }

  module _ (of_cuts : AreOfProblem m cuts) (choices : AreChoices m path) where
    row_columns : (name : RowName) → IsNamed (names m a cuts path) name → All (λ c. IsColumn m c.column) (row_named (names m a cuts path) name).terms
    row_columns (Balance i t) has = base_columns m a (Balance i t) limits has
    row_columns (Link i t) has = base_columns m a (Link i t) limits has
    row_columns (Capacity k t) has = base_columns m a (Capacity k t) limits has
    row_columns (EndMin i) has = base_columns m a (EndMin i) limits has
    row_columns (EndMax i) has = base_columns m a (EndMax i) limits has
    row_columns (Top i t) has = base_columns m a (Top i t) limits has
    row_columns (Least i t) has = base_columns m a (Least i t) limits has
    row_columns (Late i t) has = base_columns m a (Late i t) limits has
    row_columns (Path k) has = let b = slice_index_or path (k - 1) no_bound in all_one (λ c. IsColumn m c.column) _ (choice_column m b.column (choices (k - 1) no_bound (omega (arith, has))))
    row_columns (Cut k) has = row_at m cuts (k - 1) of_cuts (omega (arith, has))

    pub rows_are : (parts : List Part) → AreParts (names m a cuts path) parts → AreOfProblem m (rows_of (names m a cuts path) parts)
    rows_are [] are = tt
    rows_are (p ∷ parts) are =
        let P = IsPart (names m a cuts path) in
        (row_columns p.row (All-head P p parts are).named, rows_are parts (All-tail P p parts are))

    pub small_or_not : (parts : List Part) → AreParts (names m a cuts path) parts → Decided (AreSmall (names m a cuts path) parts)
    small_or_not parts are =
        ⊎_elim
        (λ small. inl (record { columns = small.0; right = small.1 }))
        (λ large. inr (λ small. large (small.columns, small.right)))
        (amounts_or_not m limits (rows_of (names m a cuts path) parts) (times_of parts) (rows_are parts are))

    -- a good sum, or why it isn't
    pub sum_out : (most : Column → ℤ) (parts : List Part) (line : ℕ) → IsGoodSum (names m a cuts path) most parts ⊎ ((at : ℕ) × (w : Why) × WithTotals m (λ b. IsSumFault (names m b cuts path) most parts line at w))
    sum_out most parts line =
        ⊎_elim
        (λ are. ⊎_elim
        (λ small. ⊎_elim
        (λ within. inl (record { parts_exist = are; small = small; columns = within }))
        (λ first. inr (
          line,
          why.Column first.0,
          λ b totals.
              let same = one b totals in
              let e = rows_same b same parts are in (
                refl,
                parts_same b same parts are,
                small_same b same parts are small,
                record {
                  column = first.1.0;
                  large = subst (λ rows. most first.0 <ℤ column_sum rows (times_of parts) first.0) e (above_z (column_sum (rows_of (names m a cuts path) parts) (times_of parts) first.0) (most first.0) first.1.1);
                  before = λ d has less. subst (λ rows. column_sum rows (times_of parts) d ≤ℤ most d) e (first.1.2 d has less);
                },
              ),
        ))
        (first_column m limits (λ c. column_sum (rows_of (names m a cuts path) parts) (times_of parts) c ≤ℤ most c) (λ c. le_z_or_not (column_sum (rows_of (names m a cuts path) parts) (times_of parts) c) (most c))))
        (λ large. inr (line, why.TooLarge, λ b totals. let same = one b totals in (refl, parts_same b same parts are, λ small. large (small_back b same parts are small))))
        (small_or_not parts are))
        (λ wrong. ⊎_elim
        (λ range. inr (line + 1 + range.0, why.Range, λ b totals. range_wrong b (one b totals) parts line range))
        (λ sign. inr (line + 1 + sign.0, why.Sign, λ b totals. sign_wrong b (one b totals) parts line sign))
        wrong)
        (parts_out parts)

    -- a good sum is one by all largest totals
    pub good_same : (b : ℕ → ℕ) → Same b → (most : Column → ℤ) (parts : List Part) → IsGoodSum (names m a cuts path) most parts → IsGoodSum (names m b cuts path) most parts
    good_same b same most parts good =
        let e = rows_same b same parts good.parts_exist in
        record {
          parts_exist = parts_same b same parts good.parts_exist;
          small = small_same b same parts good.parts_exist good.small;
          columns = λ c has. subst (λ rows. column_sum rows (times_of parts) c ≤ℤ most c) e (good.columns c has);
        }

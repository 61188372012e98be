-- How the first dictionary is made.
use Rattle.std.proofs.Common.{◌≡◌, ◌≢◌, ◌≤◌, ◌<◌, ◌+◌, ◌-◌, ◌^◌, ◌∙◌, ⊎_elim, ℕ, zero, suc, refl, sym, ap, subst, arith, inl, inr, List, [], ◌∷◌, ◌++◌, length, map, take, slice_index_or}
use Rattle.std.proofs.lemmas.Bool.{cases_eq}
use Rattle.std.proofs.lemmas.List.{get_or_default, length-map, take_all, take_more}
use Rattle.std.proofs.Math.ListN.{get_or-map}
use Rattle.tableau.specs.declared.program.LpRow.{LpRow}
use Rattle.tableau.specs.Held.{inequality_of}
use Rattle.std.specs.Prelude.{ℤ, pos, ◌+ℤ◌, unsigned_abs, if◌then◌else◌, ◌==◌}
use Rattle.rational.specs.Rational.{whole, neg_ℚ}
use Rattle.algebra.proofs.Integers as Z
use Rattle.tableau.specs.declared.program.LpTerm.{LpTerm}
use Rattle.tableau.specs.Program.{AreRows, AreTerms, Inequality, IsRow, Program, column_count, cost_at, empty_row, entry_at, right_at, row_at, row_count, times_of, zero_ℚ}
use Rattle.tableau.specs.Dictionary.{Dictionary, IsStart, cell, height, width}
use Rattle.tableau.specs.Steps.{IsSet}
use Rattle.tableau.specs.Starts.{HasCosts, GainsRow, IsBlank}
use Rattle.tableau.proofs.Cells.{names_then, same_sizes}
use Rattle.tableau.proofs.Loops.{HasTermsTo, IsStartTo}

-- ---- terms
if_same_z : (a b : ℕ) (x y : ℤ) → a ≡ b → (if a == b then x else y) ≡ x
if_same_z a b x y e = grind (arith, e)

if_other_z : (a b : ℕ) (x y : ℤ) → a ≢ b → (if a == b then x else y) ≡ y
if_other_z a b x y e = grind (arith, e)

times_append : (ts us : List LpTerm) (c : ℕ) → times_of (ts ++ us) c ≡ times_of ts c +ℤ times_of us c
times_append [] us c = sym (Z.zero_add (times_of us c))
times_append (t ∷ ts) us c = ap (λ z. (if t.column == c then t.times else pos 0) +ℤ z) (times_append ts us c) ∙ sym (Z.add_assoc (if t.column == c then t.times else pos 0) (times_of ts c) (times_of us c))

times_none : (ts : List LpTerm) (c : ℕ) → ((k : ℕ) (d : LpTerm) → k < length ts → (slice_index_or ts k d).column ≢ c) → times_of ts c ≡ pos 0
times_none [] c apart = refl
times_none (t ∷ ts) c apart =
    ap (λ z. z +ℤ times_of ts c) (if_other_z t.column c t.times (pos 0) (apart 0 t (omega arith))) ∙ Z.zero_add (times_of ts c) ∙ times_none ts c (λ k d less. apart (suc k) d (omega (arith, less)))

-- each term's column is after the start, and within the last
term_at : (last from : ℕ) (ts : List LpTerm) (k : ℕ) (d : LpTerm) → AreTerms last from ts → k < length ts → (from < (slice_index_or ts k d).column) × ((slice_index_or ts k d).column ≤ last) × (unsigned_abs (slice_index_or ts k d).times < 2 ^ 127)
term_at last from [] k d are less = absurd (omega (arith, less))
term_at last from (t ∷ ts) zero d are less = (are.0, are.1, are.2)
term_at last from (t ∷ ts) (suc k) d are less =
    let rest = term_at last t.column ts k d are.3 (omega (arith, less)) in
    (omega (arith, are.0, rest.0), rest.1, rest.2)

-- columns rise
rising : (last from : ℕ) (ts : List LpTerm) (j k : ℕ) (d e : LpTerm) → AreTerms last from ts → j < k → k < length ts → (slice_index_or ts j d).column < (slice_index_or ts k e).column
rising last from [] j k d e are less high = absurd (omega (arith, high))
rising last from (t ∷ ts) j zero d e are less high = absurd (omega (arith, less))
rising last from (t ∷ ts) zero (suc k) d e are less high = (term_at last t.column ts k e are.3 (omega (arith, high))).0
rising last from (t ∷ ts) (suc j) (suc k) d e are less high = rising last t.column ts j k d e are.3 (omega (arith, less)) (omega (arith, high))

-- an element of the first ones
taken_at : (ts : List LpTerm) (i j : ℕ) (d : LpTerm) → j < i → i ≤ length ts → slice_index_or (take i ts) j d ≡ slice_index_or ts j d
taken_at [] i j d less high = absurd (omega (arith, less, high))
taken_at (t ∷ ts) zero j d less high = absurd (omega (arith, less))
taken_at (t ∷ ts) (suc i) zero d less high = refl
taken_at (t ∷ ts) (suc i) (suc j) d less high = taken_at ts i j d (omega (arith, less)) (omega (arith, high))

taken_length : (ts : List LpTerm) (i : ℕ) → i ≤ length ts → length (take i ts) ≡ i
taken_length [] zero high = refl
taken_length [] (suc i) high = absurd (omega (arith, high))
taken_length (t ∷ ts) zero high = refl
taken_length (t ∷ ts) (suc i) high = ap suc (taken_length ts i (omega (arith, high)))

-- the times of a column with one term more
times_more : (last : ℕ) (ts : List LpTerm) (i c : ℕ) (d : LpTerm) → AreTerms last 0 ts → i < length ts → ((slice_index_or ts i d).column ≡ c → times_of (take (i + 1) ts) c ≡ (slice_index_or ts i d).times) × ((slice_index_or ts i d).column ≢ c → times_of (take (i + 1) ts) c ≡ times_of (take i ts) c)
times_more last ts i c d are less =
    let t = slice_index_or ts i d in
    let more : times_of (take (i + 1) ts) c ≡ times_of (take i ts) c +ℤ ((if t.column == c then t.times else pos 0) +ℤ pos 0) = ap (λ us. times_of us c) (take_more ts i d less) ∙ times_append (take i ts) (t ∷ []) c in (
      (λ same.
          let none : times_of (take i ts) c ≡ pos 0 = times_none (take i ts) c (λ k e small equal.
          let within : k < i = omega (arith, small, taken_length ts i (omega (arith, less))) in
          omega (arith, rising last 0 ts k i e d are within less, ap (λ u. u.column) (sym (taken_at ts i k e within (omega (arith, less)))), equal, same)) in
          more ∙ ap (λ z. z +ℤ ((if t.column == c then t.times else pos 0) +ℤ pos 0)) none ∙ ap (λ z. pos 0 +ℤ (z +ℤ pos 0)) (if_same_z t.column c t.times (pos 0) same) ∙ Z.zero_add (t.times +ℤ pos 0) ∙ Z.add_zero t.times),
      (λ apart. more ∙ ap (λ z. times_of (take i ts) c +ℤ (z +ℤ pos 0)) (if_other_z t.column c t.times (pos 0) apart) ∙ Z.add_zero (times_of (take i ts) c)),
    )

-- ---- a row of the program
pub terms_start : (row : Inequality) (i : ℕ) (d e : Dictionary) → i < height d → IsSet d i 0 (neg_ℚ (whole row.right)) e → ((t : ℕ) → t < width d → cell d i t ≡ zero_ℚ) → HasTermsTo row i 0 d e
terms_start row i d e high set zeros = record {
  names = set.names;
  constant = set.here;
  entries = λ t low t_high. set.others i t high t_high (inr (λ e. omega (arith, e, low))) ∙ zeros t t_high;
  others = λ h t apart h_high t_high. set.others h t h_high t_high (inl apart);
}

pub terms_next : (row : Inequality) (i to : ℕ) (d e f : Dictionary) (term x : LpTerm) → i < height d → IsRow (width d - 1) row → to < length row.terms → term ≡ slice_index_or row.terms to x → HasTermsTo row i to d e → IsSet e i term.column (whole term.times) f → HasTermsTo row i (to + 1) d f
terms_next row i to d e f term x high is_row less is so_far set =
    let sizes = same_sizes d e so_far.names in
    let at = term_at (width d - 1) 0 row.terms to x is_row.terms less in
    let same_column : term.column ≡ (slice_index_or row.terms to x).column = ap (λ u. u.column) is in
    record {
      names = names_then d e f so_far.names set.names;
      constant = set.others i 0 (omega (arith, high, sizes.0)) (omega (arith, at.0, at.1, sizes.1)) (inr (λ e. omega (arith, e, at.0, same_column))) ∙ so_far.constant;
      entries = λ t low t_high.
          let more = times_more (width d - 1) row.terms to t x is_row.terms less in
          ⊎_elim
          (λ same. ap (cell f i) same ∙ set.here ∙ ap (λ u. whole u.times) is ∙ ap whole (sym (more.0 (sym same_column ∙ sym same))))
          (λ apart. set.others i t (omega (arith, high, sizes.0)) (omega (arith, t_high, sizes.1)) (inr apart) ∙ so_far.entries t low t_high ∙ ap whole (sym (more.1 (λ e. apart (sym (same_column ∙ e))))))
          (cases_eq t term.column);
      others = λ h t apart h_high t_high. set.others h t (omega (arith, h_high, sizes.0)) (omega (arith, t_high, sizes.1)) (inl apart) ∙ so_far.others h t apart h_high t_high;
    }

pub terms_end : (row : Inequality) (i to : ℕ) (d e : Dictionary) → length row.terms ≤ to → HasTermsTo row i to d e → GainsRow row i d e
terms_end row i to d e all so_far = record {
  names = so_far.names;
  constant = so_far.constant;
  entries = λ t low high. so_far.entries t low high ∙ ap (λ ts. whole (times_of ts t)) (take_all to row.terms all);
  others = so_far.others;
}

pub term_fits : (row : Inequality) (last to : ℕ) (term x : LpTerm) → IsRow last row → to < length row.terms → term ≡ slice_index_or row.terms to x → (1 ≤ term.column) × (term.column ≤ last) × (unsigned_abs term.times < 2 ^ 127)
term_fits row last to term x is_row less is =
    let at = term_at last 0 row.terms to x is_row.terms less in
    (omega (arith, at.0, ap (λ u. u.column) is), omega (arith, at.1, ap (λ u. u.column) is), subst (λ u. unsigned_abs u.times < 2 ^ 127) (sym is) at.2)

-- ---- the costs
pub costs_start : (p : Program) (d : Dictionary) → HasCosts p 0 d d
costs_start p d = record {
  names = record { basics = refl; nonbasics = refl };
  before = λ c less. absurd (omega (arith, less));
  after = λ c low high. refl;
  value = refl;
  others = λ i t apart i_high t_high. refl;
}

pub costs_next : (p : Program) (c : ℕ) (d e f : Dictionary) → 1 ≤ height d → width d ≡ column_count p + 1 → c < column_count p → HasCosts p c d e → IsSet e 0 (c + 1) (cost_at p c) f → HasCosts p (c + 1) d f
costs_next p c d e f some wide less so_far set =
    let sizes = same_sizes d e so_far.names in
    record {
      names = names_then d e f so_far.names set.names;
      before = λ b b_less high. ⊎_elim (λ same. ap (λ v. cell f 0 (v + 1)) same ∙ set.here ∙ ap (cost_at p) (sym same)) (λ apart. set.others 0 (b + 1) (omega (arith, some, sizes.0)) (omega (arith, high, wide, sizes.1)) (inr (λ e. apart (omega (arith, e)))) ∙ so_far.before b (omega (arith, b_less, apart)) high) (cases_eq b c);
      after = λ b low high. set.others 0 (b + 1) (omega (arith, some, sizes.0)) (omega (arith, high, wide, sizes.1)) (inr (λ e. omega (arith, e, low))) ∙ so_far.after b (omega (arith, low)) high;
      value = set.others 0 0 (omega (arith, some, sizes.0)) (omega (arith, wide, sizes.1)) (inr (λ e. omega (arith, e))) ∙ so_far.value;
      others = λ i t apart i_high t_high. set.others i t (omega (arith, i_high, sizes.0)) (omega (arith, t_high, sizes.1)) (inl apart) ∙ so_far.others i t apart i_high t_high;
    }

-- ---- all
pub start_none : (p : Program) (d e : Dictionary) (to : ℕ) → column_count p ≤ to → IsBlank p d → HasCosts p to d e → IsStartTo p 0 e
start_none p d e to all blank costs =
    let sizes = same_sizes d e costs.names in
    record {
      rows = omega (arith, sizes.0, blank.rows);
      columns = omega (arith, sizes.1, blank.columns);
      first = ap (λ bs. slice_index_or bs 0 0) costs.names.basics ∙ blank.first;
      slacks = λ k less. ap (λ bs. slice_index_or bs (k + 1) 0) costs.names.basics ∙ blank.slacks k less;
      names = λ t high. ap (λ ns. slice_index_or ns t 0) costs.names.nonbasics ∙ blank.names t (omega (arith, high, sizes.1));
      value = costs.value ∙ blank.zero 0 0 (omega (arith, blank.rows)) (omega (arith, blank.columns));
      costs = λ c less. costs.before c (omega (arith, less, all)) less;
      constants = λ k less. absurd (omega (arith, less));
      entries = λ k c less. absurd (omega (arith, less));
      zero = λ k t low less high. costs.others (k + 1) t (λ e. omega (arith, e)) (omega (arith, less, blank.rows)) (omega (arith, high, sizes.1)) ∙ blank.zero (k + 1) t (omega (arith, less, blank.rows)) (omega (arith, high, sizes.1));
    }

pub start_next : (p : Program) (k : ℕ) (d e : Dictionary) → k < row_count p → IsStartTo p k d → GainsRow (row_at p k) (k + 1) d e → IsStartTo p (k + 1) e
start_next p k d e less so_far row =
    let sizes = same_sizes d e row.names in
    record {
      rows = omega (arith, sizes.0, so_far.rows);
      columns = omega (arith, sizes.1, so_far.columns);
      first = ap (λ bs. slice_index_or bs 0 0) row.names.basics ∙ so_far.first;
      slacks = λ h high. ap (λ bs. slice_index_or bs (h + 1) 0) row.names.basics ∙ so_far.slacks h high;
      names = λ t high. ap (λ ns. slice_index_or ns t 0) row.names.nonbasics ∙ so_far.names t (omega (arith, high, sizes.1));
      value = row.others 0 0 (λ e. omega (arith, e)) (omega (arith, so_far.rows)) (omega (arith, so_far.columns)) ∙ so_far.value;
      costs = λ c high. row.others 0 (c + 1) (λ e. omega (arith, e)) (omega (arith, so_far.rows)) (omega (arith, high, so_far.columns)) ∙ so_far.costs c high;
      constants = λ h h_less high. ⊎_elim (λ same. ap (λ g. cell e (g + 1) 0) same ∙ row.constant ∙ ap (λ g. neg_ℚ (right_at p g)) (sym same)) (λ apart. row.others (h + 1) 0 (λ e. apart (omega (arith, e))) (omega (arith, high, so_far.rows)) (omega (arith, so_far.columns)) ∙ so_far.constants h (omega (arith, h_less, apart)) high) (cases_eq h k);
      entries = λ h c h_less high c_high. ⊎_elim (λ same. ap (λ g. cell e (g + 1) (c + 1)) same ∙ row.entries (c + 1) (omega arith) (omega (arith, c_high, so_far.columns)) ∙ ap (λ g. entry_at p g c) (sym same)) (λ apart. row.others (h + 1) (c + 1) (λ e. apart (omega (arith, e))) (omega (arith, high, so_far.rows)) (omega (arith, c_high, so_far.columns)) ∙ so_far.entries h c (omega (arith, h_less, apart)) high c_high) (cases_eq h k);
      zero = λ h t low high t_high. row.others (h + 1) t (λ e. omega (arith, e, low)) (omega (arith, high, so_far.rows)) (omega (arith, t_high, sizes.1)) ∙ so_far.zero h t (omega (arith, low)) high (omega (arith, t_high, sizes.1));
    }

pub start_end : (p : Program) (to : ℕ) (d : Dictionary) → row_count p ≤ to → IsStartTo p to d → IsStart p d
start_end p to d all s = record {
  rows = s.rows;
  columns = s.columns;
  first = s.first;
  slacks = s.slacks;
  names = s.names;
  value = s.value;
  costs = s.costs;
  constants = λ k less. s.constants k (omega (arith, less, all)) less;
  entries = λ k c less high. s.entries k c (omega (arith, less, all)) less high;
}

-- a row by what holds it
pub row_held : (costs : List ℕ) (rows : List LpRow) (k : ℕ) (x row : LpRow) → k < length rows → row ≡ slice_index_or rows k x → row_at (record { costs = costs; rows = map inequality_of rows }) k ≡ inequality_of row
row_held costs rows k x row less is =
    get_or_default (map inequality_of rows) k empty_row (inequality_of x) (omega (arith, less, length-map rows inequality_of)) ∙ get_or-map inequality_of rows k x ∙ ap inequality_of (sym is)

-- each row meets the conditions
pub row_of : (last : ℕ) (rows : List Inequality) (k : ℕ) → AreRows last rows → k < length rows → IsRow last (slice_index_or rows k empty_row)
row_of last [] k are less = absurd (omega (arith, less))
row_of last (r ∷ rs) zero are less = are.0
row_of last (r ∷ rs) (suc k) are less = row_of last rs k are.1 (omega (arith, less))

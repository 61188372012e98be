-- A plan that is written is read again.
use Rattle.std.proofs.Common.{◌≡◌, ◌≢◌, ◌≤◌, ◌+◌, ◌-◌, ◌*◌, ◌∙◌, ℕ, zero, suc, List, [], ◌∷◌, ◌++◌, decimal, length, slice_index_or, refl, ap, sym, subst, arith, true, ⊎_elim, append-nil, IsTrue}
use Rattle.std.specs.List.{All, flat_map}
use Rattle.std.proofs.Math.Nat.{mul-le-mul_right}
use Rattle.std.proofs.lemmas.Bool.{cases_lt}
use Rattle.std.proofs.lemmas.List.{get_or-append-add, get_or_append_left, length-append}
use Rattle.std.proofs.lemmas.List.Concat.{flat_map-append}
use Rattle.std.proofs.lemmas.List.Elements.{All-append, All-cons, All-nil, All-weaker}
use Rattle.std.proofs.lemmas.Slice.Eq.{bytes_eq-Decides}
use Rattle.csv.specs.Records.{field_at}
use Rattle.csv.specs.Reading.{strip_bom}
use Rattle.lot_sizing.specs.Problem.{IsWithinLimits, Problem, item_at, item_count}
use Rattle.lot_sizing.specs.declared.limits.TheConstants.{MAX_PERIODS}
use Rattle.lot_sizing.specs.Plan.{EachCell, Plan}
use Rattle.lot_sizing.specs.Texts.{item_records, join_to, plan_header, plan_text}
use Rattle.plan_rules.specs.Cells.{place}
use Rattle.csv_records.specs.Records.{Record, record_at, records_of}
use Rattle.csv_records.specs.Written.{IsPlain, IsPlainRecord, line_of, records_text}
use Rattle.csv_records.proofs.Names.{plain_name}
use Rattle.csv_records.proofs.Numbers.{number_read, number_value}
use Rattle.csv_records.proofs.Plain.{plain_number, rows_are_lines}
use Rattle.csv_records.proofs.ReadBack.{written_read}
use Rattle.plan_file.specs.Records.{AreNumbersOf, HasNumbers, IsPlanOf, header, is_row, number_of}
use Rattle.plan_file.proofs.Fields.{four}
use Rattle.plan_file.specs.Written.{FitIn64, list_to, lists_to, plan_records, record_of, records_of_item}

-- ---- lists that grow
pub list_to_more : {A : Type 0} (n : ℕ) (f : ℕ → A) → 1 ≤ n → list_to (n + 1 - 1) f ≡ list_to (n - 1) f ++ (f n ∷ [])
list_to_more zero f low = absurd (omega (arith, low))
list_to_more (suc n) f low = let e : suc n + 1 - 1 ≡ suc n = omega arith in let d : suc n - 1 ≡ n = omega arith in rw (e, d) refl

pub lists_to_more : {A : Type 0} (n : ℕ) (g : ℕ → List A) → 1 ≤ n → lists_to (n + 1 - 1) g ≡ lists_to (n - 1) g ++ g n
lists_to_more zero g low = absurd (omega (arith, low))
lists_to_more (suc n) g low = let e : suc n + 1 - 1 ≡ suc n = omega arith in let d : suc n - 1 ≡ n = omega arith in rw (e, d) refl

all_to : {A : Type 0} (P : A → Type 0) (n : ℕ) (f : ℕ → A) → ((k : ℕ) → 1 ≤ k → k ≤ n → P (f k)) → All P (list_to n f)
all_to P zero f each = All-nil P
all_to P (suc n) f each = All-append P (list_to n f) (f (suc n) ∷ []) (all_to P n f (λ k low high. each k low (omega (arith, high)))) (All-cons P (f (suc n)) [] (each (suc n) (omega arith) (omega arith)) (All-nil P))

all_lists : {A : Type 0} (P : A → Type 0) (n : ℕ) (g : ℕ → List A) → ((k : ℕ) → 1 ≤ k → k ≤ n → All P (g k)) → All P (lists_to n g)
all_lists P zero g each = All-nil P
all_lists P (suc n) g each = All-append P (lists_to n g) (g (suc n)) (all_lists P n g (λ k low high. each k low (omega (arith, high)))) (each (suc n) (omega arith) (omega arith))

-- ---- the text of the records
lines_to : (n : ℕ) (f : ℕ → Record) → flat_map line_of (list_to n f) ≡ join_to n (λ k. line_of (f k))
lines_to zero f = refl
lines_to (suc n) f = flat_map-append line_of (list_to n f) (f (suc n) ∷ []) ∙ rw (lines_to n f, append-nil (line_of (f (suc n)))) refl

lines_all : (n : ℕ) (f : ℕ → List Record) (g : ℕ → List ℕ) → ((k : ℕ) → flat_map line_of (f k) ≡ g k) → flat_map line_of (lists_to n f) ≡ join_to n g
lines_all zero f g same = refl
lines_all (suc n) f g same = flat_map-append line_of (lists_to n f) (f (suc n)) ∙ rw (lines_all n f g same, same (suc n)) refl

lines_are : (m : Problem) (p : Plan) → flat_map line_of (plan_records m p) ≡ plan_text m p
lines_are m p = ap (λ t. plan_header ++ t) (lines_all (item_count m) (records_of_item m p) (item_records m p) (λ i. lines_to m.periods (record_of m p i)))

-- no field of the records needs quotes
record_plain : (m : Problem) (p : Plan) (i t : ℕ) → IsPlain (item_at m i).name → t ≤ MAX_PERIODS → FitIn64 p i t → IsPlainRecord (record_of m p i t)
record_plain m p i t name small fits = record {
  some = λ e. cc e;
  shown = λ e. cc e;
  plain = rw (name, plain_number t (omega (arith, small)), plain_number (p.make i t) (omega (arith, fits.make)), plain_number (p.setup i t) (omega (arith, fits.setup)), plain_number (p.stock i t) (omega (arith, fits.stock)), plain_number (p.backlog i t) (omega (arith, fits.backlog))) refl;
}

header_plain : IsPlainRecord header
header_plain = record { some = λ e. cc e; shown = λ e. cc e; plain = refl }

module _ (m : Problem) (p : Plan) (within : IsWithinLimits m) (fits : EachCell m (FitIn64 p)) where
  all_plain : All IsPlainRecord (plan_records m p)
  all_plain =
      All-cons IsPlainRecord header _ header_plain
      (all_lists IsPlainRecord (item_count m) (records_of_item m p) (λ i low high. all_to IsPlainRecord m.periods (record_of m p i) (λ t t_low t_high. record_plain m p i t (plain_name (item_at m i).name (within.each_item i low high).name) (omega (arith, t_high, within.periods)) (fits i t low high t_low t_high))))

  pub plan_written : records_text (plan_records m p) ≡ plan_text m p
  plan_written = rows_are_lines (plan_records m p) all_plain ∙ lines_are m p

  no_mark : strip_bom (plan_text m p) ≡ plan_text m p
  unfolding strip_bom
  no_mark = refl

  -- the text of a plan has its records
  records_written : records_of (plan_text m p) ≡ plan_records m p
  records_written =
      ap records_of (sym plan_written) ∙ written_read (plan_records m p) (All-weaker IsPlainRecord (λ r. r ≢ []) (λ r plain. plain.some) (plan_records m p) all_plain) (ap strip_bom plan_written ∙ no_mark ∙ sym plan_written)

-- ---- a record by its number
list_size : {A : Type 0} (n : ℕ) (f : ℕ → A) → length (list_to n f) ≡ n
list_size zero f = refl
list_size (suc n) f = omega (arith, length-append (list_to n f) (f (suc n) ∷ []), list_size n f)

lists_size : {A : Type 0} (n T : ℕ) (g : ℕ → List A) → ((k : ℕ) → length (g k) ≡ T) → length (lists_to n g) ≡ n * T
lists_size zero T g each = omega arith
lists_size (suc n) T g each = omega (arith, length-append (lists_to n g) (g (suc n)), lists_size n T g each, each (suc n))

list_at : {A : Type 0} (n t : ℕ) (f : ℕ → A) (d : A) → 1 ≤ t → t ≤ n → slice_index_or (list_to n f) (t - 1) d ≡ f t
list_at zero t f d low high = absurd (omega (arith, low, high))
list_at (suc n) t f d low high =
    ⊎_elim
    (λ before. get_or_append_left (list_to n f) (f (suc n) ∷ []) d (t - 1) (omega (arith, before, low, list_size n f)) ∙ list_at n t f d low (omega (arith, before)))
    (λ no.
    let e : t ≡ suc n = omega (arith, no, high) in
    let place : t - 1 ≡ length (list_to n f) + 0 = omega (arith, e, list_size n f) in
    ap (λ k. slice_index_or (list_to n f ++ (f (suc n) ∷ [])) k d) place ∙ get_or-append-add (list_to n f) (f (suc n) ∷ []) 0 d ∙ ap f (sym e))
    (cases_lt t (suc n))

lists_at : {A : Type 0} (n T i t : ℕ) (g : ℕ → ℕ → A) (d : A) → 1 ≤ i → i ≤ n → 1 ≤ t → t ≤ T → slice_index_or (lists_to n (λ k. list_to T (g k))) ((i - 1) * T + (t - 1)) d ≡ g i t
lists_at zero T i t g d low high t_low t_high = absurd (omega (arith, low, high))
lists_at (suc n) T i t g d low high t_low t_high =
    let all = lists_to n (λ k. list_to T (g k)) in
    let size : length all ≡ n * T = lists_size n T (λ k. list_to T (g k)) (λ k. list_size T (g k)) in
    ⊎_elim
    (λ before.
    let e : i ≡ i - 1 + 1 = omega (arith, low) in
    let rows : (i - 1 + 1) * T ≤ n * T = mul-le-mul_right T (omega (arith, before, e)) in
    get_or_append_left all (list_to T (g (suc n))) d ((i - 1) * T + (t - 1)) (omega (arith, size, rows, t_low, t_high)) ∙ lists_at n T i t g d low (omega (arith, before)) t_low t_high)
    (λ no.
    let e : i ≡ suc n = omega (arith, no, high) in
    let j : i - 1 ≡ n = omega (arith, e) in
    let place : (i - 1) * T + (t - 1) ≡ length all + (t - 1) = omega (arith, size, ap (λ k. k * T) j) in
    ap (λ k. slice_index_or (all ++ list_to T (g (suc n))) k d) place ∙ get_or-append-add all (list_to T (g (suc n))) (t - 1) d ∙ list_at T t (g (suc n)) d t_low t_high ∙ ap (λ k. g k t) (sym e))
    (cases_lt i (suc n))

record_is : (m : Problem) (p : Plan) (i t : ℕ) → 1 ≤ i → i ≤ item_count m → 1 ≤ t → t ≤ m.periods → record_at (plan_records m p) (number_of m i t) ≡ record_of m p i t
record_is m p i t low high t_low t_high =
    let e : number_of m i t ≡ suc (place m.periods i t) = omega arith in
    ap (record_at (plan_records m p)) e ∙ lists_at (item_count m) m.periods i t (record_of m p) [] low high t_low t_high

row_good : (m : Problem) (p : Plan) (i t : ℕ) → is_row m i t (record_of m p i t) ≡ true
unfolding field_at
row_good m p i t = rw ((bytes_eq-Decides (item_at m i).name (item_at m i).name).1 refl, (bytes_eq-Decides (decimal t) (decimal t)).1 refl) refl

numbers_good : (m : Problem) (p : Plan) (i t : ℕ) → FitIn64 p i t → HasNumbers (record_of m p i t)
unfolding field_at
numbers_good m p i t fits = four (record_of m p i t) (number_read (p.make i t) fits.make) (number_read (p.setup i t) fits.setup) (number_read (p.stock i t) fits.stock) (number_read (p.backlog i t) fits.backlog)

written_read_as : (m : Problem) (p : Plan) → EachCell m (FitIn64 p) → IsPlanOf m (plan_records m p) p
unfolding field_at
written_read_as m p fits = record {
  header = record { there = omega arith; header = refl };
  count = omega (arith, lists_size (item_count m) m.periods (records_of_item m p) (λ i. list_size m.periods (record_of m p i)));
  each = λ i t low high t_low t_high.
      let is = record_is m p i t low high t_low t_high in
      let f = fits i t low high t_low t_high in
      let size = lists_size (item_count m) m.periods (records_of_item m p) (λ k. list_size m.periods (record_of m p k)) in
      let e : i ≡ i - 1 + 1 = omega (arith, low) in
      let rows : (i - 1 + 1) * m.periods ≤ item_count m * m.periods = mul-le-mul_right m.periods (omega (arith, low, high)) in (
        record {
          there = omega (arith, size, rows, t_low, t_high);
          row = subst (λ r. IsTrue (is_row m i t r)) (sym is) (row_good m p i t);
          numbers = subst HasNumbers (sym is) (numbers_good m p i t f);
        },
        subst (λ r. AreNumbersOf r p i t) (sym is) (record {
          make = sym (number_value (p.make i t) f.make);
          setup = sym (number_value (p.setup i t) f.setup);
          stock = sym (number_value (p.stock i t) f.stock);
          backlog = sym (number_value (p.backlog i t) f.backlog);
        }),
      );
}

-- the text of a plan is read as the plan
pub text_read : (m : Problem) (p : Plan) → IsWithinLimits m → EachCell m (FitIn64 p) → IsPlanOf m (records_of (plan_text m p)) p
text_read m p within fits = subst (λ rs. IsPlanOf m rs p) (sym (records_written m p within fits)) (written_read_as m p fits)

-- Texts that stand in others, up to the line of JSON and the tables.
use Rattle.std.proofs.Common.{◌≡◌, ◌∙◌, ◌≤◌, ⊎_elim, ℕ, zero, suc, true, List, [], ◌++◌, if◌then◌else◌, decimal, sym, ap, subst, arith, append_assoc, append-nil}
use Rattle.std.specs.Prelude.{codes, nat_lt}
use Rattle.std.proofs.lemmas.Bool.{cases_eq}
use Rattle.std.proofs.lemmas.Bool.Decides.{nat_tests}
use Rattle.lot_sizing.specs.Problem.{Problem, item_count, resource_count}
use Rattle.lot_sizing.specs.Plan.{Plan}
use Rattle.lot_sizing.specs.Texts.{join_to}
use Rattle.plan_report.specs.Figures.{row_count}
use Rattle.plan_report.specs.Full.{full_text, item_entries, item_entry, item_object, plan_costs, resource_entries, resource_entry, resource_object}
use Rattle.plan_report.specs.Laws.{IsPart, line_of}
use Rattle.plan_report.specs.Numbers.{comma_before}
use Rattle.plan_report.specs.Tables.{backlog_table, head_line, load_tables, plan_cost_line, row_line, row_lines, table, table_of_widths, table_text}
use Rattle.plan_report.specs.Widths.{column_width, label_width}
use Rattle.plan_report.specs.declared.figures.Series.{Series}
use Rattle.plan_report.specs.declared.figures.Series.TheVariants.{Made, Stock, Free, Load}

same : (x : List ℕ) → IsPart x x
same x = record { before = []; after = []; is = sym (append-nil x) }

-- a part of what stands in front, or behind
front : (x a b : List ℕ) → IsPart x a → IsPart x (a ++ b)
front x a b h = record {
  before = h.before;
  after = h.after ++ b;
  is = ap (λ v. v ++ b) h.is ∙ append_assoc h.before (x ++ h.after) b ∙ ap (λ v. h.before ++ v) (append_assoc x h.after b);
}

behind : (x a b : List ℕ) → IsPart x b → IsPart x (a ++ b)
behind x a b h = record {
  before = a ++ h.before;
  after = h.after;
  is = ap (λ v. a ++ v) h.is ∙ sym (append_assoc a h.before (x ++ h.after));
}

-- a part of one of the texts that are joined
one_of : (x : List ℕ) (n : ℕ) (g : ℕ → List ℕ) (k : ℕ) → 1 ≤ k → k ≤ n → IsPart x (g k) → IsPart x (join_to n g)
one_of x zero g k low high h = absurd (omega (arith, low, high))
one_of x (suc n) g k low high h =
    ⊎_elim
    (λ here. behind x (join_to n g) (g (suc n)) (subst (λ j. IsPart x (g j)) here h))
    (λ other. front x (join_to n g) (g (suc n)) (one_of x n g k low (omega (arith, high, other)) h))
    (cases_eq k (suc n))

-- ---- the line of JSON
item_in_entry : (m : Problem) (p : Plan) (i : ℕ) → IsPart (item_object m p i) (item_entry m p i)
unfolding item_entry
item_in_entry m p i = behind (item_object m p i) (comma_before i) (item_object m p i) (same (item_object m p i))

resource_in_entry : (m : Problem) (p : Plan) (k : ℕ) → IsPart (resource_object m p k) (resource_entry m p k)
unfolding resource_entry
resource_in_entry m p k = behind (resource_object m p k) (comma_before k) (resource_object m p k) (same (resource_object m p k))

item_in_all : (m : Problem) (p : Plan) (i : ℕ) → 1 ≤ i → i ≤ item_count m → IsPart (item_object m p i) (item_entries m p)
unfolding item_entries
item_in_all m p i low high = one_of (item_object m p i) (item_count m) (item_entry m p) i low high (item_in_entry m p i)

resource_in_all : (m : Problem) (p : Plan) (k : ℕ) → 1 ≤ k → k ≤ resource_count m → IsPart (resource_object m p k) (resource_entries m p)
unfolding resource_entries
resource_in_all m p k low high = one_of (resource_object m p k) (resource_count m) (resource_entry m p) k low high (resource_in_entry m p k)

pub item_stands : (m : Problem) (p : Plan) (i : ℕ) → 1 ≤ i → i ≤ item_count m → IsPart (item_object m p i) (full_text m p)
unfolding full_text
item_stands m p i low high =
    let x = item_object m p i in
    let r4 : List ℕ = codes "],\"periods\":" ++ (decimal m.periods ++ (codes ",\"resources\":[" ++ (resource_entries m p ++ codes "]}\n"))) in
    let r3 : List ℕ = item_entries m p ++ r4 in
    let r2 : List ℕ = codes ",\"items\":[" ++ r3 in
    let r1 : List ℕ = plan_costs m p ++ r2 in
    behind x (codes "{") r1 (behind x (plan_costs m p) r2 (behind x (codes ",\"items\":[") r3 (front x (item_entries m p) r4 (item_in_all m p i low high))))

pub resource_stands : (m : Problem) (p : Plan) (k : ℕ) → 1 ≤ k → k ≤ resource_count m → IsPart (resource_object m p k) (full_text m p)
unfolding full_text
resource_stands m p k low high =
    let x = resource_object m p k in
    let r7 : List ℕ = resource_entries m p ++ codes "]}\n" in
    let r6 : List ℕ = codes ",\"resources\":[" ++ r7 in
    let r5 : List ℕ = decimal m.periods ++ r6 in
    let r4 : List ℕ = codes "],\"periods\":" ++ r5 in
    let r3 : List ℕ = item_entries m p ++ r4 in
    let r2 : List ℕ = codes ",\"items\":[" ++ r3 in
    let r1 : List ℕ = plan_costs m p ++ r2 in
    behind x (codes "{") r1 (behind x (plan_costs m p) r2 (behind x (codes ",\"items\":[") r3 (behind x (item_entries m p) r4 (behind x (codes "],\"periods\":") r5
    (behind x (decimal m.periods) r6 (behind x (codes ",\"resources\":[") r7 (front x (resource_entries m p) (codes "]}\n") (resource_in_all m p k low high))))))))

-- ---- the tables
line_in_table : (m : Problem) (p : Plan) (s : Series) (r : ℕ) → 1 ≤ r → r ≤ row_count m s → IsPart (line_of m p s r) (table m p s)
unfolding table table_of_widths row_lines
line_in_table m p s r low high =
    let x = line_of m p s r in
    let w = label_width m in
    let v = column_width m p s in
    behind x (head_line w v m.periods s) (row_lines w v m p s ++ codes "\n")
    (front x (row_lines w v m p s) (codes "\n") (one_of x (row_count m s) (row_line w v m p s) r low high (same x)))

pub lots_stand : (m : Problem) (p : Plan) (i : ℕ) → 1 ≤ i → i ≤ item_count m → IsPart (line_of m p Made i) (table_text m p)
unfolding table_text row_count
lots_stand m p i low high =
    let x = line_of m p Made i in
    front x (table m p Made) (table m p Stock ++ (backlog_table m p ++ (load_tables m p ++ plan_cost_line m p))) (line_in_table m p Made i low high)

pub stocks_stand : (m : Problem) (p : Plan) (i : ℕ) → 1 ≤ i → i ≤ item_count m → IsPart (line_of m p Stock i) (table_text m p)
unfolding table_text row_count
stocks_stand m p i low high =
    let x = line_of m p Stock i in
    let r2 : List ℕ = backlog_table m p ++ (load_tables m p ++ plan_cost_line m p) in
    behind x (table m p Made) (table m p Stock ++ r2) (front x (table m p Stock) r2 (line_in_table m p Stock i low high))

some_resources : (n k : ℕ) → 1 ≤ k → k ≤ n → nat_lt 0 n ≡ true
some_resources n k low high = grind (arith, nat_tests, low, high)

-- where there are resources, a part of their tables
in_loads : (m : Problem) (p : Plan) (k : ℕ) (x : List ℕ) → 1 ≤ k → k ≤ resource_count m → IsPart x (table m p Load ++ table m p Free) → IsPart x (load_tables m p)
unfolding load_tables
in_loads m p k x low high h =
    let some : nat_lt 0 (resource_count m) ≡ true = some_resources (resource_count m) k low high in
    subst (λ b. IsPart x (if b then table m p Load ++ table m p Free else [])) (sym some) h

in_text : (m : Problem) (p : Plan) (x : List ℕ) → IsPart x (load_tables m p) → IsPart x (table_text m p)
unfolding table_text
in_text m p x h =
    let r3 : List ℕ = load_tables m p ++ plan_cost_line m p in
    let r2 : List ℕ = backlog_table m p ++ r3 in
    behind x (table m p Made) (table m p Stock ++ r2) (behind x (table m p Stock) r2 (behind x (backlog_table m p) r3 (front x (load_tables m p) (plan_cost_line m p) h)))

pub loads_stand : (m : Problem) (p : Plan) (k : ℕ) → 1 ≤ k → k ≤ resource_count m → IsPart (line_of m p Load k) (table_text m p)
unfolding row_count
loads_stand m p k low high =
    let x = line_of m p Load k in
    in_text m p x (in_loads m p k x low high (front x (table m p Load) (table m p Free) (line_in_table m p Load k low high)))

pub free_stands : (m : Problem) (p : Plan) (k : ℕ) → 1 ≤ k → k ≤ resource_count m → IsPart (line_of m p Free k) (table_text m p)
unfolding row_count
free_stands m p k low high =
    let x = line_of m p Free k in
    in_text m p x (in_loads m p k x low high (behind x (table m p Load) (table m p Free) (line_in_table m p Free k low high)))

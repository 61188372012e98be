-- Texts that stand in others, up to the page.
use Rattle.std.proofs.Common.{◌∙◌, ◌≤◌, ⊎_elim, ℕ, zero, suc, List, [], ◌++◌, sym, ap, subst, arith, append_assoc, append-nil}
use Rattle.std.proofs.lemmas.Bool.{cases_eq}
use Rattle.std.specs.Prelude.{codes}
use Rattle.lot_sizing.specs.Problem.{Problem, item_at, item_count, resource_count}
use Rattle.lot_sizing.specs.Plan.{Plan, cost}
use Rattle.lot_sizing.specs.Texts.{join_to}
use Rattle.report.specs.Summary.{backlog_part, hold_part, made_total, setup_count, setup_part, unit_part}
use Rattle.plan_page.specs.Costs.{costs_text}
use Rattle.plan_page.specs.Framing.{contents, key_line}
use Rattle.plan_page.specs.Items.{amounts_line, costs_line, item_chart_text, item_head, item_heads, item_row_at, item_rows, item_table, item_text, item_texts, lead_line}
use Rattle.plan_page.specs.Laws.{IsPart}
use Rattle.plan_page.specs.Page.{end_text, head_text, main_text, marks_text, page_text, style_text, title_text}
use Rattle.plan_page.specs.Peaks.{item_chart, resource_chart}
use Rattle.plan_page.specs.Proving.{proof_text}
use Rattle.plan_page.specs.Resources.{legend, load_chart, load_line, resource_head, resource_text, resource_texts}
use Rattle.plan_page.specs.Rows.{load_heads, load_row, load_rows, load_table}
use Rattle.plan_page.specs.Totals.{capacity_total, demand_total, use_total, used_total}
use Rattle.plan_page.specs.declared.proving.Proved.{Proved}

same : (x : List ℕ) → IsPart x x
same x = record { before = []; after = []; is = sym (append-nil x) }

-- a part of what stands in front, or behind
front : (x a b : List ℕ) → IsPart x a → IsPart x (a ++ b)
front x a b h = record {
  before = h.before;
  after = h.after ++ b;
  is = ap (λ v. v ++ b) h.is ∙ append_assoc h.before (x ++ h.after) b ∙ ap (λ v. h.before ++ v) (append_assoc x h.after b);
}

behind : (x a b : List ℕ) → IsPart x b → IsPart x (a ++ b)
behind x a b h = record {
  before = a ++ h.before;
  after = h.after;
  is = ap (λ v. a ++ v) h.is ∙ sym (append_assoc a h.before (x ++ h.after));
}

-- a part of one of the texts that are joined
one_of : (x : List ℕ) (n : ℕ) (g : ℕ → List ℕ) (k : ℕ) → 1 ≤ k → k ≤ n → IsPart x (g k) → IsPart x (join_to n g)
one_of x zero g k low high h = absurd (omega (arith, low, high))
one_of x (suc n) g k low high h =
    ⊎_elim
    (λ here. behind x (join_to n g) (g (suc n)) (subst (λ j. IsPart x (g j)) here h))
    (λ other. front x (join_to n g) (g (suc n)) (one_of x n g k low (omega (arith, high, other)) h))
    (cases_eq k (suc n))

-- ---- an item's row
row_in_table : (m : Problem) (p : Plan) (i t : ℕ) → 1 ≤ t → t ≤ m.periods → IsPart (item_row_at m p i t) (item_table m p i)
unfolding item_table item_rows
row_in_table m p i t low high =
    behind (item_row_at m p i t) item_heads (item_rows m p i ++ codes "</tbody></table></div></details>\n")
    (front (item_row_at m p i t) (item_rows m p i) (codes "</tbody></table></div></details>\n") (one_of (item_row_at m p i t) m.periods (item_row_at m p i) t low high (same (item_row_at m p i t))))

table_in_section : (m : Problem) (p : Plan) (i : ℕ) (x : List ℕ) → IsPart x (item_table m p i) → IsPart x (item_text m p i)
unfolding item_text
table_in_section m p i x h =
    let r5 : List ℕ = item_table m p i ++ codes "</section>\n" in
    let r4 : List ℕ = (item_chart_text (item_chart m p i) m p i) ++ r5 in
    let r3 : List ℕ = (costs_line (setup_part m p i) (unit_part m p i) (hold_part m p i) (backlog_part m p i)) ++ r4 in
    let r2 : List ℕ = (lead_line (item_at m i).opening (item_at m i).lead) ++ r3 in
    let r1 : List ℕ = (amounts_line (demand_total m i) (use_total m p i) (made_total m p i) (setup_count m p i)) ++ r2 in
    behind x (item_head m i) r1 (behind x (amounts_line (demand_total m i) (use_total m p i) (made_total m p i) (setup_count m p i)) r2 (behind x (lead_line (item_at m i).opening (item_at m i).lead) r3 (behind x (costs_line (setup_part m p i) (unit_part m p i) (hold_part m p i) (backlog_part m p i)) r4 (behind x (item_chart_text (item_chart m p i) m p i) r5 (front x (item_table m p i) (codes "</section>\n") h)))))

item_in_all : (m : Problem) (p : Plan) (i : ℕ) (x : List ℕ) → 1 ≤ i → i ≤ item_count m → IsPart x (item_text m p i) → IsPart x (item_texts m p)
unfolding item_texts
item_in_all m p i x low high h = one_of x (item_count m) (item_text m p) i low high h

items_in_main : (m : Problem) (p : Plan) (proved : Proved) (x : List ℕ) → IsPart x (item_texts m p) → IsPart x (main_text m p proved)
unfolding main_text
items_in_main m p proved x h =
    let r6 : List ℕ = item_texts m p ++ end_text in
    let r5 : List ℕ = (marks_text) ++ r6 in
    let r4 : List ℕ = (resource_texts m p) ++ r5 in
    let r3 : List ℕ = (costs_text m p) ++ r4 in
    let r2 : List ℕ = (proof_text (cost m p) proved) ++ r3 in
    let r1 : List ℕ = (key_line m (cost m p)) ++ r2 in
    behind x (title_text) r1 (behind x (key_line m (cost m p)) r2 (behind x (proof_text (cost m p) proved) r3 (behind x (costs_text m p) r4 (behind x (resource_texts m p) r5 (behind x (marks_text) r6 (front x (item_texts m p) (end_text) h))))))

main_in_page : (m : Problem) (p : Plan) (proved : Proved) (x : List ℕ) → IsPart x (main_text m p proved) → IsPart x (page_text m p proved)
unfolding page_text
main_in_page m p proved x h =
    behind x head_text (style_text ++ (contents m ++ main_text m p proved)) (behind x style_text (contents m ++ main_text m p proved) (behind x (contents m) (main_text m p proved) h))

pub item_row_stands : (m : Problem) (p : Plan) (proved : Proved) (i t : ℕ) → 1 ≤ i → i ≤ item_count m → 1 ≤ t → t ≤ m.periods → IsPart (item_row_at m p i t) (page_text m p proved)
item_row_stands m p proved i t item_low item_high low high =
    let x = item_row_at m p i t in
    main_in_page m p proved x (items_in_main m p proved x (item_in_all m p i x item_low item_high (table_in_section m p i x (row_in_table m p i t low high))))

-- ---- a resource's row
load_in_table : (m : Problem) (p : Plan) (k t : ℕ) → 1 ≤ t → t ≤ m.periods → IsPart (load_row m p k t) (load_table m p k)
unfolding load_table load_rows
load_in_table m p k t low high =
    behind (load_row m p k t) (load_heads m k) (load_rows m p k ++ codes "</tbody></table></div></details>\n")
    (front (load_row m p k t) (load_rows m p k) (codes "</tbody></table></div></details>\n") (one_of (load_row m p k t) m.periods (load_row m p k) t low high (same (load_row m p k t))))

table_in_resource : (m : Problem) (p : Plan) (k : ℕ) (x : List ℕ) → IsPart x (load_table m p k) → IsPart x (resource_text m p k)
unfolding resource_text
table_in_resource m p k x h =
    let r4 : List ℕ = load_table m p k ++ codes "</section>\n" in
    let r3 : List ℕ = (legend m k) ++ r4 in
    let r2 : List ℕ = (load_chart (resource_chart m p k) m p k) ++ r3 in
    let r1 : List ℕ = (load_line (used_total m p k) (capacity_total m k)) ++ r2 in
    behind x (resource_head m k) r1 (behind x (load_line (used_total m p k) (capacity_total m k)) r2 (behind x (load_chart (resource_chart m p k) m p k) r3 (behind x (legend m k) r4 (front x (load_table m p k) (codes "</section>\n") h))))

resource_in_all : (m : Problem) (p : Plan) (k : ℕ) (x : List ℕ) → 1 ≤ k → k ≤ resource_count m → IsPart x (resource_text m p k) → IsPart x (resource_texts m p)
unfolding resource_texts
resource_in_all m p k x low high h = one_of x (resource_count m) (resource_text m p) k low high h

resources_in_main : (m : Problem) (p : Plan) (proved : Proved) (x : List ℕ) → IsPart x (resource_texts m p) → IsPart x (main_text m p proved)
unfolding main_text
resources_in_main m p proved x h =
    let r4 : List ℕ = resource_texts m p ++ (marks_text ++ (item_texts m p ++ end_text)) in
    let r3 : List ℕ = (costs_text m p) ++ r4 in
    let r2 : List ℕ = (proof_text (cost m p) proved) ++ r3 in
    let r1 : List ℕ = (key_line m (cost m p)) ++ r2 in
    behind x (title_text) r1 (behind x (key_line m (cost m p)) r2 (behind x (proof_text (cost m p) proved) r3 (behind x (costs_text m p) r4 (front x (resource_texts m p) ((marks_text ++ (item_texts m p ++ end_text))) h))))

pub load_row_stands : (m : Problem) (p : Plan) (proved : Proved) (k t : ℕ) → 1 ≤ k → k ≤ resource_count m → 1 ≤ t → t ≤ m.periods → IsPart (load_row m p k t) (page_text m p proved)
load_row_stands m p proved k t resource_low resource_high low high =
    let x = load_row m p k t in
    main_in_page m p proved x (resources_in_main m p proved x (resource_in_all m p k x resource_low resource_high (table_in_resource m p k x (load_in_table m p k t low high))))

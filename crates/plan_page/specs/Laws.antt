-- Laws of what pages show.
use Rattle.std.specs.Prelude.{◌≡◌, ◌≤◌, ◌<◌, ℕ, ◌==◌, ◌||◌, List, ◌++◌, Bool, IsTrue, decimal, not}
use Rattle.std.specs.List.{list_all}
use Rattle.lot_sizing.specs.Problem.{IsName, Problem, item_count, resource_count}
use Rattle.lot_sizing.specs.Plan.{Plan}
use Rattle.plan_page.specs.Charts.{scaled}
use Rattle.plan_page.specs.Items.{item_row_at}
use Rattle.plan_page.specs.Numbers.{grouped}
use Rattle.plan_page.specs.Page.{page_text}
use Rattle.plan_page.specs.Rows.{load_row}
use Rattle.plan_page.specs.declared.chart.Chart.{Chart}
use Rattle.plan_page.specs.declared.chart.TheConstants.{PLOT}
use Rattle.plan_page.specs.declared.proving.Proved.{Proved}

-- `<`, `>`, `&` or a quote
abbrev pub is_markup : ℕ → Bool
is_markup b = b == 60 || b == 62 || b == 38 || b == 34 || b == 39

-- a text without these
abbrev pub IsPlainText : List ℕ → Type 0
IsPlainText text = IsTrue (list_all (λ b. not (is_markup b)) text)

-- names and numbers bring no markup into a page
pub record ArePlain : Type 0 where
  pub names : (name : List ℕ) → IsName name → IsPlainText name
  pub numbers : (n : ℕ) → IsPlainText (decimal n)
  pub grouped : (n : ℕ) → IsPlainText (grouped n)

-- no number is drawn higher than the plot, and none but 0 with no height; a larger one is not drawn lower, and the most as high as the plot
pub record HeightsFit : Type 0 where
  pub within : (c : Chart) (v : ℕ) → scaled c v ≤ PLOT
  pub shown : (c : Chart) (v : ℕ) → 0 < v → 0 < scaled c v
  pub order : (c : Chart) (v w : ℕ) → v ≤ w → scaled c v ≤ scaled c w
  pub full : (c : Chart) → 0 < c.most → scaled c c.most ≡ PLOT

-- a text stands in another
pub record IsPart (part whole : List ℕ) : Type 0 where
  pub before : List ℕ
  pub after : List ℕ
  pub is : whole ≡ before ++ (part ++ after)

-- each row of each table stands in the page
pub record RowsStand : Type 0 where
  pub items : (m : Problem) (p : Plan) (proved : Proved) (i t : ℕ) → 1 ≤ i → i ≤ item_count m → 1 ≤ t → t ≤ m.periods → IsPart (item_row_at m p i t) (page_text m p proved)
  pub resources : (m : Problem) (p : Plan) (proved : Proved) (k t : ℕ) → 1 ≤ k → k ≤ resource_count m → 1 ≤ t → t ≤ m.periods → IsPart (load_row m p k t) (page_text m p proved)

-- A page goes by the numbers of the items and periods that there are.
use Rattle.std.proofs.Common.{◌≡◌, ◌≤◌, ◌-◌, ◌*◌, ℕ, zero, suc, List, refl, ap, arith}
use Rattle.lot_sizing.specs.Problem.{Problem, item_count, resource_count, unit_time, setup_time, unit_cost, setup_cost, hold_cost, backlog_cost}
use Rattle.lot_sizing.specs.Plan.{Plan, time_used, used_up}
use Rattle.lot_sizing.specs.Texts.{join_to}
use Rattle.lot_sizing.proofs.Least.{used_up_same}
use Rattle.lot_sizing.proofs.Same.{SamePlan, cost_same}
use Rattle.lot_sizing.proofs.Sums.{sum_to-same}
use Rattle.report.specs.Summary.{backlog_part, hold_part, made_total, setup_count, setup_part, unit_part}
use Rattle.plan_page.specs.Cells.{cell_of, period_marks}
use Rattle.plan_page.specs.Costs.{cost_rows, cost_table, costs_text, item_costs}
use Rattle.plan_page.specs.Items.{all_marks, item_chart_text, item_row_at, item_rows, item_table, item_text, item_texts, stock_line, stock_point, stock_points}
use Rattle.plan_page.specs.Loads.{load_marks, period_loads, run_time, setup_time_used, stack, time_to}
use Rattle.plan_page.specs.Page.{main_text, page_text}
use Rattle.plan_page.specs.Peaks.{backlog_peak, item_chart, item_peak, load_at, max_to, peak_at, resource_chart}
use Rattle.plan_page.specs.Resources.{all_loads, load_chart, resource_text, resource_texts}
use Rattle.plan_page.specs.Rows.{load_cell, load_cells, load_row, load_rows, load_table}
use Rattle.plan_page.specs.Totals.{backlog_total, hold_total, setup_total, unit_total, use_total, used_total}
use Rattle.plan_page.specs.declared.chart.Chart.{Chart}
use Rattle.plan_page.specs.declared.proving.Proved.{Proved}

-- ---- texts and largest numbers of a range
join_same : (n : ℕ) (f g : ℕ → List ℕ) → ((k : ℕ) → 1 ≤ k → k ≤ n → f k ≡ g k) → join_to n f ≡ join_to n g
join_same zero f g h = refl
join_same (suc n) f g h = rw (join_same n f g (λ k low high. h k low (omega (arith, high))), h (suc n) (omega arith) (omega arith)) refl

max_same : (n : ℕ) (f g : ℕ → ℕ) → ((k : ℕ) → 1 ≤ k → k ≤ n → f k ≡ g k) → max_to n f ≡ max_to n g
max_same zero f g h = refl
max_same (suc n) f g h = rw (max_same n f g (λ k low high. h k low (omega (arith, high))), h (suc n) (omega arith) (omega arith)) refl

module _ (m : Problem) (p q : Plan) (same : SamePlan m p q) where
  -- ---- numbers
  time_same : (k t : ℕ) → 1 ≤ t → t ≤ m.periods → time_used m p k t ≡ time_used m q k t
  time_same k t t_low t_high =
      sum_to-same (item_count m) _ _ (λ i low high.
      omega (arith, ap (λ n. unit_time m i k * n) (same.make i t low high t_low t_high), ap (λ n. setup_time m i k * n) (same.setup i t low high t_low t_high)))

  used_total_same : (k : ℕ) → used_total m p k ≡ used_total m q k
  unfolding used_total
  used_total_same k = sum_to-same m.periods (time_used m p k) (time_used m q k) (time_same k)

  run_same : (k t i : ℕ) → 1 ≤ i → i ≤ item_count m → 1 ≤ t → t ≤ m.periods → run_time m p k t i ≡ run_time m q k t i
  unfolding run_time
  run_same k t i low high t_low t_high = ap (λ n. unit_time m i k * n) (same.make i t low high t_low t_high)

  setup_same : (k t i : ℕ) → 1 ≤ i → i ≤ item_count m → 1 ≤ t → t ≤ m.periods → setup_time_used m p k t i ≡ setup_time_used m q k t i
  unfolding setup_time_used
  setup_same k t i low high t_low t_high = ap (λ n. setup_time m i k * n) (same.setup i t low high t_low t_high)

  -- what the first items use
  time_to_same : (k t n : ℕ) → n ≤ item_count m → 1 ≤ t → t ≤ m.periods → time_to m p k t n ≡ time_to m q k t n
  unfolding time_to
  time_to_same k t n few t_low t_high =
      sum_to-same n _ _ (λ i low high. omega (arith, run_same k t i low (omega (arith, high, few)) t_low t_high, setup_same k t i low (omega (arith, high, few)) t_low t_high))

  module _ (i : ℕ) (low : 1 ≤ i) (high : i ≤ item_count m) where
    unit_same : unit_part m p i ≡ unit_part m q i
    unit_same = sum_to-same m.periods _ _ (λ t t_low t_high. ap (λ n. unit_cost m i t * n) (same.make i t low high t_low t_high))

    setup_part_same : setup_part m p i ≡ setup_part m q i
    setup_part_same = sum_to-same m.periods _ _ (λ t t_low t_high. ap (λ n. setup_cost m i t * n) (same.setup i t low high t_low t_high))

    hold_same : hold_part m p i ≡ hold_part m q i
    hold_same = sum_to-same m.periods _ _ (λ t t_low t_high. ap (λ n. hold_cost m i t * n) (same.stock i t low high t_low t_high))

    backlog_same : backlog_part m p i ≡ backlog_part m q i
    backlog_same = sum_to-same m.periods _ _ (λ t t_low t_high. ap (λ n. backlog_cost m i t * n) (same.backlog i t low high t_low t_high))

    made_same : made_total m p i ≡ made_total m q i
    made_same = sum_to-same m.periods (p.make i) (q.make i) (λ t t_low t_high. same.make i t low high t_low t_high)

    setups_same : setup_count m p i ≡ setup_count m q i
    setups_same = sum_to-same m.periods (p.setup i) (q.setup i) (λ t t_low t_high. same.setup i t low high t_low t_high)

    use_same : use_total m p i ≡ use_total m q i
    unfolding use_total
    use_same = sum_to-same m.periods (used_up m p.make i) (used_up m q.make i) (λ t t_low t_high. used_up_same m p.make q.make i t same.make t_low t_high)

    -- ---- an item in a period
    cell_same : (t : ℕ) → 1 ≤ t → t ≤ m.periods → cell_of m p i t ≡ cell_of m q i t
    unfolding cell_of
    cell_same t t_low t_high = rw (used_up_same m p.make q.make i t same.make t_low t_high, same.make i t low high t_low t_high, same.setup i t low high t_low t_high, same.stock i t low high t_low t_high, same.backlog i t low high t_low t_high) refl

    peak_same : (t : ℕ) → 1 ≤ t → t ≤ m.periods → peak_at m p i t ≡ peak_at m q i t
    unfolding peak_at
    peak_same t t_low t_high = rw (used_up_same m p.make q.make i t same.make t_low t_high, same.make i t low high t_low t_high, same.stock i t low high t_low t_high, same.backlog i t low high t_low t_high) refl

    item_peak_same : item_peak m p i ≡ item_peak m q i
    unfolding item_peak
    item_peak_same = rw (max_same m.periods (peak_at m p i) (peak_at m q i) peak_same) refl

    backlog_peak_same : backlog_peak m p i ≡ backlog_peak m q i
    unfolding backlog_peak
    backlog_peak_same = max_same m.periods (p.backlog i) (q.backlog i) (λ t t_low t_high. same.backlog i t low high t_low t_high)

    item_chart_same : item_chart m p i ≡ item_chart m q i
    unfolding item_chart
    item_chart_same = rw (backlog_peak_same, item_peak_same) refl

    -- ---- its chart, its table and its section
    marks_same : (c : Chart) (t : ℕ) → 1 ≤ t → t ≤ m.periods → period_marks c m p i t ≡ period_marks c m q i t
    unfolding period_marks
    marks_same c t t_low t_high = rw (cell_same t t_low t_high) refl

    point_same : (c : Chart) (t : ℕ) → 1 ≤ t → t ≤ m.periods → stock_point c p i t ≡ stock_point c q i t
    unfolding stock_point
    point_same c t t_low t_high = rw (same.stock i t low high t_low t_high) refl

    stock_line_same : (c : Chart) → stock_line c m p i ≡ stock_line c m q i
    unfolding stock_line stock_points
    stock_line_same c = rw (join_same m.periods (stock_point c p i) (stock_point c q i) (point_same c)) refl

    chart_text_same : (c : Chart) → item_chart_text c m p i ≡ item_chart_text c m q i
    unfolding item_chart_text all_marks
    chart_text_same c = rw (join_same m.periods (period_marks c m p i) (period_marks c m q i) (marks_same c), stock_line_same c) refl

    row_same : (t : ℕ) → 1 ≤ t → t ≤ m.periods → item_row_at m p i t ≡ item_row_at m q i t
    unfolding item_row_at
    row_same t t_low t_high = rw (cell_same t t_low t_high) refl

    table_same : item_table m p i ≡ item_table m q i
    unfolding item_table item_rows
    table_same = rw (join_same m.periods (item_row_at m p i) (item_row_at m q i) row_same) refl

    item_same : item_text m p i ≡ item_text m q i
    unfolding item_text
    item_same = rw (use_same, made_same, setups_same, setup_part_same, unit_same, hold_same, backlog_same, item_chart_same, chart_text_same (item_chart m q i), table_same) refl

    costs_row_same : item_costs m p i ≡ item_costs m q i
    unfolding item_costs
    costs_row_same = rw (setup_part_same, unit_same, hold_same, backlog_same) refl

  items_same : item_texts m p ≡ item_texts m q
  unfolding item_texts
  items_same = join_same (item_count m) (item_text m p) (item_text m q) item_same

  -- ---- the costs
  setup_total_same : setup_total m p ≡ setup_total m q
  unfolding setup_total
  setup_total_same = sum_to-same (item_count m) (setup_part m p) (setup_part m q) setup_part_same

  unit_total_same : unit_total m p ≡ unit_total m q
  unfolding unit_total
  unit_total_same = sum_to-same (item_count m) (unit_part m p) (unit_part m q) unit_same

  hold_total_same : hold_total m p ≡ hold_total m q
  unfolding hold_total
  hold_total_same = sum_to-same (item_count m) (hold_part m p) (hold_part m q) hold_same

  backlog_total_same : backlog_total m p ≡ backlog_total m q
  unfolding backlog_total
  backlog_total_same = sum_to-same (item_count m) (backlog_part m p) (backlog_part m q) backlog_same

  cost_table_same : cost_table m p ≡ cost_table m q
  unfolding cost_table cost_rows
  cost_table_same = rw (join_same (item_count m) (item_costs m p) (item_costs m q) costs_row_same) refl

  costs_same : costs_text m p ≡ costs_text m q
  unfolding costs_text
  costs_same = rw (setup_total_same, unit_total_same, hold_total_same, backlog_total_same, cost_same m p q same, cost_table_same) refl

  -- ---- the resources
  module _ (k t : ℕ) (t_low : 1 ≤ t) (t_high : t ≤ m.periods) where
    stack_same : (c : Chart) (i before : ℕ) → 1 ≤ i → i ≤ item_count m → stack c m p k t i before ≡ stack c m q k t i before
    unfolding stack
    stack_same c i before low high = rw (run_same k t i low high t_low t_high, setup_same k t i low high t_low t_high) refl

    stacks_same : (c : Chart) → load_marks c m p k t ≡ load_marks c m q k t
    unfolding load_marks
    stacks_same c = join_same (item_count m) _ _ (λ i low high. rw (time_to_same k t (i - 1) (omega (arith, high)) t_low t_high) (stack_same c i (time_to m q k t (i - 1)) low high))

    loads_same : (c : Chart) → period_loads c m p k t ≡ period_loads c m q k t
    unfolding period_loads
    loads_same c = rw (time_same k t t_low t_high, stacks_same c) refl

    load_same : load_at m p k t ≡ load_at m q k t
    unfolding load_at
    load_same = rw (time_same k t t_low t_high) refl

    load_cell_same : (i : ℕ) → 1 ≤ i → i ≤ item_count m → load_cell m p k t i ≡ load_cell m q k t i
    unfolding load_cell
    load_cell_same i low high = rw (run_same k t i low high t_low t_high, setup_same k t i low high t_low t_high) refl

    load_cells_same : load_cells m p k t ≡ load_cells m q k t
    unfolding load_cells
    load_cells_same = join_same (item_count m) (load_cell m p k t) (load_cell m q k t) load_cell_same

    load_row_same : load_row m p k t ≡ load_row m q k t
    unfolding load_row
    load_row_same = rw (time_same k t t_low t_high, load_cells_same) refl

  load_table_same : (k : ℕ) → load_table m p k ≡ load_table m q k
  unfolding load_table load_rows
  load_table_same k = rw (join_same m.periods (load_row m p k) (load_row m q k) (load_row_same k)) refl

  resource_chart_same : (k : ℕ) → resource_chart m p k ≡ resource_chart m q k
  unfolding resource_chart
  resource_chart_same k = rw (max_same m.periods (load_at m p k) (load_at m q k) (load_same k)) refl

  load_chart_same : (c : Chart) (k : ℕ) → load_chart c m p k ≡ load_chart c m q k
  unfolding load_chart all_loads
  load_chart_same c k = rw (join_same m.periods (period_loads c m p k) (period_loads c m q k) (λ t t_low t_high. loads_same k t t_low t_high c)) refl

  resource_same : (k : ℕ) → resource_text m p k ≡ resource_text m q k
  unfolding resource_text
  resource_same k = rw (used_total_same k, resource_chart_same k, load_chart_same (resource_chart m q k) k, load_table_same k) refl

  resources_same : resource_texts m p ≡ resource_texts m q
  unfolding resource_texts
  resources_same = join_same (resource_count m) (resource_text m p) (resource_text m q) (λ k low high. resource_same k)

  -- ---- the page
  main_same : (shown : Proved) → main_text m p shown ≡ main_text m q shown
  unfolding main_text
  main_same shown = rw (cost_same m p q same, costs_same, resources_same, items_same) refl

  pub page_same : (shown : Proved) → page_text m p shown ≡ page_text m q shown
  unfolding page_text
  page_same shown = rw (main_same shown) refl

-- A generated problem is within all limits.
use Rattle.std.proofs.Common.{◌≡◌, ◌≤◌, ◌<◌, ◌+◌, ◌-◌, ◌*◌, ◌∙◌, ⊎_elim, ℕ, zero, suc, List, Option, Some, None, Bool, true, false, refl, sym, ap, subst, arith}
use Rattle.std.specs.Prelude.{if◌then◌else◌, ◌==◌, nat_le, IsNone, option_map, replicate}
use Rattle.std.proofs.lemmas.Bool.{cases_eq, cases_lt}
use Rattle.lot_sizing.specs.declared.limits.TheConstants.{MAX_TOTAL}
use Rattle.lot_sizing.specs.Sums.{sum_to}
use Rattle.lot_sizing.specs.Problem.{Problem, demand, item_at, per_unit}
use Rattle.lot_sizing.specs.Bill.{AreTotals, AreWeights, bill_of, one_if_same}
use Rattle.lot_sizing.specs.Totals.{AreLargestTotals, IsRanking}
use Rattle.lot_model.specs.Meaning.{most_asked, there_of}
use Rattle.lot_model.specs.Views.{IsInstance}
use Rattle.report.specs.Generated.{IsModelSize, has_next}
use Rattle.report.proofs.GeneratedBill.{chain, into_previous, off, one_if}
use Rattle.report.proofs.GeneratedNames.{names_differ}
use Rattle.report.proofs.GeneratedPlaces.{IsGenerated, demands_small, each_resource, few_needs, few_resources, few_uses, item_good, name_at, resource_total, sum_at, units_at}

-- ranks

ranked : (coupled : Bool) (items periods : ℕ) (p : Problem) → IsGenerated coupled items periods p → IsRanking p (λ i. i)
ranked coupled items periods p g i j low high j_low j_high some =
    ⊎_elim
    (λ next. omega (arith, next))
    (λ other. absurd (omega (arith, some, units_at coupled items periods p g i j j_low (omega (arith, j_high, g.count)), off coupled items j i other)))
    (cases_eq (j + 1) i)

-- totals

abbrev total_of : Bool → ℕ → Problem → ℕ → ℕ
total_of coupled items p zero = 0
total_of coupled items p (suc i) = if nat_le (suc i) items then sum_to p.periods (demand p (suc i)) + one_if (has_next coupled items i) * total_of coupled items p i else 0

le_true : (a b : ℕ) → a ≤ b → nat_le a b ≡ true
le_true a b h = grind (arith, h)

le_false : (a b : ℕ) → b < a → nat_le a b ≡ false
le_false a b h = grind (arith, h)

total_step : (coupled : Bool) (items : ℕ) (p : Problem) (i : ℕ) → 1 ≤ i → i ≤ items → total_of coupled items p i ≡ sum_to p.periods (demand p i) + into_previous coupled items (total_of coupled items p) i
total_step coupled items p zero low high = absurd (omega (arith, low))
total_step coupled items p (suc i) low high =
    let e : suc i - 1 ≡ i = omega arith in
    ap (λ b. if b then sum_to p.periods (demand p (suc i)) + one_if (has_next coupled items i) * total_of coupled items p i else 0) (le_true (suc i) items high)
    ∙ ap (λ k. sum_to p.periods (demand p (suc i)) + one_if (has_next coupled items k) * total_of coupled items p k) (sym e)

total_past : (coupled : Bool) (items : ℕ) (p : Problem) (i : ℕ) → items < i → total_of coupled items p i ≡ 0
total_past coupled items p zero h = refl
total_past coupled items p (suc i) h = ap (λ b. if b then sum_to p.periods (demand p (suc i)) + one_if (has_next coupled items i) * total_of coupled items p i else 0) (le_false (suc i) items h)

no_end : (coupled : Bool) (items periods : ℕ) (p : Problem) → IsGenerated coupled items periods p → (i : ℕ) → 1 ≤ i → i ≤ items → (item_at p i).end_max ≡ 0
no_end coupled items periods p g i low high = let (d, is, e) = g.each i low high in ap (λ a. a.end_max) e

no_opening : (coupled : Bool) (items periods : ℕ) (p : Problem) → IsGenerated coupled items periods p → (i : ℕ) → 1 ≤ i → i ≤ items → (item_at p i).opening ≡ 0
no_opening coupled items periods p g i low high = let (d, is, e) = g.each i low high in ap (λ a. a.opening) e

totals_are : (coupled : Bool) (items periods : ℕ) (p : Problem) → IsGenerated coupled items periods p → AreLargestTotals p (total_of coupled items p)
totals_are coupled items periods p g i low high =
    let few : i ≤ items = omega (arith, high, g.count) in
    omega (
      arith,
      total_step coupled items p i low few,
      sum_at coupled items periods p g (total_of coupled items p) i few,
      no_end coupled items periods p g i low few,
      no_opening coupled items periods p g i low few,
    )

total_small : (coupled : Bool) (items periods : ℕ) (p : Problem) → IsGenerated coupled items periods p → periods ≤ 60 → (total : ℕ → ℕ) → AreTotals (bill_of p) (most_asked p) (there_of p) total → (i : ℕ) → 1 ≤ i → i ≤ items → total i ≤ i * 5940
total_small coupled items periods p g few total are = chain coupled items 5940 total (λ i low high.
    omega (
      arith,
      are i low (omega (arith, high, g.count)),
      sum_at coupled items periods p g total i high,
      no_end coupled items periods p g i low high,
      demands_small coupled items periods p g few i low high,
    ))

total_most : (coupled : Bool) (items periods : ℕ) (p : Problem) → IsGenerated coupled items periods p → items ≤ 40 → periods ≤ 60 → (i : ℕ) → total_of coupled items p i ≤ MAX_TOTAL
total_most coupled items periods p g few short zero = omega arith
total_most coupled items periods p g few short (suc i) =
    ⊎_elim
    (λ past. omega (arith, total_past coupled items p (suc i) past))
    (λ not_past. omega (arith, not_past, few, total_small coupled items periods p g short (total_of coupled items p) (totals_are coupled items periods p g) (suc i) (omega arith) (omega (arith, not_past))))
    (cases_lt items (suc i))

one_most : (i k : ℕ) → one_if_same i k ≤ 1
one_most i k = most (i == k)
  where
    most : (b : Bool) → (if b then 1 else 0) ≤ 1
    most false = omega arith
    most true = omega arith

weight_small : (coupled : Bool) (items periods : ℕ) (p : Problem) → IsGenerated coupled items periods p → (weight : ℕ → ℕ → ℕ) → AreWeights (bill_of p) weight → (k : ℕ) → 1 ≤ k → k ≤ items → (i : ℕ) → 1 ≤ i → i ≤ items → weight i k ≤ i * 1
weight_small coupled items periods p g weight are k k_low k_high = chain coupled items 1 (λ i. weight i k) (λ i low high.
    omega (
      arith,
      are i k low (omega (arith, high, g.count)) k_low (omega (arith, k_high, g.count)),
      sum_at coupled items periods p g (λ j. weight j k) i high,
      one_most i k,
    ))

-- components have no backlog costs

none_left : (t : ℕ) (o : Option ℕ) → o ≡ None → IsNone (option_map (replicate t) o)
none_left t None h = refl
none_left t (Some b) h = absurd (cc h)

no_back : (coupled : Bool) (items periods : ℕ) (p : Problem) → IsGenerated coupled items periods p → (i j : ℕ) → 1 ≤ i → i ≤ items → 1 ≤ j → j ≤ items → 0 < per_unit p i j → IsNone (item_at p i).backlog_cost
no_back false items periods p g i j low high j_low j_high some = absurd (omega (arith, some, units_at false items periods p g i j j_low j_high))
no_back true items periods p g i j low high j_low j_high some =
    let (d, is, e) = g.each i low high in
    subst (λ (o : Option (List ℕ)). IsNone o) (sym (ap (λ a. a.backlog_cost) e)) (none_left periods d.backlog_cost (is.no_backlog refl))

-- all of it

pub is_instance : (coupled : Bool) (items periods : ℕ) (p : Problem) → IsModelSize items periods → IsGenerated coupled items periods p → IsInstance p
is_instance coupled items periods p size g = record {
  limits = record {
    some_period = omega (arith, size.some_period, g.period_count);
    periods = omega (arith, size.few_periods, g.period_count);
    resources = omega (arith, resource_total coupled items periods p g, few_resources coupled items);
    some_item = omega (arith, size.some_item, g.count);
    items = omega (arith, size.few_items, g.count);
    each_resource = λ k low high. rw (g.period_count, g.resource_list) (each_resource coupled items periods k size.few_items low (omega (arith, high, resource_total coupled items periods p g)));
    each_item = λ i low high.
        let few : i ≤ items = omega (arith, high, g.count) in
        let (d, is, e) = g.each i low few in
        rw (g.count, resource_total coupled items periods p g, g.period_count, e) (item_good coupled items periods i d (omega (arith, few, size.few_items)) is);
  };
  lines = g.lines;
  ranked = (λ i. i, ranked coupled items periods p g);
  totals = (total_of coupled items p, totals_are coupled items periods p g, total_most coupled items periods p g size.few_items size.few_periods);
  within = λ total weight totals weights i low high.
      let few : i ≤ items = omega (arith, high, g.count) in
      record {
        in_all = omega (arith, few, size.few_items, total_small coupled items periods p g size.few_periods total totals i low few);
        each = λ k k_low k_high. omega (arith, few, size.few_items, weight_small coupled items periods p g weight weights k k_low (omega (arith, k_high, g.count)) i low few);
      };
  names = λ i j low less high same.
      let few : j ≤ items = omega (arith, high, g.count) in
      names_differ i j less (omega (arith, few, size.few_items)) (sym (name_at coupled items periods p g i low (omega (arith, less, few))) ∙ same ∙ name_at coupled items periods p g j (omega (arith, less)) few);
  resource_names = λ k l low less high same. absurd (omega (arith, low, less, high, resource_total coupled items periods p g, few_resources coupled items));
  needs_once = λ i low high n o less there same. omega (arith, less, there, few_needs coupled items periods p g i low (omega (arith, high, g.count)));
  uses_once = λ i low high n o less there same. omega (arith, less, there, few_uses coupled items periods p g i low (omega (arith, high, g.count)));
  no_backlogs = λ i j low high j_low j_high some. no_back coupled items periods p g i j low (omega (arith, high, g.count)) j_low (omega (arith, j_high, g.count)) some;
}

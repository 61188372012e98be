-- One more item is looked at: it is lead-free and has a cut, or it adds nothing.
use Rattle.std.proofs.Common.{◌≡◌, ◌≢◌, ◌≤◌, ◌+◌, ◌-◌, ◌∙◌, ⊎_elim, inl, inr, ℕ, refl, sym, ap, subst, arith, List, [], ◌∷◌, ◌++◌, length}
use Rattle.std.specs.Prelude.{if◌then◌else◌, ◌==◌, pos, unsigned_abs, map}
use Rattle.std.specs.List.{sum_by}
use Rattle.std.proofs.lemmas.Bool.{cases_eq}
use Rattle.std.proofs.lemmas.List.{length_push, map-append}
use Rattle.std.proofs.lemmas.List.Sums.{sum_by_push}
use Rattle.lot_sizing.specs.Sums.{sum_to}
use Rattle.lot_sizing.specs.Problem.{IsSeries, IsWithinLimits, Problem}
use Rattle.lot_sizing.specs.Bill.{AreWeights, bill_of}
use Rattle.lot_sizing.specs.Echelon.{IsLeadFree}
use Rattle.lot_sizing.specs.Totals.{AreLargestTotals}
use Rattle.lot_sizing.specs.declared.limits.TheConstants.{MAX_AMOUNT}
use Rattle.lot_sizing.proofs.Sums.{sum_to-same, sum_to_at}
use Rattle.echelon.proofs.Singles.{list_each}
use Rattle.lot_sizing.specs.Net.{net_in}
use Rattle.lot_sizing.specs.Echelon.{asked_in_echelon}
use Rattle.lin_rows.specs.declared.column.Column.{Column}
use Rattle.lin_rows.specs.declared.prices.Potentials.{Potentials}
use Rattle.lin_rows.specs.Rows.{LinRow}
use Rattle.lin_rows.specs.Sums.{coefficient, item_of}
use Rattle.backlog_dp.specs.BlockRow.{priced_by}
use Rattle.cert_lines.specs.declared.parts.Cut.TheVariants as cut
use Rattle.cert_lines.specs.Shapes.{BlockCut, CutShape, block_lists, cut_shape}
use Rattle.cert_meaning.specs.CutRows.{echelon_at}
use Rattle.cert_checker.specs.Cuts.{IsItem, IsNotLeadFree}
use Rattle.item_bound.specs.declared.found.Apart.{Apart}
use Rattle.item_bound.specs.Apart.{IsApartOf, IsSumTo}
use Rattle.item_bound.specs.Steps.{AreApartTo, AreGoodCuts, IsGoodCut, IsOwnCut, IsTakenTo, taken_by}
use Rattle.item_bound.proofs.Lines.{AreSeries, block_lines, few_steps}
use Rattle.item_bound.proofs.Taken.{TakesOwn, own_costs, takes_own}

-- ---- the sum over the first items
sum_more : (m : Problem) (weight : ℕ → ℕ → ℕ) (i a c : ℕ) → 1 ≤ i → IsSumTo m weight (i - 1) a → IsApartOf m weight i c → IsSumTo m weight i (a + c)
sum_more m weight i a c low before is =
    let each : ℕ → ℕ = λ k. if k == i then c else before.each k in
    let here : (k : ℕ) → k ≡ i → each k ≡ c = λ k e. grind (arith, e) in
    let other : (k : ℕ) → k ≢ i → each k ≡ before.each k = λ k e. grind (arith, e) in
    let same : sum_to (i - 1) each ≡ sum_to (i - 1) before.each = sum_to-same (i - 1) each before.each (λ k k_low k_high. other k (λ e. omega (arith, e, k_high, low))) in
    record {
      each = each;
      items = λ k k_low k_high.
          ⊎_elim
          (λ e. subst (IsApartOf m weight k) (sym (here k e)) (subst (λ j. IsApartOf m weight j c) (sym e) is))
          (λ e. subst (IsApartOf m weight k) (sym (other k e)) (before.items k k_low (omega (arith, e, k_high))))
          (cases_eq k i);
      sum = omega (arith, before.sum, sum_to_at i each low, same, here i refl);
    }

-- ---- the cuts
good_more : (m : Problem) (cuts : List CutShape) (rows : List LinRow) (c : CutShape) (r : LinRow) → AreGoodCuts m cuts rows → IsGoodCut m c r → AreGoodCuts m (cuts ++ (c ∷ [])) (rows ++ (r ∷ []))
good_more m [] [] c r all is = (is, tt)
good_more m [] (s ∷ rows) c r all is = absurd all
good_more m (b ∷ cuts) [] c r all is = absurd all
good_more m (b ∷ cuts) (s ∷ rows) c r all is = (all.0, good_more m cuts rows c r all.1 is)

module _ (m : Problem) (within : IsWithinLimits m) (total : ℕ → ℕ) (totals : AreLargestTotals m total) (weight : ℕ → ℕ → ℕ) (are : AreWeights (bill_of m) weight) (i : ℕ) (item : IsItem m i) (p : Potentials) (row : LinRow) (own : IsOwnCut m i p row) where
  takes : (d : Column) → TakesOwn m i row.terms d
  takes d =
      let is = own.row_is total weight totals are in
      subst (λ (r : LinRow). TakesOwn m i r.terms d) (sym is.1)
      (takes_own m weight i p within (own_costs m weight i p are item.0 item.1 own.unit own.setup own.hold own.back) d)

  series : AreSeries m.periods p
  series =
      let is = own.row_is total weight totals are in
      let lists = (within.each_item i item.0 item.1).lists in
      let size = (list_each (net_in (asked_in_echelon m weight i)) m.periods).size in
      record {
        setup = subst (IsSeries m.periods MAX_AMOUNT) (sym own.setup) lists.setup_cost;
        unit = subst (IsSeries m.periods MAX_AMOUNT) (sym own.unit) lists.unit_cost;
        hold = own.held;
        back = own.owed;
        few = omega (arith, is.0.potentials.size, few_steps (priced_by (echelon_at m weight i) p), size);
        steps = is.0.steps;
      }

  good_cut : IsGoodCut m (BlockCut i (block_lists p)) row
  good_cut = record {
    anywhere = record {
      row_is = λ earlier. own.row_is;
      small = λ _ earlier. tt;
      lines = λ version. block_lines version i m.periods p (omega (arith, item.1, within.items)) within.periods series;
    };
    holds = own.holds;
    columns_exist = own.columns_exist;
    natural = record { columns = λ c. let is = (takes c).is in is ∙ ap pos (sym (ap unsigned_abs is)); right = own.right };
  }

  taken_more : (rows : List LinRow) (c : Column) → IsTakenTo m (i - 1) (taken_by rows c) c → IsTakenTo m i (taken_by (rows ++ (row ∷ [])) c) c
  taken_more rows c before =
      let here = takes c in
      let sum : taken_by (rows ++ (row ∷ [])) c ≡ taken_by rows c + here.times = sum_by_push (λ r. unsigned_abs (coefficient r.terms c)) rows row ∙ ap (λ z. taken_by rows c + unsigned_abs z) here.is in
      record {
        cheap = ⊎_elim (λ same. omega (arith, sum, here.cheap, before.none (omega (arith, same, item.0)))) (λ apart. omega (arith, sum, here.own apart, before.cheap)) (cases_eq (item_of c) i);
        small = ⊎_elim (λ same. omega (arith, sum, here.small, before.none (omega (arith, same, item.0)))) (λ apart. omega (arith, sum, here.own apart, before.small)) (cases_eq (item_of c) i);
        none = λ later. omega (arith, sum, before.none (omega (arith, later)), here.own (λ same. omega (arith, same, later)));
      }

  pub with_cut : (a b : Apart) → ((w : ℕ → ℕ → ℕ) → AreWeights (bill_of m) w → IsLeadFree m w i) → AreApartTo m (i - 1) a → b.amount ≡ a.amount + unsigned_abs row.right → b.cuts.items ≡ a.cuts.items ++ (cut.Block i p ∷ []) → b.rows.items ≡ a.rows.items ++ (row ∷ []) → AreApartTo m i b
  with_cut a b free before amount cuts rows = record {
    own = (weight, are);
    sum = λ w also. subst (IsSumTo m w i) (sym amount) (sum_more m w i a.amount (unsigned_abs row.right) item.0 (before.sum w also) (inl (free w also, own.costs w also)));
    small = omega (arith, amount, before.small, own.small, item.0);
    few = omega (arith, ap length rows, length_push a.rows.items row, before.few, item.0);
    cuts =
        subst (λ cs. AreGoodCuts m (map cut_shape cs) b.rows.items) (sym cuts)
        (subst (AreGoodCuts m (map cut_shape (a.cuts.items ++ (cut.Block i p ∷ [])))) (sym rows)
        (subst (λ cs. AreGoodCuts m cs (a.rows.items ++ (row ∷ []))) (sym (map-append cut_shape a.cuts.items (cut.Block i p ∷ [])))
        (good_more m (map cut_shape a.cuts.items) a.rows.items (BlockCut i (block_lists p)) row before.cuts good_cut)));
    rights = ap (λ rs. sum_by (λ (r : LinRow). unsigned_abs r.right) rs) rows ∙ sum_by_push (λ (r : LinRow). unsigned_abs r.right) a.rows.items row ∙ ap (λ k. k + unsigned_abs row.right) before.rights ∙ sym amount;
    taken = λ c. subst (λ rs. IsTakenTo m i (taken_by rs c) c) (sym rows) (taken_more a.rows.items c (before.taken c));
  }

pub without_cut : (m : Problem) (i : ℕ) (a : Apart) → IsItem m i → IsNotLeadFree m i → AreApartTo m (i - 1) a → AreApartTo m i a
without_cut m i a item none before = record {
  own = before.own;
  sum = λ w also. let e : a.amount + 0 ≡ a.amount = omega arith in subst (IsSumTo m w i) e (sum_more m w i a.amount 0 item.0 (before.sum w also) (inr (none w also, refl)));
  small = omega (arith, before.small, item.0);
  few = omega (arith, before.few);
  cuts = before.cuts;
  rights = before.rights;
  taken = λ c. record { cheap = (before.taken c).cheap; small = (before.taken c).small; none = λ later. (before.taken c).none (omega (arith, later)) };
}

-- before the first item
pub none_yet : (m : Problem) (a : Apart) → (weight : ℕ → ℕ → ℕ) → AreWeights (bill_of m) weight → a.amount ≡ 0 → a.cuts.items ≡ [] → a.rows.items ≡ [] → AreApartTo m 0 a
none_yet m a weight are amount cuts rows = record {
  own = (weight, are);
  sum = λ w also. record { each = λ _. 0; items = λ k low high. absurd (omega (arith, low, high)); sum = amount };
  small = omega (arith, amount);
  few = omega (arith, ap length rows);
  cuts = subst (λ cs. AreGoodCuts m (map cut_shape cs) a.rows.items) (sym cuts) (subst (AreGoodCuts m []) (sym rows) tt);
  rights = ap (λ rs. sum_by (λ (r : LinRow). unsigned_abs r.right) rs) rows ∙ sym amount;
  taken = λ c. subst (λ rs. IsTakenTo m 0 (taken_by rs c) c) (sym rows) (record { cheap = omega arith; small = omega arith; none = λ _. refl });
}

-- What is made of the echelon of a lead-free item is the row of a cut, and why there is none.
use Rattle.std.proofs.Common.{◌≡◌, ◌≤◌, ◌∙◌, inr, ℕ, refl, sym, ap, subst, Bool, List, [], length}
use Rattle.std.specs.Prelude.{IfErr, IfOk, Result, Ok, Err}
use Rattle.std.specs.List.{All}
use Rattle.lot_sizing.specs.Problem.{Problem}
use Rattle.lot_sizing.specs.Plan.{Plan, IsFeasible}
use Rattle.lot_sizing.specs.Bill.{AreWeights, bill_of}
use Rattle.lot_sizing.specs.Single.{ArePotentials, position_count}
use Rattle.echelon.specs.declared.net.EchelonItem.{EchelonItem}
use Rattle.echelon.specs.Views.{marked}
use Rattle.lin_rows.specs.declared.fault.CutFault.{CutFault}
use Rattle.lin_rows.specs.declared.fault.CutFault.TheVariants.{Length, TooLarge, Potential, Sign, Memory}
use Rattle.lin_rows.specs.declared.prices.Potentials.{Potentials}
use Rattle.lin_rows.specs.declared.prices.Prices.{Prices}
use Rattle.lin_rows.specs.declared.row.Term.{Term}
use Rattle.lin_rows.specs.Columns.{IsColumn}
use Rattle.lin_rows.specs.Rows.{LinRow}
use Rattle.echelon_rows.specs.Plans.{AreColumnsOf, AtPlansOf}
use Rattle.echelon_rows.specs.Rows.{echelon_in}
use Rattle.ls_cuts.specs.Rows.{HasLsRow, ls_row}
use Rattle.facility_form.specs.PriceRow.{IsPriceFault, price_row_of}
use Rattle.backlog_dp.specs.Broken.{IsFirstBroken}
use Rattle.backlog_dp.specs.BlockRow.{IsAllowed, IsBlockFault, block_row_of, priced_by}
use Rattle.cert_lines.specs.Shapes.{BlockCut, CutShape, LsCut, PriceCut, block_lists, price_lists}
use Rattle.cert_meaning.specs.CutRows.{HasEchelon, echelon_at}
use Rattle.cert_meaning.specs.Laws.{EchelonRowsAreOne}
use Rattle.cert_checker.specs.declared.fault.CheckFault.{CheckFault}
use Rattle.cert_checker.specs.Cuts.{HoldsAfter, HoldsAlways, IsBlockForm, IsCutEchelon, IsFaultOfCut, IsItem, IsLsForm, IsPriceForm, IsRowOfCut, fault_on}

module _ (m : Problem) (i : ℕ) (e : EchelonItem) (has : IsCutEchelon m i e) where
  -- what holds at the echelon's plans holds at each feasible one
  pub at_plans : (P : Plan → Type 0) → AtPlansOf e P → (p : Plan) → IsFeasible m p → P p
  at_plans P at p f = at m has.own.0 i (has.of_item has.own.0 has.own.1) p (has.plans p f)

  -- and the echelon's columns are those of the problem
  pub in_problem : (terms : List Term) → AreColumnsOf e terms → All (λ a. IsColumn m a.column) terms
  in_problem terms are = are m has.own.0 i (has.of_item has.own.0 has.own.1)

  periods : length e.demand.items ≡ m.periods
  periods = (has.of_item has.own.0 has.own.1).echelon.demand.size

  echelon_by : IsItem m i → (weight : ℕ → ℕ → ℕ) → AreWeights (bill_of m) weight → HasEchelon m weight i
  echelon_by item weight are = record { low = item.0; high = item.1; lead_free = has.lead_free weight are }

  module _ (one : EchelonRowsAreOne) where
    pub ls_is : (last : ℕ) (chosen : List Bool) (row : LinRow) → IsLsForm m i last chosen → row ≡ ls_row (echelon_in e) last (marked chosen) → IsRowOfCut m [] (LsCut i last chosen) row
    ls_is last chosen row form is = λ total weight totals are. (
      record { echelon = echelon_by form.item_exists weight are; low = form.low; high = form.high; size = form.size },
      is ∙ (one m weight i e (has.of_item weight are).echelon).0 last (marked chosen) form.high,
    )

    pub price_is : (a : Prices) (row : LinRow) → IsPriceForm m i (price_lists a) → row ≡ price_row_of (echelon_in e) a → IsRowOfCut m [] (PriceCut i (price_lists a)) row
    price_is a row form is = λ total weight totals are. (
      record { echelon = echelon_by form.item_exists weight are; price = form.price; prices = form.prices },
      is ∙ (one m weight i e (has.of_item weight are).echelon).1 a.price.items a.unit.items a.hold.items a.back.items,
    )

    -- the item by itself, with the prices of a block cut
    priced_is : (a : Potentials) (weight : ℕ → ℕ → ℕ) → AreWeights (bill_of m) weight → priced_by (echelon_in e) a ≡ priced_by (echelon_at m weight i) a
    priced_is a weight are = (one m weight i e (has.of_item weight are).echelon).3 a.setup.items a.unit.items a.hold.items a.back.items

    pub block_is : (a : Potentials) (row : LinRow) → IsBlockForm m i (block_lists a) → IsAllowed (echelon_in e) a → row ≡ block_row_of (echelon_in e) a → IsRowOfCut m [] (BlockCut i (block_lists a)) row
    block_is a row form allowed is = λ total weight totals are. (
      record {
        echelon = echelon_by form.item_exists weight are;
        setup = form.setup;
        prices = form.prices;
        steps = form.steps;
        potentials = subst (λ s. ArePotentials s a.steps.items) (priced_is a weight are) allowed.blocks;
      },
      is ∙ (one m weight i e (has.of_item weight are).echelon).2 a.setup.items a.unit.items a.hold.items a.back.items a.steps.items,
    )

    -- ---- why there is no row
    pub block_fault : (a : Potentials) (line : ℕ) (why : CutFault) → IsBlockForm m i (block_lists a) → IsBlockFault (echelon_in e) a why → IsFaultOfCut m [] (BlockCut i (block_lists a)) line (fault_on line why)
    block_fault a line Length form is = λ total weight totals are. (
      refl,
      inr (
        form,
        has.lead_free weight are,
        λ steps. is (record {
          prices = record { setup = form.setup.size ∙ sym periods; unit = form.prices.unit.size ∙ sym periods; hold = form.prices.hold.size ∙ sym periods; back = form.prices.back.size ∙ sym periods };
          steps = steps ∙ sym (ap position_count (priced_is a weight are));
        }),
      ),
    )
    block_fault a line TooLarge form is = absurd (is.1 (record {
      prices = record { setup = form.setup.small; unit = form.prices.unit.small; hold = form.prices.hold.small; back = form.prices.back.small };
      steps = form.steps;
    }))
    block_fault a line (Potential first last server) form is = λ total weight totals are. (
      refl,
      form,
      has.lead_free weight are,
      is.0.steps ∙ ap position_count (priced_is a weight are),
      subst (λ s. IsFirstBroken s a.steps.items (record { first = first; last = last; server = server })) (priced_is a weight are) is.2,
    )
    block_fault a line Sign form is = absurd is
    block_fault a line Memory form is = tt

  -- a period of the problem is one of the echelon
  pub has_ls_row : (last : ℕ) (chosen : List Bool) → IsLsForm m i last chosen → HasLsRow e last chosen
  has_ls_row last chosen form = record { low = form.low; high = subst (λ n. last ≤ n) (sym periods) form.high; size = form.size }

  pub price_fault : (a : Prices) (line : ℕ) (why : CutFault) → IsPriceForm m i (price_lists a) → IsPriceFault (length e.demand.items) a why → IsFaultOfCut m [] (PriceCut i (price_lists a)) line (fault_on line why)
  price_fault a line Length form is = absurd (is (record { price = form.price.size ∙ sym periods; unit = form.prices.unit.size ∙ sym periods; hold = form.prices.hold.size ∙ sym periods; back = form.prices.back.size ∙ sym periods }))
  price_fault a line TooLarge form is = absurd (is.1 (record { price = form.price.small; unit = form.prices.unit.small; hold = form.prices.hold.small; back = form.prices.back.small }))
  price_fault a line (Potential first last server) form is = absurd is
  price_fault a line Sign form is = absurd is
  price_fault a line Memory form is = tt

-- ---- a cut by its shape
-- a row that holds at each feasible plan holds at those at which other rows hold
pub holds_after : (m : Problem) (earlier : List LinRow) (r : Result LinRow CheckFault) → IfOk r (HoldsAlways m) → IfOk r (HoldsAfter m earlier)
holds_after m earlier (Ok row) is = λ p f hold. is p f
holds_after m earlier (Err fault) is = tt

module _ (m : Problem) (earlier : List LinRow) (line : ℕ) (shape kind : CutShape) (same : shape ≡ kind) (r : Result LinRow CheckFault) where
  pub shape_row : IfOk r (IsRowOfCut m earlier kind) → IfOk r (IsRowOfCut m earlier shape)
  shape_row is = subst (λ s. IfOk r (IsRowOfCut m earlier s)) (sym same) is

  pub shape_fault : IfErr r (IsFaultOfCut m earlier kind line) → IfErr r (IsFaultOfCut m earlier shape line)
  shape_fault is = subst (λ s. IfErr r (IsFaultOfCut m earlier s line)) (sym same) is

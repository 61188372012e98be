-- What holds by the echelon of a lead-free item: its block row is the row of a cut.
use Rattle.std.proofs.Common.{◌≡◌, ◌∙◌, ℕ, subst, List, []}
use Rattle.std.specs.List.{All}
use Rattle.lot_sizing.specs.Problem.{Problem}
use Rattle.lot_sizing.specs.Plan.{Plan, IsFeasible}
use Rattle.lot_sizing.specs.Bill.{AreWeights, bill_of}
use Rattle.lot_sizing.specs.Single.{ArePotentials}
use Rattle.echelon.specs.declared.net.EchelonItem.{EchelonItem}
use Rattle.lin_rows.specs.declared.prices.Potentials.{Potentials}
use Rattle.lin_rows.specs.declared.row.Term.{Term}
use Rattle.lin_rows.specs.Columns.{IsColumn}
use Rattle.lin_rows.specs.Rows.{LinRow}
use Rattle.echelon_rows.specs.Plans.{AreColumnsOf, AtPlansOf}
use Rattle.echelon_rows.specs.Rows.{echelon_in}
use Rattle.backlog_dp.specs.BlockRow.{IsAllowed, block_row_of, priced_by}
use Rattle.cert_lines.specs.Shapes.{BlockCut, block_lists}
use Rattle.cert_meaning.specs.CutRows.{echelon_at}
use Rattle.cert_meaning.specs.Laws.{EchelonRowsAreOne}
use Rattle.cert_checker.specs.Cuts.{IsBlockForm, IsCutEchelon, IsRowOfCut}

module _ (m : Problem) (i : ℕ) (e : EchelonItem) (has : IsCutEchelon m i e) where
  -- what holds at the echelon's plans holds at each feasible one
  pub at_plans : (P : Plan → Type 0) → AtPlansOf e P → (p : Plan) → IsFeasible m p → P p
  at_plans P at p f = at m has.own.0 i (has.of_item has.own.0 has.own.1) p (has.plans p f)

  -- and the echelon's columns are those of the problem
  pub in_problem : (terms : List Term) → AreColumnsOf e terms → All (λ a. IsColumn m a.column) terms
  in_problem terms are = are m has.own.0 i (has.of_item has.own.0 has.own.1)

  module _ (one : EchelonRowsAreOne) where
    -- the item by itself, with the prices of a block cut
    priced_is : (a : Potentials) (weight : ℕ → ℕ → ℕ) → AreWeights (bill_of m) weight → priced_by (echelon_in e) a ≡ priced_by (echelon_at m weight i) a
    priced_is a weight are = (one m weight i e (has.of_item weight are).echelon).3 a.setup.items a.unit.items a.hold.items a.back.items

    pub block_is : (a : Potentials) (row : LinRow) → IsBlockForm m i (block_lists a) → IsAllowed (echelon_in e) a → row ≡ block_row_of (echelon_in e) a → IsRowOfCut m [] (BlockCut i (block_lists a)) row
    block_is a row form allowed is = λ total weight totals are. (
      record {
        echelon = record { low = form.item_exists.0; high = form.item_exists.1; lead_free = has.lead_free weight are };
        setup = form.setup;
        prices = form.prices;
        steps = form.steps;
        potentials = subst (λ s. ArePotentials s a.steps.items) (priced_is a weight are) allowed.blocks;
      },
      is ∙ (one m weight i e (has.of_item weight are).echelon).2 a.setup.items a.unit.items a.hold.items a.back.items a.steps.items,
    )

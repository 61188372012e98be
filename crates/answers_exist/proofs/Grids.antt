-- The plan of records is held by grids.
use Rattle.std.proofs.Common.{◌≡◌, ◌≤◌, ◌+◌, ◌-◌, ◌*◌, ◌∙◌, ℕ, refl, ap, arith}
use Rattle.std.specs.Prelude.{slice_index}
use Rattle.lot_sizing.specs.Problem.{Problem, item_count}
use Rattle.lot_sizing.specs.Plan.{EachCell, Table}
use Rattle.plan_rules.specs.Cells.{Cells, Fits, table_of}
use Rattle.plan_rules.specs.declared.plan.Plan as grids
use Rattle.answers_exist.specs.Checking.{PlansAreHeld}
use Rattle.answers_exist.proofs.Costing.{cells, cell_at}

module _ (m : Problem) where
  grid : Table → Cells
  grid f = record { items = item_count m; periods = m.periods; cells = cells m f }

  place_is : (i t : ℕ) → 1 ≤ t → (i - 1) * m.periods + (t - 1) ≡ (i - 1) * m.periods + t - 1
  place_is i t low = omega (arith, low)

  holds : (f : Table) → EachCell m (λ i t. table_of (grid f) i t ≡ f i t)
  unfolding grid
  holds f i t low high t_low t_high = ap (slice_index (cells m f)) (place_is i t t_low) ∙ cell_at m f i t (low, high, t_low, t_high)

  fits : (f : Table) → Fits m (grid f)
  unfolding grid
  fits f = record { items = refl; periods = refl }

pub held : PlansAreHeld
unfolding grid
held m rs p is =
    let g : grids.Plan = record { make = grid m p.make; setup = grid m p.setup; stock = grid m p.stock; backlog = grid m p.backlog } in (
      g,
      record { make = fits m p.make; setup = fits m p.setup; stock = fits m p.stock; backlog = fits m p.backlog },
      record {
        header = is.header;
        count = is.count;
        each = λ i t low high t_low t_high.
            let read = is.each i t low high t_low t_high in (
              read.0,
              record {
                make = holds m p.make i t low high t_low t_high ∙ read.1.make;
                setup = holds m p.setup i t low high t_low t_high ∙ read.1.setup;
                stock = holds m p.stock i t low high t_low t_high ∙ read.1.stock;
                backlog = holds m p.backlog i t low high t_low t_high ∙ read.1.backlog;
              },
            );
      },
    )

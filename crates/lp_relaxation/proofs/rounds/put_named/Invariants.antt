use Rattle.std.proofs.Common.{◌≡◌, ℕ, map, take}
use Rattle.lot_sizing.specs.Totals.{AreLargestTotals}
use Rattle.lin_rows.specs.Base.{row_of}
use Rattle.lin_rows.specs.Columns.{column_count}
use Rattle.tableau.specs.Held.{inequality_of}
use Rattle.tableau.specs.Program.{AreRows}
use Rattle.lp_relaxation.specs.Sides.{all_sides, program_rows}
use Rattle.lp_relaxation.proofs.rounds.put_named.Given as goal

abbrev pub invariant-loop-index : goal.invariant-loop-index
invariant-loop-index l =
    record {
      sides : (total : ℕ → ℕ) → AreLargestTotals l.instance total → l.sides.items ≡ all_sides (row_of l.instance total) (take l.index l.names);
      rows : (total : ℕ → ℕ) → AreLargestTotals l.instance total → map inequality_of l.rows.items ≡ program_rows l.instance (row_of l.instance total) (all_sides (row_of l.instance total) (take l.index l.names));
      fit : AreRows (column_count l.instance) (map inequality_of l.rows.items);
    }

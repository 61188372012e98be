-- The rows that can be named: those of a problem, of cuts, and of the bounds on a path.
use Rattle.std.specs.Prelude.{ℕ, ◌-◌, ◌≤◌, pos, false, List, [], length, slice_index_or}
use Rattle.lot_sizing.specs.Problem.{Problem}
use Rattle.lin_rows.specs.declared.base.RowName.{RowName}
use Rattle.lin_rows.specs.declared.base.RowName.TheVariants.{Balance, Link, Capacity, EndMin, EndMax, Top, Least, Late, Path, Cut}
use Rattle.lin_rows.specs.declared.bound.Bound.{Bound}
use Rattle.lin_rows.specs.Base.{HasRow, row_of}
use Rattle.lin_rows.specs.Bounds.{bound_row}
use Rattle.lin_rows.specs.Rows.{LinRow}
use Rattle.cert_trees.specs.Paths.{no_bound}

-- what a name can mean: the problem with its largest totals, the rows of cuts, and the bounds on the path from the root
pub record Named : Type 0 where
  pub problem : Problem
  pub total : ℕ → ℕ
  pub cuts : List LinRow
  pub path : List Bound

abbrev pub names : Problem → (ℕ → ℕ) → List LinRow → List Bound → Named
names m total cuts path = record { problem = m; total = total; cuts = cuts; path = path }

-- what is read past the last cut
abbrev pub no_row : LinRow
no_row = record { terms = []; right = pos 0; equal = false }

-- the row of a name: cuts and bounds are counted from 1
abbrev pub row_named : Named → RowName → LinRow
row_named n (Balance i t) = row_of n.problem n.total (Balance i t)
row_named n (Link i t) = row_of n.problem n.total (Link i t)
row_named n (Capacity k t) = row_of n.problem n.total (Capacity k t)
row_named n (EndMin i) = row_of n.problem n.total (EndMin i)
row_named n (EndMax i) = row_of n.problem n.total (EndMax i)
row_named n (Top i t) = row_of n.problem n.total (Top i t)
row_named n (Least i t) = row_of n.problem n.total (Least i t)
row_named n (Late i t) = row_of n.problem n.total (Late i t)
row_named n (Path k) = bound_row (slice_index_or n.path (k - 1) no_bound)
row_named n (Cut k) = slice_index_or n.cuts (k - 1) no_row

-- there is a row of this name, with so many cuts and bounds
abbrev pub HasName : Problem → ℕ → ℕ → RowName → Type 0
HasName m cuts bounds (Balance i t) = HasRow m (Balance i t)
HasName m cuts bounds (Link i t) = HasRow m (Link i t)
HasName m cuts bounds (Capacity k t) = HasRow m (Capacity k t)
HasName m cuts bounds (EndMin i) = HasRow m (EndMin i)
HasName m cuts bounds (EndMax i) = HasRow m (EndMax i)
HasName m cuts bounds (Top i t) = HasRow m (Top i t)
HasName m cuts bounds (Least i t) = HasRow m (Least i t)
HasName m cuts bounds (Late i t) = HasRow m (Late i t)
HasName m cuts bounds (Path k) = (1 ≤ k) × (k ≤ bounds)
HasName m cuts bounds (Cut k) = (1 ≤ k) × (k ≤ cuts)

abbrev pub IsNamed : Named → RowName → Type 0
IsNamed n name = HasName n.problem (length n.cuts) (length n.path) name

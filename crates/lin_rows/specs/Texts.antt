-- Columns and the names of rows as they are written.
use Rattle.std.specs.Prelude.{ℕ, List, ◌++◌, codes, decimal}
use Rattle.lin_rows.specs.declared.column.Column.{Column}
use Rattle.lin_rows.specs.declared.column.Column.TheVariants.{X, Y, S, R}
use Rattle.lin_rows.specs.declared.base.RowName.{RowName}
use Rattle.lin_rows.specs.declared.base.RowName.TheVariants.{Balance, Link, Capacity, EndMin, EndMax, Top, Least, Late, Path, Cut}

-- a number after a space, and two
abbrev pub one_text : ℕ → List ℕ
one_text a = codes " " ++ decimal a

abbrev pub two_text : ℕ → ℕ → List ℕ
two_text a b = one_text a ++ one_text b

abbrev pub column_text : Column → List ℕ
column_text (X i t) = codes "x" ++ two_text i t
column_text (Y i t) = codes "y" ++ two_text i t
column_text (S i t) = codes "s" ++ two_text i t
column_text (R i t) = codes "r" ++ two_text i t

abbrev pub name_text : RowName → List ℕ
name_text (Balance i t) = codes "balance" ++ two_text i t
name_text (Link i t) = codes "link" ++ two_text i t
name_text (Capacity k t) = codes "capacity" ++ two_text k t
name_text (EndMin i) = codes "endmin" ++ one_text i
name_text (EndMax i) = codes "endmax" ++ one_text i
name_text (Top i t) = codes "top" ++ two_text i t
name_text (Least i t) = codes "least" ++ two_text i t
name_text (Late i t) = codes "late" ++ two_text i t
name_text (Path n) = codes "path" ++ one_text n
name_text (Cut n) = codes "cut" ++ one_text n

-- The line of a branch is short, since its item, its period and its number are within the limits.
use Rattle.std.proofs.Common.{◌≤◌, ◌<◌, ◌+◌, ◌^◌, ℕ, refl, arith, List, ◌++◌, length}
use Rattle.std.specs.Prelude.{codes, decimal}
use Rattle.std.proofs.lemmas.Fmt.{length-decimal-le_wide}
use Rattle.std.proofs.lemmas.List.{length-append}
use Rattle.lot_sizing.specs.Problem.{IsWithinLimits, Problem}
use Rattle.lot_sizing.specs.declared.limits.TheConstants.{MAX_ITEMS, MAX_PERIODS, MAX_TOTAL}
use Rattle.lin_rows.specs.declared.column.Column.{Column}
use Rattle.lin_rows.specs.declared.column.Column.TheVariants.{X, Y, S, R}
use Rattle.lin_rows.specs.Texts.{column_text, one_text, two_text}
use Rattle.cert_lines.specs.Line.{HasForm, HasLine}
use Rattle.cert_lines.specs.Shapes.{BranchLine}
use Rattle.cert_trees.specs.Ranges.{IsChoice}

-- ---- how long numbers are
one_short : (k n : ℕ) → 0 < k → n < 10 ^ k → n < 10 ^ 64 → length (one_text n) ≤ k + 1
one_short k n some less small =
    omega (arith, length-append (codes " ") (decimal n), length-decimal-le_wide k n some less small)

item_short : (i : ℕ) → i ≤ MAX_ITEMS → length (one_text i) ≤ 3
item_short i most = one_short 2 i (omega arith) (omega (arith, most)) (omega (arith, most))

period_short : (t : ℕ) → t ≤ MAX_PERIODS → length (one_text t) ≤ 4
period_short t most = one_short 3 t (omega arith) (omega (arith, most)) (omega (arith, most))

total_short : (n : ℕ) → n ≤ MAX_TOTAL → length (one_text n) ≤ 14
total_short n most = one_short 13 n (omega arith) (omega (arith, most)) (omega (arith, most))

two_short : (word : List ℕ) (i t : ℕ) → length word ≤ 1 → i ≤ MAX_ITEMS → t ≤ MAX_PERIODS → length (word ++ two_text i t) ≤ 8
two_short word i t few i_most t_most =
    omega (arith, length-append word (one_text i ++ one_text t), length-append (one_text i) (one_text t), few, item_short i i_most, period_short t t_most)

-- ---- the line of a branch
column_short : (m : Problem) (c : Column) → IsWithinLimits m → IsChoice m c → length (column_text c) ≤ 8
column_short m (X i t) limits is = two_short (codes "x") i t (omega arith) (omega (arith, is.1, limits.items)) (omega (arith, is.3, limits.periods))
column_short m (Y i t) limits is = two_short (codes "y") i t (omega arith) (omega (arith, is.1, limits.items)) (omega (arith, is.3, limits.periods))
column_short m (S i t) limits is = absurd is
column_short m (R i t) limits is = absurd is

branch_form : (m : Problem) (c : Column) (at : ℕ) → IsWithinLimits m → IsChoice m c → at ≤ MAX_TOTAL → HasForm (BranchLine c at)
branch_form m (X i t) at limits is most = record {
  small = ((omega (arith, is.1, limits.items), omega (arith, is.3, limits.periods)), omega (arith, most));
  short = omega (arith, length-append (codes "branch ") (column_text (X i t) ++ one_text at), length-append (column_text (X i t)) (one_text at), column_short m (X i t) limits is, total_short at most);
}
branch_form m (Y i t) at limits is most = record {
  small = ((omega (arith, is.1, limits.items), omega (arith, is.3, limits.periods)), omega (arith, most));
  short = omega (arith, length-append (codes "branch ") (column_text (Y i t) ++ one_text at), length-append (column_text (Y i t)) (one_text at), column_short m (Y i t) limits is, total_short at most);
}
branch_form m (S i t) at limits is most = absurd is
branch_form m (R i t) at limits is most = absurd is

pub branch_has_line : (m : Problem) (version : ℕ) (c : Column) (at : ℕ) → IsWithinLimits m → IsChoice m c → at ≤ MAX_TOTAL → HasLine version (BranchLine c at)
branch_has_line m version c at limits is most = record { text = refl; form = branch_form m c at limits is most; known = tt }

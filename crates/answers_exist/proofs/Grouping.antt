-- What groups charge on backlogs is within the reduced costs of all of them, or above that of a first one.
use Rattle.std.proofs.Common.{◌≤◌, ◌⊎◌, ⊎_elim, inl, inr, ℕ, arith}
use Rattle.lot_sizing.specs.Problem.{IsWithinLimits, Problem, item_count}
use Rattle.lot_sizing.specs.Plan.{Table}
use Rattle.lin_rows.specs.declared.column.Column.{Column}
use Rattle.lin_rows.specs.declared.column.Column.TheVariants.{R}
use Rattle.lin_rows.specs.Columns.{IsColumn}
use Rattle.plan_rules.specs.Order.{IsFirst}
use Rattle.reduced_leaf.specs.Faults.{IsFirstOver}
use Rattle.existence.proofs.Deciding.{Decided, each_or_first, if_or_not, le_or_not}
use Rattle.answers_exist.proofs.Columns.{column_or_not}

module _ (m : Problem) (limits : IsWithinLimits m) (price : Column → ℕ) (charge : Table) where
  -- it is on this backlog, where there is one
  abbrev IsWithin : ℕ → ℕ → Type 0
  IsWithin j t = IsColumn m (R j t) → charge j t ≤ price (R j t)

  within_or_not : (j t : ℕ) → Decided (IsWithin j t)
  within_or_not j t = if_or_not (column_or_not m limits (R j t)) (le_or_not (charge j t) (price (R j t)))

  first_over : (j t : ℕ) → IsFirst (item_count m) m.periods IsWithin j t → IsFirstOver m price charge j t
  first_over j t first =
      ⊎_elim
      (λ has. record {
        column = has;
        above = ⊎_elim (λ le. absurd (first.broken (λ _. le))) (λ not_le. omega (arith, not_le)) (le_or_not (charge j t) (price (R j t)));
        before = λ k u is sooner. first.before k u is.0.0 is.0.1 is.0.2 is.0.3 sooner is;
      })
      (λ none. absurd (first.broken (λ has. absurd (none has))))
      (column_or_not m limits (R j t))

  pub charged_or_over : ((j t : ℕ) → IsColumn m (R j t) → charge j t ≤ price (R j t)) ⊎ ((j t : ℕ) × IsFirstOver m price charge j t)
  charged_or_over =
      ⊎_elim
      (λ each. inl (λ j t has. each j t has.0.0 has.0.1 has.0.2 has.0.3 has))
      (λ found. inr (found.0, found.1, first_over found.0 found.1 found.2))
      (each_or_first (item_count m) m.periods IsWithin within_or_not)

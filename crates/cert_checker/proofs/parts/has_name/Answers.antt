use Rattle.std.proofs.Common.{◌≡◌, ℕ, refl, Bool}
use Rattle.std.specs.Prelude.{◌↔◌, IsTrue}
use Rattle.lot_sizing.specs.Problem.{Problem}
use Rattle.lin_rows.specs.declared.base.RowName.{RowName}
use Rattle.lin_rows.specs.declared.base.RowName.TheVariants.{Balance, Link, Capacity, EndMin, EndMax, Top, Least, Late, Path, Cut}
use Rattle.lin_rows.specs.Base.{HasRow}
use Rattle.cert_meaning.specs.Named.{HasName}
use Rattle.cert_checker.proofs.parts.has_name.Goals as goal

-- a name of no bound and no cut is there exactly where the problem has its row
of_problem : (m : Problem) (cuts bounds : ℕ) (found : Bool) (name : RowName) → ((k : ℕ) → name ≡ Path k → ⊥) → ((k : ℕ) → name ≡ Cut k → ⊥) → (IsTrue found ↔ HasRow m name) → IsTrue found ↔ HasName m cuts bounds name
of_problem m cuts bounds found (Balance i t) no_bound no_cut has = has
of_problem m cuts bounds found (Link i t) no_bound no_cut has = has
of_problem m cuts bounds found (Capacity k t) no_bound no_cut has = has
of_problem m cuts bounds found (EndMin i) no_bound no_cut has = has
of_problem m cuts bounds found (EndMax i) no_bound no_cut has = has
of_problem m cuts bounds found (Top i t) no_bound no_cut has = has
of_problem m cuts bounds found (Least i t) no_bound no_cut has = has
of_problem m cuts bounds found (Late i t) no_bound no_cut has = has
of_problem m cuts bounds found (Path k) no_bound no_cut has = absurd (no_bound k refl)
of_problem m cuts bounds found (Cut k) no_bound no_cut has = absurd (no_cut k refl)

pub returns-in_default : goal.returns-in_default
returns-in_default c = of_problem c.args.instance.now c.args.cuts c.args.bounds c.has_row.result c.args.name c.in_default.not-Path c.in_default.not-Cut c.has_row.ensures.row

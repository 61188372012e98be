-- The names of the program's rows, and what they mean.
use Rattle.std.proofs.Common.{◌≡◌, ◌≤◌, ℕ, refl, List}
use Rattle.std.specs.List.{All}
use Rattle.std.proofs.lemmas.List.Elements.{All-append, All-weaker}
use Rattle.lot_sizing.specs.Problem.{Problem}
use Rattle.lin_rows.specs.declared.base.RowName.{RowName}
use Rattle.lin_rows.specs.declared.base.RowName.TheVariants.{Balance, Link, Capacity, EndMin, EndMax, Top, Least, Late, Path, Cut}
use Rattle.lin_rows.specs.declared.bound.Bound.{Bound}
use Rattle.lin_rows.specs.Base.{HasRow, row_of}
use Rattle.cert_meaning.specs.Named.{IsNamed, row_named}
use Rattle.lp_relaxation.specs.Names.{BaseNamesAre, base_names, names_to}
use Rattle.lp_relaxation.proofs.Naming.{each_to}
use Rattle.lp_bounds.specs.Path.{on_path, path_names}

-- what holds of base names and of the names of bounds
pub each_name : (P : RowName → Type 0) (m : Problem) (n : ℕ) → BaseNamesAre m → ((name : RowName) → HasRow m name → P name) → ((k : ℕ) → 1 ≤ k → k ≤ n → P (Path k)) → All P (path_names m n)
each_name P m n names base bounds = All-append P (base_names m) (names_to n (λ k. Path k)) (All-weaker (HasRow m) P base (base_names m) names.each) (each_to P n (λ k. Path k) bounds)

-- ---- a base name means the problem's row, whatever the path is
module _ (m : Problem) (total : ℕ → ℕ) (path : List Bound) where
  pub base_named : (name : RowName) → HasRow m name → row_named (on_path m total path) name ≡ row_of m total name
  base_named (Balance i t) has = refl
  base_named (Link i t) has = refl
  base_named (Capacity k t) has = refl
  base_named (EndMin i) has = refl
  base_named (EndMax i) has = refl
  base_named (Top i t) has = refl
  base_named (Least i t) has = refl
  base_named (Late i t) has = refl
  base_named (Path n) has = absurd has
  base_named (Cut n) has = absurd has

  pub base_is_named : (name : RowName) → HasRow m name → IsNamed (on_path m total path) name
  base_is_named (Balance i t) has = has
  base_is_named (Link i t) has = has
  base_is_named (Capacity k t) has = has
  base_is_named (EndMin i) has = has
  base_is_named (EndMax i) has = has
  base_is_named (Top i t) has = has
  base_is_named (Least i t) has = has
  base_is_named (Late i t) has = has
  base_is_named (Path n) has = absurd has
  base_is_named (Cut n) has = absurd has

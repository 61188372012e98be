-- The worked example's relaxation closes to 20.
use Rattle.std.proofs.Common.{◌≡◌, ◌≤◌, ◌<◌, ◌+◌, ◌*◌, ⊎_elim, ℕ, refl, subst, arith, Bool, true, false, List, [], ◌∷◌, length}
use Rattle.std.proofs.lemmas.Bool.{cases_lt}
use Rattle.algebra.proofs.Order.{linear}
use Rattle.echelon.specs.Views.{marked}
use Rattle.lot_sizing.specs.Problem.{item_at}
use Rattle.lin_rows.specs.declared.base.RowName.{RowName}
use Rattle.lin_rows.specs.declared.base.RowName.TheVariants.{Balance, Link, Capacity, EndMin, EndMax, Top, Least, Late, Path, Cut}
use Rattle.lin_rows.specs.Base.{HasRow, row_of}
use Rattle.lin_rows.specs.Costs.{point_cost}
use Rattle.lin_rows.specs.Rows.{HoldsAt, LinPoint}
use Rattle.ls_cuts.specs.Rows.{ls_row}
use Rattle.cert_meaning.specs.CutRows.{HasEchelon, IsLsCut, echelon_at}
use Rattle.cert_meaning.specs.Worked.{model, total, weight}
use Rattle.lp_relaxation.specs.Relaxation.{IsClosedValue, IsRelaxed}
use Rattle.lp_relaxation.specs.Worked.{HasCheapest, eighths}

-- the model has one item and two periods
one : (P : ℕ → Type 0) → P 1 → (i : ℕ) → 1 ≤ i → i ≤ 1 → P i
one P a i low high = let e : 1 ≡ i = omega (arith, low, high) in subst P e a

cells : (P : ℕ → ℕ → Type 0) → P 1 1 → P 1 2 → (i t : ℕ) → 1 ≤ i → i ≤ 1 → 1 ≤ t → t ≤ 2 → P i t
cells P a b i t low high t_low t_high =
    one (λ j. P j t)
    (⊎_elim (λ less. let e : 1 ≡ t = omega (arith, t_low, less) in subst (P 1) e a) (λ more. let e : 2 ≡ t = omega (arith, t_high, more) in subst (P 1) e b) (cases_lt t 2))
    i low high

lacks_least : (i : ℕ) → 1 ≤ i → i ≤ 1 → 1 ≤ (item_at model i).min_lot → ⊥
lacks_least i low high = one (λ j. 1 ≤ (item_at model j).min_lot → ⊥) (λ some. omega (arith, some)) i low high

lacks_late : (i t : ℕ) → 1 ≤ i → i ≤ 1 → t ≤ 2 → 2 < t + (item_at model i).lead → ⊥
lacks_late i t low high t_high = one (λ j. 2 < t + (item_at model j).lead → ⊥) (λ late. omega (arith, late, t_high)) i low high

-- five units in each period, in eighths
point : LinPoint
point = record { values = eighths; den = 8; positive = omega arith }

abbrev Meets : RowName → Type 0
Meets name = HoldsAt point (row_of model total name)

base : (name : RowName) → HasRow model name → Meets name
unfolding point
base (Balance i t) has = cells (λ i t. Meets (Balance i t)) (omega (arith, linear)) (omega (arith, linear)) i t has.0 has.1 has.2 has.3
base (Link i t) has = cells (λ i t. Meets (Link i t)) (omega (arith, linear)) (omega (arith, linear)) i t has.0 has.1 has.2 has.3
base (Capacity k t) has = cells (λ k t. Meets (Capacity k t)) (omega (arith, linear)) (omega (arith, linear)) k t has.0 has.1 has.2 has.3
base (EndMin i) has = one (λ i. Meets (EndMin i)) (omega (arith, linear)) i has.0 has.1
base (EndMax i) has = one (λ i. Meets (EndMax i)) (omega (arith, linear)) i has.0 has.1
base (Top i t) has = cells (λ i t. Meets (Top i t)) (omega (arith, linear)) (omega (arith, linear)) i t has.0 has.1 has.2 has.3
base (Least i t) has = absurd (lacks_least i has.0.0 has.0.1 has.1)
base (Late i t) has = absurd (lacks_late i t has.0.0 has.0.1 has.0.3 has.1)
base (Path n) has = absurd has
base (Cut n) has = absurd has

abbrev MeetsLs : ℕ → ℕ → List Bool → Type 0
MeetsLs i l marks = HoldsAt point (ls_row (echelon_at model weight i) l (marked marks))

-- the sets of the first period, and of both
first_sets : (marks : List Bool) → length marks ≡ 1 → MeetsLs 1 1 marks
unfolding point
first_sets [] size = absurd (omega (arith, size))
first_sets (true ∷ []) size = omega (arith, linear)
first_sets (false ∷ []) size = omega (arith, linear)
first_sets (a ∷ (b ∷ rest)) size = absurd (omega (arith, size))

both_sets : (marks : List Bool) → length marks ≡ 2 → MeetsLs 1 2 marks
unfolding point
both_sets [] size = absurd (omega (arith, size))
both_sets (a ∷ []) size = absurd (omega (arith, size))
both_sets (true ∷ (true ∷ [])) size = omega (arith, linear)
both_sets (true ∷ (false ∷ [])) size = omega (arith, linear)
both_sets (false ∷ (true ∷ [])) size = omega (arith, linear)
both_sets (false ∷ (false ∷ [])) size = omega (arith, linear)
both_sets (a ∷ (b ∷ (c ∷ rest))) size = absurd (omega (arith, size))

ls : (i l : ℕ) (marks : List Bool) → IsLsCut model weight i l marks → MeetsLs i l marks
ls i l marks is =
    cells (λ i l. (marks : List Bool) → length marks ≡ l → MeetsLs i l marks) first_sets both_sets i l is.echelon.low is.echelon.high is.low is.high marks is.size

relaxed : IsRelaxed model total weight point
relaxed = record { base = base; ls = ls }

-- ---- four rows that bound what a point costs
has : HasEchelon model weight 1
has = record { low = omega arith; high = omega arith; lead_free = λ j low high goes. one (λ k. (item_at model k).lead ≡ 0) refl j low high }

first_is : IsLsCut model weight 1 1 (true ∷ [])
first_is = record { echelon = has; low = omega arith; high = omega arith; size = refl }

second_is : IsLsCut model weight 1 2 (false ∷ (true ∷ []))
second_is = record { echelon = has; low = omega arith; high = omega arith; size = refl }

least : (q : LinPoint) → IsRelaxed model total weight q → 154 * q.den ≤ 8 * point_cost model q.values
least q is =
    omega (
      arith,
      linear,
      is.base (Balance 1 1) (omega arith, omega arith, omega arith, omega arith),
      is.base (Capacity 1 1) (omega arith, omega arith, omega arith, omega arith),
      is.ls 1 1 (true ∷ []) first_is,
      is.ls 1 2 (false ∷ (true ∷ [])) second_is,
    )

costs : point_cost model eighths ≡ 154
costs = refl

pub has_cheapest : HasCheapest
unfolding point
has_cheapest = record { point = point; values = refl; den = refl; relaxed = relaxed; cost = costs; least = least }

pub closes : IsClosedValue model total weight 20
unfolding point
closes = record {
  some = (point, relaxed, omega (arith, costs));
  each = λ q is. omega (arith, least q is, q.positive);
}

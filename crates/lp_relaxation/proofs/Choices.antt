-- The relaxation is the same, whichever largest totals and weights of a problem are taken.
use Rattle.std.proofs.Common.{◌≡◌, ◌≤◌, ◌*◌, ℕ, refl, ap, subst, arith, false, Bool, List, [], ◌∷◌}
use Rattle.std.specs.Prelude.{Option, pos, negsuc}
use Rattle.lot_sizing.specs.Problem.{EachItem, Problem, demand, item_at, item_count}
use Rattle.lot_sizing.specs.Echelon.{in_echelon}
use Rattle.lot_sizing.proofs.Sums.{sum_to-same}
use Rattle.echelon.specs.Views.{marked}
use Rattle.lin_rows.specs.declared.column.Column.TheVariants.{X, Y}
use Rattle.lin_rows.specs.declared.base.RowName.{RowName}
use Rattle.lin_rows.specs.declared.base.RowName.TheVariants.{Balance, Link, Capacity, EndMin, EndMax, Top, Least, Late, Path, Cut}
use Rattle.lin_rows.specs.Base.{HasRow, row_of, some_terms, term, within_bound}
use Rattle.lin_rows.specs.Rows.{HoldsAt, LinPoint, LinRow}
use Rattle.ls_cuts.specs.Laws.{AlikeRowsAreOne}
use Rattle.ls_cuts.specs.Rows.{AreAlike}
use Rattle.cert_meaning.specs.CutRows.{IsLsCut, echelon_at}
use Rattle.lp_relaxation.specs.Relaxation.{IsClosedValue, IsEmptied, IsRelaxed}

link_row : ℕ → ℕ → Option ℕ → ℕ → LinRow
link_row i t most u = record { terms = some_terms (term (X i t) (negsuc 0) ∷ (term (Y i t) (pos (within_bound u most)) ∷ [])); right = pos 0; equal = false }

module _ (alike : AlikeRowsAreOne) (m : Problem) (a b : ℕ → ℕ) (v w : ℕ → ℕ → ℕ) (totals : EachItem m (λ i. a i ≡ b i)) (weights : EachItem m (λ i. EachItem m (λ k. v i k ≡ w i k))) where
  -- only a link has a largest total
  base_same : (name : RowName) → HasRow m name → row_of m a name ≡ row_of m b name
  unfolding link_row
  base_same (Balance i t) has = refl
  base_same (Link i t) has = ap (link_row i t (item_at m i).max_lot) (totals i has.0 has.1)
  base_same (Capacity k t) has = refl
  base_same (EndMin i) has = refl
  base_same (EndMax i) has = refl
  base_same (Top i t) has = refl
  base_same (Least i t) has = refl
  base_same (Late i t) has = refl
  base_same (Path n) has = absurd has
  base_same (Cut n) has = absurd has

  weighed_same : (i : ℕ) → 1 ≤ i → i ≤ item_count m → (f : ℕ → ℕ) → in_echelon m v i f ≡ in_echelon m w i f
  weighed_same i low high f = sum_to-same (item_count m) (λ j. v i j * f j) (λ j. w i j * f j) (λ j j_low j_high. ap (λ k. k * f j) (weights i low high j j_low j_high))

  echelons_alike : (i l : ℕ) → 1 ≤ i → i ≤ item_count m → AreAlike l (echelon_at m v i) (echelon_at m w i)
  echelons_alike i l low high = record {
    item = refl;
    items = refl;
    periods = refl;
    demand = λ t t_low t_high. weighed_same i low high (λ j. demand m j t);
    opening = weighed_same i low high (λ j. (item_at m j).opening);
    weight = λ j j_low j_high. weights i low high j j_low j_high;
    back = λ j j_low j_high. refl;
  }

  -- a cut by the second weights is one by the first
  cut_back : (i l : ℕ) (marks : List Bool) → IsLsCut m w i l marks → IsLsCut m v i l marks
  cut_back i l marks is =
      let has = is.echelon in
      record {
        echelon = record { low = has.low; high = has.high; lead_free = λ j low high goes. has.lead_free j low high (omega (arith, goes, weights i has.low has.high j low high)) };
        low = is.low;
        high = is.high;
        size = is.size;
      }

  pub relaxed_same : (q : LinPoint) → IsRelaxed m a v q → IsRelaxed m b w q
  relaxed_same q relaxed = record {
    base = λ name has. subst (HoldsAt q) (base_same name has) (relaxed.base name has);
    ls = λ i l marks is.
        let has = is.echelon in
        subst (HoldsAt q) (alike l (echelon_at m v i) (echelon_at m w i) (marked marks) (echelons_alike i l has.low has.high)) (relaxed.ls i l marks (cut_back i l marks is));
  }

-- so the closed value is, once points go both ways
pub closed_same : (m : Problem) (a b : ℕ → ℕ) (v w : ℕ → ℕ → ℕ) → ((q : LinPoint) → IsRelaxed m a v q → IsRelaxed m b w q) → ((q : LinPoint) → IsRelaxed m b w q → IsRelaxed m a v q) → (c : ℕ) → IsClosedValue m a v c → IsClosedValue m b w c
closed_same m a b v w there back c closed = record {
  some = (closed.some.0, there closed.some.0 closed.some.1, closed.some.2);
  each = λ q relaxed. closed.each q (back q relaxed);
}

pub emptied_same : (m : Problem) (a b : ℕ → ℕ) (v w : ℕ → ℕ → ℕ) → ((q : LinPoint) → IsRelaxed m b w q → IsRelaxed m a v q) → IsEmptied m a v → IsEmptied m b w
emptied_same m a b v w back none q relaxed = none q (back q relaxed)

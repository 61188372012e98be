-- When lots arrive.
use Rattle.std.proofs.Common.{◌≡◌, ◌≤◌, ◌<◌, ◌+◌, ◌-◌, ◌*◌, ◌∙◌, ⊎_elim, ℕ, zero, suc, refl, sym, ap, arith}
use Rattle.std.specs.Prelude.{Option, Some, None, IsNone, IfSome}
use Rattle.std.proofs.lemmas.Bool.{cases_lt}
use Rattle.lot_sizing.specs.Sums.{sum_to}
use Rattle.lot_sizing.specs.Problem.{Problem, item_at, item_count}
use Rattle.lot_sizing.specs.Plan.{Table, arriving}
use Rattle.lot_sizing.specs.Least.{SameCells}
use Rattle.lot_sizing.proofs.Sums.{sum_to-same}

pub arriving_none : (m : Problem) (make : Table) (i t : ℕ) → t ≤ (item_at m i).lead → arriving m make i t ≡ 0
arriving_none m make i t h = grind (arith, h)

pub arriving_some : (m : Problem) (make : Table) (i t : ℕ) → (item_at m i).lead < t → arriving m make i t ≡ make i (t - (item_at m i).lead)
arriving_some m make i t h = grind (arith, h)

-- without a lead time a lot arrives in its own period
pub arriving_now : (m : Problem) (make : Table) (i t : ℕ) → (item_at m i).lead ≡ 0 → 1 ≤ t → arriving m make i t ≡ make i t
arriving_now m make i t none low =
    let e : t - (item_at m i).lead ≡ t = omega (arith, none) in
    arriving_some m make i t (omega (arith, none, low)) ∙ ap (make i) e

-- what has arrived was started the lead time before
pub arrived : (m : Problem) (make : Table) (i t : ℕ) → sum_to t (arriving m make i) ≡ sum_to (t - (item_at m i).lead) (make i)
arrived m make i zero =
    let e : zero - (item_at m i).lead ≡ zero = omega arith in ap (λ k. sum_to k (make i)) (sym e)
arrived m make i (suc t) =
    let lead = (item_at m i).lead in
    ⊎_elim
    (λ late.
    let e : suc t - lead ≡ suc (t - lead) = omega (arith, late) in
    omega (arith, arrived m make i t, arriving_some m make i (suc t) late, ap (λ k. sum_to k (make i)) e, ap (make i) e))
    (λ early.
    let e : suc t - lead ≡ t - lead = omega (arith, early) in
    omega (arith, arrived m make i t, arriving_none m make i (suc t) (omega (arith, early)), ap (λ k. sum_to k (make i)) e))
    (cases_lt lead (suc t))

-- without a lead time all that is made has arrived
pub arrived_now : (m : Problem) (make : Table) (i t : ℕ) → (item_at m i).lead ≡ 0 → sum_to t (arriving m make i) ≡ sum_to t (make i)
arrived_now m make i t none =
    let e : t - (item_at m i).lead ≡ t = omega (arith, none) in
    arrived m make i t ∙ ap (λ k. sum_to k (make i)) e

-- a sum whose later terms are 0
none_later : (n k : ℕ) (f : ℕ → ℕ) → ((t : ℕ) → k < t → t ≤ k + n → f t ≡ 0) → sum_to (k + n) f ≡ sum_to k f
none_later zero k f h = let e : k + zero ≡ k = omega arith in ap (λ j. sum_to j f) e
none_later (suc n) k f h =
    let e : k + suc n ≡ suc (k + n) = omega arith in
    omega (arith, ap (λ j. sum_to j f) e, none_later n k f (λ t low high. h t low (omega (arith, high))), h (suc (k + n)) (omega arith) (omega arith))

-- where no lot arrives after the last period, all that is made arrives
pub all_arrive : (m : Problem) (make : Table) (i : ℕ) → ((t : ℕ) → 1 ≤ t → t ≤ m.periods → m.periods < t + (item_at m i).lead → make i t ≡ 0) → sum_to m.periods (make i) ≡ sum_to m.periods (arriving m make i)
all_arrive m make i horizon =
    let T = m.periods in
    let k = T - (item_at m i).lead in
    let e : k + (T - k) ≡ T = omega arith in
    ap (λ j. sum_to j (make i)) (sym e) ∙ none_later (T - k) k (make i) (λ t low high. horizon t (omega (arith, low)) (omega (arith, high, e)) (omega (arith, low, high, e))) ∙ sym (arrived m make i T)

-- what arrives agrees where the quantities do
pub arriving_same : (m : Problem) (a b : Table) (i t : ℕ) → SameCells m a b → 1 ≤ i → i ≤ item_count m → t ≤ m.periods → arriving m a i t ≡ arriving m b i t
arriving_same m a b i t same low high t_high =
    let lead = (item_at m i).lead in
    ⊎_elim
    (λ late. arriving_some m a i t late ∙ same i (t - lead) low high (omega (arith, late)) (omega (arith, t_high)) ∙ sym (arriving_some m b i t late))
    (λ early. arriving_none m a i t (omega (arith, early)) ∙ sym (arriving_none m b i t (omega (arith, early))))
    (cases_lt lead t)

-- nothing is asked of a bound that isn't there
pub no_bound : (bound : Option ℕ) (P : ℕ → Type 0) → IsNone bound → IfSome bound P
no_bound None P none = search
no_bound (Some most) P none = absurd (cc none)

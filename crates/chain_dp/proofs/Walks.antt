-- The walk over the lots that serve pays no less than the tables say.
use Rattle.std.proofs.Common.{◌≡◌, ◌≤◌, ◌+◌, ◌*◌, ◌⊎◌, ⊎_elim, ℕ, zero, suc, ap, subst, arith}
use Rattle.std.proofs.Math.Nat.{mul-le-mul_left}
use Rattle.lot_sizing.proofs.Sums.{sum_to-front}
use Rattle.chain_dp.specs.Chains.{Level}
use Rattle.chain_dp.specs.Lists.{asked_before}
use Rattle.chain_dp.proofs.Prices.{IsPlane, IsStretchTable, asked, low_price, mid_price}
use Rattle.chain_dp.proofs.Servers.{opened, paid, served, server, server_early, server_step}

pub last_or_before : (k n : ℕ) → k ≤ suc n → (k ≡ suc n) ⊎ (k ≤ n)
last_or_before k n h = grind arith

pub server_rises : (setup price : ℕ → ℕ) (s t : ℕ) → s ≤ t → server setup price s ≤ server setup price t
server_rises setup price s zero h = let e : s ≡ 0 = omega (arith, h) in omega (arith, ap (server setup price) e)
server_rises setup price s (suc t) h =
    ⊎_elim
    (λ e. omega (arith, ap (server setup price) e))
    (λ before.
    let low = server_rises setup price s t before in
    ⊎_elim
    (λ kept. omega (arith, low, kept.same))
    (λ taken. omega (arith, taken.new, server_early setup price s, h))
    (server_step setup price t))
    (last_or_before s t h)

pub asked_rises : (l : Level) (w z : ℕ) → w ≤ z → asked_before l w ≤ asked_before l z
asked_rises l zero z h = omega arith
asked_rises l (suc w) zero h = absurd (omega (arith, h))
asked_rises l (suc w) (suc z) h = sum_to-front w z l.need (omega (arith, h))

-- what is asked for between lots, at a price
asked_at : (l : Level) (p w z : ℕ) → w ≤ z → p * asked l w z + p * asked_before l w ≡ p * asked_before l z
asked_at l p w z h =
    let e : asked_before l z ≡ asked l w z + asked_before l w = omega (arith, asked_rises l w z h) in
    omega (arith, ap (λ k. p * k) e)

pub fee_once : (f y : ℕ) → 1 ≤ y → f ≤ f * y
fee_once f y h = omega (arith, mul-le-mul_left f h)

-- the server so far is left for a later lot, or for the end
pub left : (l : Level) (setup price : ℕ → ℕ) (t : ℕ) →
    opened l setup price (server setup price) (server setup price t) + price (server setup price t) * asked l (server setup price t) (suc t) ≤ paid l setup price (server setup price) t
left l setup price t =
    let v = server setup price t in
    let early : v ≤ suc t = omega (arith, server_early setup price t) in
    omega (arith, served l setup price t, asked_at l (price v) v (suc t) early)

-- a stretch of the lowest level costs no more than what is paid over it
pub stretch : (periods : ℕ) (l : Level) (A : ℕ → ℕ → ℕ) (setup : ℕ → ℕ) → IsStretchTable periods l A → (s t : ℕ) → s ≤ t → t ≤ periods →
    opened l setup (low_price l) (server setup (low_price l)) (server setup (low_price l) s) + A (server setup (low_price l) s) (server setup (low_price l) t)
    ≤ opened l setup (low_price l) (server setup (low_price l)) (server setup (low_price l) t)
stretch periods l A setup is s zero h high =
    let v = server setup (low_price l) in
    let e : s ≡ 0 = omega (arith, h) in
    rw e (omega (arith, is.none 0 (omega arith)))
stretch periods l A setup is s (suc t) h high =
    let n = low_price l in
    let v = server setup n in
    ⊎_elim
    (λ e. rw e (omega (arith, is.none (v (suc t)) (omega (arith, server_early setup n (suc t), high)))))
    (λ before.
    let so_far = stretch periods l A setup is s t before (omega (arith, high)) in
    ⊎_elim
    (λ kept. rw kept.same so_far)
    (λ taken. rw taken.new (omega (
      arith,
      so_far,
      left l setup n t,
      is.next (v s) (v t) (suc t) (server_rises setup n s t before) (omega (arith, server_early setup n t)) high,
      fee_once (l.setup_cost (suc t)) (setup (suc t)) taken.made,
    )))
    (server_step setup n t))
    (last_or_before s t h)

-- and to the end
pub stretch_out : (periods : ℕ) (l : Level) (A : ℕ → ℕ → ℕ) (setup : ℕ → ℕ) → IsStretchTable periods l A → (s : ℕ) → s ≤ periods →
    opened l setup (low_price l) (server setup (low_price l)) (server setup (low_price l) s) + A (server setup (low_price l) s) (suc periods)
    ≤ paid l setup (low_price l) (server setup (low_price l)) periods
stretch_out periods l A setup is s h =
    let n = low_price l in
    let v = server setup n in
    omega (
      arith,
      stretch periods l A setup is s periods h (omega arith),
      left l setup n periods,
      is.last (v s) (v periods) (server_rises setup n s periods h) (server_early setup n periods),
    )

-- prices of the second level's lots, each served by the cheapest lot of the lowest level at its time
abbrev pub mid_now : Level → Level → ℕ → (ℕ → ℕ) → ℕ → ℕ
mid_now low mid a setup t = mid_price low mid a t (server setup (low_price low) t)

-- what is paid when the second level opens lot b, and the lowest level the lot that serves it
abbrev pub pair_opened : Level → Level → ℕ → (ℕ → ℕ) → (ℕ → ℕ) → ℕ → ℕ
pair_opened low mid a y z b =
    opened low y (low_price low) (server y (low_price low)) (server y (low_price low) b)
    + opened mid z (mid_now low mid a y) (server z (mid_now low mid a y)) b

-- the state of the servers of a period costs no more than what is paid for it, and this much more
abbrev pub IsReached : Level → Level → ℕ → (S : ℕ → ℕ → ℕ) → (y z : ℕ → ℕ) → (more t : ℕ) → Type 0
IsReached low mid a S y z more t =
    S (server y (low_price low) (server z (mid_now low mid a y) t)) (server z (mid_now low mid a y) t) ≤ pair_opened low mid a y z (server z (mid_now low mid a y) t) + more

-- the walk over lots of the second level
pub plane : (periods last : ℕ) (low mid : Level) (a : ℕ) (A S : ℕ → ℕ → ℕ) (y z : ℕ → ℕ) → IsStretchTable periods low A → IsPlane last low mid a A S → last ≤ periods → (more s t : ℕ) → s ≤ t → t ≤ last →
    IsReached low mid a S y z more s → IsReached low mid a S y z more t
plane periods last low mid a A S y z is at within more s zero h high from =
    let e : s ≡ 0 = omega (arith, h) in
    subst (λ k. IsReached low mid a S y z more k) e from
plane periods last low mid a A S y z is at within more s (suc t) h high from =
    let n = low_price low in
    let p = mid_now low mid a y in
    let v = server y n in
    let b = server z p in
    ⊎_elim
    (λ e. subst (λ k. IsReached low mid a S y z more k) e from)
    (λ before.
    let so_far = plane periods last low mid a A S y z is at within more s t before (omega (arith, high)) from in
    ⊎_elim
    (λ kept. rw kept.same so_far)
    (λ taken.
    let b_early = server_early z p t in
    let v_early = server_early y n (b t) in
    rw taken.new (omega (
      arith,
      so_far,
      left mid z p t,
      at.next (v (b t)) (b t) (v (suc t)) (suc t) v_early (omega (arith, b_early)) high (server_rises y n (b t) (suc t) (omega (arith, b_early))) (server_early y n (suc t)),
      stretch periods low A y is (b t) (suc t) (omega (arith, b_early)) (omega (arith, high, within)),
      fee_once (mid.setup_cost (suc t)) (z (suc t)) taken.made,
    )))
    (server_step z p t))
    (last_or_before s t h)

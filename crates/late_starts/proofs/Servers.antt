-- No choice of an item costs less than the recursion says.
use Rattle.std.proofs.Common.{◌≡◌, ◌≢◌, ◌≤◌, ◌<◌, ◌+◌, ◌-◌, ◌*◌, ◌∙◌, ◌⊎◌, ⊎_elim, inl, inr, ℕ, zero, suc, refl, sym, ap, subst, arith}
use Rattle.std.specs.Prelude.{max}
use Rattle.std.proofs.lemmas.Bool.{cases_eq, cases_lt}
use Rattle.std.proofs.Math.Nat.{mul-le-mul_left}
use Rattle.lot_sizing.specs.Sums.{sum_to, sum_from}
use Rattle.lot_sizing.specs.Single.{NetPlan}
use Rattle.lot_sizing.proofs.Sums.{sum_to-add, sum_to-front, sum_to-same, sum_to-zero, sum_to_at}
use Rattle.lot_sizing.proofs.Prices.{sum_from-front}
use Rattle.late_starts.specs.Choices.{IsLateChoice, IsLateFloor, LateLots, late_price}
use Rattle.late_starts.specs.Pricing.{IsIdle, IsNextLeast, IsNextRow, IsRising, IsRowOfPrices, IsServedBy, MayServe, need_by, price_from, units_in}

max_low : (a b : ℕ) → a ≤ max a b
max_low a b = grind arith

max_high : (a b : ℕ) → b ≤ max a b
max_high a b = grind arith

max_late : (a b : ℕ) → b ≤ a → max a b ≡ a
max_late a b h = grind (arith, h)

max_early : (a b : ℕ) → a ≤ b → max a b ≡ b
max_early a b h = grind (arith, h)

max_within : (a b n : ℕ) → a ≤ n → b ≤ n → max a b ≤ n
max_within a b n h k = grind (arith, h, k)

max_next : (t s u : ℕ) → u ≤ max t s → u ≤ max (suc t) s
max_next t s u h = grind (arith, h)

max_before : (t s u v : ℕ) → v < u → u ≤ max t s → v ≤ max t s
max_before t s u v h k = omega (arith, h, k)

max_back : (t s u : ℕ) → t < s → u ≤ max (suc t) s → u ≤ max t s
max_back t s u h k = omega (arith, max_early (suc t) s h, max_high t s, k)

-- who may serve
pub serve_next : (a : LateLots) (u t : ℕ) → MayServe a u t → MayServe a u (suc t)
serve_next a u t may = record { some = omega arith; low = may.low; high = may.high; in_time = max_next t a.settled u may.in_time }

serve_before : (a : LateLots) (u v t : ℕ) → MayServe a u t → 1 ≤ v → v < u → MayServe a v t
serve_before a u v t may low less = record { some = may.some; low = low; high = omega (arith, less, may.high); in_time = max_before t a.settled u v less may.in_time }

serve_back : (a : LateLots) (u t : ℕ) → 1 ≤ t → t < a.settled → MayServe a u (suc t) → MayServe a u t
serve_back a u t some less may = record { some = some; low = may.low; high = may.high; in_time = max_back t a.settled u less may.in_time }

pub serve_self : (a : LateLots) (t : ℕ) → 1 ≤ t → t ≤ a.periods → MayServe a t t
serve_self a t low high = record { some = low; low = low; high = high; in_time = max_low t a.settled }

-- prices fall from one period to the next, by no more than the share
price_late : (a : LateLots) (u t : ℕ) → u ≤ t → price_from a u t ≡ a.unit u
price_late a u t h = let e : u - t ≡ 0 = omega (arith, h) in omega (arith, ap (λ k. sum_from t k a.share) e)

price_step : (a : LateLots) (u t : ℕ) → t < u → price_from a u t ≡ price_from a u (suc t) + a.share t
price_step a u t h =
    let e : u - t ≡ suc (u - suc t) = omega (arith, h) in
    omega (arith, ap (λ k. sum_from t k a.share) e, sum_from-front t (u - suc t) a.share)

price_falls : (a : LateLots) (u t : ℕ) → price_from a u (suc t) ≤ price_from a u t
price_falls a u t =
    ⊎_elim
    (λ before. omega (arith, price_step a u t before))
    (λ late. omega (arith, price_late a u t late, price_late a u (suc t) (omega (arith, late))))
    (cases_lt t u)

price_near : (a : LateLots) (u t : ℕ) → price_from a u t ≤ price_from a u (suc t) + a.share t
price_near a u t =
    ⊎_elim
    (λ before. omega (arith, price_step a u t before))
    (λ late. omega (arith, price_late a u t late, price_late a u (suc t) (omega (arith, late))))
    (cases_lt t u)

-- a later period that is no dearer stays so
price_order : (a : LateLots) (u v t : ℕ) → u < v → price_from a v t ≤ price_from a u t → price_from a v (suc t) ≤ price_from a u (suc t)
price_order a u v t less h =
    ⊎_elim
    (λ before. omega (arith, price_step a u t before, price_step a v t (omega (arith, before, less)), h))
    (λ late. omega (arith, price_falls a v t, price_late a u t late, price_late a u (suc t) (omega (arith, late)), h))
    (cases_lt t u)

-- the last of the cheapest periods with a setup
pub record IsPick (y c : ℕ → ℕ) (n u : ℕ) : Type 0 where
  pub low : 1 ≤ u
  pub high : u ≤ n
  pub set : y u ≡ 1
  pub cheapest : (v : ℕ) → 1 ≤ v → v ≤ n → y v ≡ 1 → c u ≤ c v
  pub last : (v : ℕ) → 1 ≤ v → v ≤ n → y v ≡ 1 → u < v → c u < c v

up_to : (v n : ℕ) → v ≤ suc n → (v ≡ suc n) ⊎ (v ≤ n)
up_to v n h = grind (arith, h)

pick : (y c : ℕ → ℕ) (n : ℕ) → ((v : ℕ) → 1 ≤ v → v ≤ n → y v ≢ 1) ⊎ ((u : ℕ) × IsPick y c n u)
pick y c zero = inl (λ v low high. absurd (omega (arith, low, high)))
pick y c (suc n) =
    ⊎_elim
    (λ none. ⊎_elim
    (λ set. inr (
      suc n,
      record {
        low = omega arith;
        high = omega arith;
        set = set;
        cheapest = λ v low high is. ⊎_elim (λ same. omega (arith, ap c same)) (λ before. absurd (none v low before is)) (up_to v n high);
        last = λ v low high is less. absurd (omega (arith, high, less));
      },
    ))
    (λ unset. inl (λ v low high is. ⊎_elim (λ same. unset (sym (ap y same) ∙ is)) (λ before. none v low before is) (up_to v n high)))
    (cases_eq (y (suc n)) 1))
    (λ some.
    let (u, is) = some in
    ⊎_elim
    (λ set. ⊎_elim
    (λ dearer. inr (
      u,
      record {
        low = is.low;
        high = omega (arith, is.high);
        set = is.set;
        cheapest = λ v low high on. ⊎_elim (λ same. omega (arith, ap c same, dearer)) (λ before. is.cheapest v low before on) (up_to v n high);
        last = λ v low high on less. ⊎_elim (λ same. omega (arith, ap c same, dearer)) (λ before. is.last v low before on less) (up_to v n high);
      },
    ))
    (λ cheap. inr (
      suc n,
      record {
        low = omega arith;
        high = omega arith;
        set = set;
        cheapest = λ v low high on. ⊎_elim (λ same. omega (arith, ap c same)) (λ before. omega (arith, cheap, is.cheapest v low before on)) (up_to v n high);
        last = λ v low high on less. absurd (omega (arith, high, less));
      },
    ))
    (cases_lt (c u) (c (suc n))))
    (λ unset. inr (
      u,
      record {
        low = is.low;
        high = omega (arith, is.high);
        set = is.set;
        cheapest = λ v low high on. ⊎_elim (λ same. absurd (unset (sym (ap y same) ∙ on))) (λ before. is.cheapest v low before on) (up_to v n high);
        last = λ v low high on less. ⊎_elim (λ same. absurd (unset (sym (ap y same) ∙ on))) (λ before. is.last v low before on less) (up_to v n high);
      },
    ))
    (cases_eq (y (suc n)) 1))
    (pick y c n)

-- nothing is made where there is no setup
made_none : (a : LateLots) (q : NetPlan) (short : ℕ → ℕ) → IsLateChoice a q short → (n : ℕ) → n ≤ a.periods → ((v : ℕ) → 1 ≤ v → v ≤ n → q.setup v ≢ 1) → sum_to n q.make ≡ 0
made_none a q short is n high none =
    sum_to-same n q.make (λ _. 0) (λ w w_low w_high. ⊎_elim (λ some. absurd (none w w_low w_high (is.made w w_low (omega (arith, w_high, high)) some))) (λ no. omega (arith, no)) (cases_lt 0 (q.make w)))
    ∙ sum_to-zero n

rises_by : (a : LateLots) → IsRising a → (t : ℕ) → suc t ≤ a.periods → need_by a.need t ≤ need_by a.need (suc t)
rises_by a rises zero high = omega arith
rises_by a rises (suc s) high = let e : suc (suc s) - 1 ≡ suc s = omega arith in omega (arith, rises (suc (suc s)) (omega arith) high, ap a.need e)

need_rises : (a : LateLots) → IsRising a → (k t : ℕ) → t + k ≤ a.periods → need_by a.need t ≤ need_by a.need (t + k)
need_rises a rises zero t high = let e : t + zero ≡ t = omega arith in omega (arith, ap (need_by a.need) e)
need_rises a rises (suc k) t high = let e : t + suc k ≡ suc (t + k) = omega arith in omega (arith, ap (need_by a.need) e, need_rises a rises k t (omega (arith, high)), rises_by a rises (t + k) (omega (arith, high)))

pub need_up_to : (a : LateLots) → IsRising a → (t u : ℕ) → t ≤ u → u ≤ a.periods → need_by a.need t ≤ need_by a.need u
need_up_to a rises t u h high = let e : t + (u - t) ≡ u = omega (arith, h) in omega (arith, ap (need_by a.need) e, need_rises a rises (u - t) t (omega (arith, e, high)))

need_some : (a : LateLots) (t : ℕ) → 1 ≤ t → need_by a.need t ≡ a.need t
need_some a zero h = absurd (omega (arith, h))
need_some a (suc t) h = refl

pub units_next : (a : LateLots) → IsRising a → (t : ℕ) → suc t ≤ a.periods → need_by a.need (suc t) ≡ need_by a.need t + units_in a.need (suc t)
units_next a rises t high = let e : suc t - 1 ≡ t = omega arith in omega (arith, rises_by a rises t high, ap (need_by a.need) e)

-- where nothing may serve, nothing is on time
idle_need : (a : LateLots) (q : NetPlan) (short : ℕ → ℕ) → IsRising a → a.settled ≤ a.periods → IsLateChoice a q short → (t : ℕ) → 1 ≤ t → t ≤ a.periods → ((v : ℕ) → 1 ≤ v → v ≤ max t a.settled → q.setup v ≢ 1) → need_by a.need t ≡ 0
idle_need a q short rises within is t low high none =
    let last = max t a.settled in
    let far : last ≤ a.periods = max_within t a.settled a.periods high within in
    let near : t ≤ last = max_low t a.settled in
    omega (
      arith,
      need_up_to a rises t last near far,
      need_some a last (omega (arith, low, near)),
      is.started last (omega (arith, low, near)) far,
      is.settled last (omega (arith, low, near)) far (max_high t a.settled),
      made_none a q short is last far none,
    )

-- what is paid, from one period to the next
paid_next : (V W p r X N x n G S K L d g b z : ℕ) → V + p * X ≤ G + S + K + p * N → W ≤ n * r + (V + d) → K + d ≤ L → r ≤ p → r * x ≤ g * x → (N ≤ X) ⊎ ((p ≤ r + b) × (N ≤ X + z)) → W + r * (X + x) ≤ (G + g * x) + (S + b * z) + L + r * (N + n)
paid_next V W p r X N x n G S K L d g b z before next setups falls made either =
    ⊎_elim
    (λ over.
    let y = X - N in
    let e : X ≡ N + y = omega (arith, over) in
    omega (arith, before, next, setups, made, ap (λ k. p * k) e, ap (λ k. r * k) e, mul-le-mul_left y falls))
    (λ under. ⊎_elim
    (λ over.
    let y = X - N in
    let e : X ≡ N + y = omega (arith, over) in
    omega (arith, before, next, setups, made, ap (λ k. p * k) e, ap (λ k. r * k) e, mul-le-mul_left y falls))
    (λ less.
    let y = N - X in
    let e : N ≡ X + y = omega (arith, less) in
    let short : y ≤ z = omega (arith, under.1) in
    omega (arith, before, next, setups, made, ap (λ k. p * k) e, ap (λ k. r * k) e, mul-le-mul_left y under.0, mul-le-mul_left b short))
    (cases_lt N X))
    either

-- a lot is no dearer than from the period that serves
made_cheap : (a : LateLots) (q : NetPlan) (short : ℕ → ℕ) (u t : ℕ) → IsLateChoice a q short → 1 ≤ t → t ≤ a.periods → (q.setup t ≡ 1 → price_from a u t ≤ price_from a t t) → price_from a u t * q.make t ≤ a.unit t * q.make t
made_cheap a q short u t is low high cheap =
    ⊎_elim
    (λ some. omega (arith, mul-le-mul_left (q.make t) (cheap (is.made t low high some)), ap (λ k. k * q.make t) (price_late a t t (omega arith))))
    (λ no.
    let none : q.make t ≡ 0 = omega (arith, no) in
    omega (arith, ap (λ k. price_from a u t * k) none, ap (λ k. a.unit t * k) none))
    (cases_lt 0 (q.make t))

-- the setups up to the period that serves
setups_more : (a : LateLots) (q : NetPlan) (u v : ℕ) → u < v → q.setup v ≡ 1 → sum_to u (λ w. a.setup w * q.setup w) + a.setup v ≤ sum_to v (λ w. a.setup w * q.setup w)
setups_more a q u v less set =
    let f = λ (w : ℕ). a.setup w * q.setup w in
    omega (arith, sum_to_at v f (omega (arith, less)), sum_to-front u (v - 1) f (omega (arith, less)), ap (λ k. a.setup v * k) set)

setups_one : (a : LateLots) (q : NetPlan) (v : ℕ) → 1 ≤ v → q.setup v ≡ 1 → a.setup v ≤ sum_to v (λ w. a.setup w * q.setup w)
setups_one a q v low set = omega (arith, setups_more a q 0 v (omega (arith, low)) set)

-- what is paid so far for what falls short
shares_next : (f : ℕ → ℕ) (t : ℕ) → 1 ≤ t → sum_to (suc t - 1) f ≡ sum_to (t - 1) f + f t
shares_next f t low = let e : suc t - 1 ≡ t = omega arith in ap (λ k. sum_to k f) e ∙ sum_to_at t f low

-- a period that served doesn't serve after a later one
pub record IsStep (a : LateLots) (most t : ℕ) (row : ℕ → ℕ) (least : ℕ) (next : ℕ → ℕ) (next_least : ℕ) : Type 0 where
  pub rises : IsRising a
  pub within : a.settled ≤ a.periods
  pub high : suc t ≤ a.periods
  pub any : (u : ℕ) → MayServe a u t → least ≤ row u
  pub row_next : IsNextRow a most t row least next
  pub least_next : IsNextLeast a most (suc t) next next_least

served_next : (a : LateLots) (most t : ℕ) (row : ℕ → ℕ) (least : ℕ) (next : ℕ → ℕ) (next_least : ℕ) (q : NetPlan) (short : ℕ → ℕ) (u v : ℕ) → IsStep a most t row least next next_least → IsLateChoice a q short → IsServedBy a q short t row u → MayServe a v (suc t) → q.setup v ≡ 1 → ((w : ℕ) → MayServe a w (suc t) → q.setup w ≡ 1 → price_from a v (suc t) ≤ price_from a w (suc t)) → ((w : ℕ) → MayServe a w (suc t) → q.setup w ≡ 1 → v < w → price_from a v (suc t) < price_from a w (suc t)) → next v + price_from a v (suc t) * sum_to (suc t) q.make ≤ sum_to (suc t) (λ w. a.unit w * q.make w) + sum_to (suc t - 1) (λ w. a.share w * short w) + sum_to v (λ w. a.setup w * q.setup w) + price_from a v (suc t) * need_by a.need (suc t)
served_next a most t row least next next_least q short u v step is served may set cheapest last =
    let p = price_from a u t in
    let r = price_from a v (suc t) in
    let N = need_by a.need t in
    let X = sum_to t q.make in
    let n = units_in a.need (suc t) in
    let G = sum_to t (λ w. a.unit w * q.make w) in
    let S = sum_to (t - 1) (λ w. a.share w * short w) in
    let K = sum_to u (λ w. a.setup w * q.setup w) in
    let L = sum_to v (λ w. a.setup w * q.setup w) in
    let some = served.serves.some in
    let t_high : t ≤ a.periods = omega (arith, step.high) in
    let falls : r ≤ p = omega (arith, cheapest u (serve_next a u t served.serves) served.set, price_falls a u t) in
    let made = made_cheap a q short v (suc t) is (omega arith) step.high (λ on. cheapest (suc t) (serve_self a (suc t) (omega arith) step.high) on) in
    let started = is.started t some t_high in
    let either : (N ≤ X) ⊎ ((p ≤ r + a.share t) × (N ≤ X + short t)) = ⊎_elim
    (λ early. inr (omega (arith, served.cheapest v (serve_back a v t some early may) set, price_near a v t), omega (arith, need_some a t some, started)))
    (λ late. inl (omega (arith, need_some a t some, started, is.settled t some t_high (omega (arith, late)))))
    (cases_lt t a.settled) in
    let entry = step.row_next v may in
    let close : (d : ℕ) → next v ≤ n * r + (row u + d) → K + d ≤ L → next v + r * sum_to (suc t) q.make ≤ sum_to (suc t) (λ w. a.unit w * q.make w) + sum_to (suc t - 1) (λ w. a.share w * short w) + L + r * need_by a.need (suc t) = λ d more setups. omega (
      arith,
      paid_next (row u) (next v) p r X N (q.make (suc t)) n G S K L d (a.unit (suc t)) (a.share t) (short t) served.paid more setups falls made either,
      shares_next (λ w. a.share w * short w) t some,
      ap (λ k. r * k) (units_next a step.rises t step.high),
    ) in
    ⊎_elim
    (λ less. close (a.setup v) (omega (arith, entry.enter, step.any u served.serves)) (setups_more a q u v less set))
    (λ no. ⊎_elim
    (λ same. close 0 (omega (arith, entry.stay (subst (λ k. MayServe a k t) (sym same) served.serves), ap row same)) (omega (arith, ap (λ k. sum_to k (λ w. a.setup w * q.setup w)) same)))
    (λ apart.
    let before : v < u = omega (arith, no, apart) in
    absurd (omega (
      arith,
      price_order a v u t before (served.cheapest v (serve_before a u v t served.serves may.low before) set),
      last u (serve_next a u t served.serves) served.set before,
    )))
    (cases_eq v u))
    (cases_lt u v)

idle_next : (a : LateLots) (most t : ℕ) (row : ℕ → ℕ) (least : ℕ) (next : ℕ → ℕ) (next_least : ℕ) (q : NetPlan) (short : ℕ → ℕ) (v : ℕ) → IsStep a most t row least next next_least → IsLateChoice a q short → IsIdle a q t least → MayServe a v (suc t) → q.setup v ≡ 1 → ((w : ℕ) → MayServe a w (suc t) → q.setup w ≡ 1 → price_from a v (suc t) ≤ price_from a w (suc t)) → next v + price_from a v (suc t) * sum_to (suc t) q.make ≤ sum_to (suc t) (λ w. a.unit w * q.make w) + sum_to (suc t - 1) (λ w. a.share w * short w) + sum_to v (λ w. a.setup w * q.setup w) + price_from a v (suc t) * need_by a.need (suc t)
idle_next a most t row least next next_least q short v step is idle may set cheapest =
    let r = price_from a v (suc t) in
    let n = units_in a.need (suc t) in
    let x = q.make (suc t) in
    let none : sum_to t q.make ≡ 0 = made_none a q short is t (omega (arith, step.high)) (λ w low high on. idle.none w (record {
      some = omega (arith, low, high);
      low = low;
      high = omega (arith, high, step.high);
      in_time = omega (arith, high, max_low t a.settled);
    }) on) in
    let made = made_cheap a q short v (suc t) is (omega arith) step.high (λ on. cheapest (suc t) (serve_self a (suc t) (omega arith) step.high) on) in
    let all : sum_to (suc t) q.make ≡ x = omega (arith, none) in
    let need : need_by a.need (suc t) ≡ n = omega (arith, units_next a step.rises t step.high, idle.need) in
    omega (
      arith,
      (step.row_next v may).enter,
      idle.free,
      setups_one a q v may.low set,
      made,
      ap (λ k. r * k) all,
      ap (λ k. r * k) need,
    )

pub floor_next : (a : LateLots) (most t : ℕ) (row : ℕ → ℕ) (least : ℕ) (next : ℕ → ℕ) (next_least : ℕ) (q : NetPlan) (short : ℕ → ℕ) → IsStep a most t row least next next_least → IsLateChoice a q short → ((u : ℕ) × IsServedBy a q short t row u) ⊎ IsIdle a q t least → ((u : ℕ) × IsServedBy a q short (suc t) next u) ⊎ IsIdle a q (suc t) next_least
floor_next a most t row least next next_least q short step is before =
    let last = max (suc t) a.settled in
    let may : (v : ℕ) → 1 ≤ v → v ≤ last → MayServe a v (suc t) = λ v low high. record {
      some = omega arith;
      low = low;
      high = omega (arith, high, max_within (suc t) a.settled a.periods step.high step.within);
      in_time = high;
    } in
    ⊎_elim
    (λ none.
    let need = idle_need a q short step.rises step.within is (suc t) (omega arith) step.high none in
    inr (record { none = λ v serves on. none v serves.low serves.in_time on; need = need; free = step.least_next.idle need }))
    (λ some.
    let (v, found) = some in
    let cheapest = λ (w : ℕ) (serves : MayServe a w (suc t)) (on : q.setup w ≡ 1). found.cheapest w serves.low serves.in_time on in
    let later = λ (w : ℕ) (serves : MayServe a w (suc t)) (on : q.setup w ≡ 1) (less : v < w). found.last w serves.low serves.in_time on less in
    inl (
      v,
      record {
        serves = may v found.low found.high;
        set = found.set;
        cheapest = cheapest;
        last = later;
        paid = ⊎_elim
            (λ served. served_next a most t row least next next_least q short served.0 v step is served.1 (may v found.low found.high) found.set cheapest later)
            (λ idle. idle_next a most t row least next next_least q short v step is idle (may v found.low found.high) found.set cheapest)
            before;
      },
    ))
    (pick q.setup (λ v. price_from a v (suc t)) last)

-- at the end
pub price_parts : (a : LateLots) (q : NetPlan) (short : ℕ → ℕ) → late_price a q short ≡ sum_to a.periods (λ t. a.setup t * q.setup t) + sum_to a.periods (λ t. a.unit t * q.make t) + sum_to a.periods (λ t. a.share t * short t)
price_parts a q short =
    omega (
      arith,
      sum_to-add a.periods (λ t. a.setup t * q.setup t + a.unit t * q.make t) (λ t. a.share t * short t),
      sum_to-add a.periods (λ t. a.setup t * q.setup t) (λ t. a.unit t * q.make t),
    )

over_end : (V p X N C : ℕ) → V + p * X ≤ C + p * N → N ≤ X → V ≤ C
over_end V p X N C paid over = let e : X ≡ N + (X - N) = omega (arith, over) in omega (arith, paid, ap (λ k. p * k) e)

pub floor_end : (a : LateLots) (most : ℕ) (row : ℕ → ℕ) (least : ℕ) → a.settled ≤ a.periods → IsRowOfPrices a most a.periods row least → IsLateFloor a least
floor_end a most row least within is = λ q short chosen.
    ⊎_elim
    (λ some.
    let (u, served) = some in
    let n = a.periods in
    let low = served.serves.some in
    let p = price_from a u n in
    let G = sum_to n (λ w. a.unit w * q.make w) in
    let S = sum_to (n - 1) (λ w. a.share w * short w) in
    let K = sum_to u (λ w. a.setup w * q.setup w) in
    omega (
      arith,
      is.any u served.serves,
      over_end (row u) p (sum_to n q.make) (need_by a.need n) (G + S + K) served.paid (omega (arith, need_some a n low, chosen.started n low (omega arith), chosen.settled n low (omega arith) within)),
      price_parts a q short,
      sum_to-front u n (λ w. a.setup w * q.setup w) served.serves.high,
      sum_to-front (n - 1) n (λ w. a.share w * short w) (omega arith),
    ))
    (λ idle. omega (arith, idle.free))
    (is.floor q short chosen)

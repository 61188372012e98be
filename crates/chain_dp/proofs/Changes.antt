-- Lots to which units or a setup are added.
use Rattle.std.proofs.Common.{◌≡◌, ◌≤◌, ◌<◌, ◌+◌, ◌*◌, ◌⊎◌, ⊎_elim, inl, inr, ℕ, zero, suc, refl, ap, arith}
use Rattle.std.specs.Prelude.{if◌then◌else◌, ◌==◌}
use Rattle.std.proofs.lemmas.Bool.{cases_eq, cases_lt}
use Rattle.lot_sizing.specs.Sums.{sum_to}
use Rattle.lot_sizing.proofs.Sums.{sum_to-same}
use Rattle.chain_dp.specs.Chains.{Level, Lots, lots_cost, made, used_by}
use Rattle.chain_dp.proofs.Prices.{lot_fee, lot_price, low_price}

-- a list of numbers with q added at s
abbrev pub raised : (ℕ → ℕ) → ℕ → ℕ → ℕ → ℕ
raised f s q t = if t == s then f t + q else f t

pub raised_here : (f : ℕ → ℕ) (s q t : ℕ) → t ≡ s → raised f s q t ≡ f t + q
raised_here f s q t same = grind (arith, same)

pub raised_other : (f : ℕ → ℕ) (s q t : ℕ) → (t ≡ s → ⊥) → raised f s q t ≡ f t
raised_other f s q t apart = grind (arith, apart)

-- sums
sum_before : (n s q : ℕ) (f : ℕ → ℕ) → n < s → sum_to n (raised f s q) ≡ sum_to n f
sum_before n s q f h = sum_to-same n (raised f s q) f (λ k low high. raised_other f s q k (λ same. omega (arith, same, high, h)))

sum_at_none : (n q : ℕ) (f : ℕ → ℕ) → sum_to n (raised f 0 q) ≡ sum_to n f
sum_at_none n q f = sum_to-same n (raised f 0 q) f (λ k low high. raised_other f 0 q k (λ same. omega (arith, same, low)))

sum_after : (n s q : ℕ) (f : ℕ → ℕ) → 1 ≤ s → s ≤ n → sum_to n (raised f s q) ≡ sum_to n f + q
sum_after zero s q f low high = absurd (omega (arith, low, high))
sum_after (suc n) s q f low high =
    ⊎_elim
    (λ same. omega (arith, sum_before n s q f (omega (arith, same)), raised_here f s q (suc n) same))
    (λ apart. omega (arith, sum_after n s q f low (omega (arith, high, apart)), raised_other f s q (suc n) apart))
    (cases_eq (suc n) s)

-- a sum with one term that is greater by at most d
pub sum_changed : (n s d : ℕ) (f g : ℕ → ℕ) → ((t : ℕ) → (t ≡ s → ⊥) → g t ≡ f t) → g s ≤ f s + d → sum_to n g ≤ sum_to n f + d
sum_changed zero s d f g others here = omega arith
sum_changed (suc n) s d f g others here =
    ⊎_elim
    (λ same.
    let before = sum_to-same n g f (λ k low high. others k (λ e. omega (arith, e, same, high))) in
    omega (arith, before, here, ap f same, ap g same))
    (λ apart. omega (arith, sum_changed n s d f g others here, others (suc n) apart))
    (cases_eq (suc n) s)

-- q units more in lot s
abbrev pub with_units : Lots → ℕ → ℕ → Lots
with_units w s q = record { make = raised w.make s q; setup = w.setup }

-- a setup for lot s
abbrev pub with_setup : Lots → ℕ → Lots
with_setup w s = record { make = w.make; setup = λ t. if t == s then 1 else w.setup t }

pub made_before : (w : Lots) (s q t : ℕ) → t < s → made (with_units w s q) t ≡ made w t
made_before w s q t h = omega (arith, sum_before t s q w.make h, raised_other w.make s q 0 (λ same. omega (arith, same, h)))

pub made_after : (w : Lots) (s q t : ℕ) → s ≤ t → made (with_units w s q) t ≡ made w t + q
made_after w zero q t h = omega (arith, sum_at_none t q w.make, raised_here w.make 0 q 0 refl)
made_after w (suc s) q t h = omega (arith, sum_after t (suc s) q w.make (omega arith) h, raised_other w.make (suc s) q 0 (λ same. omega (arith, same)))

pub made_more : (w : Lots) (s q t : ℕ) → made w t ≤ made (with_units w s q) t
made_more w s q t =
    ⊎_elim
    (λ before. omega (arith, made_before w s q t before))
    (λ after. omega (arith, made_after w s q t after))
    (cases_lt t s)

-- what q units of lot s take of the level below
abbrev pub taken : (into q : ℕ) → ℕ → ℕ
taken into q zero = 0
taken into q (suc s) = into * q

pub used_before : (into : ℕ) (w : Lots) (s q t : ℕ) → t < s → used_by into (with_units w s q) t ≡ used_by into w t
used_before into w s q t h = ap (λ k. into * k) (sum_before t s q w.make h)

pub used_after : (into : ℕ) (w : Lots) (s q t : ℕ) → s ≤ t → used_by into (with_units w s q) t ≡ used_by into w t + taken into q s
used_after into w zero q t h = omega (arith, ap (λ k. into * k) (sum_at_none t q w.make))
used_after into w (suc s) q t h = omega (arith, ap (λ k. into * k) (sum_after t (suc s) q w.make (omega arith) h))

pub used_more : (into : ℕ) (w : Lots) (s q t : ℕ) → used_by into (with_units w s q) t ≤ used_by into w t + taken into q s
used_more into w s q t =
    ⊎_elim
    (λ before. omega (arith, used_before into w s q t before))
    (λ after. omega (arith, used_after into w s q t after))
    (cases_lt t s)

-- costs
pub units_cost : (n : ℕ) (l : Level) (w : Lots) (s q : ℕ) → lots_cost n l (with_units w s q) ≤ lots_cost n l w + low_price l s * q
units_cost n l w zero q =
    let same = sum_to-same n (λ t. l.setup_cost t * w.setup t + l.unit_cost t * raised w.make 0 q t) (λ t. l.setup_cost t * w.setup t + l.unit_cost t * w.make t) (λ k low high. ap (λ x. l.setup_cost k * w.setup k + l.unit_cost k * x) (raised_other w.make 0 q k (λ e. omega (arith, e, low)))) in
    omega (arith, same, ap (λ x. l.opening_price * x) (raised_here w.make 0 q 0 refl))
units_cost n l w (suc s) q =
    let changed =
    sum_changed n (suc s) (l.unit_cost (suc s) * q) (λ t. l.setup_cost t * w.setup t + l.unit_cost t * w.make t) (λ t. l.setup_cost t * w.setup t + l.unit_cost t * raised w.make (suc s) q t)
    (λ t apart. ap (λ x. l.setup_cost t * w.setup t + l.unit_cost t * x) (raised_other w.make (suc s) q t apart))
    (omega (arith, ap (λ x. l.unit_cost (suc s) * x) (raised_here w.make (suc s) q (suc s) refl))) in
    omega (arith, changed, ap (λ x. l.opening_price * x) (raised_other w.make (suc s) q 0 (λ same. omega (arith, same))))

setup_here : (f : ℕ → ℕ) (s t : ℕ) → t ≡ s → (if t == s then 1 else f t) ≡ 1
setup_here f s t same = grind (arith, same)

setup_other : (f : ℕ → ℕ) (s t : ℕ) → (t ≡ s → ⊥) → (if t == s then 1 else f t) ≡ f t
setup_other f s t apart = grind (arith, apart)

pub setup_is : (w : Lots) (s : ℕ) → (with_setup w s).setup s ≡ 1
setup_is w s = setup_here w.setup s s refl

pub setup_or : (w : Lots) (s t : ℕ) → ((with_setup w s).setup t ≡ 1) ⊎ ((with_setup w s).setup t ≡ w.setup t)
setup_or w s t =
    ⊎_elim
    (λ same. inl (setup_here w.setup s t same))
    (λ apart. inr (setup_other w.setup s t apart))
    (cases_eq t s)

setup_times : (n : ℕ) (l : Level) (w : Lots) (s : ℕ) → 1 ≤ s → lots_cost n l (with_setup w s) ≤ lots_cost n l w + l.setup_cost s
setup_times n l w s low =
    let changed =
    sum_changed n s (l.setup_cost s) (λ t. l.setup_cost t * w.setup t + l.unit_cost t * w.make t) (λ t. l.setup_cost t * (with_setup w s).setup t + l.unit_cost t * w.make t)
    (λ t apart. ap (λ x. l.setup_cost t * x + l.unit_cost t * w.make t) (setup_other w.setup s t apart))
    (omega (arith, ap (λ x. l.setup_cost s * x) (setup_is w s))) in
    omega (arith, changed)

pub setup_cost : (n : ℕ) (l : Level) (w : Lots) (s : ℕ) → lots_cost n l (with_setup w s) ≤ lots_cost n l w + lot_fee l s
setup_cost n l w zero =
    let same = sum_to-same n (λ t. l.setup_cost t * (with_setup w 0).setup t + l.unit_cost t * w.make t) (λ t. l.setup_cost t * w.setup t + l.unit_cost t * w.make t) (λ k low high. ap (λ x. l.setup_cost k * x + l.unit_cost k * w.make k) (setup_other w.setup 0 k (λ e. omega (arith, e, low)))) in
    omega (arith, same)
setup_cost n l w (suc s) = setup_times n l w (suc s) (omega arith)

-- the price of q units of a lot is that of the lot itself, and of what they take
pub price_splits : (l : Level) (into below q s : ℕ) → lot_price l s (into * below) * q ≡ low_price l s * q + below * taken into q s
price_splits l into below q zero = omega arith
price_splits l into below q (suc s) = omega arith

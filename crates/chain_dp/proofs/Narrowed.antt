-- Numbers of 64 bits in the place of others, and leasts of costs in them.
use Rattle.std.proofs.Common.{◌≡◌, ◌≤◌, ◌<◌, ◌+◌, ◌*◌, ⊎_elim, ℕ, zero, suc, ap, arith, min}
use Rattle.std.proofs.Math.Nat.{mul-le-mul_left, mul-le-mul_right}
use Rattle.std.proofs.lemmas.Bool.{cases_eq, cases_lt}
use Rattle.chain_dp.specs.declared.lists.LevelLists.{LevelLists}
use Rattle.chain_dp.specs.Numbers.{IsCapped}
use Rattle.chain_dp.specs.Lists.{price_at}
use Rattle.chain_dp.proofs.Leasts.{capped_below}
use Rattle.chain_dp.specs.States.{IsNarrow, IsNarrowLeast, most_64}

-- NUMBERS

pub narrow_capped : (a x y : ℕ) → IsCapped a x → IsNarrow x y → IsNarrow a y
narrow_capped a x y is short = record {
  within = omega (arith, is.within, short.within);
  fits = λ small. omega (arith, short.fits small, is.fits (omega (arith, short.fits small, small)));
}

pub narrow_sum : (a b x y s : ℕ) → IsNarrow a x → IsNarrow b y → s ≡ min (x + y) most_64 → IsNarrow (a + b) s
narrow_sum a b x y s first second is = record {
  within = omega (arith, first.within, second.within, is);
  fits = λ small. omega (arith, first.fits (omega (arith, small, is)), second.fits (omega (arith, small, is)), is, small);
}

times_narrow : (a q x y s : ℕ) → IsNarrow a x → IsNarrow q y → s ≡ min (x * y) most_64 → s < most_64 → a * q ≤ s
times_narrow a q zero y s first second is small =
    let none : a ≡ 0 = omega (arith, first.fits (omega arith)) in
    omega (arith, ap (λ k. k * q) none, is)
times_narrow a q (suc x) zero s first second is small =
    let none : q ≡ 0 = omega (arith, second.fits (omega arith)) in
    omega (arith, ap (λ k. a * k) none, is)
times_narrow a q (suc x) (suc y) s first second is small =
    let product : s ≡ suc x * suc y = omega (arith, is, small) in
    let one : suc x ≤ suc x * suc y = omega arith in
    let two : suc y ≤ suc x * suc y = omega arith in
    let left = mul-le-mul_right (suc y) (first.fits (omega (arith, one, product, small))) in
    omega (arith, left, mul-le-mul_left a (second.fits (omega (arith, two, product, small))), product)

pub narrow_times : (a q x y s : ℕ) → IsNarrow a x → IsNarrow q y → s ≡ min (x * y) most_64 → IsNarrow (a * q) s
narrow_times a q x y s first second is = record {
  within = omega (arith, mul-le-mul_right y first.within, mul-le-mul_left a second.within, is);
  fits = times_narrow a q x y s first second is;
}

-- the price of a lot, where that of what goes into it is capped
pub price_below : (x : LevelLists) (into m b t y : ℕ) → IsCapped m b → IsCapped (price_at x into b t) y → IsCapped (price_at x into m t) y
price_below x into m b t y below is =
    let once = capped_below x into m b 1 t y below (record { within = omega (arith, is.within); fits = λ small. omega (arith, is.fits small) }) in
    record { within = omega (arith, once.within); fits = λ small. omega (arith, once.fits small) }

-- LEASTS

pub narrow_none : (from : ℕ) (cost : ℕ → ℕ) (x : ℕ) → x ≡ most_64 → IsNarrowLeast from from cost x
narrow_none from cost x is = record { within = λ w low high. absurd (omega (arith, low, high)); some = λ small. absurd (omega (arith, small, is)) }

-- one more lot, whose cost is a number with so much more
pub narrow_offered : (from n : ℕ) (cost : ℕ → ℕ) (least other more a new : ℕ) → IsNarrowLeast from n cost least → from ≤ n → IsNarrow a more → cost n ≡ other + a → new ≡ min least (min (other + more) most_64) → IsNarrowLeast from (n + 1) cost new
narrow_offered from n cost least other more a new is order short mine new_is = record {
  within = λ w first before.
      ⊎_elim
      (λ same. omega (arith, new_is, short.within, mine, ap cost same))
      (λ apart. omega (arith, new_is, is.within w first (omega (arith, before, apart))))
      (cases_eq w n);
  some = λ small.
      ⊎_elim
      (λ old.
      let found = is.some (omega (arith, old, new_is, small)) in
      (found.0, found.1, omega (arith, found.2), omega (arith, found.3, old, new_is, small)))
      (λ other_one. (n, order, omega arith, omega (arith, short.fits (omega (arith, other_one, new_is, small)), mine, other_one, new_is, small)))
      (cases_lt least (other + more));
}

pub narrow_next : (from n : ℕ) (cost : ℕ → ℕ) (least x new : ℕ) → IsNarrowLeast from n cost least → from ≤ n → IsNarrow (cost n) x → new ≡ min least x → IsNarrowLeast from (n + 1) cost new
narrow_next from n cost least x new is order short new_is = record {
  within = λ w first before.
      ⊎_elim
      (λ same. omega (arith, new_is, short.within, ap cost same))
      (λ apart. omega (arith, new_is, is.within w first (omega (arith, before, apart))))
      (cases_eq w n);
  some = λ small.
      ⊎_elim
      (λ old.
      let found = is.some (omega (arith, old, new_is, small)) in
      (found.0, found.1, omega (arith, found.2), omega (arith, found.3, old, new_is, small)))
      (λ mine. (n, order, omega arith, omega (arith, short.fits (omega (arith, mine, new_is, small)), mine, new_is, small)))
      (cases_lt least x);
}

-- Numbers of 128 bits in the place of others, and leasts of costs, one lot after the other.
use Rattle.std.proofs.Common.{◌≡◌, ◌≤◌, ◌<◌, ◌+◌, ◌*◌, ◌⊎◌, ⊎_elim, ℕ, zero, suc, ap, arith, min}
use Rattle.std.proofs.Math.Nat.{mul-le-mul_left, mul-le-mul_right}
use Rattle.std.proofs.lemmas.Bool.{cases_eq}
use Rattle.chain_dp.specs.declared.lists.LevelLists.{LevelLists}
use Rattle.chain_dp.specs.Numbers.{IsCapped, IsLeastOf, most}
use Rattle.chain_dp.specs.Lists.{price_at}

-- NUMBERS

pub capped_same : (x : ℕ) → IsCapped x x
capped_same x = record { within = omega arith; fits = λ small. omega arith }

pub capped_sum : (a b x y s : ℕ) → IsCapped a x → IsCapped b y → s ≡ min (x + y) most → IsCapped (a + b) s
capped_sum a b x y s first second is = record {
  within = omega (arith, first.within, second.within, is);
  fits = λ small. omega (arith, first.fits (omega (arith, small, is)), second.fits (omega (arith, small, is)), is, small);
}

times_fits : (a x q s : ℕ) → (x < most → a ≤ x) → s ≡ min (x * q) most → s < most → a * q ≤ s
times_fits a x zero s fits is small = omega arith
times_fits a x (suc q) s fits is small =
    let product : s ≡ x * suc q = omega (arith, is, small) in
    let one : x ≤ x * suc q = omega arith in
    omega (arith, mul-le-mul_right (suc q) (fits (omega (arith, one, product, small))), product)

pub capped_times : (a x q s : ℕ) → IsCapped a x → s ≡ min (x * q) most → IsCapped (a * q) s
capped_times a x q s is product = record {
  within = omega (arith, mul-le-mul_right q is.within, product);
  fits = λ small. times_fits a x q s is.fits product small;
}

-- the price of a lot rises with that of what goes into it
price_rises : (x : LevelLists) (into less more t : ℕ) → less ≤ more → price_at x into less t ≤ price_at x into more t
price_rises x into less more zero h = omega arith
price_rises x into less more (suc t) h = omega (arith, mul-le-mul_left into h)

into_fits : (into m b y : ℕ) → (b < most → m ≤ b) → into * b ≤ y → y < most → into * m ≤ into * b
into_fits zero m b y fits is small = omega arith
into_fits (suc into) m b y fits is small = mul-le-mul_left (suc into) (fits (omega (arith, is, small)))

price_fits : (x : LevelLists) (into m b q t : ℕ) → (b < most → m ≤ b) → price_at x into b t * suc q < most → price_at x into m t ≤ price_at x into b t
price_fits x into m b q zero fits small = omega arith
price_fits x into m b q (suc t) fits small = omega (arith, into_fits into m b (price_at x into b (suc t) * suc q) fits (omega arith) small)

cost_fits : (x : LevelLists) (into m b y q t : ℕ) → (b < most → m ≤ b) → price_at x into b t * q ≤ y → y < most → price_at x into m t * q ≤ y
cost_fits x into m b y zero t fits is small = omega arith
cost_fits x into m b y (suc q) t fits is small =
    omega (arith, mul-le-mul_right (suc q) (price_fits x into m b q t fits (omega (arith, is, small))), is)

-- what so many units cost, where the price of what goes into them is capped
pub capped_below : (x : LevelLists) (into m b q t y : ℕ) → IsCapped m b → IsCapped (price_at x into b t * q) y → IsCapped (price_at x into m t * q) y
capped_below x into m b q t y below is = record {
  within = omega (arith, is.within, mul-le-mul_right q (price_rises x into b m t below.within));
  fits = λ small. cost_fits x into m b y q t below.fits (is.fits small) small;
}

-- LEASTS

pub none_offered : (from : ℕ) (cost : ℕ → ℕ) (x : ℕ) → x ≡ most → IsLeastOf from from cost x
none_offered from cost x is = record { within = λ w low high. absurd (omega (arith, low, high)); some = λ small. absurd (omega (arith, small, is)) }

pub offered : (from n : ℕ) (cost : ℕ → ℕ) (least x new : ℕ) → IsLeastOf from n cost least → from ≤ n → IsCapped (cost n) x → new ≤ least → new ≤ x → (new ≡ least) ⊎ (new ≡ x) → IsLeastOf from (n + 1) cost new
offered from n cost least x new is order offer low high either = record {
  within = λ w first before.
      ⊎_elim
      (λ same. omega (arith, high, offer.within, ap cost same))
      (λ apart. omega (arith, low, is.within w first (omega (arith, before, apart))))
      (cases_eq w n);
  some = λ small.
      ⊎_elim
      (λ old.
      let found = is.some (omega (arith, old, small)) in
      (found.0, found.1, omega (arith, found.2), omega (arith, found.3, old)))
      (λ mine. (n, order, omega arith, omega (arith, offer.fits (omega (arith, mine, small)), mine)))
      either;
}

pub same_least : (from to : ℕ) (f g : ℕ → ℕ) (least : ℕ) → ((w : ℕ) → from ≤ w → w < to → f w ≡ g w) → IsLeastOf from to f least → IsLeastOf from to g least
same_least from to f g least same is = record {
  within = λ w low high. omega (arith, is.within w low high, same w low high);
  some = λ small.
      let found = is.some small in
      (found.0, found.1, found.2, omega (arith, found.3, same found.0 found.1 found.2));
}

-- the same cost is added to each
pub least_with : (from to : ℕ) (cost : ℕ → ℕ) (fee least x : ℕ) → IsLeastOf from to cost least → x ≡ min (least + fee) most → IsLeastOf from to (λ w. cost w + fee) x
least_with from to cost fee least x is sum = record {
  within = λ w low high. omega (arith, is.within w low high, sum);
  some = λ small.
      let found = is.some (omega (arith, small, sum)) in
      (found.0, found.1, found.2, omega (arith, found.3, sum, small));
}

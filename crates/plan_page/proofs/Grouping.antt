-- The groups of a number's digits.
use Rattle.std.proofs.Common.{◌≡◌, ◌∙◌, ◌≤◌, ◌<◌, ◌+◌, ◌-◌, ◌/◌, ℕ, zero, suc, true, false, if◌then◌else◌, ◌++◌, decimal, refl, ap, arith}
use Rattle.std.specs.Prelude.{nat_lt}
use Rattle.std.proofs.lemmas.Bool.Decides.{nat_tests}
use Rattle.plan_page.specs.Numbers.{grouped, groups, last_digits}

small : (n : ℕ) → n < 1000 → nat_lt n 1000 ≡ true
small n h = grind (arith, nat_tests, h)

large : (n : ℕ) → 1000 ≤ n → nat_lt n 1000 ≡ false
large n h = grind (arith, nat_tests, h)

groups-small : (k n : ℕ) → n < 1000 → groups k n ≡ decimal n
unfolding groups
groups-small zero n h = refl
groups-small (suc k) n h = rw (small n h) refl

groups-large : (k n : ℕ) → 1000 ≤ n → groups (suc k) n ≡ groups k (n / 1000) ++ last_digits n
unfolding groups
groups-large k n h = rw (large n h) refl

-- where there are enough commas, more change nothing
groups-more : (k n : ℕ) → n ≤ k → groups (suc k) n ≡ groups k n
unfolding groups
groups-more zero n h = let e : n ≡ 0 = omega arith in rw e refl
groups-more (suc k) n h =
    ap (λ v. if nat_lt n 1000 then decimal n else v ++ last_digits n) (groups-more k (n / 1000) (omega arith))

-- so many more
groups-after : (d k n : ℕ) → n ≤ k → groups (d + k) n ≡ groups k n
groups-after zero k n h = ap (λ j. groups j n) (omega arith)
groups-after (suc d) k n h = ap (λ j. groups j n) (omega arith) ∙ groups-more (d + k) n (omega arith) ∙ groups-after d k n h

pub grouped-small : (n : ℕ) → n < 1000 → grouped n ≡ decimal n
unfolding grouped
grouped-small n h = groups-small n n h

pub grouped-large : (n : ℕ) → 1000 ≤ n → grouped n ≡ grouped (n / 1000) ++ last_digits n
unfolding grouped
grouped-large n h =
    let e : n ≡ suc (n - 1) = omega arith in
    let d : n - 1 ≡ n - 1 - n / 1000 + n / 1000 = omega arith in
    ap (λ j. groups j n) e ∙ groups-large (n - 1) n h
    ∙ ap (λ v. v ++ last_digits n) (ap (λ j. groups j (n / 1000)) d ∙ groups-after (n - 1 - n / 1000) (n / 1000) (n / 1000) (omega arith))

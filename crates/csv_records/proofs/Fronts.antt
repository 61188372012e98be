-- The first records of a list of records.
use Rattle.std.proofs.Common.{◌≡◌, ◌<◌, ◌≤◌, ◌-◌, ⊎_elim, ℕ, zero, suc, List, [], ◌∷◌, take, length, slice_index_or, refl, sym, subst, arith}
use Rattle.std.proofs.lemmas.Bool.{cases_lt}
use Rattle.csv_records.specs.Records.{Record, record_at}

-- up to n the two lists have the same records
pub record IsFront (n : ℕ) (rs all : List Record) : Type 0 where
  pub there : (k : ℕ) → k < n → k < length rs → k < length all
  pub back : (k : ℕ) → k < n → k < length all → k < length rs
  pub same : (k : ℕ) → k < n → record_at rs k ≡ record_at all k

take_there : (n k : ℕ) (xs : List Record) → k < length (take n xs) → k < length xs
take_there zero k xs h = absurd (omega (arith, h))
take_there (suc n) k [] h = absurd (omega (arith, h))
take_there (suc n) zero (x ∷ xs) h = omega arith
take_there (suc n) (suc k) (x ∷ xs) h = omega (arith, take_there n k xs (omega (arith, h)))

take_back : (n k : ℕ) (xs : List Record) → k < n → k < length xs → k < length (take n xs)
take_back zero k xs low h = absurd (omega (arith, low))
take_back (suc n) k [] low h = absurd (omega (arith, h))
take_back (suc n) zero (x ∷ xs) low h = omega arith
take_back (suc n) (suc k) (x ∷ xs) low h = omega (arith, take_back n k xs (omega (arith, low)) (omega (arith, h)))

take_same : (n k : ℕ) (xs : List Record) → k < n → slice_index_or (take n xs) k [] ≡ slice_index_or xs k []
take_same zero k xs low = absurd (omega (arith, low))
take_same (suc n) k [] low = refl
take_same (suc n) zero (x ∷ xs) low = refl
take_same (suc n) (suc k) (x ∷ xs) low = take_same n k xs (omega (arith, low))

pub front : (n : ℕ) (rs all : List Record) → rs ≡ take n all → IsFront n rs all
front n rs all is = subst (λ xs. IsFront n xs all) (sym is) (record { there = λ k low h. take_there n k all h; back = λ k low h. take_back n k all low h; same = λ k low. take_same n k all low })

-- a count that is less than n is that of both
pub count_front : (n count : ℕ) (rs all : List Record) → IsFront n rs all → 1 ≤ count → count < n → length all ≡ count → length rs ≡ count
count_front n count rs all fr some small is =
    let low : count - 1 < length rs = fr.back (count - 1) (omega (arith, some, small)) (omega (arith, is, some)) in
    ⊎_elim (λ more. absurd (omega (arith, fr.there count small more, is))) (λ no. omega (arith, no, low)) (cases_lt count (length rs))

pub count_all : (n count : ℕ) (rs all : List Record) → IsFront n rs all → 1 ≤ count → count < n → length rs ≡ count → length all ≡ count
count_all n count rs all fr some small is =
    let low : count - 1 < length all = fr.there (count - 1) (omega (arith, some, small)) (omega (arith, is, some)) in
    ⊎_elim (λ more. absurd (omega (arith, fr.back count small more, is))) (λ no. omega (arith, no, low)) (cases_lt count (length all))

-- Positions are the periods with a net demand, in order.
use Rattle.std.proofs.Common.{◌≡◌, ◌≤◌, ◌<◌, ◌+◌, ◌-◌, ◌∙◌, ⊎_elim, ℕ, zero, suc, sym, ap, arith, [], ◌∷◌, ◌++◌, length}
use Rattle.std.specs.Prelude.{if◌then◌else◌, ◌==◌}
use Rattle.std.proofs.lemmas.List.{append-nil, length_push, get_or_push, get_or_append_left}
use Rattle.std.proofs.lemmas.Bool.{cases_lt}
use Rattle.lot_sizing.specs.Problem.{entry}
use Rattle.lot_sizing.specs.Single.{Single, period_count, net_demand, positions_to, position_count, period_of}

-- how many of the first t periods have a net demand
abbrev pub count : Single → ℕ → ℕ
count s t = length (positions_to s t)

pub idle_positions : (s : Single) (t : ℕ) → net_demand s (suc t) ≡ 0 → positions_to s (suc t) ≡ positions_to s t
idle_positions s t h = ap (λ n. positions_to s t ++ (if n == 0 then [] else suc t ∷ [])) h ∙ append-nil (positions_to s t)

pub next_positions : (s : Single) (t : ℕ) → 0 < net_demand s (suc t) → positions_to s (suc t) ≡ positions_to s t ++ suc t ∷ []
next_positions s t h = grind (arith, h)

pub count_idle : (s : Single) (t : ℕ) → net_demand s (suc t) ≡ 0 → count s (suc t) ≡ count s t
count_idle s t h = ap length (idle_positions s t h)

pub count_next : (s : Single) (t : ℕ) → 0 < net_demand s (suc t) → count s (suc t) ≡ suc (count s t)
count_next s t h = let e = length_push (positions_to s t) (suc t) in omega (arith, ap length (next_positions s t h), e)

pub count_step : (s : Single) (t : ℕ) → count s t ≤ count s (suc t)
count_step s t = ⊎_elim (λ some. omega (arith, count_next s t some)) (λ none. omega (arith, count_idle s t (omega arith))) (cases_lt 0 (net_demand s (suc t)))

pub count_up : (s : Single) (t n : ℕ) → count s t ≤ count s (t + n)
count_up s t zero = let e : t + 0 ≡ t = omega arith in omega (arith, ap (count s) e)
count_up s t (suc n) = let e : t + suc n ≡ suc (t + n) = omega arith in omega (arith, ap (count s) e, count_up s t n, count_step s (t + n))

pub count_le : (s : Single) (t n : ℕ) → t ≤ n → count s t ≤ count s n
count_le s t n h = let e : t + (n - t) ≡ n = omega arith in omega (arith, ap (count s) e, count_up s t (n - t))

-- a period with a net demand stands at its count
entry_at : (s : Single) (t n : ℕ) → 0 < net_demand s (suc t) → entry (positions_to s (suc t + n)) (count s (suc t)) ≡ suc t
entry_at s t zero some =
    let e : suc t + 0 ≡ suc t = omega arith in
    let c = count_next s t some in
    let i : count s (suc t) - 1 ≡ count s t = omega (arith, c) in
    ap (λ k. entry (positions_to s k) (count s (suc t))) e ∙ ap (λ xs. entry xs (count s (suc t))) (next_positions s t some) ∙ get_or_push (positions_to s t) (suc t) 0 (count s (suc t) - 1) (sym i)
entry_at s t (suc n) some =
    let e : suc t + suc n ≡ suc (suc t + n) = omega arith in
    let low : count s (suc t) - 1 < count s (suc t + n) = omega (arith, count_up s (suc t) n, count_next s t some) in
    ap (λ k. entry (positions_to s k) (count s (suc t))) e ∙ get_or_append_left (positions_to s (suc t + n)) _ 0 (count s (suc t) - 1) low ∙ entry_at s t n some

pub period_of_count : (s : Single) (t : ℕ) → suc t ≤ period_count s → 0 < net_demand s (suc t) → period_of s (count s (suc t)) ≡ suc t
period_of_count s t high some =
    let e : suc t + (period_count s - suc t) ≡ period_count s = omega arith in
    ap (λ k. entry (positions_to s k) (count s (suc t))) (sym e) ∙ entry_at s t (period_count s - suc t) some

-- the period before that of a position
pub record Stands (s : Single) (p k : ℕ) : Type 0 where
  pub some : 0 < net_demand s (suc k)
  pub count : count s (suc k) ≡ p

place_to : (s : Single) (t p : ℕ) → 1 ≤ p → p ≤ count s t → (k : ℕ) × (suc k ≤ t) × Stands s p k
place_to s zero p low high = absurd (omega arith)
place_to s (suc t) p low high =
    ⊎_elim
    (λ before. let found = place_to s t p low (omega arith) in (found.0, omega (arith, found.1), found.2))
    (λ after. ⊎_elim
    (λ some. (t, omega arith, record { some = some; count = omega (arith, count_next s t some) }))
    (λ none. absurd (omega (arith, count_idle s t (omega arith))))
    (cases_lt 0 (net_demand s (suc t))))
    (cases_lt p (suc (count s t)))

pub place : (s : Single) (p : ℕ) → 1 ≤ p → p ≤ position_count s → (k : ℕ) × (suc k ≤ period_count s) × Stands s p k × (period_of s p ≡ suc k)
place s p low high =
    let found = place_to s (period_count s) p low high in
    (found.0, found.1, found.2, sym (ap (period_of s) found.2.count) ∙ period_of_count s found.0 found.1 found.2.some)

-- positions that aren't counted come later
pub later : (s : Single) (a p : ℕ) → count s a < p → p ≤ position_count s → a < period_of s p
later s a p low high =
    let found = place s p (omega arith) high in
    ⊎_elim
    (λ below. absurd (omega (arith, found.2.count, count_le s (suc found.0) a (omega arith))))
    (λ above. omega (arith, found.3))
    (cases_lt found.0 a)

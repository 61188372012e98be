-- Laws that stand by themselves.
use Rattle.std.specs.Prelude.{◌≡◌, ℕ, ◌<◌, ℤ, pos, ◌+ℤ◌, ◌*ℤ◌, ◌≤ℤ◌}
use Rattle.algebra.specs.Fractions.{IsLowest, SameFraction}
use Rattle.algebra.specs.Sums.{sum_with}

abbrev pub LowestTermsAreUnique : Type 0
LowestTermsAreUnique = (n d m e : ℤ) → IsLowest n d → IsLowest m e → SameFraction n d m e → (n ≡ m) × (d ≡ e)

-- the sum of the products of two rows
abbrev pub dot_ℤ : ℕ → (ℕ → ℤ) → (ℕ → ℤ) → ℤ
dot_ℤ n f x = sum_with ◌+ℤ◌ (pos 0) n (λ j. f j *ℤ x j)

-- over the integers; the lemma holds over any ordered ring
abbrev pub WeakDuality : Type 0
WeakDuality =
    (m n : ℕ) (a : ℕ → ℕ → ℤ) (b y c x : ℕ → ℤ)
    → ((i : ℕ) → i < m → dot_ℤ n (a i) x ≡ b i)
    → ((j : ℕ) → j < n → pos 0 ≤ℤ x j)
    → ((j : ℕ) → j < n → sum_with ◌+ℤ◌ (pos 0) m (λ i. y i *ℤ a i j) ≤ℤ c j)
    → dot_ℤ m y b ≤ℤ dot_ℤ n c x

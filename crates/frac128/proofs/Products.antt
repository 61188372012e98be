-- A product of two numbers of 128 bits by their halves.
use Rattle.std.proofs.Common.{◌≡◌, ◌+◌, ◌*◌, ◌^◌, ℕ, ap, arith}

-- each sum of half products is split into what stays and what is carried
pub halves : (a b ah al bh bl ql rl qc rc qm rm : ℕ) → ah * 2 ^ 64 + al ≡ a → bh * 2 ^ 64 + bl ≡ b → al * bl ≡ ql * 2 ^ 64 + rl → ah * bl + ql ≡ qc * 2 ^ 64 + rc → al * bh + rc ≡ qm * 2 ^ 64 + rm
    → (ah * bh + qc + qm) * 2 ^ 128 + (rm * 2 ^ 64 + rl) ≡ a * b
halves a b ah al bh bl ql rl qc rc qm rm ea eb low cross middle =
    omega (arith, ap (λ k. k * b) ea, ap (λ k. ah * k) eb, ap (λ k. al * k) eb)

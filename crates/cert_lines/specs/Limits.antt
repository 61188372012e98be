-- The limits on the numbers of lines.
use Rattle.std.specs.Prelude.{◌<◌, ◌≤◌, ◌^◌, ℕ, ℤ, unsigned_abs, ⊤}
use Rattle.cert_lines.specs.declared.limits.TheConstants.{FIRST_CERT_VERSION, MAX_CERT_VERSION}
use Rattle.cert_lines.specs.declared.parts.Claim.{Claim}
use Rattle.cert_lines.specs.declared.parts.Claim.TheVariants as claim
use Rattle.cert_lines.specs.declared.parts.Part.{Part}

-- numbers of 32, of 64 and of 127 bits are below these
abbrev pub bound_32 : ℕ
bound_32 = 2 ^ 32

abbrev pub bound_64 : ℕ
bound_64 = 2 ^ 64

abbrev pub bound_127 : ℕ
bound_127 = 2 ^ 127

abbrev pub Is32 : ℕ → Type 0
Is32 n = n < bound_32

abbrev pub Is64 : ℕ → Type 0
Is64 n = n < bound_64

abbrev pub Is127 : ℕ → Type 0
Is127 n = n < bound_127

-- one of the versions
abbrev pub IsVersion : ℕ → Type 0
IsVersion version = (FIRST_CERT_VERSION ≤ version) × (version ≤ MAX_CERT_VERSION)

-- an amount of money
abbrev pub IsSmallClaim : Claim → Type 0
IsSmallClaim (claim.Optimal cost) = Is127 cost
IsSmallClaim claim.Infeasible = ⊤
IsSmallClaim (claim.Bound bound) = Is127 bound

-- a multiplier, by its absolute value
abbrev pub IsSmallTimes : ℤ → Type 0
IsSmallTimes times = Is127 (unsigned_abs times)

abbrev pub IsSmallPart : Part → Type 0
IsSmallPart part = Is127 (unsigned_abs part.times)

-- The first three lines of a certificate's text.
use Rattle.std.specs.Prelude.{◌≡◌, ℕ, ◌≤◌, List, ◌++◌, codes}
use Rattle.cert_lines.specs.declared.head.HeadLine.{HeadLine}
use Rattle.cert_lines.specs.declared.head.HeadLine.TheVariants.{Mark, Claim, Cuts}
use Rattle.cert_lines.specs.Text.{claim_line, count_line}
use Rattle.lin_rows.specs.Texts.{one_text}
use Rattle.cert_lines.specs.Limits.{IsSmallClaim, IsVersion}
use Rattle.cert_lines.specs.declared.limits.TheConstants.{MAX_CUTS}

abbrev pub head_line : HeadLine → List ℕ
head_line (Mark version) = codes "lotcert" ++ one_text version
head_line (Claim claim) = claim_line claim
head_line (Cuts count) = count_line count

-- the line's number
abbrev pub head_place : HeadLine → ℕ
head_place (Mark version) = 1
head_place (Claim claim) = 2
head_place (Cuts count) = 3

abbrev pub IsSmallHead : HeadLine → Type 0
IsSmallHead (Mark version) = IsVersion version
IsSmallHead (Claim claim) = IsSmallClaim claim
IsSmallHead (Cuts count) = count ≤ MAX_CUTS

-- the line of this number has this value
pub record IsHead (place : ℕ) (line : List ℕ) (head : HeadLine) : Type 0 where
  pub number : head_place head ≡ place
  pub small : IsSmallHead head
  pub text : line ≡ head_line head

-- The limits within which a certificate has a text that is read.
use Rattle.std.specs.Prelude.{◌≡◌, ◌≤◌, ℕ, List, length}
use Rattle.cert_lines.specs.declared.limits.TheConstants.{MAX_BRANCHES, MAX_CUTS}
use Rattle.cert_lines.specs.Limits.{IsSmallClaim, IsVersion}
use Rattle.certificate.specs.Shapes.{Shape}
use Rattle.certificate.specs.Counts.{longest_path}
use Rattle.certificate.specs.Text.{certificate_text}
use Rattle.certificate.specs.Values.{AreLines, body_values}

-- each line is one of its version, with its numbers and its length within the limits; those of the first three are short by their numbers
pub record IsWritable (s : Shape) : Type 0 where
  pub version : IsVersion s.version
  pub amount : IsSmallClaim s.claim
  pub few : length s.cuts ≤ MAX_CUTS
  pub paths : longest_path s.tree ≤ MAX_BRANCHES
  pub lines : AreLines s.version (body_values s)

-- the bytes are the text of a certificate within the limits
pub record IsTextOf (bytes : List ℕ) (s : Shape) : Type 0 where
  pub text : bytes ≡ certificate_text s
  pub writable : IsWritable s

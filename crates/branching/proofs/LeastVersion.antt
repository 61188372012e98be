-- The version of a certificate's text.
use Rattle.std.proofs.Common.{◌≡◌, ◌≤◌, ◌∙◌, ℕ, ap, arith}
use Rattle.lot_sizing.specs.Problem.{Problem}
use Rattle.cert_lines.specs.declared.limits.TheConstants.{LOTS_CERT_VERSION, MAX_CERT_VERSION}
use Rattle.certificate.specs.declared.tree.Certificate.{Certificate}
use Rattle.certificate.specs.Limits.{IsWritable}
use Rattle.certificate.specs.Shapes.{Shape, shape_of}
use Rattle.leaf_growth.specs.Written.{HasVersion}
use Rattle.branching.specs.Search.{IsUsualVersion, IsVersionOf, in_version}

-- a version from that of least lots and late ones on has the names of every problem's rows
pub version_known : (m : Problem) (newest : ℕ) → LOTS_CERT_VERSION ≤ newest → newest ≤ MAX_CERT_VERSION → HasVersion m newest
version_known m newest oldest latest = record { exists = (omega (arith, oldest), latest); plain = λ same. absurd (omega (arith, same, oldest)) }

-- below the usual version there is none from it on
pub usual_is : (m : Problem) (newest : ℕ) (s : Shape) → IsUsualVersion m s.version → s.version ≤ newest → IsWritable s → IsVersionOf m newest s
usual_is m newest s is at_most written = record {
  usual = s.version;
  is_usual = is;
  from = omega arith;
  at_most = at_most;
  written = written;
  least = λ version from below text. omega (arith, from, below);
}

-- a certificate of the same lines as another has its shape but for the version
pub same_lines : (a b : Certificate) → a.claim ≡ b.claim → a.cuts ≡ b.cuts → a.tree ≡ b.tree → shape_of a ≡ in_version a.version (shape_of b)
same_lines a b claim cuts tree =
    ap (λ c. in_version a.version (shape_of (record { version = a.version; claim = c; cuts = a.cuts; tree = a.tree }))) claim
    ∙ ap (λ v. in_version a.version (shape_of (record { version = a.version; claim = b.claim; cuts = v; tree = a.tree }))) cuts
    ∙ ap (λ t. in_version a.version (shape_of (record { version = a.version; claim = b.claim; cuts = b.cuts; tree = t }))) tree

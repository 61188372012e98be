-- The first three lines are those of the certificate whose text they begin.
use Rattle.std.proofs.Common.{◌≡◌, ℕ, refl, sym, ap, subst, IsTrue, List, length}
use Rattle.lot_io.specs.Outside.{OnlyReads, Shelved}
use Rattle.certificate.specs.Faults.{AreHeads}
use Rattle.certificate.specs.Limits.{IsTextOf}
use Rattle.certificate.specs.Shapes.{Shape}
use Rattle.certificate.specs.Text.{head_values}
use Rattle.certificate.specs.Values.{AreLines, body_values, values_text}
use Rattle.cert_stream.specs.Reader.{rest_in}
use Rattle.cert_stream.specs.declared.heads.Heads.{Heads}
use Rattle.cert_stream.specs.declared.lines.LineReader.{LineReader}
use Rattle.cert_stream.proofs.Steps.{told_on}
use Rattle.stream_check.specs.Heads.{AreHeadsOf}

-- those of a certificate
abbrev pub heads_in : Shape → Heads
heads_in c = record { version = c.version; claim = c.claim; count = length c.cuts }

pub certificate_heads : (bytes : List ℕ) (c : Shape) → IsTextOf bytes c → AreHeads 1 (head_values c.version c.claim (length c.cuts))
certificate_heads bytes c is = (
  record { number = refl; small = is.writable.version; text = refl },
  (
    record { number = refl; small = is.writable.amount; text = refl },
    (record { number = refl; small = is.writable.few; text = refl }, tt),
  ),
)

-- after them its other lines are left
pub heads_given : (c : Shape) (h : Heads) (old new : Shelved) (name bytes : List ℕ) (b : LineReader) → OnlyReads old new → IsTrue old.told → IsTextOf bytes c → h ≡ heads_in c → rest_in new name b ≡ values_text (body_values c) → AreHeadsOf c h new name b
heads_given c h old new name bytes b reads told is same rest = record {
  version = ap (λ x. x.version) same;
  claim = ap (λ x. x.claim) same;
  count = sym (ap (λ x. x.count) same);
  awaits = record {
    told = told_on reads told;
    lines = subst (λ x. AreLines x.version (body_values c)) (sym same) is.writable.lines;
    text = rest;
  };
}

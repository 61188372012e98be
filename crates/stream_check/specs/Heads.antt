-- The first three lines of a certificate's text, as they are read.
use Rattle.std.specs.Prelude.{◌≡◌, ℕ, List, length}
use Rattle.lot_io.specs.Outside.{Shelved}
use Rattle.certificate.specs.Shapes.{Shape}
use Rattle.certificate.specs.Values.{body_values}
use Rattle.cert_stream.specs.declared.heads.Heads.{Heads}
use Rattle.cert_stream.specs.declared.lines.LineReader.{LineReader}
use Rattle.stream_check.specs.Passes.{Awaits}

-- they are those of the certificate, and its other lines are left
pub record AreHeadsOf (c : Shape) (heads : Heads) (shelf : Shelved) (name : List ℕ) (r : LineReader) : Type 0 where
  pub version : heads.version ≡ c.version
  pub claim : heads.claim ≡ c.claim
  pub count : length c.cuts ≡ heads.count
  pub awaits : Awaits shelf name r heads.version (body_values c)

-- The first three lines of a text.
use Rattle.std.specs.Prelude.{◌≡◌, List, ℕ, Result, Ok, Err}
use Rattle.certificate.specs.declared.fault.CertTextFault.{CertTextFault}
use Rattle.certificate.specs.Text.{head_values, heads_text}
use Rattle.cert_stream.specs.declared.heads.Heads.{Heads}

-- their text
abbrev pub heads_of : Heads → List ℕ
heads_of h = heads_text (head_values h.version h.claim h.count)

-- they are these, and then this is left
abbrev pub AreTheseHeads : Heads → List ℕ → Result Heads CertTextFault → List ℕ → Type 0
AreTheseHeads h more (Ok heads) new = (heads ≡ h) × (new ≡ more)
AreTheseHeads h more (Err f) new = ⊥

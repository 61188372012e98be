-- The text of a certificate: its first three lines, and those of its cuts, its tree and its end.
use Rattle.std.specs.Prelude.{ℕ, List, [], ◌∷◌, ◌++◌, length}
use Rattle.std.specs.List.{flat_map}
use Rattle.cert_lines.specs.declared.parts.Claim.{Claim}
use Rattle.cert_lines.specs.declared.head.HeadLine.{HeadLine}
use Rattle.cert_lines.specs.declared.head.HeadLine.TheVariants as head
use Rattle.cert_lines.specs.Text.{line_text}
use Rattle.cert_lines.specs.Head.{head_line}
use Rattle.certificate.specs.Shapes.{Shape}
use Rattle.certificate.specs.Values.{body_values, values_text}

-- a line with its line feed
abbrev pub head_text : HeadLine → List ℕ
head_text h = line_text (head_line h)

abbrev pub heads_text : List HeadLine → List ℕ
heads_text hs = flat_map head_text hs

-- the first three lines
abbrev pub head_values : ℕ → Claim → ℕ → List HeadLine
head_values version claim count = head.Mark version ∷ head.Claim claim ∷ head.Cuts count ∷ []

abbrev pub certificate_text : Shape → List ℕ
certificate_text s = heads_text (head_values s.version s.claim (length s.cuts)) ++ values_text (body_values s)

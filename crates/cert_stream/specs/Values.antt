-- The value of the next line of a text.
use Rattle.std.specs.Prelude.{◌≡◌, ◌≢◌, ◌++◌, ℕ, List, [], Option, None, Some, ⊤}
use Rattle.cert_lines.specs.declared.head.HeadLine.{HeadLine}
use Rattle.cert_lines.specs.Head.{IsHead, head_line, head_place}
use Rattle.cert_lines.specs.Line.{HasLine}
use Rattle.cert_lines.specs.Shapes.{LineShape, line_shape}
use Rattle.certificate.specs.Faults.{StartsWithHead}
use Rattle.certificate.specs.Dues.{StartsWith}
use Rattle.certificate.specs.Text.{head_text}
use Rattle.certificate.specs.Values.{value_text}
use Rattle.cert_stream.specs.Reader.{IsLineFurther}
use Rattle.cert_stream.specs.declared.lines.LineReader.{LineReader}
use Rattle.cert_stream.specs.declared.values.Value.{Value}
use Rattle.cert_stream.specs.declared.values.Value.TheVariants as value

-- what the next line of a text is, and what is left of the text then
abbrev pub IsValue : ℕ → Value → List ℕ → List ℕ → Type 0
IsValue version (value.Line line) old new = old ≡ value_text (line_shape line) ++ new
IsValue version value.Wrong old new = (old ≢ []) × ((l : LineShape) → StartsWith version old l → ⊥)
IsValue version value.End old new = old ≡ []

-- a line is one of its version, and is counted
abbrev pub IsGiven : ℕ → Value → LineReader → LineReader → Type 0
IsGiven version (value.Line line) a b = HasLine version (line_shape line) × IsLineFurther a b
IsGiven version _ a b = ⊤

-- it is this line, and then this is left
abbrev pub IsThisLine : LineShape → List ℕ → Value → List ℕ → Type 0
IsThisLine l more (value.Line line) new = (line_shape line ≡ l) × (new ≡ more)
IsThisLine l more _ new = ⊥

-- what the next of the first three lines of a text is, and what is left of the text then
abbrev pub IsHeadValue : ℕ → Option HeadLine → List ℕ → List ℕ → Type 0
IsHeadValue place (Some h) old new = old ≡ head_text h ++ new
IsHeadValue place None old new = (h : HeadLine) → StartsWithHead place old h → ⊥

-- it is one of this place, and is counted
abbrev pub IsHeadGiven : ℕ → Option HeadLine → LineReader → LineReader → Type 0
IsHeadGiven place (Some h) a b = IsHead place (head_line h) h × IsLineFurther a b
IsHeadGiven place None a b = ⊤

-- no line of this place
abbrev pub IsElsewhere : ℕ → Option HeadLine → Type 0
IsElsewhere place (Some h) = head_place h ≡ place → ⊥
IsElsewhere place None = ⊤

-- What a line means is one thing.
use Rattle.std.specs.Prelude.{◌≡◌, ℕ, List}
use Rattle.cert_lines.specs.declared.head.HeadLine.{HeadLine}
use Rattle.cert_lines.specs.Shapes.{LineShape}
use Rattle.cert_lines.specs.Text.{HasNoFeed}
use Rattle.cert_lines.specs.Head.{IsHead, head_line}
use Rattle.cert_lines.specs.Line.{HasForm, IsLine, later_line}

-- a line has one value
abbrev pub LinesMeanOneThing : Type 0
LinesMeanOneThing = (version : ℕ) (bytes : List ℕ) (l m : LineShape) → IsLine version bytes l → IsLine version bytes m → l ≡ m

-- no line has a line feed in it
abbrev pub LinesHaveNoFeed : Type 0
LinesHaveNoFeed = (l : LineShape) → HasForm l → HasNoFeed (later_line l)

-- one of the first three lines has one value, and no line feed in it
abbrev pub HeadsMeanOneThing : Type 0
HeadsMeanOneThing = (n : ℕ) (bytes : List ℕ) (g h : HeadLine) → IsHead n bytes g → IsHead n bytes h → g ≡ h

abbrev pub HeadsHaveNoFeed : Type 0
HeadsHaveNoFeed = (n : ℕ) (h : HeadLine) → IsHead n (head_line h) h → HasNoFeed (head_line h)

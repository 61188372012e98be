-- No line has a line feed in it.
use Rattle.std.proofs.Common.{ℕ, subst, arith, List, [], ◌∷◌, ◌++◌}
use Rattle.cert_lines.specs.Text.{Lines}
use Rattle.cert_lines.specs.Line.{HasForm, later_line}
use Rattle.cert_lines.specs.Words.{words_text}
use Rattle.cert_lines.specs.Text.{HasNoFeed}
use Rattle.cert_lines.proofs.Splits.{tail}
use Rattle.cert_lines.proofs.Stands.{AreVisible, IsVisible}
use Rattle.cert_lines.proofs.Spelled.{spelled, visible, words_of}
use Rattle.cert_lines.specs.Shapes.{LineShape}

pub feed_append : (xs ys : List ℕ) → HasNoFeed xs → HasNoFeed ys → HasNoFeed (xs ++ ys)
feed_append [] ys a b = b
feed_append (x ∷ xs) ys a b = (a.0, feed_append xs ys a.1 b)

-- a line has no line feed in it
pub visible_plain : (w rest : List ℕ) → IsVisible w → HasNoFeed rest → HasNoFeed (w ++ rest)
visible_plain [] rest a h = h
visible_plain (b ∷ w) rest a h = (λ e. omega (arith, a.0, e), visible_plain w rest a.1 h)

words_plain : (ws : Lines) → AreVisible ws → HasNoFeed (words_text ws)
words_plain [] a = tt
words_plain (w ∷ ws) a = (λ e. omega (arith, e), visible_plain w (words_text ws) a.0 (words_plain ws a.1))

tail_plain : (t : List ℕ) → HasNoFeed t → HasNoFeed (tail t)
tail_plain [] h = tt
tail_plain (b ∷ t) h = h.1

pub line_plain : (l : LineShape) → HasForm l → HasNoFeed (later_line l)
line_plain l is = tail_plain (32 ∷ later_line l) (subst HasNoFeed (spelled l is.small) (words_plain (words_of l) (visible l is.small)))

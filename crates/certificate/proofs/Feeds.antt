-- Lines are the bytes between line feeds.
use Rattle.std.proofs.Common.{◌≡◌, ◌≢◌, ◌≤◌, ◌<◌, ◌+◌, ◌∙◌, ℕ, refl, sym, ap, subst, List, [], ◌∷◌, ◌++◌, length, slice_index_or, take, Bool, false}
use Rattle.std.specs.Bool.{◌==◌}
use Rattle.std.proofs.lemmas.List.{take_all, take_more}
use Rattle.cert_lines.specs.Shapes.{LineShape}
use Rattle.cert_lines.specs.Text.{HasNoFeed, line_text}
use Rattle.cert_lines.specs.Line.{IsLine, later_line}
use Rattle.certificate.specs.Dues.{StartsWith}
use Rattle.cert_lines.proofs.Splits.{tail}
use Rattle.cert_lines.proofs.Feeds.{feed_append, line_plain}

-- one more byte
pub feed_more : (t : List ℕ) (k : ℕ) → k < length t → slice_index_or t k 0 ≢ 10 → HasNoFeed (take k t) → HasNoFeed (take (k + 1) t)
feed_more t k less other h = subst HasNoFeed (sym (take_more t k 0 less)) (feed_append (take k t) (slice_index_or t k 0 ∷ []) h (other, tt))

pub feed_all : (t : List ℕ) (k : ℕ) → length t ≤ k → HasNoFeed (take k t) → HasNoFeed t
feed_all t k past h = subst HasNoFeed (take_all k t past) h

-- the first line of a text is one
abbrev head : List ℕ → ℕ
head [] = 0
head (x ∷ xs) = x

pub same_line : (a b xs ys : List ℕ) → HasNoFeed a → HasNoFeed b → line_text a ++ xs ≡ line_text b ++ ys → (a ≡ b) × (xs ≡ ys)
same_line [] [] xs ys h k e = (refl, ap tail e)
same_line [] (y ∷ b) xs ys h k e = absurd (k.0 (sym (ap head e)))
same_line (x ∷ a) [] xs ys h k e = absurd (h.0 (ap head e))
same_line (x ∷ a) (y ∷ b) xs ys h k e =
    let (lines, rest) = same_line a b xs ys h.1 k.1 (ap tail e) in
    (ap (λ z. z ∷ a) (ap head e) ∙ ap (λ z. y ∷ z) lines, rest)

-- there is none without a line feed
pub no_line : (a b ys : List ℕ) → HasNoFeed a → HasNoFeed b → a ≡ line_text b ++ ys → ⊥
no_line [] [] ys h k e = cc e
no_line [] (y ∷ b) ys h k e = cc e
no_line (x ∷ a) [] ys h k e = h.0 (ap head e)
no_line (x ∷ a) (y ∷ b) ys h k e = no_line a b ys h.1 k.1 (ap tail e)

pub no_start : {version : ℕ} (text : List ℕ) (l : LineShape) → HasNoFeed text → StartsWith version text l → ⊥
no_start {version = version} text l plain s = no_line text (later_line l) s.rest plain (line_plain l s.line.form) s.text

-- a line without a form
pub no_form : {version : ℕ} (text line rest : List ℕ) (l : LineShape) → text ≡ line_text line ++ rest → HasNoFeed line → (IsLine version line l → ⊥) → StartsWith version text l → ⊥
no_form {version = version} text line rest l is plain none s =
    let (same, after) = same_line line (later_line l) rest s.rest plain (line_plain l s.line.form) (sym is ∙ s.text) in
    none (subst (λ b. IsLine version b l) (sym same) s.line)

pub some_text : (text : List ℕ) (is : Bool) → is ≡ (length text == 0) → is ≡ false → text ≢ []
some_text text is e some none = cc (sym some ∙ e ∙ ap (λ t. length t == 0) none)

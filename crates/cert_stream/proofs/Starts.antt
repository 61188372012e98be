-- What the next line of a text is.
use Rattle.std.proofs.Common.{◌≡◌, ◌≢◌, ◌≤◌, ◌<◌, ◌^◌, ◌∙◌, ℕ, refl, sym, ap, subst, arith, List, [], ◌∷◌, ◌++◌, length, decimal}
use Rattle.std.specs.Prelude.{IfSome, IsNone, None, Option, Some}
use Rattle.std.proofs.lemmas.Fmt.{length-decimal-le_wide}
use Rattle.cert_lines.specs.declared.parts.Claim.{Claim}
use Rattle.cert_lines.specs.declared.parts.Claim.TheVariants as claim
use Rattle.cert_lines.specs.declared.head.HeadLine.{HeadLine}
use Rattle.cert_lines.specs.declared.head.HeadLine.TheVariants as head
use Rattle.cert_lines.specs.declared.limits.TheConstants.{MAX_LINE}
use Rattle.cert_lines.specs.Limits.{IsSmallClaim}
use Rattle.cert_lines.specs.Text.{HasNoFeed, claim_line, line_text}
use Rattle.cert_lines.specs.Head.{IsHead, head_line}
use Rattle.cert_lines.specs.Line.{HasLine, IsLine, later_line}
use Rattle.cert_lines.specs.Shapes.{LineShape}
use Rattle.cert_lines.proofs.Alike.{one_value}
use Rattle.cert_lines.proofs.Feeds.{line_plain}
use Rattle.cert_lines.proofs.Heads.{head_plain, one_head}
use Rattle.certificate.specs.Faults.{StartsWithHead}
use Rattle.certificate.specs.Dues.{StartsWith}
use Rattle.certificate.specs.Text.{head_text}
use Rattle.certificate.specs.Values.{value_text}
use Rattle.certificate.proofs.Feeds.{no_form, no_start, same_line}
use Rattle.certificate.proofs.Heads.{no_head, other_head}
use Rattle.cert_stream.specs.declared.lines.LineReader.{LineReader}
use Rattle.cert_stream.specs.declared.lines.Next.{Next}
use Rattle.cert_stream.specs.declared.lines.Next.TheVariants as next
use Rattle.cert_stream.specs.Reader.{IsLong, IsNext}
use Rattle.cert_stream.specs.Values.{IsElsewhere, IsHeadGiven, IsHeadValue}

-- a text doesn't begin with a line and with more bytes than that without a line feed
too_short : (first rest w more : List ℕ) → HasNoFeed first → length w < length first → first ++ rest ≡ line_text w ++ more → ⊥
too_short [] rest w more plain less e = omega (arith, less)
too_short (b ∷ first) rest [] more plain less e = let feed : b ≡ 10 = cc in plain.0 feed
too_short (b ∷ first) rest (d ∷ w) more plain less e = let same : first ++ rest ≡ line_text w ++ more = cc in too_short first rest w more plain.1 (omega (arith, less)) same

pub no_long : (text w more : List ℕ) → IsLong text → length w ≤ MAX_LINE → text ≡ line_text w ++ more → ⊥
no_long text w more long short e = too_short long.first long.rest w more long.plain (omega (arith, long.long, short)) (sym long.is ∙ e)

some_line : (w rest : List ℕ) → line_text w ++ rest ≢ []
some_line [] rest e = cc e
some_line (b ∷ w) rest e = cc e

some_long : (text : List ℕ) → IsLong text → text ≢ []
some_long text long none = no_bytes long.first long.rest (omega (arith, long.long)) (sym long.is ∙ none)
  where
    no_bytes : (first rest : List ℕ) → 0 < length first → first ++ rest ≡ [] → ⊥
    no_bytes [] rest some e = omega (arith, some)
    no_bytes (b ∷ first) rest some e = cc e

-- ---- later lines
-- a text that begins with no line, for each reason
abbrev pub HasNone : ℕ → List ℕ → Type 0
HasNone version text = (text ≢ []) × ((l : LineShape) → StartsWith version text l → ⊥)

pub formless : (version : ℕ) (text line rest : List ℕ) → IsNext next.Line line text rest → ((l : LineShape) → IsLine version line l → ⊥) → HasNone version text
formless version text line rest is none = (
  λ e. some_line line rest (sym is.0 ∙ e),
  λ l s. no_form {version = version} text line rest l is.0 is.1 (none l) s,
)

pub unended : (version : ℕ) (text line rest : List ℕ) → IsNext next.Unended line text rest → HasNone version text
unended version text line rest is = (is.0, λ l s. no_start {version = version} text l is.1 s)

pub overlong : (version : ℕ) (text : List ℕ) → IsLong text → HasNone version text
overlong version text long = (some_long text long, λ l s. no_long text (later_line l) s.rest long s.line.form.short s.text)

-- where a text goes on with a line, that is its next one
pub awaited_line : (version : ℕ) (text : List ℕ) (l m : LineShape) (rest more : List ℕ) → text ≡ value_text l ++ rest → HasLine version l → HasLine version m → text ≡ value_text m ++ more → (l ≡ m) × (rest ≡ more)
awaited_line version text l m rest more is a b e =
    let (same, after) = same_line (later_line l) (later_line m) rest more (line_plain l a.form) (line_plain m b.form) (sym is ∙ e) in
    (one_value version (later_line l) l m a (subst (λ t. IsLine version t m) (sym same) b), after)

pub none_awaited : (version : ℕ) (text : List ℕ) → HasNone version text → (l : LineShape) (more : List ℕ) → HasLine version l → text ≡ value_text l ++ more → ⊥
none_awaited version text none l more line e = none.1 l (record { rest = more; text = e; line = line })

-- ---- the first three
number_short : (n : ℕ) → n < 2 ^ 127 → length (decimal n) ≤ 39
number_short n small = length-decimal-le_wide 39 n (omega arith) (omega (arith, small)) (omega (arith, small))

claim_short : (c : Claim) → IsSmallClaim c → length (claim_line c) ≤ MAX_LINE
claim_short (claim.Optimal cost) small = omega (arith, number_short cost small)
claim_short claim.Infeasible small = omega arith
claim_short (claim.Bound bound) small = omega (arith, number_short bound small)

head_short : (n : ℕ) (h : HeadLine) → IsHead n (head_line h) h → length (head_line h) ≤ MAX_LINE
head_short n (head.Mark version) is = omega (arith, number_short version (omega (arith, is.small)))
head_short n (head.Claim c) is = claim_short c is.small
head_short n (head.Cuts count) is = omega (arith, number_short count (omega (arith, is.small)))

pub none_of_form : (n : ℕ) (text line rest : List ℕ) → IsNext next.Line line text rest → ((h : HeadLine) → IsHead n line h → ⊥) → (h : HeadLine) → StartsWithHead n text h → ⊥
none_of_form n text line rest is none h s = other_head n text line rest h is.0 is.1 (none h) s

pub none_whole : (n : ℕ) (v : Next) (text line rest : List ℕ) → (v ≡ next.Line → ⊥) → IsNext v line text rest → (h : HeadLine) → StartsWithHead n text h → ⊥
none_whole n next.Line text line rest other is h s = other refl
none_whole n next.Unended text line rest other is h s = no_head n text h is.1 s
none_whole n next.TooLong text line rest other is h s = no_long text (head_line h) s.rest is (head_short n h s.line) s.text
none_whole n next.End text line rest other is h s = no_head n text h (subst HasNoFeed (sym is) tt) s

-- a line of the form that is asked for, or none
pub head_is : (n : ℕ) (o : Option HeadLine) (h : HeadLine) (text rest : List ℕ) → o ≡ Some h → IsHeadValue n o text rest → text ≡ head_text h ++ rest
head_is n o h text rest is v = subst (λ x. IsHeadValue n x text rest) is v

pub head_given : (n : ℕ) (o : Option HeadLine) (h : HeadLine) (a b : LineReader) → o ≡ Some h → IsHeadGiven n o a b → IsHead n (head_line h) h
head_given n o h a b is v = (subst (λ x. IsHeadGiven n x a b) is v).0

pub no_such_head : (n : ℕ) (o : Option HeadLine) (text rest : List ℕ) (a b : LineReader) → IsElsewhere n o → IsHeadGiven n o a b → IsHeadValue n o text rest → (h : HeadLine) → StartsWithHead n text h → ⊥
no_such_head n None text rest a b other given v = v
no_such_head n (Some g) text rest a b other given v = absurd (other given.0.number)

-- what is read of the line
pub head_value : (n : ℕ) (o : Option HeadLine) (text line seen rest : List ℕ) → IsNext next.Line line text rest → seen ≡ line → IfSome o (λ h. IsHead n seen h) → (IsNone o → (h : HeadLine) → IsHead n seen h → ⊥) → IsHeadValue n o text rest
head_value n (Some h) text line seen rest is same some none = is.0 ∙ ap (λ t. line_text t ++ rest) (sym same ∙ some.text)
head_value n None text line seen rest is same some none = none_of_form n text line rest is (λ h line_is. none refl h (subst (λ t. IsHead n t h) (sym same) line_is))

-- where a text goes on with a line of the form that is asked for, that is its next one
pub awaited_head : (n : ℕ) (o : Option HeadLine) (seen text rest : List ℕ) → IsHeadValue n o text rest → IfSome o (IsHead n seen) → (h : HeadLine) (more : List ℕ) → IsHead n (head_line h) h → text ≡ head_text h ++ more → (o ≡ Some h) × (rest ≡ more)
awaited_head n None seen text rest none given h more form e = absurd (none h (record { rest = more; text = e; line = form }))
awaited_head n (Some g) seen text rest is given h more form e =
    let here = subst (λ t. IsHead n t g) given.text given in
    let (same, after) = same_line (head_line g) (head_line h) rest more (head_plain n g here) (head_plain n h form) (sym is ∙ e) in
    (ap Some (one_head n (head_line g) g h here (subst (λ t. IsHead n t h) (sym same) form)), after)

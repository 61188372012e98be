-- The first three lines of a text have no line feed in them, and one value.
use Rattle.std.proofs.Common.{◌≡◌, ◌<◌, ◌≤◌, ◌^◌, ◌∙◌, ℕ, refl, rules, sym, ap, subst, arith, List, [], ◌++◌, append-nil, codes, decimal}
use Rattle.lin_rows.specs.Texts.{one_text}
use Rattle.cert_lines.specs.declared.parts.Claim.{Claim}
use Rattle.cert_lines.specs.declared.parts.Claim.TheVariants as claim
use Rattle.cert_lines.specs.declared.head.HeadLine.{HeadLine}
use Rattle.cert_lines.specs.declared.head.HeadLine.TheVariants as head
use Rattle.cert_lines.specs.Text.{claim_line, count_line}
use Rattle.cert_lines.specs.Limits.{IsSmallClaim, IsVersion}
use Rattle.cert_lines.specs.Head.{IsHead, head_line}
use Rattle.cert_lines.specs.Text.{HasNoFeed}
use Rattle.cert_lines.proofs.Feeds.{feed_append, visible_plain}
use Rattle.cert_lines.proofs.Stands.{decimal_visible}
use Rattle.cert_lines.proofs.Numerals.{same_rest}
use Rattle.cert_lines.proofs.Splits.{same_number, tail}

number_plain : (n : ℕ) → n < 10 ^ 64 → HasNoFeed (one_text n)
number_plain n small = (λ e. omega (arith, e), subst HasNoFeed (append-nil (decimal n)) (visible_plain (decimal n) [] (decimal_visible n small) tt))

claim_plain : (c : Claim) → IsSmallClaim c → HasNoFeed (claim_line c)
claim_plain (claim.Optimal cost) small = feed_append (codes "claim optimal") (one_text cost) (search rules) (number_plain cost (omega (arith, small)))
claim_plain claim.Infeasible small = search rules
claim_plain (claim.Bound bound) small = feed_append (codes "claim bound") (one_text bound) (search rules) (number_plain bound (omega (arith, small)))

-- a line has no line feed in it
pub head_plain : (n : ℕ) (h : HeadLine) → IsHead n (head_line h) h → HasNoFeed (head_line h)
head_plain n (head.Mark version) is = feed_append (codes "lotcert") (one_text version) (search rules) (number_plain version (omega (arith, is.small.1)))
head_plain n (head.Claim c) is = claim_plain c is.small
head_plain n (head.Cuts count) is = feed_append (codes "cuts") (one_text count) (search rules) (number_plain count (omega (arith, is.small)))

-- ---- and one value
pub same_count : (a b : ℕ) → a ≤ 20000 → b ≤ 20000 → count_line a ≡ count_line b → a ≡ b
same_count a b x y e = same_number a b (omega (arith, x)) (omega (arith, y)) (ap tail (same_rest (codes "cuts") (one_text a) (one_text b) e))

pub same_claim : (c d : Claim) → IsSmallClaim c → IsSmallClaim d → claim_line c ≡ claim_line d → c ≡ d
same_claim (claim.Optimal a) (claim.Optimal b) x y e = ap claim.Optimal (same_number a b (omega (arith, x)) (omega (arith, y)) (ap tail (same_rest (codes "claim optimal") (one_text a) (one_text b) e)))
same_claim claim.Infeasible claim.Infeasible x y e = refl
same_claim (claim.Bound a) (claim.Bound b) x y e = ap claim.Bound (same_number a b (omega (arith, x)) (omega (arith, y)) (ap tail (same_rest (codes "claim bound") (one_text a) (one_text b) e)))
same_claim _ _ x y e = search (rules, e)

pub same_version : (a b : ℕ) → IsVersion a → IsVersion b → codes "lotcert" ++ one_text a ≡ codes "lotcert" ++ one_text b → a ≡ b
same_version a b x y e = same_number a b (omega (arith, x.1)) (omega (arith, y.1)) (ap tail (same_rest (codes "lotcert") (one_text a) (one_text b) e))

pub one_head : (n : ℕ) (bytes : List ℕ) (g h : HeadLine) → IsHead n bytes g → IsHead n bytes h → g ≡ h
one_head n bytes (head.Mark v) (head.Mark w) a b = ap head.Mark (same_version v w a.small b.small (sym a.text ∙ b.text))
one_head n bytes (head.Claim c) (head.Claim d) a b = ap head.Claim (same_claim c d a.small b.small (sym a.text ∙ b.text))
one_head n bytes (head.Cuts m) (head.Cuts k) a b = ap head.Cuts (same_count m k a.small b.small (sym a.text ∙ b.text))
one_head n bytes g h a b = absurd (omega (arith, a.number, b.number))

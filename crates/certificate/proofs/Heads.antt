-- Why one of the first three lines is wrong.
use Rattle.std.proofs.Common.{◌≡◌, ◌∙◌, ℕ, refl, sym, ap, subst, arith, List, [], ◌∷◌, ◌++◌, append_assoc, append-nil}
use Rattle.cert_lines.specs.declared.head.HeadLine.{HeadLine}
use Rattle.cert_lines.specs.Text.{HasNoFeed, line_text}
use Rattle.cert_lines.specs.Head.{IsHead, head_line}
use Rattle.certificate.specs.Text.{head_text}
use Rattle.certificate.specs.Faults.{IsHeadFault, StartsWithHead}
use Rattle.certificate.proofs.Feeds.{no_line, same_line}
use Rattle.cert_lines.proofs.Heads.{head_plain}

pub no_head : (n : ℕ) (text : List ℕ) (h : HeadLine) → HasNoFeed text → StartsWithHead n text h → ⊥
no_head n text h plain s = no_line text (head_line h) s.rest plain (head_plain n h s.line) s.text

pub other_head : (n : ℕ) (text line rest : List ℕ) (h : HeadLine) → text ≡ line_text line ++ rest → HasNoFeed line → (IsHead n line h → ⊥) → StartsWithHead n text h → ⊥
other_head n text line rest h is plain none s =
    let (same, after) = same_line line (head_line h) rest s.rest plain (head_plain n h s.line) (sym is ∙ s.text) in
    none (subst (λ b. IsHead n b h) (sym same) s.line)

-- ---- faults
pub first_fault : (text : List ℕ) → ((h : HeadLine) → StartsWithHead 1 text h → ⊥) → IsHeadFault text 1
first_fault text none = record {
  read = [];
  rest = text;
  text = refl;
  lines = tt;
  number = refl;
  high = omega arith;
  none = none;
}

pub second_fault : (text rest : List ℕ) (a : HeadLine) → text ≡ head_text a ++ rest → IsHead 1 (head_line a) a → ((h : HeadLine) → StartsWithHead 2 rest h → ⊥) → IsHeadFault text 2
second_fault text rest a is line none = record {
  read = a ∷ [];
  rest = rest;
  text = is ∙ ap (λ t. t ++ rest) (sym (append-nil (head_text a)));
  lines = (line, tt);
  number = refl;
  high = omega arith;
  none = none;
}

pub third_fault : (text mid rest : List ℕ) (a b : HeadLine) → text ≡ head_text a ++ mid → mid ≡ head_text b ++ rest → IsHead 1 (head_line a) a → IsHead 2 (head_line b) b → ((h : HeadLine) → StartsWithHead 3 rest h → ⊥) → IsHeadFault text 3
third_fault text mid rest a b first second line_a line_b none = record {
  read = a ∷ b ∷ [];
  rest = rest;
  text = first ∙ ap (λ t. head_text a ++ t) second ∙ sym (append_assoc (head_text a) (head_text b) rest) ∙ ap (λ t. (head_text a ++ t) ++ rest) (sym (append-nil (head_text b)));
  lines = (line_a, (line_b, tt));
  number = refl;
  high = omega arith;
  none = none;
}

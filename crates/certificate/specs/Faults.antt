-- Why a text is no certificate's.
use Rattle.std.specs.Prelude.{◌≡◌, ◌≤◌, ◌+◌, ℕ, List, [], ◌∷◌, ◌++◌, length, replicate, ⊤}
use Rattle.cert_lines.specs.declared.parts.Claim.{Claim}
use Rattle.cert_lines.specs.declared.head.HeadLine.{HeadLine}
use Rattle.certificate.specs.declared.fault.CertTextFault.{CertTextFault}
use Rattle.certificate.specs.declared.fault.CertTextFault.TheVariants as fault
use Rattle.certificate.specs.declared.line_numbers.TheConstants.{FIRST_CUT_LINE}
use Rattle.cert_lines.specs.Head.{IsHead, head_line}
use Rattle.certificate.specs.Text.{head_text, head_values, heads_text}
use Rattle.certificate.specs.Dues.{IsFaultFrom, Due, a_cut, a_tree, the_end}

-- these are the values of lines from this number on
abbrev pub AreHeads : ℕ → List HeadLine → Type 0
AreHeads n [] = ⊤
AreHeads n (h ∷ hs) = IsHead n (head_line h) h × AreHeads (n + 1) hs

-- the text's first line, which has this number, has this value
pub record StartsWithHead (n : ℕ) (bytes : List ℕ) (h : HeadLine) : Type 0 where
  pub rest : List ℕ
  pub text : bytes ≡ head_text h ++ rest
  pub line : IsHead n (head_line h) h

-- one of the first three lines is absent or isn't of its form
pub record IsHeadFault (bytes : List ℕ) (n : ℕ) : Type 0 where
  pub read : List HeadLine
  pub rest : List ℕ
  pub text : bytes ≡ heads_text read ++ rest
  pub lines : AreHeads 1 read
  pub number : n ≡ length read + 1
  pub high : n ≤ 3
  pub none : (h : HeadLine) → StartsWithHead n rest h → ⊥

-- what is needed after them
abbrev pub body_dues : ℕ → List Due
body_dues count = replicate count a_cut ++ (a_tree 0 ∷ the_end ∷ [])

-- a later line is wrong
pub record IsBodyFault (bytes : List ℕ) (f : CertTextFault) : Type 0 where
  pub version : ℕ
  pub claim : Claim
  pub count : ℕ
  pub rest : List ℕ
  pub text : bytes ≡ heads_text (head_values version claim count) ++ rest
  pub lines : AreHeads 1 (head_values version claim count)
  pub fault : IsFaultFrom version (body_dues count) rest FIRST_CUT_LINE f

-- the first line at which something is wrong, where memory isn't the cause
abbrev pub IsCertTextFault : List ℕ → CertTextFault → Type 0
IsCertTextFault text (fault.Header n) = IsHeadFault text n
IsCertTextFault text (fault.Line n) = IsBodyFault text (fault.Line n)
IsCertTextFault text (fault.Shape n) = IsBodyFault text (fault.Shape n)
IsCertTextFault text (fault.Deep n) = IsBodyFault text (fault.Deep n)
IsCertTextFault text fault.Memory = ⊤

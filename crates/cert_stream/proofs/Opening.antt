-- The first three lines, where the text begins with them.
use Rattle.std.proofs.Common.{◌≡◌, ◌∙◌, ℕ, refl, subst, List, [], ◌++◌, append_assoc, append-nil}
use Rattle.std.specs.Prelude.{Option, Some}
use Rattle.cert_lines.specs.declared.parts.Claim.{Claim}
use Rattle.cert_lines.specs.declared.head.HeadLine.{HeadLine}
use Rattle.cert_lines.specs.declared.head.HeadLine.TheVariants as head
use Rattle.cert_lines.specs.Head.{IsHead, head_line, head_place}
use Rattle.certificate.specs.Text.{head_text, head_values}
use Rattle.certificate.specs.Faults.{AreHeads}
use Rattle.cert_stream.specs.declared.heads.Heads.{Heads}
use Rattle.cert_stream.specs.Heads.{heads_of}
use Rattle.cert_stream.specs.Values.{IsElsewhere}

-- where the text goes on with a line of this number, that line is given
abbrev pub IsAwaited : ℕ → Option HeadLine → List ℕ → List ℕ → Type 0
IsAwaited n o text rest = (h : HeadLine) (more : List ℕ) → IsHead n (head_line h) h → text ≡ head_text h ++ more → (o ≡ Some h) × (rest ≡ more)

abbrev pub AreHere : Heads → Type 0
AreHere h = AreHeads 1 (head_values h.version h.claim h.count)

joined : (x y z t : List ℕ) → (x ++ (y ++ (z ++ []))) ++ t ≡ x ++ (y ++ (z ++ t))
joined x y z t = simp (append_assoc, append-nil) refl

pub first_line : (h : Heads) (o : Option HeadLine) (text mid more : List ℕ) → AreHere h → text ≡ heads_of h ++ more → IsAwaited 1 o text mid → (o ≡ Some (head.Mark h.version)) × (mid ≡ head_text (head.Claim h.claim) ++ (head_text (head.Cuts h.count) ++ more))
first_line h o text mid more here e given = given (head.Mark h.version) _ here.0 (e ∙ joined (head_text (head.Mark h.version)) (head_text (head.Claim h.claim)) (head_text (head.Cuts h.count)) more)

pub second_line : (h : Heads) (o p : Option HeadLine) (text mid rest more : List ℕ) → AreHere h → text ≡ heads_of h ++ more → IsAwaited 1 o text mid → IsAwaited 2 p mid rest → (p ≡ Some (head.Claim h.claim)) × (rest ≡ head_text (head.Cuts h.count) ++ more)
second_line h o p text mid rest more here e given then = then (head.Claim h.claim) _ here.1.0 (first_line h o text mid more here e given).1

pub third_line : (h : Heads) (o p q : Option HeadLine) (text mid rest last more : List ℕ) → AreHere h → text ≡ heads_of h ++ more → IsAwaited 1 o text mid → IsAwaited 2 p mid rest → IsAwaited 3 q rest last → (q ≡ Some (head.Cuts h.count)) × (last ≡ more)
third_line h o p q text mid rest last more here e given then finally = finally (head.Cuts h.count) _ here.1.1.0 (second_line h o p text mid rest more here e given then).1

pub not_elsewhere : (n : ℕ) (o : Option HeadLine) (h : HeadLine) → o ≡ Some h → head_place h ≡ n → IsElsewhere n o → ⊥
not_elsewhere n o h is place other = subst (IsElsewhere n) is other place

pub same_three : (h : Heads) (o p q : Option HeadLine) (version : ℕ) (claim : Claim) (count : ℕ) → o ≡ Some (head.Mark version) → p ≡ Some (head.Claim claim) → q ≡ Some (head.Cuts count) → o ≡ Some (head.Mark h.version) → p ≡ Some (head.Claim h.claim) → q ≡ Some (head.Cuts h.count) → ◌≡◌ {A = Heads} (record { version = version; claim = claim; count = count }) h
same_three h o p q version claim count a b d x y z =
    let one : version ≡ h.version = cc in
    let two : claim ≡ h.claim = cc in
    let three : count ≡ h.count = cc in
    three_same one two three
  where
    three_same : {v w : ℕ} {c d : Claim} {n m : ℕ} → v ≡ w → c ≡ d → n ≡ m → ◌≡◌ {A = Heads} (record { version = v; claim = c; count = n }) (record { version = w; claim = d; count = m })
    three_same a b e = cc

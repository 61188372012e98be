-- A text has one certificate or one fault.
use Rattle.std.proofs.Common.{◌≡◌, ◌≢◌, ◌<◌, ◌+◌, ◌∙◌, ◌⊎◌, ⊎_elim, ℕ, refl, rules, sym, ap, subst, arith, inl, inr, List, [], ◌∷◌, ◌++◌, append_assoc, append-nil, length}
use Rattle.std.specs.Prelude.{Option, None, Some, map, ⊤}
use Rattle.std.proofs.lemmas.Bool.{cases_lt}
use Rattle.lin_rows.specs.declared.column.Column.{Column}
use Rattle.cert_lines.specs.declared.parts.Claim.{Claim}
use Rattle.item_groups.specs.declared.group.Group.{Group}
use Rattle.cert_lines.specs.declared.parts.Part.{Part}
use Rattle.cert_lines.specs.declared.head.HeadLine.{HeadLine}
use Rattle.cert_lines.specs.declared.head.HeadLine.TheVariants as head
use Rattle.certificate.specs.declared.fault.CertTextFault.{CertTextFault}
use Rattle.certificate.specs.declared.fault.CertTextFault.TheVariants as fault
use Rattle.certificate.specs.declared.line_numbers.TheConstants.{FIRST_CUT_LINE}
use Rattle.cert_lines.specs.Shapes.{BlockCut, BranchLine, CutShape, EndLine, FarkasLeaf, GroupLine, LeafShape, LineShape, LinearLeaf, ListLine, ListShape, LsCut, PartLine, PointLeaf, PriceCut, ReducedLeaf, RoundCut}
use Rattle.cert_lines.specs.Text.{claim_line, count_line}
use Rattle.cert_lines.specs.Line.{HasLine, IsLine, later_line}
use Rattle.cert_lines.specs.Head.{IsHead, head_line}
use Rattle.certificate.specs.Shapes.{End, Shape, Split, TreeShape}
use Rattle.certificate.specs.Text.{head_text, head_values, heads_text}
use Rattle.certificate.specs.Limits.{IsTextOf}
use Rattle.certificate.specs.Values.{AreLines, Values, all_cut_values, body_values, cut_values, group_values, leaf_values, list_values, part_values, tree_values, value_text, values_text}
use Rattle.certificate.specs.Dues.{IsDeep, IsMisshapen, IsStop, IsTooDeep, Due, TakesAll, StartsWith, Takes, a_tree, after, the_end}
use Rattle.certificate.specs.Faults.{AreHeads, IsBodyFault, IsCertTextFault, IsHeadFault, StartsWithHead, body_dues}
use Rattle.certificate.specs.Laws.{MeansOneThing}
use Rattle.cert_lines.proofs.Alike.{one_value}
use Rattle.cert_lines.proofs.Feeds.{line_plain}
use Rattle.cert_lines.proofs.Heads.{head_plain, same_claim, same_count, same_version}
use Rattle.certificate.proofs.Feeds.{no_line, same_line}
use Rattle.certificate.proofs.Needed.{cuts_taken, taken_join, tree_taken}

-- ---- lines of one text
-- two first lines of one text
first_same : {version : ℕ} (l m : LineShape) (xs ys : List ℕ) → HasLine version l → HasLine version m → value_text l ++ xs ≡ value_text m ++ ys → (l ≡ m) × (xs ≡ ys)
first_same {version = version} l m xs ys a b e =
    let (same, rest) = same_line (later_line l) (later_line m) xs ys (line_plain l a.form) (line_plain m b.form) e in
    (one_value version (later_line l) l m a (subst (λ t. IsLine version t m) (sym same) b), rest)

no_first : {version : ℕ} (text : List ℕ) (l : LineShape) → text ≡ [] → StartsWith version text l → ⊥
no_first {version = version} text l none s = no_line [] (later_line l) s.rest tt (line_plain l s.line.form) (sym none ∙ s.text)

start_same : {version : ℕ} (text : List ℕ) (l m : LineShape) → StartsWith version text l → StartsWith version text m → l ≡ m
start_same {version = version} text l m a b = (first_same l m a.rest b.rest a.line b.line (sym a.text ∙ b.text)).0

values_same : (version : ℕ) (xs ys : Values) → AreLines version xs → AreLines version ys → values_text xs ≡ values_text ys → xs ≡ ys
values_same version [] [] a b e = refl
values_same version [] (y ∷ ys) a b e = absurd (no_first [] y refl (record { rest = values_text ys; text = e; line = b.0 }))
values_same version (x ∷ xs) [] a b e = absurd (no_first [] x refl (record { rest = values_text xs; text = sym e; line = a.0 }))
values_same version (x ∷ xs) (y ∷ ys) a b e =
    let (first, rest) = first_same x y (values_text xs) (values_text ys) a.0 b.0 e in
    ap (λ z. z ∷ xs) first ∙ ap (λ zs. y ∷ zs) (values_same version xs ys a.1 b.1 rest)

-- a branch that is too deep is a branch
deep_takes : (due : Due) (l : LineShape) → IsDeep due l → Takes due l
deep_takes (a_tree above) (BranchLine column at) d = tt
deep_takes _ _ d = search rules

-- ---- where the reading ends: with nothing left, or at a fault that isn't memory's
abbrev IsEnd : ℕ → List Due → List ℕ → ℕ → Option CertTextFault → Type 0
IsEnd version left rest n None = (left ≡ []) × (rest ≡ [])
IsEnd version left rest n (Some f) = IsStop version left rest n f × (f ≢ fault.Memory)

-- a line that is as needed is no end
no_end : {version : ℕ} (due : Due) (later : List Due) (text : List ℕ) (n : ℕ) (l : LineShape) (e : Option CertTextFault) → StartsWith version text l → Takes due l → (IsDeep due l → ⊥) → IsEnd version (due ∷ later) text n e → ⊥
no_end {version = version} due later text n l None s takes shallow end = cc end.0
no_end {version = version} due later text n l (Some (fault.Header m)) s takes shallow end = end.0
no_end {version = version} due later text n l (Some (fault.Line m)) s takes shallow end = end.0.2 l s
no_end {version = version} due later text n l (Some (fault.Shape m)) s takes shallow end =
    ⊎_elim (λ early. no_first text l early.0 s) (λ other. other.2 (subst (Takes due) (start_same text l other.0 s other.1) takes)) end.0.1
no_end {version = version} due later text n l (Some (fault.Deep m)) s takes shallow end = shallow (subst (IsDeep due) (start_same text end.0.1.0 l end.0.1.1 s) end.0.1.2)
no_end {version = version} due later text n l (Some fault.Memory) s takes shallow end = end.1 refl

-- a line that is too deep isn't misshapen
not_both : {version : ℕ} (dues : List Due) (text : List ℕ) (l : LineShape) → StartsWith version text l → IsTooDeep dues l → IsMisshapen version dues text → ⊥
not_both {version = version} [] text l s deep shape = deep
not_both {version = version} (due ∷ later) text l s deep shape =
    ⊎_elim (λ early. no_first text l early.0 s) (λ other. other.2 (subst (Takes due) (start_same text l other.0 s other.1) (deep_takes due l deep))) shape

no_shape : {version : ℕ} (dues : List Due) (text : List ℕ) → text ≢ [] → ((l : LineShape) → StartsWith version text l → ⊥) → IsMisshapen version dues text → ⊥
no_shape {version = version} dues text some none shape = ⊎_elim (λ early. some early.0) (λ other. none other.0 other.1) shape

-- nothing left is no fault
no_stop : (version : ℕ) (f : CertTextFault) (n : ℕ) → IsStop version [] [] n f → f ≢ fault.Memory → ⊥
no_stop version (fault.Header m) n stop other = stop
no_stop version (fault.Line m) n stop other = stop.1 refl
no_stop version (fault.Shape m) n stop other = ⊎_elim (λ early. early.1 refl) (λ line. no_first [] line.0 refl line.1) stop.1
no_stop version (fault.Deep m) n stop other = stop.1.2
no_stop version fault.Memory n stop other = other refl

one_stop : (version : ℕ) (dues : List Due) (text : List ℕ) (n : ℕ) (f g : CertTextFault) → IsStop version dues text n f → IsStop version dues text n g → f ≢ fault.Memory → g ≢ fault.Memory → f ≡ g
one_stop version dues text n (fault.Header m) g a b x y = absurd a
one_stop version dues text n f (fault.Header k) a b x y = absurd b
one_stop version dues text n fault.Memory g a b x y = absurd (x refl)
one_stop version dues text n f fault.Memory a b x y = absurd (y refl)
one_stop version dues text n (fault.Line m) (fault.Line k) a b x y = ap fault.Line (a.0 ∙ sym b.0)
one_stop version dues text n (fault.Shape m) (fault.Shape k) a b x y = ap fault.Shape (a.0 ∙ sym b.0)
one_stop version dues text n (fault.Deep m) (fault.Deep k) a b x y = ap fault.Deep (a.0 ∙ sym b.0)
one_stop version dues text n (fault.Line m) (fault.Shape k) a b x y = absurd (no_shape {version = version} dues text a.1 a.2 b.1)
one_stop version dues text n (fault.Shape m) (fault.Line k) a b x y = absurd (no_shape {version = version} dues text b.1 b.2 a.1)
one_stop version dues text n (fault.Line m) (fault.Deep k) a b x y = absurd (a.2 b.1.0 b.1.1)
one_stop version dues text n (fault.Deep m) (fault.Line k) a b x y = absurd (b.2 a.1.0 a.1.1)
one_stop version dues text n (fault.Shape m) (fault.Deep k) a b x y = absurd (not_both {version = version} dues text b.1.0 b.1.1 b.1.2 a.1)
one_stop version dues text n (fault.Deep m) (fault.Shape k) a b x y = absurd (not_both {version = version} dues text a.1.0 a.1.1 a.1.2 b.1)

same_end : (version : ℕ) (dues : List Due) (text : List ℕ) (n : ℕ) (e f : Option CertTextFault) → IsEnd version dues text n e → IsEnd version dues text n f → e ≡ f
same_end version dues text n None None a b = refl
same_end version dues text n None (Some g) a b = absurd (no_stop version g n (subst (λ ns. IsStop version ns [] n g) a.0 (subst (λ t. IsStop version dues t n g) a.1 b.0)) b.1)
same_end version dues text n (Some f) None a b = absurd (no_stop version f n (subst (λ ns. IsStop version ns [] n f) b.0 (subst (λ t. IsStop version dues t n f) b.1 a.0)) a.1)
same_end version dues text n (Some f) (Some g) a b = ap Some (one_stop version dues text n f g a.0 b.0 a.1 b.1)

one_end : (version : ℕ) (dues : List Due) (n : ℕ) (xs ys : Values) (left mid : List Due) (rest more : List ℕ) (e f : Option CertTextFault) → AreLines version xs → AreLines version ys → values_text xs ++ rest ≡ values_text ys ++ more → TakesAll dues xs left → TakesAll dues ys mid → IsEnd version left rest (n + length xs) e → IsEnd version mid more (n + length ys) f → e ≡ f
one_end version dues n [] [] left mid rest more e f a b text x y p q =
    same_end version left rest (n + length {A = LineShape} []) e f p (subst (λ ns. IsEnd version ns rest (n + length {A = LineShape} []) f) (sym y ∙ x) (subst (λ t. IsEnd version mid t (n + length {A = LineShape} []) f) (sym text) q))
one_end version [] n [] (v ∷ ys) left mid rest more e f a b text x y p q = absurd y
one_end version (due ∷ later) n [] (v ∷ ys) left mid rest more e f a b text x y p q =
    let starts : StartsWith version rest v = record { rest = values_text ys ++ more; text = text ∙ append_assoc (value_text v) (values_text ys) more; line = b.0 } in
    absurd (no_end {version = version} due later rest (n + length {A = LineShape} []) v e starts y.0 y.1 (subst (λ ns. IsEnd version ns rest (n + length {A = LineShape} []) e) (sym x) p))
one_end version [] n (u ∷ xs) [] left mid rest more e f a b text x y p q = absurd x
one_end version (due ∷ later) n (u ∷ xs) [] left mid rest more e f a b text x y p q =
    let starts : StartsWith version more u = record { rest = values_text xs ++ rest; text = sym text ∙ append_assoc (value_text u) (values_text xs) rest; line = a.0 } in
    absurd (no_end {version = version} due later more (n + length {A = LineShape} []) u f starts x.0 x.1 (subst (λ ns. IsEnd version ns more (n + length {A = LineShape} []) f) (sym y) q))
one_end version [] n (u ∷ xs) (v ∷ ys) left mid rest more e f a b text x y p q = absurd x
one_end version (due ∷ later) n (u ∷ xs) (v ∷ ys) left mid rest more e f a b text x y p q =
    let (first, after_first) = first_same u v (values_text xs ++ rest) (values_text ys ++ more) a.0 b.0 (sym (append_assoc (value_text u) (values_text xs) rest) ∙ text ∙ append_assoc (value_text v) (values_text ys) more) in
    one_end version (after due u ++ later) (n + 1) xs ys left mid rest more e f a.1 b.1 after_first x.2
    (subst (λ ns. TakesAll (ns ++ later) ys mid) (sym (ap (after due) first)) y.2)
    (subst (λ k. IsEnd version left rest k e) (omega arith) p)
    (subst (λ k. IsEnd version mid more k f) (omega arith) q)

-- ---- the first three lines
heads_inside : (n : ℕ) (hs gs : List HeadLine) (rest more : List ℕ) → AreHeads n hs → AreHeads n gs → heads_text hs ++ rest ≡ heads_text gs ++ more → length hs < length gs → ((h : HeadLine) → StartsWithHead (n + length hs) rest h → ⊥) → ⊥
heads_inside n [] [] rest more a b e less none = omega (arith, less)
heads_inside n [] (g ∷ gs) rest more a b e less none =
    none g (record { rest = heads_text gs ++ more; text = e ∙ append_assoc (head_text g) (heads_text gs) more; line = subst (λ k. IsHead k (head_line g) g) (omega arith) b.0 })
heads_inside n (h ∷ hs) [] rest more a b e less none = omega (arith, less)
heads_inside n (h ∷ hs) (g ∷ gs) rest more a b e less none =
    let (same, after_first) = same_line (head_line h) (head_line g) (heads_text hs ++ rest) (heads_text gs ++ more) (head_plain n h a.0) (head_plain n g b.0) (sym (append_assoc (head_text h) (heads_text hs) rest) ∙ e ∙ append_assoc (head_text g) (heads_text gs) more) in
    heads_inside (n + 1) hs gs rest more a.1 b.1 after_first (omega (arith, less)) (λ x s. none x (subst (λ k. StartsWithHead k rest x) (omega arith) s))

-- two texts that begin with three such lines
same_heads : (u w : ℕ) (c d : Claim) (n m : ℕ) (rest more : List ℕ) → AreHeads 1 (head_values u c n) → AreHeads 1 (head_values w d m) → heads_text (head_values u c n) ++ rest ≡ heads_text (head_values w d m) ++ more → (u ≡ w) × (c ≡ d) × (n ≡ m) × (rest ≡ more)
same_heads u w c d n m rest more a b e =
    let (mark, one) = same_line (head_line (head.Mark u)) (head_line (head.Mark w)) _ _ (head_plain 1 (head.Mark u) a.0) (head_plain 1 (head.Mark w) b.0) (sym (joined u c n rest) ∙ e ∙ joined w d m more) in
    let (same, two) = same_line (claim_line c) (claim_line d) _ _ (head_plain 2 (head.Claim c) a.1.0) (head_plain 2 (head.Claim d) b.1.0) one in
    let (count, three) = same_line (count_line n) (count_line m) rest more (head_plain 3 (head.Cuts n) a.1.1.0) (head_plain 3 (head.Cuts m) b.1.1.0) two in
    (same_version u w a.0.small b.0.small mark, same_claim c d a.1.0.small b.1.0.small same, same_count n m a.1.1.0.small b.1.1.0.small count, three)
  where
    three_joined : (x y z t : List ℕ) → (x ++ (y ++ (z ++ []))) ++ t ≡ x ++ (y ++ (z ++ t))
    three_joined x y z t = simp (append_assoc, append-nil) refl

    joined : (u : ℕ) (c : Claim) (n : ℕ) (t : List ℕ) → heads_text (head_values u c n) ++ t ≡ head_text (head.Mark u) ++ (head_text (head.Claim c) ++ (head_text (head.Cuts n) ++ t))
    joined u c n t = three_joined (head_text (head.Mark u)) (head_text (head.Claim c)) (head_text (head.Cuts n)) t

-- ---- a certificate as a text that is read to its end
certificate_heads : (bytes : List ℕ) (c : Shape) → IsTextOf bytes c → AreHeads 1 (head_values c.version c.claim (length c.cuts))
certificate_heads bytes c t = (
  record { number = refl; small = t.writable.version; text = refl },
  (
    record { number = refl; small = t.writable.amount; text = refl },
    (record { number = refl; small = t.writable.few; text = refl }, tt),
  ),
)

certificate_taken : (bytes : List ℕ) (c : Shape) → IsTextOf bytes c → TakesAll (body_dues (length c.cuts)) (body_values c) []
certificate_taken bytes c t =
    taken_join (body_dues (length c.cuts)) (a_tree 0 ∷ the_end ∷ []) [] (all_cut_values c.cuts) (tree_values c.tree ++ EndLine ∷ []) (cuts_taken c.cuts (length c.cuts) (a_tree 0 ∷ the_end ∷ []) refl)
    (taken_join (a_tree 0 ∷ the_end ∷ []) (the_end ∷ []) [] (tree_values c.tree) (EndLine ∷ []) (tree_taken c.tree 0 (the_end ∷ []) (omega (arith, t.writable.paths))) (tt, λ no_depth. no_depth, refl))

-- ---- one fault
heads_apart : (bytes : List ℕ) (n u : ℕ) (c : Claim) (m : ℕ) (rest : List ℕ) → IsHeadFault bytes n → bytes ≡ heads_text (head_values u c m) ++ rest → AreHeads 1 (head_values u c m) → ⊥
heads_apart bytes n u c m rest a text lines = heads_inside 1 a.read (head_values u c m) a.rest rest a.lines lines (sym a.text ∙ text) (omega (arith, a.number, a.high)) (λ h s. a.none h (subst (λ k. StartsWithHead k a.rest h) (omega (arith, a.number)) s))

one_head_fault : (bytes : List ℕ) (n m : ℕ) → IsHeadFault bytes n → IsHeadFault bytes m → n ≡ m
one_head_fault bytes n m a b =
    ⊎_elim (λ less. absurd (inside n m a b less))
    (λ not_less. ⊎_elim (λ more. absurd (inside m n b a more)) (λ not_more. omega (arith, not_less, not_more)) (cases_lt m n))
    (cases_lt n m)
  where
    inside : (n m : ℕ) → IsHeadFault bytes n → IsHeadFault bytes m → n < m → ⊥
    inside n m a b less = heads_inside 1 a.read b.read a.rest b.rest a.lines b.lines (sym a.text ∙ b.text) (omega (arith, a.number, b.number, less)) (λ h s. a.none h (subst (λ k. StartsWithHead k a.rest h) (omega (arith, a.number)) s))

-- two ends after the same three lines
one_body : (bytes rest more : List ℕ) (v w : ℕ) (c d : Claim) (n m : ℕ) (xs ys : Values) (left mid : List Due) (r s : List ℕ) (e f : Option CertTextFault) → bytes ≡ heads_text (head_values v c n) ++ rest → bytes ≡ heads_text (head_values w d m) ++ more → AreHeads 1 (head_values v c n) → AreHeads 1 (head_values w d m) → AreLines v xs → AreLines w ys → rest ≡ values_text xs ++ r → more ≡ values_text ys ++ s → TakesAll (body_dues n) xs left → TakesAll (body_dues m) ys mid → IsEnd v left r (FIRST_CUT_LINE + length xs) e → IsEnd w mid s (FIRST_CUT_LINE + length ys) f → e ≡ f
one_body bytes rest more v w c d n m xs ys left mid r s e f text other heads others a b first second x y p q =
    let (version, same, count, after_heads) = same_heads v w c d n m rest more heads others (sym text ∙ other) in
    one_end v (body_dues n) FIRST_CUT_LINE xs ys left mid r s e f a (subst (λ k. AreLines k ys) (sym version) b) (sym first ∙ after_heads ∙ second) x (subst (λ k. TakesAll (body_dues k) ys mid) (sym count) y) p (subst (λ k. IsEnd k mid s (FIRST_CUT_LINE + length ys) f) (sym version) q)

one_body_fault : (bytes : List ℕ) (f g : CertTextFault) → f ≢ fault.Memory → g ≢ fault.Memory → IsBodyFault bytes f → IsBodyFault bytes g → f ≡ g
one_body_fault bytes f g x y a b =
    let same : Some f ≡ Some g = one_body bytes a.rest b.rest a.version b.version a.claim b.claim a.count b.count a.fault.read b.fault.read a.fault.left b.fault.left a.fault.rest b.fault.rest (Some f) (Some g) a.text b.text a.lines b.lines a.fault.lines b.fault.lines a.fault.text b.fault.text a.fault.taken b.fault.taken (a.fault.stop, x) (b.fault.stop, y) in
    search (rules, same)

-- a fault after the first three lines leaves no certificate
no_certificate : (bytes : List ℕ) (c : Shape) (f : CertTextFault) → IsTextOf bytes c → IsBodyFault bytes f → f ≢ fault.Memory → ⊥
no_certificate bytes c f t b other =
    let all : values_text (body_values c) ≡ values_text (body_values c) ++ [] = sym (append-nil (values_text (body_values c))) in
    let same : None ≡ Some f = one_body bytes (values_text (body_values c)) b.rest c.version b.version c.claim b.claim (length c.cuts) b.count (body_values c) b.fault.read [] b.fault.left [] b.fault.rest None (Some f) t.text b.text (certificate_heads bytes c t) b.lines t.writable.lines b.fault.lines all b.fault.text (certificate_taken bytes c t) b.fault.taken (refl, refl) (b.fault.stop, other) in
    cc same

-- ---- one certificate: its parts, from the front of the lines on
-- as many lines of one kind at the front
same_from : {A : Type 0} (line_of : A → LineShape) → ((x y : A) → line_of x ≡ line_of y → x ≡ y) → (xs ys : List A) (ls ms : Values) → length xs ≡ length ys → map line_of xs ++ ls ≡ map line_of ys ++ ms → (xs ≡ ys) × (ls ≡ ms)
same_from line_of one [] [] ls ms e s = (refl, s)
same_from line_of one [] (y ∷ ys) ls ms e s = absurd (omega (arith, e))
same_from line_of one (x ∷ xs) [] ls ms e s = absurd (omega (arith, e))
same_from line_of one (x ∷ xs) (y ∷ ys) ls ms e s =
    let first : x ≡ y = one x y (cc s) in
    let next : map line_of xs ++ ls ≡ map line_of ys ++ ms = cc s in
    let (rest, last) = same_from line_of one xs ys ls ms (omega (arith, e)) next in
    (ap (λ z. z ∷ xs) first ∙ ap (λ zs. y ∷ zs) rest, last)

parts_from : (ps qs : List Part) (ls ms : Values) → length ps ≡ length qs → part_values ps ++ ls ≡ part_values qs ++ ms → (ps ≡ qs) × (ls ≡ ms)
parts_from ps qs ls ms e s = same_from (λ part. PartLine part) (λ x y same. cc same) ps qs ls ms e s

lists_from : (xs ys : List ListShape) (ls ms : Values) → length xs ≡ length ys → list_values xs ++ ls ≡ list_values ys ++ ms → (xs ≡ ys) × (ls ≡ ms)
lists_from xs ys ls ms e s = same_from (λ a. ListLine a) (λ x y same. cc same) xs ys ls ms e s

groups_from : (gs hs : List Group) (ls ms : Values) → length gs ≡ length hs → group_values gs ++ ls ≡ group_values hs ++ ms → (gs ≡ hs) × (ls ≡ ms)
groups_from gs hs ls ms e s = same_from (λ g. GroupLine g) (λ x y same. cc same) gs hs ls ms e s

-- as many parts, lists and groups
rows_from : (ps qs : List Part) (xs ys : List ListShape) (gs hs : List Group) (ls ms : Values) → length ps ≡ length qs → length xs ≡ length ys → length gs ≡ length hs → (part_values ps ++ (list_values xs ++ group_values gs)) ++ ls ≡ (part_values qs ++ (list_values ys ++ group_values hs)) ++ ms → (ps ≡ qs) × (xs ≡ ys) × (gs ≡ hs) × (ls ≡ ms)
rows_from ps qs xs ys gs hs ls ms p l g s =
    let (parts, after_parts) = parts_from ps qs _ _ p (sym (apart ps xs gs ls) ∙ s ∙ apart qs ys hs ms) in
    let (lists, after_lists) = lists_from xs ys _ _ l after_parts in
    let (groups, rest) = groups_from gs hs ls ms g after_lists in
    (parts, lists, groups, rest)
  where
    apart : (ps : List Part) (xs : List ListShape) (gs : List Group) (ls : Values) → (part_values ps ++ (list_values xs ++ group_values gs)) ++ ls ≡ part_values ps ++ (list_values xs ++ (group_values gs ++ ls))
    apart ps xs gs ls = append_assoc (part_values ps) (list_values xs ++ group_values gs) ls ∙ ap (λ t. part_values ps ++ t) (append_assoc (list_values xs) (group_values gs) ls)

-- as many parts, and neither lists nor groups
alone_from : (ps qs : List Part) (ls ms : Values) → length ps ≡ length qs → (part_values ps ++ []) ++ ls ≡ (part_values qs ++ []) ++ ms → (ps ≡ qs) × (ls ≡ ms)
alone_from ps qs ls ms e s = parts_from ps qs ls ms e (sym (ap (λ t. t ++ ls) (append-nil (part_values ps))) ∙ s ∙ ap (λ t. t ++ ms) (append-nil (part_values qs)))

cut_from : (c d : CutShape) (ls ms : Values) → cut_values c ++ ls ≡ cut_values d ++ ms → (c ≡ d) × (ls ≡ ms)
cut_from (RoundCut divisor parts) (RoundCut q others) ls ms s =
    let divisors : divisor ≡ q = cc s in
    let lengths : length parts ≡ length others = cc s in
    let next : part_values parts ++ ls ≡ part_values others ++ ms = cc s in
    let (same, rest) = parts_from parts others ls ms lengths next in
    (cc (divisors, same), rest)
cut_from (LsCut item last chosen) (LsCut jtem end others) ls ms s = (cc s, cc s)
cut_from (PriceCut item a) (PriceCut jtem b) ls ms s = (cc s, cc s)
cut_from (BlockCut item a) (BlockCut jtem b) ls ms s = (cc s, cc s)
cut_from _ _ ls ms s = absurd (cc s)

cuts_from : (cs ds : List CutShape) (ls ms : Values) → length cs ≡ length ds → all_cut_values cs ++ ls ≡ all_cut_values ds ++ ms → (cs ≡ ds) × (ls ≡ ms)
cuts_from [] [] ls ms e s = (refl, s)
cuts_from [] (d ∷ ds) ls ms e s = absurd (omega (arith, e))
cuts_from (c ∷ cs) [] ls ms e s = absurd (omega (arith, e))
cuts_from (c ∷ cs) (d ∷ ds) ls ms e s =
    let (first, rest) = cut_from c d (all_cut_values cs ++ ls) (all_cut_values ds ++ ms) (sym (append_assoc (cut_values c) (all_cut_values cs) ls) ∙ s ∙ append_assoc (cut_values d) (all_cut_values ds) ms) in
    let (cuts, last) = cuts_from cs ds ls ms (omega (arith, e)) rest in
    (ap (λ x. x ∷ cs) first ∙ ap (λ xs. d ∷ xs) cuts, last)

leaf_from : (l m : LeafShape) (ls ms : Values) → leaf_values l ++ ls ≡ leaf_values m ++ ms → (l ≡ m) × (ls ≡ ms)
leaf_from (LinearLeaf den parts) (LinearLeaf q others) ls ms s =
    let dens : den ≡ q = cc s in
    let lengths : length parts ≡ length others = cc s in
    let next : (part_values parts ++ []) ++ ls ≡ (part_values others ++ []) ++ ms = cc s in
    let (same, rest) = alone_from parts others ls ms lengths next in
    (cc (dens, same), rest)
leaf_from (FarkasLeaf parts) (FarkasLeaf others) ls ms s =
    let lengths : length parts ≡ length others = cc s in
    let next : (part_values parts ++ []) ++ ls ≡ (part_values others ++ []) ++ ms = cc s in
    let (same, rest) = alone_from parts others ls ms lengths next in
    (ap FarkasLeaf same, rest)
leaf_from PointLeaf PointLeaf ls ms s = (refl, cc s)
leaf_from (ReducedLeaf den parts lists groups) (ReducedLeaf q others seconds thirds) ls ms s =
    let dens : den ≡ q = cc s in
    let part_counts : length parts ≡ length others = cc s in
    let list_counts : length lists ≡ length seconds = cc s in
    let group_counts : length groups ≡ length thirds = cc s in
    let next : (part_values parts ++ (list_values lists ++ group_values groups)) ++ ls ≡ (part_values others ++ (list_values seconds ++ group_values thirds)) ++ ms = cc s in
    let (p, l, g, rest) = rows_from parts others lists seconds groups thirds ls ms part_counts list_counts group_counts next in
    (cc (dens, p, l, g), rest)
leaf_from _ _ ls ms s = absurd (cc s)

no_branch : (l : LeafShape) (column : Column) (at : ℕ) (ls ms : Values) → leaf_values l ++ ls ≡ BranchLine column at ∷ ms → ⊥
no_branch (LinearLeaf den parts) column at ls ms s = cc s
no_branch (FarkasLeaf parts) column at ls ms s = cc s
no_branch PointLeaf column at ls ms s = cc s
no_branch (ReducedLeaf den parts lists groups) column at ls ms s = cc s

tree_from : (t u : TreeShape) (ls ms : Values) → tree_values t ++ ls ≡ tree_values u ++ ms → (t ≡ u) × (ls ≡ ms)
tree_from (Split column at low high) (Split other less below above) ls ms s =
    let columns : column ≡ other = cc s in
    let ats : at ≡ less = cc s in
    let next : (tree_values low ++ tree_values high) ++ ls ≡ (tree_values below ++ tree_values above) ++ ms = cc s in
    let (first, rest) = tree_from low below (tree_values high ++ ls) (tree_values above ++ ms) (sym (append_assoc (tree_values low) (tree_values high) ls) ∙ next ∙ append_assoc (tree_values below) (tree_values above) ms) in
    let (second, last) = tree_from high above ls ms rest in
    (cc (columns, ats, first, second), last)
tree_from (Split column at low high) (End m) ls ms s = absurd (no_branch m column at ms ((tree_values low ++ tree_values high) ++ ls) (sym s))
tree_from (End l) (Split column at low high) ls ms s = absurd (no_branch l column at ls ((tree_values low ++ tree_values high) ++ ms) s)
tree_from (End l) (End m) ls ms s =
    let (same, rest) = leaf_from l m ls ms s in
    (ap End same, rest)

same_shape : (c d : Shape) → c.version ≡ d.version → c.claim ≡ d.claim → c.cuts ≡ d.cuts → c.tree ≡ d.tree → c ≡ d
same_shape c d version claim cuts tree =
    ap (λ x. shape x c.claim c.cuts c.tree) version ∙ ap (λ x. shape d.version x c.cuts c.tree) claim ∙ ap (λ x. shape d.version d.claim x c.tree) cuts ∙ ap (shape d.version d.claim d.cuts) tree
  where
    shape : ℕ → Claim → List CutShape → TreeShape → Shape
    shape version claim cuts tree = record { version = version; claim = claim; cuts = cuts; tree = tree }

one_certificate : (bytes : List ℕ) (c d : Shape) → IsTextOf bytes c → IsTextOf bytes d → c ≡ d
one_certificate bytes c d t u =
    let (version, claim, count, rest) = same_heads c.version d.version c.claim d.claim (length c.cuts) (length d.cuts) (values_text (body_values c)) (values_text (body_values d)) (certificate_heads bytes c t) (certificate_heads bytes d u) (sym t.text ∙ u.text) in
    let lines : body_values c ≡ body_values d = values_same c.version (body_values c) (body_values d) t.writable.lines (subst (λ k. AreLines k (body_values d)) (sym version) u.writable.lines) rest in
    let (cuts, tree) = cuts_from c.cuts d.cuts (tree_values c.tree ++ EndLine ∷ []) (tree_values d.tree ++ EndLine ∷ []) count lines in
    same_shape c d version claim cuts (tree_from c.tree d.tree (EndLine ∷ []) (EndLine ∷ []) tree).0

-- ---- in all
certificate_or_fault : (bytes : List ℕ) (c : Shape) (f : CertTextFault) → IsTextOf bytes c → IsCertTextFault bytes f → f ≡ fault.Memory
certificate_or_fault bytes c (fault.Header n) t wrong = absurd (heads_apart bytes n c.version c.claim (length c.cuts) (values_text (body_values c)) wrong t.text (certificate_heads bytes c t))
certificate_or_fault bytes c (fault.Line n) t wrong = absurd (no_certificate bytes c (fault.Line n) t wrong (λ e. search (rules, e)))
certificate_or_fault bytes c (fault.Shape n) t wrong = absurd (no_certificate bytes c (fault.Shape n) t wrong (λ e. search (rules, e)))
certificate_or_fault bytes c (fault.Deep n) t wrong = absurd (no_certificate bytes c (fault.Deep n) t wrong (λ e. search (rules, e)))
certificate_or_fault bytes c fault.Memory t wrong = refl

-- a fault of a line after the first three
abbrev IsLater : CertTextFault → Type 0
IsLater (fault.Header n) = ⊥
IsLater fault.Memory = ⊥
IsLater _ = ⊤

later_fault : (bytes : List ℕ) (f : CertTextFault) → IsLater f → IsCertTextFault bytes f → IsBodyFault bytes f
later_fault bytes (fault.Header n) later wrong = absurd later
later_fault bytes (fault.Line n) later wrong = wrong
later_fault bytes (fault.Shape n) later wrong = wrong
later_fault bytes (fault.Deep n) later wrong = wrong
later_fault bytes fault.Memory later wrong = absurd later

which : (f : CertTextFault) → f ≢ fault.Memory → ((n : ℕ) × (f ≡ fault.Header n)) ⊎ IsLater f
which (fault.Header n) other = inl (n, refl)
which (fault.Line n) other = inr tt
which (fault.Shape n) other = inr tt
which (fault.Deep n) other = inr tt
which fault.Memory other = absurd (other refl)

header_and_later : (bytes : List ℕ) (n : ℕ) (f g : CertTextFault) → f ≡ fault.Header n → IsLater g → IsCertTextFault bytes f → IsCertTextFault bytes g → ⊥
header_and_later bytes n f g is later a b =
    let body = later_fault bytes g later b in
    heads_apart bytes n body.version body.claim body.count body.rest (subst (IsCertTextFault bytes) is a) body.text body.lines

one_fault : (bytes : List ℕ) (f g : CertTextFault) → f ≢ fault.Memory → g ≢ fault.Memory → IsCertTextFault bytes f → IsCertTextFault bytes g → f ≡ g
one_fault bytes f g x y a b =
    ⊎_elim (λ first. ⊎_elim
    (λ second. first.1 ∙ ap fault.Header (one_head_fault bytes first.0 second.0 (subst (IsCertTextFault bytes) first.1 a) (subst (IsCertTextFault bytes) second.1 b)) ∙ sym second.1)
    (λ later. absurd (header_and_later bytes first.0 f g first.1 later a b)) (which g y))
    (λ later. ⊎_elim
    (λ second. absurd (header_and_later bytes second.0 g f second.1 later b a))
    (λ both. one_body_fault bytes f g x y (later_fault bytes f later a) (later_fault bytes g both b)) (which g y)) (which f x)

pub means_one : (bytes : List ℕ) → MeansOneThing bytes
means_one bytes = record {
  one_certificate = one_certificate bytes;
  certificate_or_fault = certificate_or_fault bytes;
  one_fault = one_fault bytes;
}

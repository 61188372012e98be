-- Each text is that of a certificate, or has a first fault.
use Rattle.std.proofs.Common.{◌≡◌, ◌≢◌, ◌≤◌, ◌<◌, ◌+◌, ◌∙◌, ◌⊎◌, ⊎_elim, inl, inr, ℕ, zero, suc, refl, sym, ap, subst, arith, List, [], ◌∷◌, ◌++◌, length, append_assoc, append-nil}
use Rattle.std.proofs.lemmas.Bool.{cases_eq}
use Rattle.std.proofs.lemmas.List.{length-append}
use Rattle.cert_lines.specs.declared.limits.TheConstants.{MAX_BRANCHES, MAX_CUTS, MAX_CERT_VERSION}
use Rattle.cert_lines.specs.declared.parts.Claim.{Claim}
use Rattle.cert_lines.specs.declared.parts.Claim.TheVariants as claim
use Rattle.cert_lines.specs.declared.head.HeadLine.{HeadLine}
use Rattle.cert_lines.specs.declared.head.HeadLine.TheVariants as head
use Rattle.cert_lines.specs.Head.{IsSmallHead, head_place}
use Rattle.cert_lines.specs.Limits.{bound_127}
use Rattle.cert_lines.specs.Shapes.{BranchLine, CutLine, EndLine, FarkasLine, GroupLine, LineShape, LinearLine, ListLine, PartLine, PointLine, ReducedLine, RoundLine}
use Rattle.cert_lines.specs.Text.{line_text}
use Rattle.cert_lines.specs.Line.{later_line}
use Rattle.certificate.specs.declared.fault.CertTextFault.{CertTextFault}
use Rattle.certificate.specs.declared.fault.CertTextFault.TheVariants as fault
use Rattle.certificate.specs.Faults.{AreHeads, IsCertTextFault, StartsWithHead, body_dues}
use Rattle.certificate.specs.Limits.{IsTextOf}
use Rattle.certificate.specs.Dues.{Due, IsDeep, IsFaultFrom, IsStop, StartsWith, Takes, TakesAll, a_cut, a_group, a_list, a_part, a_tree, after, the_end}
use Rattle.certificate.specs.Shapes.{Shape}
use Rattle.certificate.specs.Text.{head_text, head_values, heads_text}
use Rattle.certificate.specs.Values.{AreLines, Values, value_text, values_text}
use Rattle.cert_stream.specs.Laws.{TakenAreBodies}
use Rattle.existence.proofs.Deciding.{Decided, both_or_not, le_or_not, lt_or_not}
use Rattle.certificate.proofs.Wholes.{body_fault}
use Rattle.answers_exist.proofs.Searching.{both}
use Rattle.answers_exist.proofs.Lines.{begins_or_not, first_line, one}

-- ---- the first three lines
small_or_not : (h : HeadLine) → Decided (IsSmallHead h)
small_or_not (head.Mark version) = both_or_not (le_or_not 1 version) (le_or_not version MAX_CERT_VERSION)
small_or_not (head.Claim (claim.Optimal n)) = lt_or_not n bound_127
small_or_not (head.Claim claim.Infeasible) = inl tt
small_or_not (head.Claim (claim.Bound n)) = lt_or_not n bound_127
small_or_not (head.Cuts count) = le_or_not count MAX_CUTS

module _ (place : ℕ) (text : List ℕ) where
  abbrev Starts : HeadLine → Type 0
  Starts h = StartsWithHead place text h

  abbrev Misses : HeadLine → Type 0
  Misses h = Starts h → ⊥

  head_or_not : (h : HeadLine) → Decided (Starts h)
  head_or_not h =
      ⊎_elim
      (λ found. ⊎_elim
      (λ here. ⊎_elim
      (λ small. inl (record { rest = found.0; text = found.1; line = record { number = here; small = small; text = refl } }))
      (λ no. inr (λ starts. no starts.line.small))
      (small_or_not h))
      (λ no. inr (λ starts. no starts.line.number))
      (cases_eq (head_place h) place))
      (λ none. inr (λ starts. none starts.rest starts.text))
      (begins_or_not (head_text h) text)

  pub first_head : ((h : HeadLine) × Starts h) ⊎ ((h : HeadLine) → Misses h)
  first_head =
      ⊎_elim (λ found. inl found) (λ none. inr (each none))
      (both (one HeadLine (MAX_CERT_VERSION + 1) (λ v. head.Mark v) Starts Misses (λ v high. head_or_not (head.Mark v)))
      (both (one HeadLine bound_127 (λ n. head.Claim (claim.Optimal n)) Starts Misses (λ n high. head_or_not (head.Claim (claim.Optimal n))))
      (both (one HeadLine bound_127 (λ n. head.Claim (claim.Bound n)) Starts Misses (λ n high. head_or_not (head.Claim (claim.Bound n))))
      (both (one HeadLine (MAX_CUTS + 1) (λ n. head.Cuts n) Starts Misses (λ n high. head_or_not (head.Cuts n)))
      infeasible))))
    where
      infeasible : ((h : HeadLine) × Starts h) ⊎ Misses (head.Claim claim.Infeasible)
      infeasible = ⊎_elim (λ starts. inl (head.Claim claim.Infeasible, starts)) (λ no. inr no) (head_or_not (head.Claim claim.Infeasible))

      each :
          ((v : ℕ) → v < MAX_CERT_VERSION + 1 → Misses (head.Mark v)) × (((n : ℕ) → n < bound_127 → Misses (head.Claim (claim.Optimal n))) × (((n : ℕ) → n < bound_127 → Misses (head.Claim (claim.Bound n))) × (((n : ℕ) → n < MAX_CUTS + 1 → Misses (head.Cuts n)) × Misses (head.Claim claim.Infeasible))))
          → (h : HeadLine) → Misses h
      each none (head.Mark v) starts = none.0 v (omega (arith, starts.line.small.1)) starts
      each none (head.Claim (claim.Optimal n)) starts = none.1.0 n starts.line.small starts
      each none (head.Claim claim.Infeasible) starts = none.1.1.1.1 starts
      each none (head.Claim (claim.Bound n)) starts = none.1.1.0 n starts.line.small starts
      each none (head.Cuts n) starts = none.1.1.1.0 n (omega (arith, starts.line.small)) starts

-- ---- later lines
takes_or_not : (due : Due) (l : LineShape) → Decided (Takes due l)
takes_or_not a_part (PartLine part) = inl tt
takes_or_not a_list (ListLine a) = inl tt
takes_or_not a_group (GroupLine g) = inl tt
takes_or_not a_cut (CutLine c) = inl tt
takes_or_not a_cut (RoundLine q k) = inl tt
takes_or_not (a_tree above) (BranchLine c at) = inl tt
takes_or_not (a_tree above) (LinearLine den k) = inl tt
takes_or_not (a_tree above) (FarkasLine k) = inl tt
takes_or_not (a_tree above) PointLine = inl tt
takes_or_not (a_tree above) (ReducedLine den parts lists groups) = inl tt
takes_or_not the_end EndLine = inl tt
takes_or_not _ _ = inr (λ is. is)

deep_or_not : (due : Due) (l : LineShape) → Decided (IsDeep due l)
deep_or_not (a_tree above) (BranchLine c at) = le_or_not MAX_BRANCHES above
deep_or_not _ _ = inr (λ is. is)

abbrev IsBodyOf : ℕ → List Due → List ℕ → Type 0
IsBodyOf version dues text = (ls : Values) × AreLines version ls × TakesAll dues ls [] × (text ≡ values_text ls)

abbrev StopsAt : ℕ → List Due → List ℕ → ℕ → Type 0
StopsAt version dues text n = (f : CertTextFault) × (f ≢ fault.Memory) × IsFaultFrom version dues text n f

abbrev Outcome : ℕ → List Due → List ℕ → ℕ → Type 0
Outcome version dues text n = IsBodyOf version dues text ⊎ StopsAt version dues text n

no_more : (n : ℕ) → n ≡ n + 0
no_more n = omega arith

-- the first line stops it
stops : (version : ℕ) (dues : List Due) (text : List ℕ) (n : ℕ) (f : CertTextFault) → IsStop version dues text n f → IsFaultFrom version dues text n f
stops version dues text n f is = record { read = []; rest = text; left = dues; text = refl; lines = tt; taken = refl; stop = subst (λ k. IsStop version dues text k f) (no_more n) is }

-- a line before others
goes_on : (version : ℕ) (due : Due) (later : List Due) (text : List ℕ) (n : ℕ) (l : LineShape) (starts : StartsWith version text l) → Takes due l → (IsDeep due l → ⊥) → Outcome version (after due l ++ later) starts.rest (n + 1) → Outcome version (due ∷ later) text n
goes_on version due later text n l starts takes high (inl (ls, are, taken, is)) = inl (l ∷ ls, (starts.line, are), (takes, high, taken), starts.text ∙ ap (λ t. value_text l ++ t) is)
goes_on version due later text n l starts takes high (inr (f, some, is)) = inr (
  f,
  some,
  record {
    read = l ∷ is.read;
    rest = is.rest;
    left = is.left;
    text = starts.text ∙ ap (λ t. value_text l ++ t) is.text ∙ sym (append_assoc (value_text l) (values_text is.read) is.rest);
    lines = (starts.line, is.lines);
    taken = (takes, high, is.taken);
    stop = subst (λ k. IsStop version is.left is.rest k f) (next n (length is.read)) is.stop;
  },
)
  where
    next : (n k : ℕ) → n + 1 + k ≡ n + suc k
    next n k = omega arith

-- a line is found
with_line : (version : ℕ) (dues : List Due) (text : List ℕ) (n : ℕ) (l : LineShape) (starts : StartsWith version text l) → ((later : List Due) → Outcome version later starts.rest (n + 1)) → Outcome version dues text n
with_line version [] text n l starts again = inr (fault.Shape n, (λ e. cc e), stops version [] text n (fault.Shape n) (refl, inr (l, starts, tt)))
with_line version (due ∷ later) text n l starts again =
    ⊎_elim
    (λ takes. ⊎_elim
    (λ deep. inr (fault.Deep n, (λ e. cc e), stops version (due ∷ later) text n (fault.Deep n) (refl, (l, starts, deep))))
    (λ high. goes_on version due later text n l starts takes high (again (after due l ++ later)))
    (deep_or_not due l))
    (λ no. inr (fault.Shape n, (λ e. cc e), stops version (due ∷ later) text n (fault.Shape n) (refl, inr (l, starts, no))))
    (takes_or_not due l)

-- each line takes a byte
shorter : (fuel : ℕ) (text line rest : List ℕ) → text ≡ line_text line ++ rest → length text ≤ suc fuel → length rest ≤ fuel
shorter fuel text line rest is few = omega (arith, few, ap length is, length-append (line_text line) rest, length-append line (10 ∷ []))

pub body : (version fuel : ℕ) (dues : List Due) (text : List ℕ) (n : ℕ) → length text ≤ fuel → Outcome version dues text n
body version fuel [] [] n few = inl ([], tt, refl, refl)
body version fuel (due ∷ later) [] n few = inr (fault.Shape n, (λ e. cc e), stops version (due ∷ later) [] n (fault.Shape n) (refl, inl (refl, λ e. cc e)))
body version zero dues (b ∷ text) n few = absurd (omega (arith, few))
body version (suc fuel) dues (b ∷ text) n few =
    ⊎_elim
    (λ found. with_line version dues (b ∷ text) n found.0 found.1 (λ later. body version fuel later found.1.rest (n + 1) (shorter fuel (b ∷ text) (later_line found.0) found.1.rest found.1.text few)))
    (λ none. inr (fault.Line n, (λ e. cc e), stops version dues (b ∷ text) n (fault.Line n) (refl, (λ e. cc e), none)))
    (first_line version (b ∷ text))

-- ---- the whole text
join_one : (bytes a r : List ℕ) → bytes ≡ a ++ r → bytes ≡ (a ++ []) ++ r
join_one bytes a r is = is ∙ ap (λ x. x ++ r) (sym (append-nil a))

join_two : (bytes a b r s : List ℕ) → bytes ≡ a ++ r → r ≡ b ++ s → bytes ≡ (a ++ (b ++ [])) ++ s
join_two bytes a b r s one other = one ∙ ap (λ x. a ++ x) (join_one r b s other) ∙ sym (append_assoc a (b ++ []) s)

join_three : (bytes a b c r s t : List ℕ) → bytes ≡ a ++ r → r ≡ b ++ s → s ≡ c ++ t → bytes ≡ (a ++ (b ++ (c ++ []))) ++ t
join_three bytes a b c r s t one other last = one ∙ ap (λ x. a ++ x) (join_two r b c s t other last) ∙ sym (append_assoc a (b ++ (c ++ [])) t)

abbrev TextIs : List ℕ → Type 0
TextIs bytes = ((s : Shape) × IsTextOf bytes s) ⊎ ((f : CertTextFault) × (f ≢ fault.Memory) × IsCertTextFault bytes f)

module _ (bodies : TakenAreBodies) (bytes : List ℕ) where
  of_body : (version : ℕ) (c : Claim) (count : ℕ) (rest : List ℕ) → bytes ≡ heads_text (head_values version c count) ++ rest → AreHeads 1 (head_values version c count) → Outcome version (body_dues count) rest 4 → TextIs bytes
  of_body version c count rest text heads (inl (ls, are, taken, is)) =
      let b = bodies version count ls are taken in
      let s : Shape = record { version = version; claim = c; cuts = b.cuts; tree = b.tree } in
      inl (
        s,
        record {
          text = text ∙ ap (λ k. heads_text (head_values version c k) ++ rest) (sym b.count_is) ∙ ap (λ t. heads_text (head_values version c (length b.cuts)) ++ t) (is ∙ ap values_text b.values);
          writable = record {
            version = heads.0.small;
            amount = heads.1.0.small;
            few = omega (arith, b.count_is, heads.1.1.0.small);
            paths = b.paths;
            lines = subst (AreLines version) b.values are;
          };
        },
      )
  of_body version c count rest text heads (inr (f, some, is)) =
      inr (f, some, body_fault bytes f (record { version = version; claim = c; count = count; rest = rest; text = text; lines = heads; fault = is }))

  third : (version : ℕ) (c : Claim) → (one : StartsWithHead 1 bytes (head.Mark version)) (two : StartsWithHead 2 one.rest (head.Claim c)) (h : HeadLine) → StartsWithHead 3 two.rest h → TextIs bytes
  third version c one two (head.Mark v) is = absurd (omega (arith, is.line.number))
  third version c one two (head.Claim d) is = absurd (omega (arith, is.line.number))
  third version c one two (head.Cuts count) is =
      of_body version c count is.rest
      (join_three bytes (head_text (head.Mark version)) (head_text (head.Claim c)) (head_text (head.Cuts count)) one.rest two.rest is.rest one.text two.text is.text)
      (one.line, (two.line, (is.line, tt)))
      (body version (length is.rest) (body_dues count) is.rest 4 (omega arith))

  second : (version : ℕ) → (one : StartsWithHead 1 bytes (head.Mark version)) (h : HeadLine) → StartsWithHead 2 one.rest h → TextIs bytes
  second version one (head.Mark v) is = absurd (omega (arith, is.line.number))
  second version one (head.Cuts n) is = absurd (omega (arith, is.line.number))
  second version one (head.Claim c) is =
      ⊎_elim
      (λ found. third version c one is found.0 found.1)
      (λ none. inr (
        fault.Header 3,
        (λ e. cc e),
        record {
          read = head.Mark version ∷ (head.Claim c ∷ []);
          rest = is.rest;
          text = join_two bytes (head_text (head.Mark version)) (head_text (head.Claim c)) one.rest is.rest one.text is.text;
          lines = (one.line, (is.line, tt));
          number = refl;
          high = omega arith;
          none = none;
        },
      ))
      (first_head 3 is.rest)

  first : (h : HeadLine) → StartsWithHead 1 bytes h → TextIs bytes
  first (head.Claim c) is = absurd (omega (arith, is.line.number))
  first (head.Cuts n) is = absurd (omega (arith, is.line.number))
  first (head.Mark version) is =
      ⊎_elim
      (λ found. second version is found.0 found.1)
      (λ none. inr (
        fault.Header 2,
        (λ e. cc e),
        record {
          read = head.Mark version ∷ [];
          rest = is.rest;
          text = join_one bytes (head_text (head.Mark version)) is.rest is.text;
          lines = (is.line, tt);
          number = refl;
          high = omega arith;
          none = none;
        },
      ))
      (first_head 2 is.rest)

  pub text_out : TextIs bytes
  text_out =
      ⊎_elim
      (λ found. first found.0 found.1)
      (λ none. inr (
        fault.Header 1,
        (λ e. cc e),
        record { read = []; rest = bytes; text = refl; lines = tt; number = refl; high = omega arith; none = none },
      ))
      (first_head 1 bytes)

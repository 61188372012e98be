-- The records that a reader reaches are those of the text.
use Rattle.std.proofs.Common.{◌≡◌, ◌∙◌, ◌==◌, ◌<◌, ◌≤◌, ◌+◌, ℕ, zero, suc, Bool, true, false, if◌then◌else◌, List, [], ◌∷◌, ◌++◌, ◌⊎◌, Option, length, take, map, Some, None, refl, sym, ap, subst, inl, inr, arith}
use Rattle.std.proofs.lemmas.Bool.{cases_Bool, false≢true}
use Rattle.std.proofs.lemmas.Option.{none-some, same_Some}
use Rattle.csv.specs.Machine.{Read, step, in_field, start_field, start_record, ends_with, after_end, ends_at_end, is_end, next_record}
use Rattle.csv.specs.Reading.{AreRecords, Reached, default_config, is_bom, records, records_from, strip_bom}
use Rattle.csv.specs.Writing.{read_back}
use Rattle.csv_records.specs.Records.{records_of}
use Rattle.csv.proofs.RoundTrip.{read-write, rows_text}
use Rattle.csv.specs.declared.parser.Action.{Action}
use Rattle.csv.specs.declared.parser.Action.TheVariants as act
use Rattle.csv.specs.declared.parser.Terminator.TheVariants as term
use Rattle.csv.specs.declared.parser.State.{State}
use Rattle.csv.specs.declared.parser.State.TheVariants as st

-- a state between records, at which the end of the text ends none
abbrev Settled : State → Type 0
Settled s = ends_at_end s ≡ false

-- a step that ends the record settles
abbrev Ends : State × Action → Type 0
Ends x = is_end x.1 ≡ true → Settled x.0

choose : (b : Bool) (x y : State × Action) → Ends x → Ends y → Ends (if b then x else y)
choose true x y p q = p
choose false x y p q = q

after-settled : (b : Bool) → Settled (if b then st.AfterCr else st.StartRecord)
after-settled true = refl
after-settled false = refl

never : (x : State × Action) → is_end x.1 ≡ false → Ends x
never x e h = absurd (false≢true (sym e ∙ h))

-- a choice between a step that ends no record and another one
unless : (b : Bool) (x y : State × Action) → is_end x.1 ≡ false → Ends y → Ends (if b then x else y)
unless b x y e q = choose b x y (never x e) q

in_field-settled : (c : ℕ) → Ends (in_field default_config c)
in_field-settled c = unless (c == 44) (st.StartField, act.EndField) (if ends_with term.CRLF c then (after_end term.CRLF c, act.EndRecord) else (st.InField, act.Copy)) refl
    (choose (ends_with term.CRLF c) (after_end term.CRLF c, act.EndRecord) (st.InField, act.Copy) (λ h. after-settled (c == 13)) (never (st.InField, act.Copy) refl))

start_field-settled : (c : ℕ) → Ends (start_field default_config c)
start_field-settled c = unless (c == 34) (st.InQuoted, act.Skip) (in_field default_config c) refl (in_field-settled c)

start_record-settled : (c : ℕ) → Ends (start_record default_config c)
start_record-settled c = unless (ends_with term.CRLF c) (st.StartRecord, act.Skip) (start_field default_config c) refl (start_field-settled c)

step-settled : (s : State) (c : ℕ) → Ends (step default_config s c)
step-settled st.StartRecord c = start_record-settled c
step-settled st.StartField c = start_field-settled c
step-settled st.InField c = in_field-settled c
step-settled st.InQuoted c = unless (c == 34) (st.AfterQuote, act.Skip) (st.InQuoted, act.Copy) refl (never (st.InQuoted, act.Copy) refl)
step-settled st.InEscape c = never (st.InQuoted, act.Copy) refl
step-settled st.AfterQuote c = unless (c == 34) (st.InQuoted, act.Copy) (in_field default_config c) refl (in_field-settled c)
step-settled st.InComment c = unless (c == 10) (st.StartRecord, act.Skip) (st.InComment, act.Skip) refl (never (st.InComment, act.Skip) refl)
step-settled st.AfterCr c = unless (c == 10) (st.StartRecord, act.Skip) (start_record default_config c) refl (start_record-settled c)

-- a record leaves the reader between records, and takes a byte where the text has one
abbrev Leaves : List ℕ → Read → Type 0
Leaves xs r = Settled r.1 × (length r.2 ≤ length xs) × (0 < length xs → length r.2 < length xs)

next-leaves : (s : State) (f : List (List ℕ)) (p xs : List ℕ) (r : Read) → next_record default_config s f p xs ≡ Some r → Leaves xs r
unfolding next_record
next-leaves s f p [] r e = elim (cases_Bool (ends_at_end s)) [
  | inl ends ↦ subst (Leaves []) (same_Some _ _ (rw ends at e)) (refl, omega arith, λ h. h)
  | inr none ↦ absurd (none-some r (rw none at e))
]
next-leaves s f p (c ∷ xs) r e = elim (cases_Bool (is_end (step default_config s c).1)) [
  | inl ends ↦ subst (Leaves (c ∷ xs)) (same_Some _ _ (rw ends at e)) (step-settled s c ends, omega arith, λ h. omega arith)
  | inr goes ↦
      let (settled, less, more) = next-leaves (step default_config s c).0 _ _ xs r (rw goes at e) in
      (settled, omega (arith, less), λ h. omega (arith, less))
]

some_left : (s : State) (xs : List ℕ) (r : Read) → Settled s → next_record default_config s [] [] xs ≡ Some r → 0 < length xs
unfolding next_record
some_left s [] r settled e = absurd (none-some r (rw settled at e))
some_left s (c ∷ xs) r settled e = omega arith

some_or_none : {A : Type 0} (x : Option A) → (x ≡ None) ⊎ ((r : A) × (x ≡ Some r))
some_or_none None = inl refl
some_or_none (Some r) = inr (r, refl)

records_from-reached : (n : ℕ) (s : State) (xs : List ℕ) (rows : List (List (List ℕ))) (s2 : State) (ys : List ℕ)
    → Settled s → length xs < n → Reached default_config s xs rows s2 ys → next_record default_config s2 [] [] ys ≡ None
    → records_from default_config n s xs ≡ rows
unfolding records_from Reached
records_from-reached zero s xs rows s2 ys settled room reached end = absurd (omega (arith, room))
records_from-reached (suc n) s xs [] s2 ys settled room reached end = rw (reached.0, reached.1, end) refl
records_from-reached (suc n) s xs (row ∷ rows) s2 ys settled room reached end =
    let (p, found, is, rest) = reached in
    let (after, _, less) = next-leaves s [] [] xs p found in
    let shorter = less (some_left s xs p settled found) in
    rw (found, is) (ap (λ (t : List (List (List ℕ))). p.0 ∷ t) (records_from-reached n p.1 p.2 rows s2 ys after (omega (arith, shorter, room)) rest end))

-- a text has no more records than bytes
records_from-few : (n : ℕ) (s : State) (xs : List ℕ) → Settled s → length (records_from default_config n s xs) ≤ length xs
unfolding records_from
records_from-few zero s xs settled = omega arith
records_from-few (suc n) s xs settled = elim (some_or_none (next_record default_config s [] [] xs)) [
  | inl none ↦ rw none (omega arith)
  | inr (r, some) ↦
      let (after, _, less) = next-leaves s [] [] xs r some in
      let shorter = less (some_left s xs r settled some) in
      rw some (omega (arith, shorter, records_from-few n r.1 r.2 after))
]

stripped : (xs : List ℕ) → length (strip_bom xs) ≤ length xs
unfolding strip_bom
stripped [] = omega arith
stripped (a ∷ []) = omega arith
stripped (a ∷ b ∷ []) = omega arith
stripped (a ∷ b ∷ c ∷ rest) = elim (cases_Bool (is_bom a b c)) [
  | inl mark ↦ rw mark (omega arith)
  | inr none ↦ rw none (omega arith)
]

pub records-few : (bytes : List ℕ) → length (records_of bytes) ≤ length bytes
records-few bytes = omega (arith, records_from-few (length (strip_bom bytes) + 1) st.StartRecord (strip_bom bytes) refl, stripped bytes)

-- what was reached is the front of all the records
records_from-front : (n : ℕ) (s : State) (xs : List ℕ) (rows : List (List (List ℕ))) (s2 : State) (ys : List ℕ)
    → Settled s → length xs < n → Reached default_config s xs rows s2 ys
    → (more : List (List (List ℕ))) × (records_from default_config n s xs ≡ rows ++ more)
unfolding records_from Reached
records_from-front n s xs [] s2 ys settled room reached = (records_from default_config n s xs, refl)
records_from-front zero s xs (row ∷ rows) s2 ys settled room reached = absurd (omega (arith, room))
records_from-front (suc n) s xs (row ∷ rows) s2 ys settled room reached =
    let (p, found, is, rest) = reached in
    let (after, _, less) = next-leaves s [] [] xs p found in
    let shorter = less (some_left s xs p settled found) in
    let (more, e) = records_from-front n p.1 p.2 rows s2 ys after (omega (arith, shorter, room)) rest in
    (more, rw (found, is) (ap (λ (t : List (List (List ℕ))). p.0 ∷ t) e))

take-front : (rows more : List (List (List ℕ))) (n : ℕ) → n ≡ length rows → take n (rows ++ more) ≡ rows
take-front [] more n e = rw e refl
take-front (r ∷ rows) more n e = rw e (ap (λ (t : List (List (List ℕ))). r ∷ t) (take-front rows more (length rows) refl))

-- the first records of a text
pub records-begin : (xs : List ℕ) (rows : List (List (List ℕ))) (s2 : State) (ys : List ℕ) (n : ℕ) → Reached default_config st.StartRecord xs rows s2 ys → n ≡ length rows
    → rows ≡ take n (records default_config xs)
records-begin xs rows s2 ys n reached e =
    let (more, same) = records_from-front (length xs + 1) st.StartRecord xs rows s2 ys refl (omega arith) reached in
    rw same (sym (take-front rows more n e))

-- all the records of a text, as a function of it
pub records-are : (xs : List ℕ) (rows : List (List (List ℕ))) → AreRecords default_config st.StartRecord xs rows → rows ≡ records default_config xs
records-are xs rows (s2, ys, reached, end) = sym (records_from-reached (length xs + 1) st.StartRecord xs rows s2 ys refl (omega arith) reached end)

reached-written : (rows : List (List (List ℕ))) → Reached default_config st.StartRecord (rows_text rows) (map read_back rows) st.StartRecord []
unfolding Reached rows_text
reached-written [] = (refl, refl)
reached-written (row ∷ rows) = ((read_back row, st.StartRecord, rows_text rows), read-write row (rows_text rows), refl, reached-written rows)

-- the records of what the default writer wrote
pub records-written : (rows : List (List (List ℕ))) → records default_config (rows_text rows) ≡ map read_back rows
unfolding next_record
records-written rows = sym (records-are (rows_text rows) (map read_back rows) (st.StartRecord, [], reached-written rows, refl))

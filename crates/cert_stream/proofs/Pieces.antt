-- What a reader holds of a file, piece by piece.
use Rattle.std.proofs.Common.{◌≡◌, ◌≤◌, ◌<◌, ◌+◌, ◌-◌, ◌∙◌, ⊎_elim, ℕ, zero, suc, sym, ap, subst, arith, List, [], ◌++◌, length, take, drop, Some, IsTrue}
use Rattle.std.specs.Prelude.{Option, slice_range, unwrap_or}
use Rattle.std.proofs.lemmas.List.{drop-drop, drop-take, length-drop, length-take, take-append-drop}
use Rattle.lot_io.specs.Outside.{Fetched, Finds, GrewBy, OnlyReads, Shelved}
use Rattle.cert_stream.specs.declared.lines.LineReader.{LineReader}
use Rattle.cert_stream.specs.declared.limits.TheConstants.{MAX_BYTES}
use Rattle.cert_stream.specs.Reader.{GoesOn, IsTooLong, IsWhole, bytes_of, rest_in}
use Rattle.cert_stream.proofs.Steps.{same_bytes}

pub same_rest : (room : List ℕ) (s e at : ℕ) (bytes : List ℕ) (t f k : ℕ) (more : List ℕ) → s ≡ t → e ≡ f → at ≡ k → bytes ≡ more → slice_range room s e ++ drop at bytes ≡ slice_range room t f ++ drop k more
same_rest room s e at bytes t f k more a b c d = cc

pub none_unread : (room : List ℕ) (s e : ℕ) → s ≡ e → slice_range room s e ≡ []
none_unread room s e same = let none : e - s ≡ 0 = omega (arith, same) in ap (λ k. take k (drop s room)) none

-- a piece, and what comes after it
pub piece_rest : (file room : List ℕ) (at n : ℕ) → Fetched file at n room → slice_range room 0 n ++ drop (at + n) file ≡ drop at file
piece_rest file room at n f =
    let whole : n - 0 ≡ n = omega arith in
    ap (λ k. take k room ++ drop (at + n) file) whole ∙ ap (λ t. t ++ drop (at + n) file) f.bytes ∙ ap (λ t. take n (drop at file) ++ t) (sym (drop-drop n at file)) ∙ take-append-drop n (drop at file)

-- what is left of a piece after some bytes of it
pub slice_after : (xs : List ℕ) (s e k t : ℕ) → t ≡ s + k → t ≤ e → slice_range xs t e ≡ drop k (slice_range xs s e)
slice_after xs s e k t is fits =
    let m = e - s - k in
    let a : e - t ≡ m = omega (arith, is, fits) in
    let b : k + m ≡ e - s = omega (arith, is, fits) in
    ap (λ i. take (e - t) (drop i xs)) is ∙ ap (λ i. take i (drop (s + k) xs)) a ∙ ap (λ t. take m t) (sym (drop-drop k s xs)) ∙ sym (drop-take k m (drop s xs)) ∙ ap (λ i. drop k (take i (drop s xs))) b

pub length_slice : (xs : List ℕ) (s e : ℕ) → s ≤ e → e ≤ length xs → length (slice_range xs s e) ≡ e - s
length_slice xs s e low high = simp (length-take, length-drop) (omega (arith, low, high))

-- ---- a fetch
pub fetched_whole : (file : Option (List ℕ)) (bytes room : List ℕ) (at n k : ℕ) → file ≡ Some bytes → Fetched bytes at n room → 0 < length room → k ≡ at + n → n ≡ 0 → IsWhole file k
fetched_whole file bytes room at n k is f some place none = record {
  bytes = bytes;
  is = is;
  high = ⊎_elim (λ h. absurd (omega (arith, h, some))) (λ h. omega (arith, h, place)) (f.none none);
}

pub fetched_long : (file : Option (List ℕ)) (bytes room : List ℕ) (at n : ℕ) → file ≡ Some bytes → Fetched bytes at n room → at ≤ MAX_BYTES → MAX_BYTES < at + n → IsTooLong file
fetched_long file bytes room at n is f high past = record { bytes = bytes; is = is; more = omega (arith, past, f.some (omega (arith, high, past))) }

fetched_within : (file : Option (List ℕ)) (bytes room : List ℕ) (at n k : ℕ) → file ≡ Some bytes → Fetched bytes at n room → k ≡ at + n → at ≤ length (unwrap_or file []) → k ≤ length (unwrap_or file [])
fetched_within file bytes room at zero k is f place low = omega (arith, place, low)
fetched_within file bytes room at (suc n) k is f place low = subst (λ o. k ≤ length (unwrap_or o [])) (sym is) (omega (arith, place, f.some (omega arith)))

pub fetched_on : (name : List ℕ) (old new : Shelved) (a b : LineReader) (room : List ℕ) (n : ℕ) → b.at ≡ a.at + n → GrewBy n old.given new.given → Finds old new → OnlyReads old new → (IsTrue old.told → (bytes : List ℕ) × (old.file name ≡ Some bytes) × Fetched bytes a.at n room) → GoesOn name old new a b
fetched_on name old new a b room n at given found reads told = record {
  at = omega (arith, at);
  given = (omega (arith, at, given.0), omega (arith, at, given.1));
  within = λ tells low. let f = told tells in fetched_within (old.file name) f.0 room a.at n b.at f.1 f.2 at low;
  found = found;
  reads = reads;
}

pub fetched_rest : (name : List ℕ) (old new : Shelved) (a b : LineReader) (bytes room : List ℕ) (n : ℕ) → OnlyReads old new → old.file name ≡ Some bytes → Fetched bytes a.at n room → b.room.items ≡ room → a.start ≡ a.end → b.start ≡ 0 → b.end ≡ n → b.at ≡ a.at + n → rest_in new name b ≡ rest_in old name a
fetched_rest name old new a b bytes room n reads file fetched items given start end at =
    let is : bytes_of old name ≡ bytes = ap (λ f. unwrap_or f []) file in
    let past : rest_in new name b ≡ slice_range b.room.items 0 n ++ drop (a.at + n) bytes = same_rest b.room.items b.start b.end b.at (bytes_of new name) 0 n (a.at + n) bytes start end at (same_bytes reads name ∙ is) in
    let before : rest_in old name a ≡ drop a.at bytes = ap (λ t. t ++ drop a.at (bytes_of old name)) (none_unread a.room.items a.start a.end given) ∙ ap (drop a.at) is in
    past ∙ ap (λ xs. slice_range xs 0 n ++ drop (a.at + n) bytes) items ∙ piece_rest bytes room a.at n fetched ∙ sym before

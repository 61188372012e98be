-- Lists in a line are read word by word.
use Rattle.std.proofs.Common.{◌≡◌, ◌≢◌, ◌<◌, ◌≤◌, ◌+◌, ◌^◌, ◌∙◌, ℕ, zero, suc, refl, sym, ap, subst, List, [], ◌∷◌, ◌++◌, Bool, Bor, arith, codes, decimal, length, map, slice_index_or, take, true, false}
use Rattle.std.specs.Fmt.{signed_decimal}
use Rattle.std.specs.Prelude.{ℤ, Option, None, Some, IfSome, IsNone}
use Rattle.std.specs.List.{All, flat_map}
use Rattle.std.proofs.lemmas.List.{length-append, length-map, map-append, take_more}
use Rattle.std.proofs.lemmas.List.Elements.{All-head, All-nil, All-push, All-tail}
use Rattle.cert_lines.specs.Limits.{Is64, IsSmallTimes}
use Rattle.cert_lines.specs.Text.{Lines, bit_text, bits_text}
use Rattle.cert_lines.specs.Words.{HasNoNumber, IsFour, IsListFrom, StandFrom, word_at}
use Rattle.cert_lines.proofs.Splits.{no_word, not_empty, same_number, words_in}
use Rattle.std.proofs.lemmas.Grind.{flat_map-append}

-- the numbers that were read before a place
pub record IsListTo (ws : Lines) (limit from k : ℕ) (xs : List ℕ) : Type 0 where
  pub stand : StandFrom ws from (map decimal xs)
  pub small : All (λ x. x < limit) xs
  pub place : k ≡ from + length xs

-- the byte of a bit
abbrev pub codes_of : Bool → ℕ → Type 0
codes_of true b = b ≡ 49
codes_of false b = b ≡ 48

stand_more : (ws : Lines) (from : ℕ) (vs : Lines) (v : List ℕ) → StandFrom ws from vs → word_at ws (from + length vs) ≡ v → StandFrom ws from (vs ++ v ∷ [])
stand_more ws from [] v a is = (subst (λ k. word_at ws k ≡ v) (omega arith) is, tt)
stand_more ws from (u ∷ vs) v a is = (a.0, stand_more ws (from + 1) vs v a.1 (subst (λ k. word_at ws k ≡ v) (omega arith) is))

pub list_none : (ws : Lines) (limit from : ℕ) → IsListTo ws limit from from []
list_none ws limit from = record { stand = tt; small = All-nil (λ x. x < limit); place = omega arith }

pub list_more : (ws : Lines) (limit from k : ℕ) (xs : List ℕ) (x : ℕ) → word_at ws k ≡ decimal x → x < limit → IsListTo ws limit from k xs → IsListTo ws limit from (k + 1) (xs ++ x ∷ [])
list_more ws limit from k xs x is small l = record {
  stand = subst (λ vs. StandFrom ws from vs) (sym (map-append decimal xs (x ∷ []))) (stand_more ws from (map decimal xs) (decimal x) l.stand (subst (λ j. word_at ws j ≡ decimal x) (l.place ∙ ap (λ n. from + n) (sym (length-map xs decimal))) is));
  small = All-push (λ n. n < limit) xs x l.small small;
  place = omega (arith, l.place, length-append xs (x ∷ []));
}

pub list_end : (ws : Lines) (limit from k : ℕ) (xs : List ℕ) → HasNoNumber ws limit k → IsListTo ws limit from k xs → IsListFrom ws limit from xs
list_end ws limit from k xs none l = record {
  stand = l.stand;
  small = l.small;
  end = subst (λ j. HasNoNumber ws limit j) l.place none;
}

-- the numbers with their signs that were read before a place
pub record AreTimesTo (ws : Lines) (from k : ℕ) (xs : List ℤ) : Type 0 where
  pub stand : StandFrom ws from (map signed_decimal xs)
  pub small : All IsSmallTimes xs
  pub place : k ≡ from + length xs

pub times_more : (ws : Lines) (from k : ℕ) (xs : List ℤ) (x : ℤ) → word_at ws k ≡ signed_decimal x → IsSmallTimes x → AreTimesTo ws from k xs → AreTimesTo ws from (k + 1) (xs ++ x ∷ [])
times_more ws from k xs x is small l = record {
  stand = subst (λ vs. StandFrom ws from vs) (sym (map-append signed_decimal xs (x ∷ []))) (stand_more ws from (map signed_decimal xs) (signed_decimal x) l.stand (subst (λ j. word_at ws j ≡ signed_decimal x) (l.place ∙ ap (λ n. from + n) (sym (length-map xs signed_decimal))) is));
  small = All-push IsSmallTimes xs x l.small small;
  place = omega (arith, l.place, length-append xs (x ∷ []));
}

-- a word that is no number with its sign
pub no_times : (ws : Lines) (from j : ℕ) (xs : List ℤ) → All IsSmallTimes xs → StandFrom ws from (map signed_decimal xs) → j < length xs → ((z : ℤ) → IsSmallTimes z → word_at ws (from + j) ≡ signed_decimal z → ⊥) → ⊥
no_times ws from j [] all s less none = omega (arith, less)
no_times ws from zero (x ∷ xs) all s less none = none x (All-head IsSmallTimes x xs all) (subst (λ k. word_at ws k ≡ signed_decimal x) (omega arith) s.0)
no_times ws from (suc j) (x ∷ xs) all s less none =
    no_times ws (from + 1) j xs (All-tail IsSmallTimes x xs all) s.1 (omega (arith, less)) (λ z small is. none z small (subst (λ k. word_at ws k ≡ signed_decimal z) (omega arith) is))

pub no_number : (words : List (Bor (List ℕ))) (limit place : ℕ) → limit ≤ 10 ^ 64 → length words ≤ place → HasNoNumber (words_in words) limit place
no_number words limit place wide high = λ n small is. not_empty n (omega (arith, small, wide)) (sym (no_word words place high) ∙ is)

pub bits_none : (t : List ℕ) → take 0 t ≡ bits_text []
bits_none t = refl

pub bits_more : (t : List ℕ) (k : ℕ) (bits : List Bool) (bit : Bool) → k < length t → codes_of bit (slice_index_or t k 0) → take k t ≡ bits_text bits → take (k + 1) t ≡ bits_text (bits ++ bit ∷ [])
bits_more t k bits bit less is same =
    take_more t k 0 less ∙ ap (λ xs. xs ++ slice_index_or t k 0 ∷ []) same ∙ ap (λ xs. bits_text bits ++ xs) (one bit (slice_index_or t k 0) is) ∙ sym (flat_map-append bit_text bits (bit ∷ []))
  where
    one : (bit : Bool) (b : ℕ) → codes_of bit b → b ∷ [] ≡ flat_map bit_text (bit ∷ [])
    one true b e = ap (λ x. x ∷ []) e
    one false b e = ap (λ x. x ∷ []) e

-- a byte of bits is one of two
pub bit_byte : (bits : List Bool) (k : ℕ) → k < length (bits_text bits) → slice_index_or (bits_text bits) k 0 ≢ 49 → slice_index_or (bits_text bits) k 0 ≢ 48 → ⊥
bit_byte [] k less one none = omega (arith, less)
bit_byte (true ∷ bits) zero less one none = one refl
bit_byte (false ∷ bits) zero less one none = none refl
bit_byte (true ∷ bits) (suc k) less one none = bit_byte bits k (omega (arith, less)) one none
bit_byte (false ∷ bits) (suc k) less one none = bit_byte bits k (omega (arith, less)) one none

-- a list stands from a place on in one way
pub same_from : (ws : Lines) (limit p : ℕ) (xs ys : List ℕ) → limit ≤ 10 ^ 64 → IsListFrom ws limit p xs → IsListFrom ws limit p ys → xs ≡ ys
same_from ws limit p [] [] wide a b = refl
same_from ws limit p [] (y ∷ ys) wide a b = absurd (a.end y (All-head (λ n. n < limit) y ys b.small) (subst (λ k. word_at ws k ≡ decimal y) (omega arith) b.stand.0))
same_from ws limit p (x ∷ xs) [] wide a b = absurd (b.end x (All-head (λ n. n < limit) x xs a.small) (subst (λ k. word_at ws k ≡ decimal x) (omega arith) a.stand.0))
same_from ws limit p (x ∷ xs) (y ∷ ys) wide a b =
    let low = All-head (λ n. n < limit) x xs a.small in
    let high = All-head (λ n. n < limit) y ys b.small in
    let first = same_number x y (omega (arith, low, wide)) (omega (arith, high, wide)) (sym a.stand.0 ∙ b.stand.0) in
    ap (λ z. z ∷ xs) first ∙ ap (λ zs. y ∷ zs) (same_from ws limit (p + 1) xs ys wide (rest x xs a) (rest y ys b))
  where
    rest : (x : ℕ) (xs : List ℕ) → IsListFrom ws limit p (x ∷ xs) → IsListFrom ws limit (p + 1) xs
    rest x xs a = record {
      stand = a.stand.1;
      small = All-tail (λ n. n < limit) x xs a.small;
      end = subst (λ k. HasNoNumber ws limit k) (omega arith) a.end;
    }

-- numbers that end the line are all read
pub all_read : (words : List (Bor (List ℕ))) (from : ℕ) (xs ys : List ℕ) → length words ≡ from + length xs → All Is64 xs → StandFrom (words_in words) from (map decimal xs) → IsListFrom (words_in words) (2 ^ 64) from ys → xs ≡ ys
all_read words from xs ys size small stand read = same_from (words_in words) (2 ^ 64) from xs ys (omega arith) ends read
  where
    ends : IsListFrom (words_in words) (2 ^ 64) from xs
    ends = record { stand = stand; small = small; end = no_number words (2 ^ 64) (from + length xs) (omega arith) (omega (arith, size)) }

pub given : {A : Type 0} (P : A → Type 0) (r : Option A) (x : A) → r ≡ Some x → IfSome r P → P x
given P r x is h = subst (λ o. IfSome o P) is h

-- the lists that were read leave no other start
pub other_unit : (ws : Lines) (word letter : List ℕ) (item next : ℕ) (xs bs cs ds : List ℕ) (a : List ℕ) → IsListFrom ws (2 ^ 64) 3 a → (word_at ws (3 + length a) ≡ codes "g" → ⊥) → IsFour ws word letter item xs bs cs ds next → ⊥
other_unit ws word letter item next xs bs cs ds a first none f =
    let same = same_from ws (2 ^ 64) 3 xs a (omega arith) f.first_list.1 first in
    none (subst (λ l. word_at ws (3 + length l) ≡ codes "g") same f.unit.0)

pub other_hold : (ws : Lines) (word letter : List ℕ) (item next : ℕ) (xs bs cs ds : List ℕ) (a b : List ℕ) → IsListFrom ws (2 ^ 64) 3 a → IsListFrom ws (2 ^ 64) (4 + length a) b → (word_at ws (4 + length a + length b) ≡ codes "h" → ⊥) → IsFour ws word letter item xs bs cs ds next → ⊥
other_hold ws word letter item next xs bs cs ds a b first unit none f =
    let same = same_from ws (2 ^ 64) 3 xs a (omega arith) f.first_list.1 first in
    let two = same_from ws (2 ^ 64) (4 + length a) bs b (omega arith) (subst (λ l. IsListFrom ws (2 ^ 64) (4 + length l) bs) same f.unit.1) unit in
    none (subst (λ l. word_at ws (4 + length a + length l) ≡ codes "h") two (subst (λ l. word_at ws (4 + length l + length bs) ≡ codes "h") same f.hold.0))

pub other_back : (ws : Lines) (word letter : List ℕ) (item next : ℕ) (xs bs cs ds : List ℕ) (a b c : List ℕ) → IsListFrom ws (2 ^ 64) 3 a → IsListFrom ws (2 ^ 64) (4 + length a) b → IsListFrom ws (2 ^ 64) (5 + length a + length b) c → (word_at ws (5 + length a + length b + length c) ≡ codes "b" → ⊥) → IsFour ws word letter item xs bs cs ds next → ⊥
other_back ws word letter item next xs bs cs ds a b c first unit hold none f =
    let same = same_from ws (2 ^ 64) 3 xs a (omega arith) f.first_list.1 first in
    let two = same_from ws (2 ^ 64) (4 + length a) bs b (omega arith) (subst (λ l. IsListFrom ws (2 ^ 64) (4 + length l) bs) same f.unit.1) unit in
    let three = same_from ws (2 ^ 64) (5 + length a + length b) cs c (omega arith) (subst (λ l. IsListFrom ws (2 ^ 64) (5 + length a + length l) cs) two (subst (λ l. IsListFrom ws (2 ^ 64) (5 + length l + length bs) cs) same f.hold.1)) hold in
    none (subst (λ l. word_at ws (5 + length a + length b + length l) ≡ codes "b") three (subst (λ l. word_at ws (5 + length a + length l + length cs) ≡ codes "b") two (subst (λ l. word_at ws (5 + length l + length bs + length cs) ≡ codes "b") same f.back.0)))

pub not_there : (ws : Lines) (v : List ℕ) (j k : ℕ) → j ≡ k → (word_at ws j ≡ v → ⊥) → word_at ws k ≡ v → ⊥
not_there ws v j k e none = subst (λ i. word_at ws i ≡ v → ⊥) e none

-- a list that was read from this place on
pub moved : (ws : Lines) (limit j k : ℕ) (xs : List ℕ) → j ≡ k → IsListFrom ws limit j xs → IsListFrom ws limit k xs
moved ws limit j k xs e l = subst (λ i. IsListFrom ws limit i xs) e l

pub nothing : {A : Type 0} (r : Option A) → r ≡ None → IsNone r
nothing r e = subst IsNone (sym e) refl

-- two starts have the same lists
pub same_lists : (ws : Lines) (word letter : List ℕ) (item jtem next mext : ℕ) (xs bs cs ds as' bs' cs' ds' : List ℕ) → IsFour ws word letter item xs bs cs ds next → IsFour ws word letter jtem as' bs' cs' ds' mext → (xs ≡ as') × (bs ≡ bs') × (cs ≡ cs') × (ds ≡ ds')
same_lists ws word letter item jtem next mext xs bs cs ds a b c d f g =
    let same = same_from ws (2 ^ 64) 3 xs a (omega arith) f.first_list.1 g.first_list.1 in
    let two = same_from ws (2 ^ 64) (4 + length a) bs b (omega arith) (subst (λ l. IsListFrom ws (2 ^ 64) (4 + length l) bs) same f.unit.1) g.unit.1 in
    let three = same_from ws (2 ^ 64) (5 + length a + length b) cs c (omega arith) (subst (λ l. IsListFrom ws (2 ^ 64) (5 + length a + length l) cs) two (subst (λ l. IsListFrom ws (2 ^ 64) (5 + length l + length bs) cs) same f.hold.1)) g.hold.1 in
    let four = same_from ws (2 ^ 64) (6 + length a + length b + length c) ds d (omega arith) (subst (λ l. IsListFrom ws (2 ^ 64) (6 + length a + length b + length l) ds) three (subst (λ l. IsListFrom ws (2 ^ 64) (6 + length a + length l + length cs) ds) two (subst (λ l. IsListFrom ws (2 ^ 64) (6 + length l + length bs + length cs) ds) same f.back.1))) g.back.1 in
    (same, two, three, four)

-- and end at one place
pub same_four : (ws : Lines) (word letter : List ℕ) (item jtem next mext : ℕ) (xs bs cs ds as' bs' cs' ds' : List ℕ) → IsFour ws word letter item xs bs cs ds next → IsFour ws word letter jtem as' bs' cs' ds' mext → next ≡ mext
same_four ws word letter item jtem next mext xs bs cs ds a b c d f g =
    let (one, two, three, four) = same_lists ws word letter item jtem next mext xs bs cs ds a b c d f g in
    omega (arith, f.end, g.end, ap length one, ap length two, ap length three, ap length four)

-- A line has its words in one way.
use Rattle.std.proofs.Common.{◌≡◌, ◌≢◌, ◌<◌, ◌^◌, ◌∙◌, ℕ, Bool, true, false, refl, sym, ap, subst, List, [], ◌∷◌, ◌++◌, Bor, arith, decimal, get_or, length, map, ◌≤◌}
use Rattle.std.specs.Prelude.{◌==◌, ℤ, pos, negsuc, suc, unsigned_abs}
use Rattle.std.specs.Fmt.{signed_decimal}
use Rattle.std.specs.List.{onto_first, slice_split}
use Rattle.std.specs.Str.Parse.{digits_value}
use Rattle.std.proofs.lemmas.Bool.{eqb-false, eqb-true}
use Rattle.std.proofs.lemmas.Fmt.{decimal_is_IsNumeral_wide}
use Rattle.std.proofs.lemmas.List.{get_or-map, get_or_past, length-map}
use Rattle.std.proofs.lemmas.List.Splits.{slice_split-cons_no, slice_split-cons_yes}
use Rattle.cert_lines.specs.Text.{Lines}
use Rattle.cert_lines.specs.Words.{AreWords, HasNoSpace, IsSplit, word_at, words_text}

abbrev head : List ℕ → ℕ
head [] = 0
head (x ∷ xs) = x

abbrev pub tail : List ℕ → List ℕ
tail [] = []
tail (x ∷ xs) = xs

-- the first word, and the text after it
same_word : (w v : List ℕ) (ws vs : Lines) → HasNoSpace w → HasNoSpace v → w ++ words_text ws ≡ v ++ words_text vs → (w ≡ v) × (words_text ws ≡ words_text vs)
same_word [] [] ws vs a b e = (refl, e)
same_word [] (y ∷ v) [] vs a b e = cc e
same_word [] (y ∷ v) (u ∷ ws) vs a b e = absurd (b.0 (sym (ap head e)))
same_word (x ∷ w) [] ws [] a b e = cc e
same_word (x ∷ w) [] ws (u ∷ vs) a b e = absurd (a.0 (ap head e))
same_word (x ∷ w) (y ∷ v) ws vs a b e =
    let (rest, after) = same_word w v ws vs a.1 b.1 (ap tail e) in
    (ap (λ z. z ∷ w) (ap head e) ∙ ap (λ z. y ∷ z) rest, after)

pub same_words : (ws vs : Lines) → AreWords ws → AreWords vs → words_text ws ≡ words_text vs → ws ≡ vs
same_words [] [] a b e = refl
same_words [] (v ∷ vs) a b e = cc e
same_words (w ∷ ws) [] a b e = cc e
same_words (w ∷ ws) (v ∷ vs) a b e =
    let (word, after) = same_word w v ws vs a.0 b.0 (ap tail e) in
    ap (λ z. z ∷ ws) word ∙ ap (λ zs. v ∷ zs) (same_words ws vs a.1 b.1 after)

-- a space ends a word
abbrev pub is_space : ℕ → Bool
is_space b = b == 32

-- a byte that isn't a space goes before the first word
split_other : (b : ℕ) (rest : List ℕ) (ws : Lines) → b ≢ 32 → IsSplit rest ws → IsSplit (b ∷ rest) (onto_first b ws)
split_other b rest [] other s = absurd (cc s.text)
split_other b rest (w ∷ ws) other s = record {
  text = ap (λ t. 32 ∷ b ∷ t) (ap tail s.text);
  words = ((other, s.words.0), s.words.1);
}

split_space : (b : ℕ) (rest : List ℕ) (ws : Lines) → b ≡ 32 → IsSplit rest ws → IsSplit (b ∷ rest) ([] ∷ ws)
split_space b rest ws space s = record {
  text = ap (λ x. 32 ∷ x ∷ rest) space ∙ ap (λ t. 32 ∷ t) s.text;
  words = (tt, s.words);
}

split_more : (b : ℕ) (rest : List ℕ) (test : Bool) → is_space b ≡ test → IsSplit rest (slice_split is_space rest) → IsSplit (b ∷ rest) (slice_split is_space (b ∷ rest))
split_more b rest true space s = subst (IsSplit (b ∷ rest)) (sym (slice_split-cons_yes is_space b rest space)) (split_space b rest (slice_split is_space rest) (eqb-true b 32 space) s)
split_more b rest false other s = subst (IsSplit (b ∷ rest)) (sym (slice_split-cons_no is_space b rest other)) (split_other b rest (slice_split is_space rest) (eqb-false b 32 other) s)

-- the parts of a line that is cut at each space are its words
pub parts_split : (line : List ℕ) → IsSplit line (slice_split is_space line)
parts_split [] = record { text = refl; words = (tt, tt) }
parts_split (b ∷ rest) = split_more b rest (is_space b) refl (parts_split rest)

-- the words as lists
abbrev pub words_in : List (Bor (List ℕ)) → Lines
words_in words = map (λ w. w.now) words

-- what a list of slices has past its end
abbrev pub no_slice : Bor (List ℕ)
no_slice = record { ref_ptr = (0, 0); now = [] }

pub word_read : (words : List (Bor (List ℕ))) (place : ℕ) → place < length words → word_at (words_in words) place ≡ (get_or words place no_slice).now
word_read words place less = get_or-map (λ w. w.now) words place no_slice [] less

pub no_word : (words : List (Bor (List ℕ))) (place : ℕ) → length words ≤ place → word_at (words_in words) place ≡ []
no_word words place high = get_or_past (words_in words) place [] (omega (arith, high, length-map words (λ w. w.now)))

-- a number has a digit
pub not_empty : (n : ℕ) → n < 10 ^ 64 → [] ≡ decimal n → ⊥
not_empty n small none = omega (arith, (decimal_is_IsNumeral_wide n small).0.0, ap length none)

-- a number is written in one way
pub same_number : (n m : ℕ) → n < 10 ^ 64 → m < 10 ^ 64 → decimal n ≡ decimal m → n ≡ m
same_number n m low high e = sym (decimal_is_IsNumeral_wide n low).1 ∙ ap (digits_value 10) e ∙ (decimal_is_IsNumeral_wide m high).1

-- a minus sign and a 0 aren't a number with a sign
pub no_sign : (w : List ℕ) → ((n : ℕ) → n < 2 ^ 127 → w ≡ decimal n → ⊥) → w ≡ 45 ∷ decimal 0 → (z : ℤ) → unsigned_abs z < 2 ^ 127 → w ≡ signed_decimal z → ⊥
no_sign w other is (pos n) small same = other n small same
no_sign w other is (negsuc n) small same = omega (arith, same_number 0 (suc n) (omega arith) (omega (arith, small)) (ap tail (sym is ∙ same)))

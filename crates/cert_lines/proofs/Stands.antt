-- The words of a line, one by one or as a list.
use Rattle.std.proofs.Common.{◌≡◌, ◌<◌, ◌≤◌, ◌+◌, ◌^◌, ◌∙◌, ℕ, zero, suc, refl, sym, ap, subst, List, [], ◌∷◌, ◌++◌, append_assoc, append-nil, arith, decimal, length, map, slice_index_or, true, false, Bool}
use Rattle.std.specs.Prelude.{ℤ, pos, negsuc, unsigned_abs, ⊤}
use Rattle.std.specs.Fmt.{signed_decimal}
use Rattle.std.specs.List.{All}
use Rattle.std.proofs.lemmas.Fmt.{decimal_is_IsNumeral_wide}
use Rattle.std.proofs.lemmas.List.Elements.{All-head, All-tail}
use Rattle.std.proofs.lemmas.Str.{digit_value_digit}
use Rattle.std.proofs.lemmas.Str.Parse.{digit_at}
use Rattle.std.proofs.lemmas.List.{ext_get_or, get_or-append-add, length-append}
use Rattle.cert_lines.specs.Limits.{IsSmallTimes}
use Rattle.cert_lines.specs.Text.{Lines, bits_text, list_text}
use Rattle.cert_lines.specs.Words.{AreWords, HasNoSpace, HasWords, StandFrom, word_at, word_text, words_text}

stand_read : (ws vs : Lines) (p k : ℕ) → k < length vs → StandFrom ws p vs → word_at ws (p + k) ≡ word_at vs k
stand_read ws [] p k less s = absurd (omega (arith, less))
stand_read ws (v ∷ vs) p zero less s = subst (λ j. word_at ws j ≡ v) (omega arith) s.0
stand_read ws (v ∷ vs) p (suc k) less s = subst (λ j. word_at ws j ≡ word_at vs k) (omega arith) (stand_read ws vs (p + 1) k (omega (arith, less)) s.1)

pub same_lines : (ws vs : Lines) → HasWords ws vs → ws ≡ vs
same_lines ws vs h = ext_get_or [] ws vs h.0 (λ k less. subst (λ j. word_at ws j ≡ word_at vs k) (omega arith) (stand_read ws vs 0 k (omega (arith, less, h.0)) h.1))

-- words stand after those before them
stand_after : (us vs : Lines) → StandFrom (us ++ vs) (length us) vs
stand_after us [] = tt
stand_after us (v ∷ vs) = (
  subst (λ j. word_at (us ++ v ∷ vs) j ≡ v) (omega arith) (get_or-append-add us (v ∷ vs) 0 []),
  subst (λ ws. StandFrom ws (length us + 1) vs) (append_assoc us (v ∷ []) vs) (subst (λ j. StandFrom ((us ++ v ∷ []) ++ vs) j vs) (length-append us (v ∷ [])) (stand_after (us ++ v ∷ []) vs)),
)

pub stand_whole : (vs : Lines) → HasWords vs vs
stand_whole vs = (refl, stand_after [] vs)

pub stand_join : (ws us vs : Lines) (p : ℕ) → StandFrom ws p us → StandFrom ws (p + length us) vs → StandFrom ws p (us ++ vs)
stand_join ws [] vs p a b = subst (λ j. StandFrom ws j vs) (omega arith) b
stand_join ws (u ∷ us) vs p a b = (a.0, stand_join ws us vs (p + 1) a.1 (subst (λ j. StandFrom ws j vs) (omega arith) b))

pub stand_split : (ws us vs : Lines) (p : ℕ) → StandFrom ws p (us ++ vs) → StandFrom ws p us × StandFrom ws (p + length us) vs
stand_split ws [] vs p s = (tt, subst (λ j. StandFrom ws j vs) (omega arith) s)
stand_split ws (u ∷ us) vs p s =
    let (low, high) = stand_split ws us vs (p + 1) s.1 in
    ((s.0, low), subst (λ j. StandFrom ws j vs) (omega arith) high)

-- the numbers after a letter
abbrev pub list_words : List ℕ → List ℕ → Lines
list_words letter xs = letter ∷ map decimal xs

-- the text of a list of numbers after its letter
numbers_text : (xs : List ℕ) (rest : Lines) → words_text (map decimal xs ++ rest) ≡ list_text xs ++ words_text rest
numbers_text [] rest = refl
numbers_text (x ∷ xs) rest = ap (λ t. word_text (decimal x) ++ t) (numbers_text xs rest) ∙ sym (append_assoc (word_text (decimal x)) (list_text xs) (words_text rest))

pub list_part : (letter xs : List ℕ) (rest : Lines) → words_text (list_words letter xs ++ rest) ≡ word_text letter ++ (list_text xs ++ words_text rest)
list_part letter xs rest = ap (λ t. word_text letter ++ t) (numbers_text xs rest)

pub list_last : (letter xs : List ℕ) → words_text (list_words letter xs) ≡ word_text letter ++ list_text xs
list_last letter xs = ap words_text (sym (append-nil (list_words letter xs))) ∙ list_part letter xs [] ∙ ap (λ t. word_text letter ++ t) (append-nil (list_text xs))

-- no byte is a space or comes before it
abbrev pub IsVisible : List ℕ → Type 0
IsVisible [] = ⊤
IsVisible (b ∷ rest) = (33 ≤ b) × IsVisible rest

abbrev pub AreVisible : Lines → Type 0
AreVisible [] = ⊤
AreVisible (w ∷ rest) = IsVisible w × AreVisible rest

pub visible_append : (ws vs : Lines) → AreVisible ws → AreVisible vs → AreVisible (ws ++ vs)
visible_append [] vs a b = b
visible_append (w ∷ ws) vs a b = (a.0, visible_append ws vs a.1 b)

no_space : (w : List ℕ) → IsVisible w → HasNoSpace w
no_space [] a = tt
no_space (b ∷ w) a = (λ e. omega (arith, a.0, e), no_space w a.1)

pub visible_words : (ws : Lines) → AreVisible ws → AreWords ws
visible_words [] a = tt
visible_words (w ∷ ws) a = (no_space w a.0, visible_words ws a.1)

visible_of : (t : List ℕ) → ((k : ℕ) → k < length t → 33 ≤ slice_index_or t k 0) → IsVisible t
visible_of [] all = tt
visible_of (b ∷ t) all = (all 0 (omega arith), visible_of t (λ k less. all (suc k) (omega (arith, less))))

-- so is a number
pub decimal_visible : (n : ℕ) → n < 10 ^ 64 → IsVisible (decimal n)
decimal_visible n small =
    let digits = (decimal_is_IsNumeral_wide n small).0.1 in
    visible_of (decimal n) (λ k less. omega (arith, digit_value_digit (slice_index_or (decimal n) k 0) (digit_at (decimal n) k digits less)))

pub signed_visible : (z : ℤ) → unsigned_abs z < 10 ^ 64 → IsVisible (signed_decimal z)
signed_visible (pos n) small = decimal_visible n small
signed_visible (negsuc n) small = (omega arith, decimal_visible (suc n) small)

pub bits_visible : (bits : List Bool) → IsVisible (bits_text bits)
bits_visible [] = tt
bits_visible (true ∷ bits) = (omega arith, bits_visible bits)
bits_visible (false ∷ bits) = (omega arith, bits_visible bits)

pub numbers_visible : (xs : List ℕ) (limit : ℕ) → limit ≤ 10 ^ 64 → All (λ x. x < limit) xs → AreVisible (map decimal xs)
numbers_visible [] limit wide a = tt
numbers_visible (x ∷ xs) limit wide a = (decimal_visible x (omega (arith, wide, All-head (λ n. n < limit) x xs a)), numbers_visible xs limit wide (All-tail (λ n. n < limit) x xs a))

pub signed_numbers_visible : (xs : List ℤ) → All IsSmallTimes xs → AreVisible (map signed_decimal xs)
signed_numbers_visible [] a = tt
signed_numbers_visible (x ∷ xs) a = (signed_visible x (omega (arith, All-head IsSmallTimes x xs a)), signed_numbers_visible xs (All-tail IsSmallTimes x xs a))

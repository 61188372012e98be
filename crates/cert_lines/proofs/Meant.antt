-- The forms of lines by their words say which line it is.
use Rattle.std.proofs.Common.{◌≡◌, ◌<◌, ◌≤◌, ◌+◌, ◌^◌, ◌∙◌, ℕ, refl, sym, ap, subst, List, [], ◌∷◌, ◌++◌, append-nil, arith, codes, decimal, length, map, slice_index_or}
use Rattle.std.specs.List.{All}
use Rattle.std.proofs.lemmas.Fmt.{decimal_is_IsNumeral_wide}
use Rattle.std.proofs.lemmas.List.{get_or_past, length-append, length-map}
use Rattle.cert_lines.specs.Text.{Lines}
use Rattle.cert_lines.specs.Line.{IsSmallCut, IsSmallLine, later_line}
use Rattle.cert_lines.specs.Words.{HasNoNumber, HasBlockWords, IsFour, IsListFrom, IsSplit, StandFrom, word_at, words_text}
use Rattle.cert_lines.specs.Forms.{IsCutOf, IsLineOf}
use Rattle.cert_lines.proofs.Numerals.{digit_read}
use Rattle.cert_lines.proofs.Splits.{tail, not_empty, same_words}
use Rattle.cert_lines.proofs.Stands.{list_words, same_lines, stand_join, stand_split, stand_whole, visible_words}
use Rattle.cert_lines.proofs.Spelled.{block_words, price_words, spelled, visible, words_of, words_of_cut}
use Rattle.cert_lines.specs.Shapes.{BlockCut, BranchLine, CutLine, CutShape, EndLine, FarkasLine, GroupLine, LineShape, LinearLine, ListLine, LsCut, PartLine, PointLine, PriceCut, ReducedLine, RoundCut, RoundLine}

list_length : (letter xs : List ℕ) (rest : Lines) → length (list_words letter xs ++ rest) ≡ 1 + length xs + length rest
list_length letter xs rest = omega (arith, length-append (map decimal xs) rest, length-map xs decimal)

join_list : (ws : Lines) (p q limit : ℕ) (letter xs : List ℕ) (rest : Lines) → (word_at ws p ≡ letter) × IsListFrom ws limit (p + 1) xs → q ≡ p + 1 + length xs → StandFrom ws q rest → StandFrom ws p (list_words letter xs ++ rest)
join_list ws p q limit letter xs rest l at s =
    (l.0, stand_join ws (map decimal xs) rest (p + 1) l.1.stand (subst (λ j. StandFrom ws j rest) (omega (arith, at, length-map xs decimal)) s))

-- a letter is no number
no_letter : (ws : Lines) (place limit b : ℕ) → 58 ≤ b → limit ≤ 10 ^ 64 → word_at ws place ≡ b ∷ [] → HasNoNumber ws limit place
no_letter ws place limit b high wide is = λ n small same.
    let digits = (decimal_is_IsNumeral_wide n (omega (arith, small, wide))).0 in
    let (value, low) = digit_read (decimal n) 0 digits.1 digits.0 in
    omega (arith, value, low, high, ap (λ t. slice_index_or t 0 0) (sym same ∙ is))

-- nor is there one after the last word
no_more : (ws : Lines) (place limit : ℕ) → limit ≤ 10 ^ 64 → length ws ≤ place → HasNoNumber ws limit place
no_more ws place limit wide past = λ n small same. not_empty n (omega (arith, small, wide)) (sym (get_or_past ws place [] past) ∙ same)

-- a list that stands before other words is one to its end
split_list : (ws : Lines) (p q limit : ℕ) (letter xs : List ℕ) (rest : Lines) → All (λ x. x < limit) xs → q ≡ p + 1 + length xs → StandFrom ws p (list_words letter xs ++ rest) → HasNoNumber ws limit q → ((word_at ws p ≡ letter) × IsListFrom ws limit (p + 1) xs) × StandFrom ws q rest
split_list ws p q limit letter xs rest small at s none =
    let (low, high) = stand_split ws (map decimal xs) rest (p + 1) s.1 in
    ((s.0, record { stand = low; small = small; end = subst (λ j. HasNoNumber ws limit j) at none }), subst (λ j. StandFrom ws j rest) (omega (arith, at, length-map xs decimal)) high)

-- the words after a list
rest_of : (ws : Lines) (p q : ℕ) (letter xs : List ℕ) (rest : Lines) → q ≡ p + 1 + length xs → StandFrom ws p (list_words letter xs ++ rest) → StandFrom ws q rest
rest_of ws p q letter xs rest at s =
    subst (λ j. StandFrom ws j rest) (omega (arith, at, length-map xs decimal)) (stand_split ws (map decimal xs) rest (p + 1) s.1).1

last_list : (ws : Lines) (p limit : ℕ) (letter xs : List ℕ) → (word_at ws p ≡ letter) × IsListFrom ws limit (p + 1) xs → StandFrom ws p (list_words letter xs)
last_list ws p limit letter xs l = (l.0, l.1.stand)

price_words_of : (ws : Lines) (item : ℕ) (xs bs cs ds : List ℕ) → IsFour ws (codes "price") (codes "w") item xs bs cs ds (length ws) → ws ≡ price_words item xs bs cs ds
price_words_of ws item xs bs cs ds f = same_lines ws (price_words item xs bs cs ds) (
  omega (arith, f.end, list_length (codes "w") xs (list_words (codes "g") bs ++ (list_words (codes "h") cs ++ list_words (codes "b") ds)), list_length (codes "g") bs (list_words (codes "h") cs ++ list_words (codes "b") ds), list_length (codes "h") cs (list_words (codes "b") ds), length-map ds decimal),
  (
    f.first,
    (
      f.number.0,
      join_list ws 2 (3 + length xs) (2 ^ 64) (codes "w") xs _ f.first_list (omega arith)
          (join_list ws (3 + length xs) (4 + length xs + length bs) (2 ^ 64) (codes "g") bs _ (f.unit.0, subst (λ j. IsListFrom ws (2 ^ 64) j bs) (omega arith) f.unit.1) (omega arith)
          (join_list ws (4 + length xs + length bs) (5 + length xs + length bs + length cs) (2 ^ 64) (codes "h") cs _ (f.hold.0, subst (λ j. IsListFrom ws (2 ^ 64) j cs) (omega arith) f.hold.1) (omega arith)
          (last_list ws (5 + length xs + length bs + length cs) (2 ^ 64) (codes "b") ds (f.back.0, subst (λ j. IsListFrom ws (2 ^ 64) j ds) (omega arith) f.back.1)))),
    ),
  ),
)

block_words_of : (ws : Lines) (item : ℕ) (xs bs cs ds es : List ℕ) → HasBlockWords ws item xs bs cs ds es → ws ≡ block_words item xs bs cs ds es
block_words_of ws item xs bs cs ds es block =
    let f = block.four in
    let next : block.next ≡ 6 + length xs + length bs + length cs + length ds = f.end in
    same_lines ws (block_words item xs bs cs ds es) (
      omega (arith, block.end, next, list_length (codes "f") xs (list_words (codes "g") bs ++ (list_words (codes "h") cs ++ (list_words (codes "b") ds ++ list_words (codes "p") es))), list_length (codes "g") bs (list_words (codes "h") cs ++ (list_words (codes "b") ds ++ list_words (codes "p") es)), list_length (codes "h") cs (list_words (codes "b") ds ++ list_words (codes "p") es), list_length (codes "b") ds (list_words (codes "p") es), length-map es decimal),
      (
        f.first,
        (
          f.number.0,
          join_list ws 2 (3 + length xs) (2 ^ 64) (codes "f") xs _ f.first_list (omega arith)
              (join_list ws (3 + length xs) (4 + length xs + length bs) (2 ^ 64) (codes "g") bs _ (f.unit.0, subst (λ j. IsListFrom ws (2 ^ 64) j bs) (omega arith) f.unit.1) (omega arith)
              (join_list ws (4 + length xs + length bs) (5 + length xs + length bs + length cs) (2 ^ 64) (codes "h") cs _ (f.hold.0, subst (λ j. IsListFrom ws (2 ^ 64) j cs) (omega arith) f.hold.1) (omega arith)
              (join_list ws (5 + length xs + length bs + length cs) block.next (2 ^ 64) (codes "b") ds _ (f.back.0, subst (λ j. IsListFrom ws (2 ^ 64) j ds) (omega arith) f.back.1) (omega (arith, next))
              (last_list ws block.next (2 ^ 127) (codes "p") es block.steps)))),
        ),
      ),
    )

four_form : (ws : Lines) (word letter : List ℕ) (item next : ℕ) (xs bs cs ds : List ℕ) (tail : Lines) → item < 2 ^ 32 → All (λ x. x < 2 ^ 64) xs → All (λ x. x < 2 ^ 64) bs → All (λ x. x < 2 ^ 64) cs → All (λ x. x < 2 ^ 64) ds → next ≡ 6 + length xs + length bs + length cs + length ds → StandFrom ws 0 (word ∷ (decimal item ∷ (list_words letter xs ++ (list_words (codes "g") bs ++ (list_words (codes "h") cs ++ (list_words (codes "b") ds ++ tail)))))) → HasNoNumber ws (2 ^ 64) next → IsFour ws word letter item xs bs cs ds next
four_form ws word letter item next xs bs cs ds tail small a b c d end s none =
    let two = s.1.1 in
    let three = rest_of ws 2 (3 + length xs) letter xs _ (omega arith) two in
    let four = rest_of ws (3 + length xs) (4 + length xs + length bs) (codes "g") bs _ (omega arith) three in
    let five = rest_of ws (4 + length xs + length bs) (5 + length xs + length bs + length cs) (codes "h") cs _ (omega arith) four in
    let first = split_list ws 2 (3 + length xs) (2 ^ 64) letter xs _ a (omega arith) two (no_letter ws (3 + length xs) (2 ^ 64) 103 (omega arith) (omega arith) three.0) in
    let unit = split_list ws (3 + length xs) (4 + length xs + length bs) (2 ^ 64) (codes "g") bs _ b (omega arith) three (no_letter ws (4 + length xs + length bs) (2 ^ 64) 104 (omega arith) (omega arith) four.0) in
    let hold = split_list ws (4 + length xs + length bs) (5 + length xs + length bs + length cs) (2 ^ 64) (codes "h") cs _ c (omega arith) four (no_letter ws (5 + length xs + length bs + length cs) (2 ^ 64) 98 (omega arith) (omega arith) five.0) in
    let back = split_list ws (5 + length xs + length bs + length cs) next (2 ^ 64) (codes "b") ds _ d (omega (arith, end)) five none in
    record {
      first = s.0;
      number = (s.1.0, small);
      first_list = first.0;
      unit = (unit.0.0, subst (λ j. IsListFrom ws (2 ^ 64) j bs) (omega arith) unit.0.1);
      hold = (hold.0.0, subst (λ j. IsListFrom ws (2 ^ 64) j cs) (omega arith) hold.0.1);
      back = (back.0.0, subst (λ j. IsListFrom ws (2 ^ 64) j ds) (omega arith) back.0.1);
      end = end;
    }

price_form : (item : ℕ) (xs bs cs ds : List ℕ) → item < 2 ^ 32 → All (λ x. x < 2 ^ 64) xs → All (λ x. x < 2 ^ 64) bs → All (λ x. x < 2 ^ 64) cs → All (λ x. x < 2 ^ 64) ds → IsFour (price_words item xs bs cs ds) (codes "price") (codes "w") item xs bs cs ds (length (price_words item xs bs cs ds))
price_form item xs bs cs ds small a b c d =
    let ws = price_words item xs bs cs ds in
    let end : length ws ≡ 6 + length xs + length bs + length cs + length ds = omega (arith, list_length (codes "w") xs (list_words (codes "g") bs ++ (list_words (codes "h") cs ++ list_words (codes "b") ds)), list_length (codes "g") bs (list_words (codes "h") cs ++ list_words (codes "b") ds), list_length (codes "h") cs (list_words (codes "b") ds), length-map ds decimal) in
    let stands : StandFrom ws 0 (codes "price" ∷ (decimal item ∷ (list_words (codes "w") xs ++ (list_words (codes "g") bs ++ (list_words (codes "h") cs ++ (list_words (codes "b") ds ++ [])))))) =
    subst (λ t. StandFrom ws 0 (codes "price" ∷ (decimal item ∷ (list_words (codes "w") xs ++ (list_words (codes "g") bs ++ (list_words (codes "h") cs ++ t)))))) (sym (append-nil (list_words (codes "b") ds))) (stand_whole ws).1 in
    four_form ws (codes "price") (codes "w") item (length ws) xs bs cs ds [] small a b c d end stands (no_more ws (length ws) (2 ^ 64) (omega arith) (omega arith))

block_form : (item : ℕ) (xs bs cs ds es : List ℕ) → item < 2 ^ 32 → All (λ x. x < 2 ^ 64) xs → All (λ x. x < 2 ^ 64) bs → All (λ x. x < 2 ^ 64) cs → All (λ x. x < 2 ^ 64) ds → All (λ x. x < 2 ^ 127) es → HasBlockWords (block_words item xs bs cs ds es) item xs bs cs ds es
block_form item xs bs cs ds es small a b c d e =
    let ws = block_words item xs bs cs ds es in
    let next = 6 + length xs + length bs + length cs + length ds in
    let end : length ws ≡ next + 1 + length es = omega (arith, list_length (codes "f") xs (list_words (codes "g") bs ++ (list_words (codes "h") cs ++ (list_words (codes "b") ds ++ list_words (codes "p") es))), list_length (codes "g") bs (list_words (codes "h") cs ++ (list_words (codes "b") ds ++ list_words (codes "p") es)), list_length (codes "h") cs (list_words (codes "b") ds ++ list_words (codes "p") es), list_length (codes "b") ds (list_words (codes "p") es), length-map es decimal) in
    let stands : StandFrom ws 0 ws = (stand_whole ws).1 in
    let three = rest_of ws 2 (3 + length xs) (codes "f") xs _ (omega arith) stands.1.1 in
    let four = rest_of ws (3 + length xs) (4 + length xs + length bs) (codes "g") bs _ (omega arith) three in
    let five = rest_of ws (4 + length xs + length bs) (5 + length xs + length bs + length cs) (codes "h") cs _ (omega arith) four in
    let six = rest_of ws (5 + length xs + length bs + length cs) next (codes "b") ds (list_words (codes "p") es) (omega arith) five in
    record {
      next = next;
      four = four_form ws (codes "block") (codes "f") item next xs bs cs ds (list_words (codes "p") es) small a b c d refl stands (no_letter ws next (2 ^ 64) 112 (omega arith) (omega arith) six.0);
      steps = (six.0, record { stand = six.1; small = e; end = no_more ws (next + 1 + length es) (2 ^ 127) (omega arith) (omega (arith, end)) });
      end = end;
    }

cut_words : (ws : Lines) (c : CutShape) → IsCutOf ws c → (ws ≡ words_of_cut c) × IsSmallCut c
cut_words ws (LsCut item last chosen) h = (same_lines ws _ h.0, (h.1, h.2, h.3, h.4))
cut_words ws (PriceCut item a) h = (price_words_of ws item a.price a.unit a.hold a.back h, (h.number.1, (h.first_list.1.small, h.unit.1.small, h.hold.1.small, h.back.1.small)))
cut_words ws (BlockCut item a) h = (block_words_of ws item a.setup a.unit a.hold a.back a.steps h, (h.four.number.1, (h.four.first_list.1.small, h.four.unit.1.small, h.four.hold.1.small, h.four.back.1.small, h.steps.1.small)))
cut_words ws (RoundCut divisor parts) h = absurd h

line_words : (ws : Lines) (l : LineShape) → IsLineOf ws l → (ws ≡ words_of l) × IsSmallLine l
line_words ws (CutLine c) h = cut_words ws c h
line_words ws (RoundLine divisor parts) h = (same_lines ws _ h.0, (h.1, h.2, h.3))
line_words ws (PartLine part) h = (same_lines ws _ h.0, (h.1, h.2))
line_words ws (BranchLine column at) h = (same_lines ws _ h.0, (h.1, h.2))
line_words ws (LinearLine den parts) h = (same_lines ws _ h.0, (h.1, h.2, h.3))
line_words ws (FarkasLine parts) h = (same_lines ws _ h.0, h.1)
line_words ws PointLine h = (same_lines ws _ h, tt)
line_words ws (ReducedLine den parts lists groups) h = (same_lines ws _ h.0, (h.1, h.2, h.3, h.4))
line_words ws (ListLine a) h = (same_lines ws _ h.0, h.1)
line_words ws (GroupLine g) h = (same_lines ws _ h.0, h.1)
line_words ws EndLine h = (same_lines ws _ h, tt)

pub cut_form : (c : CutShape) → IsSmallCut c → IsCutOf (words_of_cut c) c
cut_form (LsCut item last chosen) small = (stand_whole (words_of_cut (LsCut item last chosen)), small.0, small.1, small.2, small.3)
cut_form (PriceCut item a) small = price_form item a.price a.unit a.hold a.back small.0 small.1.0 small.1.1 small.1.2 small.1.3
cut_form (BlockCut item a) small = block_form item a.setup a.unit a.hold a.back a.steps small.0 small.1.0 small.1.1 small.1.2 small.1.3 small.1.4
cut_form (RoundCut divisor parts) small = absurd small

line_form : (l : LineShape) → IsSmallLine l → IsLineOf (words_of l) l
line_form (CutLine c) small = cut_form c small
line_form (RoundLine divisor parts) small = (stand_whole (words_of (RoundLine divisor parts)), small.0, small.1, small.2)
line_form (PartLine part) small = (stand_whole (words_of (PartLine part)), small.0, small.1)
line_form (BranchLine column at) small = (stand_whole (words_of (BranchLine column at)), small.0, small.1)
line_form (LinearLine den parts) small = (stand_whole (words_of (LinearLine den parts)), small.0, small.1, small.2)
line_form (FarkasLine parts) small = (stand_whole (words_of (FarkasLine parts)), small)
line_form PointLine small = stand_whole (words_of PointLine)
line_form (ReducedLine den parts lists groups) small = (stand_whole (words_of (ReducedLine den parts lists groups)), small.0, small.1, small.2, small.3)
line_form (ListLine a) small = (stand_whole (words_of (ListLine a)), small)
line_form (GroupLine g) small = (stand_whole (words_of (GroupLine g)), small)
line_form EndLine small = stand_whole (words_of EndLine)

-- what the words say is what the bytes say
pub line_read : (bytes : List ℕ) (ws : Lines) (l : LineShape) → IsSplit bytes ws → IsLineOf ws l → (bytes ≡ later_line l) × IsSmallLine l
line_read bytes ws l split h =
    let (words, small) = line_words ws l h in
    (ap tail (split.text ∙ ap words_text words ∙ spelled l small), small)

pub line_written : (bytes : List ℕ) (ws : Lines) (l : LineShape) → IsSplit bytes ws → bytes ≡ later_line l → IsSmallLine l → IsLineOf ws l
line_written bytes ws l split same small =
    let words : ws ≡ words_of l = same_words ws (words_of l) split.words (visible_words (words_of l) (visible l small)) (sym split.text ∙ ap (λ t. 32 ∷ t) same ∙ sym (spelled l small)) in
    subst (λ vs. IsLineOf vs l) (sym words) (line_form l small)

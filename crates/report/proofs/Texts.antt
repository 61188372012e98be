-- The compact text of a summary's value is the line that is written out: no byte of it is escaped.
use Rattle.std.proofs.Common.{◌≡◌, ◌∙◌, ℕ, zero, suc, ◌/◌, ◌%◌, ◌≤◌, ◌<◌, ◌==◌, Bool, true, false, if◌then◌else◌, List, [], ◌∷◌, ◌++◌, map, length, decimal, refl, sym, ap, arith, append_assoc, mod-lt}
use Rattle.std.specs.Prelude.{nat_le, ◌&&◌}
use Rattle.std.specs.List.{list_all}
use Rattle.std.specs.Fmt.{digits, digits_onto, digit_glyph}
use Rattle.std.proofs.lemmas.Bool.{and_parts}
use Rattle.std.proofs.lemmas.Bool.Decides.{nat_tests}
use Rattle.std.proofs.lemmas.List.{map_push}
use Rattle.json.specs.Print.{escape, escape_byte}
use Rattle.serde_json.specs.Data.{Data}
use Rattle.serde_json.specs.View.{items_of}
use Rattle.serde_json.specs.Written.{compact_text, items_text}
use Rattle.serde_json.proofs.OnLiterals.{serde_json_on_literals}
use Rattle.lot_sizing.specs.declared.limits.TheConstants.{MAX_NAME}
use Rattle.lot_sizing.specs.Problem.{IsName, IsWithinLimits, Problem, is_name_byte, item_at, item_count, resource_at, resource_count}
use Rattle.lot_sizing.specs.Plan.{Plan, cost, time_used}
use Rattle.report.specs.Summary.{after_commas, amount, amount_text, backlog_part, hold_part, item_data, item_text, json_line, list_to, made_total, resource_data, resource_text, setup_count, setup_part, summary_text, unit_part, with_commas}

-- ---- numbers
plain_glyph : (d : ℕ) → d < 10 → escape_byte (digit_glyph false d) ≡ digit_glyph false d ∷ []
unfolding escape_byte
plain_glyph d h = grind (arith, nat_tests, h)

plain_either : (b : Bool) (x y : List ℕ) → escape x ≡ x → escape y ≡ y → escape (if b then x else y) ≡ (if b then x else y)
plain_either true x y h k = h
plain_either false x y h k = k

plain_onto : (k n : ℕ) (acc : List ℕ) → escape acc ≡ acc → escape (digits_onto k 10 false n acc) ≡ digits_onto k 10 false n acc
plain_onto zero n acc h = h
plain_onto (suc k) n acc h =
    let one : escape (digit_glyph false (n % 10) ∷ acc) ≡ digit_glyph false (n % 10) ∷ acc = rw (plain_glyph (n % 10) (mod-lt n (omega arith)), h) refl in
    plain_either (n / 10 == 0) (digit_glyph false (n % 10) ∷ acc) (digits_onto k 10 false (n / 10) (digit_glyph false (n % 10) ∷ acc)) one (plain_onto k (n / 10) (digit_glyph false (n % 10) ∷ acc) one)

plain_number : (n : ℕ) → escape (decimal n) ≡ decimal n
unfolding digits
plain_number n = plain_onto 64 n [] refl

-- ---- names
plain_byte : (b : ℕ) → is_name_byte b ≡ true → escape_byte b ≡ b ∷ []
unfolding escape_byte
plain_byte b h = grind (arith, nat_tests, h)

plain_bytes : (xs : List ℕ) → list_all is_name_byte xs ≡ true → escape xs ≡ xs
plain_bytes [] h = refl
plain_bytes (x ∷ xs) h =
    let (here, rest) = and_parts (is_name_byte x) (list_all is_name_byte xs) h in
    rw (plain_byte x here, plain_bytes xs rest) refl

plain_name : (name : List ℕ) → IsName name → escape name ≡ name
plain_name name is =
    let (some, rest) = and_parts (nat_le 1 (length name)) (nat_le (length name) MAX_NAME && list_all is_name_byte name) is in
    plain_bytes name (and_parts (nat_le (length name) MAX_NAME) (list_all is_name_byte name) rest).1

-- ---- lists
texts_after : (ds : List Data) → items_text true (items_of ds) ≡ after_commas (map compact_text ds) ++ (93 ∷ [])
texts_after [] = refl
texts_after (d ∷ ds) = rw (texts_after ds) (ap (λ t. 44 ∷ t) (sym (append_assoc (compact_text d) (after_commas (map compact_text ds)) (93 ∷ []))))

texts_of : (ds : List Data) → items_text false (items_of ds) ≡ with_commas (map compact_text ds) ++ (93 ∷ [])
texts_of [] = refl
texts_of (d ∷ ds) = rw (texts_after ds) (sym (append_assoc (compact_text d) (after_commas (map compact_text ds)) (93 ∷ [])))

each_text : (n : ℕ) (f : ℕ → Data) (g : ℕ → List ℕ) → ((k : ℕ) → 1 ≤ k → k ≤ n → compact_text (f k) ≡ g k) → map compact_text (list_to n f) ≡ list_to n g
each_text zero f g h = refl
each_text (suc n) f g h = map_push compact_text (list_to n f) (f (suc n)) ∙ rw (each_text n f g (λ k low high. h k low (omega arith)), h (suc n) (omega arith) (omega arith)) refl

-- the values of a list, with the closing bracket
list_text : (n : ℕ) (f : ℕ → Data) (g : ℕ → List ℕ) → ((k : ℕ) → 1 ≤ k → k ≤ n → compact_text (f k) ≡ g k) → items_text false (items_of (list_to n f)) ≡ with_commas (list_to n g) ++ (93 ∷ [])
list_text n f g h = texts_of (list_to n f) ∙ ap (λ ts. with_commas ts ++ (93 ∷ [])) (each_text n f g h)

-- ---- the summary
amount_is : (n : ℕ) → compact_text (amount n) ≡ amount_text n
amount_is n = rw (plain_number n) refl

item_is : (m : Problem) (p : Plan) (i : ℕ) → IsName (item_at m i).name → compact_text (item_data m p i) ≡ item_text m p i
unfolding serde_json_on_literals
item_is m p i name =
    rw (
      plain_number (backlog_part m p i),
      plain_number (hold_part m p i),
      plain_number (made_total m p i),
      plain_name (item_at m i).name name,
      plain_number (setup_part m p i),
      plain_number (setup_count m p i),
      plain_number (unit_part m p i),
    ) refl

resource_is : (m : Problem) (p : Plan) (k : ℕ) → IsName (resource_at m k).name → compact_text (resource_data m p k) ≡ resource_text m p k
unfolding serde_json_on_literals
resource_is m p k name =
    rw (
      plain_name (resource_at m k).name name,
      list_text m.periods (λ t. amount (time_used m p k t)) (λ t. amount_text (time_used m p k t)) (λ t low high. amount_is (time_used m p k t)),
    ) refl

pub text_is : (m : Problem) (p : Plan) → IsWithinLimits m → json_line m p ≡ summary_text m p
unfolding serde_json_on_literals
text_is m p limits =
    rw (
      plain_number (cost m p),
      list_text (item_count m) (item_data m p) (item_text m p) (λ i low high. item_is m p i (limits.each_item i low high).name),
      list_text (resource_count m) (resource_data m p) (resource_text m p) (λ k low high. resource_is m p k (limits.each_resource k low high).name),
    ) refl

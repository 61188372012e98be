-- Names and numbers have no byte of markup.
use Rattle.std.proofs.Common.{◌≡◌, ℕ, zero, suc, ◌/◌, ◌%◌, ◌<◌, ◌==◌, Bool, true, false, if◌then◌else◌, List, [], ◌∷◌, ◌++◌, length, decimal, refl, arith, mod-lt}
use Rattle.std.specs.Prelude.{nat_le, nat_lt, ◌&&◌, not}
use Rattle.std.specs.List.{list_all}
use Rattle.std.specs.Fmt.{digits, digits_onto, digit_glyph}
use Rattle.std.proofs.lemmas.Bool.{and_parts}
use Rattle.std.proofs.lemmas.Bool.Decides.{nat_tests}
use Rattle.std.proofs.lemmas.List.Folds.{list_all-append}
use Rattle.lot_sizing.specs.Problem.{IsName, is_name_byte}
use Rattle.lot_sizing.specs.declared.limits.TheConstants.{MAX_NAME}
use Rattle.plan_page.specs.Laws.{is_markup}
use Rattle.plan_page.specs.Numbers.{grouped, groups, last_digits}

abbrev is_plain : ℕ → Bool
is_plain b = not (is_markup b)

both : (x y : Bool) → x ≡ true → y ≡ true → (x && y) ≡ true
both x y h k = rw (h, k) refl

either : (b : Bool) (xs ys : List ℕ) → list_all is_plain xs ≡ true → list_all is_plain ys ≡ true → list_all is_plain (if b then xs else ys) ≡ true
either true xs ys h k = h
either false xs ys h k = k

joined : (xs ys : List ℕ) → list_all is_plain xs ≡ true → list_all is_plain ys ≡ true → list_all is_plain (xs ++ ys) ≡ true
joined xs ys h k = rw (list_all-append is_plain xs ys, h, k) refl

-- ---- names
plain_byte : (b : ℕ) → is_name_byte b ≡ true → is_plain b ≡ true
plain_byte b h = grind (arith, nat_tests, h)

plain_bytes : (xs : List ℕ) → list_all is_name_byte xs ≡ true → list_all is_plain xs ≡ true
plain_bytes [] h = refl
plain_bytes (x ∷ xs) h =
    let (here, rest) = and_parts (is_name_byte x) (list_all is_name_byte xs) h in
    both (is_plain x) (list_all is_plain xs) (plain_byte x here) (plain_bytes xs rest)

pub plain_name : (name : List ℕ) → IsName name → list_all is_plain name ≡ true
plain_name name is =
    let (some, rest) = and_parts (nat_le 1 (length name)) (nat_le (length name) MAX_NAME && list_all is_name_byte name) is in
    plain_bytes name (and_parts (nat_le (length name) MAX_NAME) (list_all is_name_byte name) rest).1

-- ---- numbers
plain_glyph : (d : ℕ) → d < 10 → is_plain (digit_glyph false d) ≡ true
plain_glyph d h = grind (arith, nat_tests, h)

plain_onto : (k n : ℕ) (acc : List ℕ) → list_all is_plain acc ≡ true → list_all is_plain (digits_onto k 10 false n acc) ≡ true
plain_onto zero n acc h = h
plain_onto (suc k) n acc h =
    let more : list_all is_plain (digit_glyph false (n % 10) ∷ acc) ≡ true = both (is_plain (digit_glyph false (n % 10))) (list_all is_plain acc) (plain_glyph (n % 10) (mod-lt n (omega arith))) h in
    either (n / 10 == 0) (digit_glyph false (n % 10) ∷ acc) (digits_onto k 10 false (n / 10) (digit_glyph false (n % 10) ∷ acc)) more (plain_onto k (n / 10) (digit_glyph false (n % 10) ∷ acc) more)

pub plain_number : (n : ℕ) → list_all is_plain (decimal n) ≡ true
unfolding digits
plain_number n = plain_onto 64 n [] refl

plain_last : (n : ℕ) → list_all is_plain (last_digits n) ≡ true
unfolding last_digits
plain_last n =
    joined (44 ∷ []) (decimal (n / 100 % 10) ++ (decimal (n / 10 % 10) ++ decimal (n % 10))) refl
    (joined (decimal (n / 100 % 10)) (decimal (n / 10 % 10) ++ decimal (n % 10)) (plain_number (n / 100 % 10))
    (joined (decimal (n / 10 % 10)) (decimal (n % 10)) (plain_number (n / 10 % 10)) (plain_number (n % 10))))

plain_groups : (k n : ℕ) → list_all is_plain (groups k n) ≡ true
unfolding groups
plain_groups zero n = plain_number n
plain_groups (suc k) n =
    either (nat_lt n 1000) (decimal n) (groups k (n / 1000) ++ last_digits n) (plain_number n)
    (joined (groups k (n / 1000)) (last_digits n) (plain_groups k (n / 1000)) (plain_last n))

pub plain_grouped : (n : ℕ) → list_all is_plain (grouped n) ≡ true
unfolding grouped
plain_grouped n = plain_groups n n

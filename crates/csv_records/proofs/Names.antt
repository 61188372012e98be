-- Names of items and resources as fields.
use Rattle.std.proofs.Common.{◌≡◌, ◌≤◌, false, true, ℕ, List, [], ◌∷◌, length, refl, arith}
use Rattle.std.specs.Prelude.{nat_le, ◌&&◌}
use Rattle.std.specs.List.{list_all}
use Rattle.std.proofs.lemmas.Bool.{and_parts, leb-true}
use Rattle.std.proofs.lemmas.Bool.Decides.{nat_tests}
use Rattle.lot_sizing.specs.Problem.{IsName, is_name_byte}
use Rattle.lot_sizing.specs.declared.limits.TheConstants.{MAX_NAME}
use Rattle.csv_records.specs.Written.{IsPlain, is_mark}

plain_byte : (b : ℕ) → is_name_byte b ≡ true → is_mark b ≡ false
plain_byte b h = grind (arith, nat_tests, h)

plain_bytes : (xs : List ℕ) → list_all is_name_byte xs ≡ true → IsPlain xs
plain_bytes [] h = refl
plain_bytes (x ∷ xs) h =
    let (here, rest) = and_parts (is_name_byte x) (list_all is_name_byte xs) h in
    rw (plain_byte x here, plain_bytes xs rest) refl

pub plain_name : (name : List ℕ) → IsName name → IsPlain name
plain_name name is =
    let (some, rest) = and_parts (nat_le 1 (length name)) (nat_le (length name) MAX_NAME && list_all is_name_byte name) is in
    plain_bytes name (and_parts (nat_le (length name) MAX_NAME) (list_all is_name_byte name) rest).1

pub name_short : (name : List ℕ) → IsName name → length name ≤ MAX_NAME
name_short name is =
    let (some, rest) = and_parts (nat_le 1 (length name)) (nat_le (length name) MAX_NAME && list_all is_name_byte name) is in
    leb-true (length name) MAX_NAME (and_parts (nat_le (length name) MAX_NAME) (list_all is_name_byte name) rest).0

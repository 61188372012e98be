-- The leaf has few parts, and each of its lines is within the limits.
use Rattle.std.proofs.Common.{◌≡◌, ◌≤◌, ◌<◌, ◌+◌, ◌^◌, ℕ, zero, suc, refl, arith, List, [], ◌∷◌, ◌++◌, length, length-append}
use Rattle.std.specs.Prelude.{codes, decimal, ℤ, pos, negsuc, ◌≤ℤ◌}
use Rattle.std.specs.Fmt.{signed_decimal}
use Rattle.std.specs.List.{All}
use Rattle.std.proofs.lemmas.Fmt.{length-decimal-le_wide}
use Rattle.std.proofs.lemmas.List.Elements.{All-append, All-nil}
use Rattle.frac128.specs.Limits.{IsSmall}
use Rattle.lot_sizing.specs.Problem.{IsPlain, IsWithinLimits, Problem}
use Rattle.lin_rows.specs.declared.base.RowName.{RowName}
use Rattle.lin_rows.specs.declared.base.RowName.TheVariants.{Balance, Link, Capacity, EndMin, EndMax, Top, Least, Late, Path, Cut}
use Rattle.lin_rows.specs.Texts.{name_text, one_text}
use Rattle.cert_lines.specs.declared.limits.TheConstants.{MAX_BRANCHES, MAX_LINE, MAX_PARTS}
use Rattle.cert_lines.specs.declared.parts.Part.{Part}
use Rattle.cert_lines.specs.Line.{HasLine, IsFirstName, IsSmallName}
use Rattle.cert_lines.specs.Shapes.{FarkasLeaf, LinearLeaf, PartLine}
use Rattle.cert_lines.specs.Text.{part_line}
use Rattle.certificate.specs.Values.{AreLines, part_values}
use Rattle.certificate.proofs.Shorts.{lines_join}
use Rattle.cert_meaning.specs.Named.{HasName}
use Rattle.lp_relaxation.specs.declared.program.Side.{Side}
use Rattle.lp_relaxation.specs.Sides.{part_of, parts_of}
use Rattle.lp_relaxation.proofs.Rising.{turn_small}
use Rattle.lp_bounds.specs.Path.{IsWritableLeaf}

-- ---- how long numbers are
-- below 10^k, after a space
one_short : (k n : ℕ) → 0 < k → n < 10 ^ k → n < 10 ^ 64 → length (one_text n) ≤ k + 1
one_short k n some less small = omega (arith, length-append (codes " ") (decimal n), length-decimal-le_wide k n some less small)

-- the number of an item, a period, a resource or a bound
small_short : (n : ℕ) → n ≤ 2000 → length (one_text n) ≤ 5
small_short n most = one_short 4 n (omega arith) (omega (arith, most)) (omega (arith, most))

-- how many parts there are
pub count_short : (n : ℕ) → n ≤ MAX_PARTS → length (one_text n) ≤ 7
count_short n most = one_short 6 n (omega arith) (omega (arith, most)) (omega (arith, most))

-- a number below 2^127 in absolute value
signed_short : (z : ℤ) → IsSmall z → length (signed_decimal z) ≤ 40
signed_short (pos n) small = omega (arith, length-decimal-le_wide 39 n (omega arith) (omega (arith, small)) (omega (arith, small)))
signed_short (negsuc n) small = omega (arith, length-decimal-le_wide 39 (suc n) (omega arith) (omega (arith, small)) (omega (arith, small)))

two_short : (word : List ℕ) (a b : ℕ) → length word ≤ 10 → a ≤ 2000 → b ≤ 2000 → length (word ++ (one_text a ++ one_text b)) ≤ 20
two_short word a b few a_most b_most =
    omega (arith, length-append word (one_text a ++ one_text b), length-append (one_text a) (one_text b), few, small_short a a_most, small_short b b_most)

single_short : (word : List ℕ) (a : ℕ) → length word ≤ 10 → a ≤ 2000 → length (word ++ one_text a) ≤ 20
single_short word a few most = omega (arith, length-append word (one_text a), few, small_short a most)

-- ---- names
record IsShortName (name : RowName) : Type 0 where
  small : IsSmallName name
  text : length (name_text name) ≤ 20

pair : (word : List ℕ) (name : RowName) (a b : ℕ) → a ≤ 2000 → b ≤ 2000 → length word ≤ 10 → ((a < 2 ^ 32) → (b < 2 ^ 32) → IsSmallName name) → length (name_text name) ≡ length (word ++ (one_text a ++ one_text b)) → IsShortName name
pair word name a b a_most b_most few small is = record {
  small = small (omega (arith, a_most)) (omega (arith, b_most));
  text = omega (arith, is, two_short word a b few a_most b_most);
}

single : (word : List ℕ) (name : RowName) (a : ℕ) → a ≤ 2000 → length word ≤ 10 → ((a < 2 ^ 32) → IsSmallName name) → length (name_text name) ≡ length (word ++ one_text a) → IsShortName name
single word name a most few small is = record {
  small = small (omega (arith, most));
  text = omega (arith, is, single_short word a few most);
}

module _ (m : Problem) (limits : IsWithinLimits m) (bounds : ℕ) (few : bounds ≤ MAX_BRANCHES) where
  name_short : (name : RowName) → HasName m 0 bounds name → IsShortName name
  name_short (Balance i t) has = pair (codes "balance") (Balance i t) i t (omega (arith, has.1, limits.items)) (omega (arith, has.3, limits.periods)) (omega arith) (λ a b. (a, b)) refl
  name_short (Link i t) has = pair (codes "link") (Link i t) i t (omega (arith, has.1, limits.items)) (omega (arith, has.3, limits.periods)) (omega arith) (λ a b. (a, b)) refl
  name_short (Capacity k t) has = pair (codes "capacity") (Capacity k t) k t (omega (arith, has.1, limits.resources)) (omega (arith, has.3, limits.periods)) (omega arith) (λ a b. (a, b)) refl
  name_short (EndMin i) has = single (codes "endmin") (EndMin i) i (omega (arith, has.1, limits.items)) (omega arith) (λ a. a) refl
  name_short (EndMax i) has = single (codes "endmax") (EndMax i) i (omega (arith, has.1, limits.items)) (omega arith) (λ a. a) refl
  name_short (Top i t) has = pair (codes "top") (Top i t) i t (omega (arith, has.1, limits.items)) (omega (arith, has.3, limits.periods)) (omega arith) (λ a b. (a, b)) refl
  name_short (Least i t) has =
      let cell = has.0 in
      pair (codes "least") (Least i t) i t (omega (arith, cell.1, limits.items)) (omega (arith, cell.3, limits.periods)) (omega arith) (λ a b. (a, b)) refl
  name_short (Late i t) has =
      let cell = has.0 in
      pair (codes "late") (Late i t) i t (omega (arith, cell.1, limits.items)) (omega (arith, cell.3, limits.periods)) (omega arith) (λ a b. (a, b)) refl
  name_short (Path k) has = single (codes "path") (Path k) k (omega (arith, has.1, few)) (omega arith) (λ a. a) refl
  name_short (Cut k) has = absurd (omega (arith, has.0, has.1))

  -- a plain problem has no row of a least lot or of a late one
  first_name : IsPlain m → (name : RowName) → HasName m 0 bounds name → IsFirstName name
  first_name plain (Balance i t) has = tt
  first_name plain (Link i t) has = tt
  first_name plain (Capacity k t) has = tt
  first_name plain (EndMin i) has = tt
  first_name plain (EndMax i) has = tt
  first_name plain (Top i t) has = tt
  first_name plain (Least i t) has =
      let cell = has.0 in
      let none = (plain i cell.0 cell.1).min_lot in
      omega (arith, has.1, none)
  first_name plain (Late i t) has =
      let cell = has.0 in
      let none = (plain i cell.0 cell.1).lead in
      omega (arith, has.1, none, cell.3)
  first_name plain (Path k) has = tt
  first_name plain (Cut k) has = tt

  -- ---- lines
  part_short : (part : Part) → length (name_text part.row) ≤ 20 → length (signed_decimal part.times) ≤ 40 → length (part_line part) ≤ MAX_LINE
  part_short part name digits =
      omega (
        arith,
        length-append (codes "part ") (name_text part.row ++ (codes " " ++ signed_decimal part.times)),
        length-append (name_text part.row) (codes " " ++ signed_decimal part.times),
        length-append (codes " ") (signed_decimal part.times),
        name,
        digits,
      )

  part_is : (version : ℕ) → (version ≡ 1 → IsPlain m) → (part : Part) → HasName m 0 bounds part.row → IsSmall part.times → HasLine version (PartLine part)
  part_is version plain part has small =
      let name = name_short part.row has in
      record {
        text = refl;
        form = record { small = (name.small, small); short = part_short part name.text (signed_short part.times small) };
        known = λ first. first_name (plain first) part.row has;
      }

  parts_are : (version : ℕ) → (version ≡ 1 → IsPlain m) → (parts : List Part) → All (λ part. HasName m 0 bounds part.row) parts → All (λ part. IsSmall part.times) parts → AreLines version (part_values parts)
  parts_are version plain [] has small = tt
  parts_are version plain (part ∷ parts) has small = (
    part_is version plain part (has zero part (omega arith)) (small zero part (omega arith)),
    parts_are version plain parts (λ k d less. has (suc k) d (omega (arith, less))) (λ k d less. small (suc k) d (omega (arith, less))),
  )

  pub linear_writable : (den : ℤ) (parts : List Part) → pos 1 ≤ℤ den → IsSmall den → length parts ≤ MAX_PARTS → All (λ part. HasName m 0 bounds part.row) parts → All (λ part. IsSmall part.times) parts → IsWritableLeaf m (LinearLeaf den parts)
  linear_writable den parts positive den_small many has small version is plain = (
    record {
      text = refl;
      form = record {
        small = (positive, den_small, many);
        short = omega (
          arith,
          length-append (codes "linear ") (signed_decimal den ++ one_text (length parts)),
          length-append (signed_decimal den) (one_text (length parts)),
          signed_short den den_small,
          count_short (length parts) many,
        );
      };
      known = tt;
    },
    lines_join version (part_values parts) [] (parts_are version plain parts has small) tt,
  )

  pub farkas_writable : (parts : List Part) → length parts ≤ MAX_PARTS → All (λ part. HasName m 0 bounds part.row) parts → All (λ part. IsSmall part.times) parts → IsWritableLeaf m (FarkasLeaf parts)
  farkas_writable parts many has small version is plain = (
    record {
      text = refl;
      form = record { small = many; short = omega (arith, length-append (codes "farkas") (one_text (length parts)), count_short (length parts) many) };
      known = tt;
    },
    lines_join version (part_values parts) [] (parts_are version plain parts has small) tt,
  )

one_part : (P : Part → Type 0) (part : Part) → P part → All P (part ∷ [])
one_part P part here zero d less = here
one_part P part here (suc k) d less = absurd (omega (arith, less))

part_small : (s : Side) (z : ℤ) → IsSmall z → All (λ part. IsSmall part.times) (part_of s z)
part_small s (pos zero) small = All-nil (λ part. IsSmall part.times)
part_small s (pos (suc n)) small = one_part (λ part. IsSmall part.times) _ (turn_small s.turned (pos (suc n)) small)
part_small s (negsuc n) small = one_part (λ part. IsSmall part.times) _ (turn_small s.turned (negsuc n) small)

pub parts_small : (sides : List Side) (z : ℕ → ℤ) → ((k : ℕ) → k < length sides → IsSmall (z k)) → All (λ part. IsSmall part.times) (parts_of sides z)
parts_small [] z small = All-nil (λ part. IsSmall part.times)
parts_small (s ∷ sides) z small =
    All-append (λ part. IsSmall part.times) (part_of s (z zero)) (parts_of sides (λ k. z (suc k))) (part_small s (z zero) (small zero (omega arith)))
    (parts_small sides (λ k. z (suc k)) (λ k less. small (suc k) (omega (arith, less))))
